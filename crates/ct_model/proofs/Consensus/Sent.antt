-- What was sent, before a step and after it.
use Rattle.std.proofs.Common.{◌≡◌, ℕ, zero, suc, ◌<◌, List, [], ◌∷◌, map, Some, inl, inr, ◌⊎◌, arith}
use Rattle.std.specs.Prelude.{slice_get}
use Rattle.std.proofs.lemmas.List.{map-append}
use Rattle.ct_names.specs.Group.{members, IsMember}
use Rattle.ct_names.specs.Membership.{IsIn}
use Rattle.ct_names.proofs.Lists
use Rattle.ct_model.specs.AtValue.{Wire, Envelope, Mail}
use Rattle.ct_model.specs.Setting.{Setting}
use Rattle.ct_model.specs.Wire.{envelopes}
use Rattle.ct_model.specs.declared.mail.Mail.TheVariants.{Nobody, One, All}
use Rattle.ct_model.specs.State.{State, wires}
use Rattle.ct_model.specs.Next.{Outcome, after, wire_to}
use Rattle.ct_model.proofs.Record.Envelopes.{wire_to-sent}
use Rattle.ct_model.proofs.Basics.Options.{some-none}

-- a wire that was sent
abbrev pub Sent : State → Wire → Type 0
Sent g w = IsIn w (wires g)

-- the mail carries the wire
abbrev pub Carries : Mail → Wire → Type 0
Carries Nobody w = ⊥
Carries (One to x) w = w ≡ x
Carries (All x) w = w ≡ x

-- the wires of one envelope to each
carried_all : (x w : Wire) (to : List ℕ) → IsIn w (map (λ e. e.wire) (map (λ t. let e : Envelope = record { to = t; wire = x } in e) to)) →
    w ≡ x
carried_all x w [] h = absurd h
carried_all x w (t ∷ to) (inl e) = e
carried_all x w (t ∷ to) (inr h) = carried_all x w to h

pub carries-mail : (n : ℕ) (mail : Mail) (w : Wire) → IsIn w (map (λ e. e.wire) (envelopes n mail)) → Carries mail w
carries-mail n Nobody w h = h
carries-mail n (One to x) w (inl e) = e
carries-mail n (One to x) w (inr h) = absurd h
carries-mail n (All x) w h = carried_all x w (members n) h

mail-carries : (n : ℕ) (mail : Mail) (w : Wire) → 0 < n → Carries mail w → IsIn w (map (λ e. e.wire) (envelopes n mail))
unfolding members
mail-carries n Nobody w h c = c
mail-carries n (One to x) w h c = inl c
mail-carries zero (All x) w h c = absurd (omega arith)
mail-carries (suc n) (All x) w h c = inl c

-- what was sent before a step was sent after it
pub Sent-old : (s : Setting) (g : State) (p : ℕ) (o : Outcome) (w : Wire) → Sent g w → Sent (after s g p o) w
unfolding after
Sent-old s g p o w h = rw map-append (Lists.IsIn-append_left w (wires g) (map (λ e. e.wire) (envelopes s.members o.mail)) h)

-- and so was what the step sends
pub Sent-new : (s : Setting) (g : State) (p : ℕ) (o : Outcome) (w : Wire) → IsMember s.members p → Carries o.mail w → Sent (after s g p o) w
unfolding after
Sent-new s g p o w is c = rw map-append (Lists.IsIn-append_right w (wires g) (map (λ e. e.wire) (envelopes s.members o.mail))
    (mail-carries s.members o.mail w (omega arith) c))

-- what was sent after a step was sent before it, or the step sends it
pub Sent-cases : (s : Setting) (g : State) (p : ℕ) (o : Outcome) (w : Wire) → Sent (after s g p o) w → Sent g w ⊎ Carries o.mail w
unfolding after
Sent-cases s g p o w h =
    elim (Lists.IsIn-append_cases w (wires g) (map (λ e. e.wire) (envelopes s.members o.mail)) (rw map-append at h)) [
      | inl a ↦ inl a
      | inr b ↦ inr (carries-mail s.members o.mail w b)
    ]

pub get-wire : (sent : List Envelope) (i : ℕ) (e : Envelope) → slice_get sent i ≡ Some e → IsIn e.wire (map (λ x. x.wire) sent)
get-wire [] i e is = some-none e is
get-wire (x ∷ sent) zero e is = inl (cc)
get-wire (x ∷ sent) (suc i) e is = inr (get-wire sent i e is)

-- a wire that p gets was sent
pub Sent-wire : (g : State) (p k : ℕ) (w : Wire) → wire_to g p k ≡ Some w → Sent g w
Sent-wire g p k w e =
    let f = wire_to-sent g p k w e in
    rw f.wire at (get-wire g.sent f.place f.envelope f.there)
