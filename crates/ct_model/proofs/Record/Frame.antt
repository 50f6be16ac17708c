-- What an outcome leaves of the state.
use Rattle.std.proofs.Common.{◌≡◌, ◌≢◌, ℕ, zero, suc, ◌-◌, ◌+◌, ◌<◌, List, [], ◌∷◌, ◌++◌, length, map, refl, ap, ◌∙◌, set, arith}
use Rattle.std.specs.Prelude.{filter, ◌==◌, slice_index_or, if◌then◌else◌}
use Rattle.std.proofs.lemmas.List.{length-append, length-set, get_or-set_same, get_or-set_other}
use Rattle.std.proofs.lemmas.List.Elements.{filter-append}
use Rattle.ct_names.specs.declared.command.Command.{Command}
use Rattle.ct_names.specs.Message.{Message}
use Rattle.ct_model.specs.Setting.{Setting}
use Rattle.ct_model.specs.Wire.{envelopes}
use Rattle.ct_model.specs.State.{State, Member, member, new_member, submissions}
use Rattle.ct_model.specs.Next.{Outcome, next_message, after}
use Rattle.ct_model.specs.Cause.{order, longest}

pub after-sent : (s : Setting) (g : State) (p : ℕ) (o : Outcome) → (after s g p o).sent ≡ g.sent ++ envelopes s.members o.mail
after-sent s g p o = unfold after in refl

pub length-after-sent : (s : Setting) (g : State) (p : ℕ) (o : Outcome) →
    length (after s g p o).sent ≡ length g.sent + length (envelopes s.members o.mail)
length-after-sent s g p o = ap length (after-sent s g p o) ∙ length-append g.sent (envelopes s.members o.mail)

pub after-submitted : (s : Setting) (g : State) (p : ℕ) (o : Outcome) → (after s g p o).submitted ≡ g.submitted ++ o.submitted
after-submitted s g p o = unfold after in refl

pub after-size : (s : Setting) (g : State) (p : ℕ) (o : Outcome) → length (after s g p o).members ≡ length g.members
unfolding after
after-size s g p o = length-set g.members (p - 1) o.member

pub member-same : (s : Setting) (g : State) (p : ℕ) (o : Outcome) → p - 1 < length g.members → member (after s g p o) p ≡ o.member
unfolding member after
member-same s g p o h = get_or-set_same g.members (p - 1) o.member new_member h

pub member-other : (s : Setting) (g : State) (p q : ℕ) (o : Outcome) → q - 1 ≢ p - 1 → member (after s g p o) q ≡ member g q
unfolding member after
member-other s g p q o ne = get_or-set_other g.members (p - 1) (q - 1) o.member new_member ne

pub submissions-append : (xs ys : List Message) (p : ℕ) → submissions (xs ++ ys) p ≡ submissions xs p + submissions ys p
unfolding submissions
submissions-append xs ys p = ap length (filter-append (λ m. m.origin == p) xs ys)
    ∙ length-append (filter (λ m. m.origin == p) xs) (filter (λ m. m.origin == p) ys)

-- the members have the same of this, one of them exchanged for another that has the same
map-set : {A B : Type 0} (f : A → B) (xs : List A) (i : ℕ) (x d : A) → f x ≡ f (slice_index_or xs i d) → map f (set xs i x) ≡ map f xs
map-set f [] i x d e = refl
map-set f (y ∷ ys) zero x d e = ap (λ z. z ∷ map f ys) e
map-set f (y ∷ ys) (suc i) x d e = ap (λ zs. f y ∷ zs) (map-set f ys i x d e)

pub order-kept : (s : Setting) (g : State) (p : ℕ) (o : Outcome) → o.member.batches ≡ (member g p).batches → order (after s g p o) ≡ order g
unfolding order after member
order-kept s g p o e = ap (λ lists. longest [] lists) (map-set (λ (m : Member). m.batches) g.members (p - 1) o.member new_member e)

-- members with one place have the same
pub at_place : {A : Type 0} (f : Member → A) (g : State) (q p : ℕ) → q - 1 ≡ p - 1 → f (member g q) ≡ f (member g p)
unfolding member
at_place f g q p same = ap (λ i. f (slice_index_or g.members i new_member)) same

pub submissions-none : (p : ℕ) → submissions [] p ≡ 0
submissions-none p = unfold submissions in refl

-- how many submissions of q the next message of p makes
pub submissions-next : (list : List Message) (p q : ℕ) (c : Command)
    → submissions (next_message list p c ∷ []) q ≡ (if p == q then 1 else 0)
unfolding submissions
submissions-next list p q c = grind arith
