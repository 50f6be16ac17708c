-- All is done exactly where a world is settled.
use Rattle.std.proofs.Common.{◌≡◌, ℕ, zero, suc, ◌≤◌, ◌==◌, Bool, true, false, not}
use Rattle.std.proofs.Common.{◌&&◌, List, [], ◌∷◌, length, take, Option, refl, sym, ap, ◌∙◌}
use Rattle.std.proofs.Common.{◌⊎◌, inl, inr, arith, append-nil, length-append}
use Rattle.std.specs.Prelude.{is_some}
use Rattle.std.proofs.lemmas.Bool.Decides.{nat_tests}
use Rattle.ct_names.specs.Group.{IsMember}
use Rattle.ct_names.specs.declared.limit.Limit.TheVariants.{Submissions, Instances, Rounds, Envelopes, Cells, Steps}
use Rattle.ct_names.specs.declared.refusal.Refusal.TheVariants.{Busy, Full, Nothing}
use Rattle.ct_names.specs.declared.refusal.Refusal.{Refusal}
use Rattle.ct_names.specs.Membership.{IsIn}
use Rattle.ct_names.specs.Message.{Message}
use Rattle.ct_names.specs.Prefix.{IsPrefix, OneBegins}
use Rattle.ct_names.proofs.Lists
use Rattle.ct_names.proofs.Sets.{ordered-in}
use Rattle.ct_names.proofs.Values
use Rattle.ct_model.specs.declared.step.Step.{Step}
use Rattle.ct_model.specs.declared.step.Step.TheVariants.{Begin}
use Rattle.ct_model.specs.Cause.{at, cause, first_fault, limit, or_else}
use Rattle.ct_model.specs.Lawful.{IsLawful, IsPresent}
use Rattle.ct_model.specs.Next.{is_empty, proposed, undelivered}
use Rattle.ct_model.specs.Received.{received}
use Rattle.ct_model.specs.Rehearsal.{Rehearsal, state_of}
use Rattle.ct_model.specs.Safe.{IsSafe, delivered_by}
use Rattle.ct_model.specs.Setting.{Setting}
use Rattle.ct_model.specs.State.{State, Member, member, delivered, submissions}
use Rattle.ct_model.proofs.Delivery.Proposals.{proposed-from}
use Rattle.ct_model.proofs.Delivery.Safety.{safe-run}
use Rattle.ct_model.proofs.Record.Causes.{cause-present}
use Rattle.ct_model.proofs.Record.Limits.{own_tests-is}
use Rattle.ct_model.proofs.Relay.Messages.{received-by}
use Rattle.ct_rest.specs.Rest.{IsUp, IsDone}
use Rattle.ct_choices.specs.Choices.{has_crashed}
use Rattle.ct_progress.specs.Progress.{has_all, has_own, is_nothing, is_settled, is_through}
use Rattle.ct_progress.proofs.Counted.{each-own, same-own}
use Rattle.ct_progress.proofs.Members.{all_at, all_from}
use Rattle.ct_progress.proofs.Submitted.{counted-run, once-run}

-- ---- two lists of which one begins the other

prefix_same : (xs ys : List Message) → IsPrefix xs ys → length xs ≡ length ys → xs ≡ ys
prefix_same xs ys ([], is) e = sym (append-nil xs) ∙ is
prefix_same xs ys (x ∷ rest, is) e = absurd (omega (arith, ap length is, length-append xs (x ∷ rest)))

one_same : (xs ys : List Message) → OneBegins xs ys → length xs ≡ length ys → xs ≡ ys
one_same xs ys (inl h) e = prefix_same xs ys h e
one_same xs ys (inr h) e = sym (prefix_same ys xs h (sym e))

-- ---- nothing to begin with

-- no limit is a want of messages
limit_other : (a b c d e f : Bool) → is_nothing (first_fault (at (Full Submissions) a ∷ at (Full Instances) b ∷ at (Full Rounds) c
    ∷ at (Full Envelopes) d ∷ at (Full Cells) e ∷ at (Full Steps) f ∷ [])) ≡ false
limit_other a b c d e f = grind arith

limit_not : (w : Rehearsal) (step : Step) → is_nothing (limit w step) ≡ false
unfolding limit
limit_not w step = grind (arith, limit_other)

nothing_first : (busy none : Bool) (o : Option Refusal) → is_nothing o ≡ false →
    is_nothing (or_else (first_fault (at Busy busy ∷ at Nothing none ∷ [])) o) ≡ (not busy && none)
nothing_first busy none o other = grind arith

none_in : (list : List Message) → ((m : Message) → IsIn m list → ⊥) → is_empty list ≡ true
none_in [] out = refl
none_in (m ∷ list) out = absurd (out m (inl refl))

take-some : (bound : ℕ) (list : List Message) (m : Message) → 1 ≤ bound → IsIn m list → is_empty (take bound list) ≡ false
take-some bound [] m some h = absurd h
take-some zero (x ∷ list) m some h = absurd (omega arith)
take-some (suc bound) (x ∷ list) m some h = refl

-- nothing is proposed exactly where all that was received was delivered
module _ (s : Setting) (m : Member) where
  all_delivered : 1 ≤ s.bound → is_empty (proposed s m) ≡ true → (x : Message) → IsIn x (received m.got) → IsIn x (delivered m)
  unfolding proposed undelivered
  all_delivered some none x h = grind (arith, Values.in-has, Lists.IsIn-filter, ordered-in, take-some)

  none_proposed : ((x : Message) → IsIn x (received m.got) → IsIn x (delivered m)) → is_empty (proposed s m) ≡ true
  none_proposed all = none_in (proposed s m) (λ x h.
      let left = proposed-from s m x h in
      Values.minus-out (received m.got) (delivered m) x left (all x (Values.minus-from (received m.got) (delivered m) x left)))

-- ---- all is done

module _ (w : Rehearsal) (law : IsLawful w) where
  abbrev g : State
  g = state_of w

  abbrev IsHere : ℕ → Type 0
  IsHere = IsUp w.setting g

  safe : IsSafe w.setting g
  safe = safe-run w.setting w.steps g law.runs

  pub here_or_crashed : (p : ℕ) → IsMember w.setting.members p → (has_crashed w p ≡ true) ⊎ IsHere p
  here_or_crashed p is = let low = is.0 in let high = is.1 in grind (arith, nat_tests)

  pub not_crashed : (p : ℕ) → IsHere p → has_crashed w p ≡ false
  not_crashed p up = grind (arith, up.up)

  module _ (p : ℕ) (up : IsHere p) where
    present : IsPresent w p
    present = record { in_group = (let low = up.member.0 in let high = up.member.1 in grind (arith, nat_tests)); up = up.up }

    -- nothing to begin with: no instance is open, and nothing would be proposed
    nothing_is : is_nothing (cause w (Begin p)) ≡ (not (is_some (member g p).current) && is_empty (proposed w.setting (member g p)))
    nothing_is = ap is_nothing (cause-present w (Begin p) present
        ∙ ap (λ o. or_else (first_fault o) (limit w (Begin p))) (own_tests-is w (Begin p)))
        ∙ nothing_first _ _ (limit w (Begin p)) (limit_not w (Begin p))

    -- who delivered as many of its own as it submitted delivered each, and the other way round

    count_is : has_own w p ≡ (submissions (delivered_by g p) p == submissions g.submitted p)
    unfolding has_own
    count_is = rw (counted-run w.setting w.steps g p law.runs) (unfold submissions in refl)

    each_own : has_own w p ≡ true → (m : Message) → IsIn m g.submitted → m.origin ≡ p → IsIn m (delivered_by g p)
    each_own h = each-own p (delivered_by g p) g.submitted (safe.once p up.member) (λ m i. safe.submitted p m up.member i)
        (grind (arith, nat_tests, count_is))

    to_own : ((m : Message) → IsIn m g.submitted → m.origin ≡ p → IsIn m (delivered_by g p)) → has_own w p ≡ true
    to_own each =
        let e = same-own p (delivered_by g p) g.submitted (safe.once p up.member) (λ m i. safe.submitted p m up.member i)
        (once-run w.setting w.steps g law.runs) each in
        grind (arith, nat_tests, count_is)

    abbrev count : ℕ
    count = length (delivered_by g p)

    through : is_settled w p ≡ true → (q : ℕ) → IsHere q → has_all w count q ≡ true
    unfolding is_settled
    through is q here = grind (arith, not_crashed, all_at (is_through w count) w.setting.members q, here.member)

    to_settled : ((q : ℕ) → IsHere q → has_all w count q ≡ true) → is_settled w p ≡ true
    unfolding is_settled
    to_settled each =
        let all = all_from (is_through w count) w.setting.members (λ q is. grind (arith, here_or_crashed q is, each q)) in
        grind (arith, not_crashed p up)

pub all_done : (w : Rehearsal) (p : ℕ) → IsLawful w → 1 ≤ w.setting.bound → IsUp w.setting (state_of w) p → is_settled w p ≡ true →
    (a b : ℕ) → IsUp w.setting (state_of w) a → IsUp w.setting (state_of w) b → IsDone (state_of w) a b
all_done w p law some up is a b isa isb =
    let g = state_of w in
    let of_a = through w law p up is a isa in
    let of_b = through w law p up is b isb in
    let same : delivered_by g a ≡ delivered_by g b = one_same (delivered_by g a) (delivered_by g b)
    ((safe w law).one_order a b isa.member isb.member) (grind (arith, nat_tests, of_a, of_b)) in
    let none : is_empty (proposed w.setting (member g b)) ≡ true = grind (arith, nothing_is w law b isb, of_b) in
    record {
      idle = grind (arith, nothing_is w law a isa, of_a);
      same = same;
      received = λ m h. rw same (all_delivered w.setting (member g b) some none m (rw (received-by g b) at h));
      submitted = λ m h its. rw same (each_own w law b isb (grind (arith, of_b)) m h its);
    }

pub settled : (w : Rehearsal) (p : ℕ) → IsLawful w → IsUp w.setting (state_of w) p →
    ((a b : ℕ) → IsUp w.setting (state_of w) a → IsUp w.setting (state_of w) b → IsDone (state_of w) a b) → is_settled w p ≡ true
settled w p law up each = to_settled w law p up (λ q here.
    let done = each q q here here in
    let none = none_proposed w.setting (member (state_of w) q) (λ x h. done.received x (rw (received-by (state_of w) q) h)) in
    let idle = nothing_is w law q here in
    let sent = to_own w law q here done.submitted in
    let same = ap length (each q p here up).same in
    grind (arith, nat_tests, done.idle))
