-- What is told to be right is so.
use Rattle.std.proofs.Common.{◌≡◌, ◌⊎◌, inl, inr, ◌<◌, ◌≤◌, ◌==◌, ℕ, zero, suc, Bool, true, false, List, [], ◌∷◌, refl, ap, sym, ◌∙◌}
use Rattle.std.proofs.Common.{subst, arith, fold}
use Rattle.std.proofs.lemmas.Bool.Decides.{nat_tests}
use Rattle.std.proofs.Math.Nat.{eq-or-lt_of_le}
use Rattle.std.specs.Option.{option_or}
use Rattle.std.specs.Prelude.{nat_lt, if◌then◌else◌, Option, Some, None, slice_get}
use Rattle.ct_names.specs.Value.{Value}
use Rattle.ct_names.specs.declared.limit.Limit.{Limit}
use Rattle.ct_names.specs.declared.limit.TheConstants.{MAX_CELLS}
use Rattle.ct_names.specs.declared.refusal.Refusal.TheVariants.{Full, NoProposal, NotLargest}
use Rattle.ct_model.specs.Actor.{actor}
use Rattle.ct_model.specs.Rehearsal.{Rehearsal}
use Rattle.ct_model.specs.declared.step.Step.{Step}
use Rattle.ct_model.specs.declared.step.Step.TheVariants as steps
use Rattle.ct_world.specs.Standing.{heard_by}
use Rattle.ct_world.specs.World.{member_of, if_member}
use Rattle.ct_text.specs.Standing.{instance_of}
use Rattle.ct_show.specs.Wires.{letter_at}
use Rattle.ct_judging.specs.Rights.{larger_of, largest_heard, largest_of, last_proposal, proposal_in, proposed_in, right_of, unless_heard}
use Rattle.ct_judging.specs.declared.right.Right.{Right}
use Rattle.ct_judging.specs.declared.right.Right.TheVariants.{Largest, MoreCells, Proposal, Unheard}
use Rattle.ct_laws.specs.Rights.{HasProposal, Hears, HearsNone, IsLargest}

-- ---- the largest ts

-- what was heard of the first members has such a ts
abbrev AllHeard : Rehearsal → ℕ → ℕ → (ℕ → Type 0) → Type 0
AllHeard w p k P = (other : ℕ) (v : Value) (more : ℕ) → 1 ≤ other → other ≤ k → Hears w p other v more → P more

-- the largest among the first members
record IsLargestTo (w : Rehearsal) (p k q ts : ℕ) : Type 0 where
  pub low : 1 ≤ q
  pub high : q ≤ k
  pub heard : (v : Value) × Hears w p q v ts
  pub largest : AllHeard w p k (λ more. more ≤ ts)

-- what is so of the first ones
abbrev IsBest : Rehearsal → ℕ → ℕ → Option (ℕ × ℕ) → Type 0
IsBest w p k None = AllHeard w p k (λ _. ⊥)
IsBest w p k (Some b) = IsLargestTo w p k b.0 b.1

abbrev ts_in : Option (Value × ℕ) → ℕ
ts_in None = zero
ts_in (Some e) = e.1

same_ts : (o : Option (Value × ℕ)) (v u : Value) (ts more : ℕ) → o ≡ Some (v, ts) → o ≡ Some (u, more) → more ≡ ts
same_ts o v u ts more one other = ap ts_in (sym other ∙ one)

heard_on : (w : Rehearsal) (p k : ℕ) (P : ℕ → Type 0) → AllHeard w p k P → ((v : Value) (more : ℕ) → Hears w p (suc k) v more → P more) →
    AllHeard w p (suc k) P
heard_on w p k P before last other v more low high h = elim (eq-or-lt_of_le high) [
  | inl same ↦ last v more (subst (λ n. Hears w p n v more) same h)
  | inr less ↦ before other v more low (omega (arith, less)) h
]

-- one more, with a ts that is the largest, or not
newest : (w : Rehearsal) (p k : ℕ) (e : Value × ℕ) → if_member w p (heard_by (member_of w p) (suc k)) ≡ Some e →
    AllHeard w p k (λ more. more ≤ e.1) → IsLargestTo w p (suc k) (suc k) e.1
newest w p k e here before = record {
  low = omega arith;
  high = omega arith;
  heard = (e.0, here);
  largest = heard_on w p k (λ more. more ≤ e.1) before (λ v more h. omega (arith, same_ts _ e.0 v e.1 more here h));
}

same_one : (w : Rehearsal) (p k q ts : ℕ) → IsLargestTo w p k q ts →
    ((v : Value) (more : ℕ) → Hears w p (suc k) v more → more ≤ ts) → IsLargestTo w p (suc k) q ts
same_one w p k q ts best last = record {
  low = best.low;
  high = omega (arith, best.high);
  heard = best.heard;
  largest = heard_on w p k (λ more. more ≤ ts) best.largest last;
}

by_test : (w : Rehearsal) (p k : ℕ) (b : ℕ × ℕ) (e : Value × ℕ) (larger : Bool) → nat_lt b.1 e.1 ≡ larger → IsLargestTo w p k b.0 b.1 →
    if_member w p (heard_by (member_of w p) (suc k)) ≡ Some e →
    IsBest w p (suc k) (if larger then Some (suc k, e.1) else Some b)
by_test w p k b e true is best here =
    newest w p k e here (λ other v more low high h. grind (arith, nat_tests, best.largest other v more low high h))
by_test w p k b e false is best here =
    same_one w p k b.0 b.1 best (λ v more h. grind (arith, nat_tests, same_ts _ e.0 v e.1 more here h))

best_more : (w : Rehearsal) (p k : ℕ) (best : Option (ℕ × ℕ)) (here : Option (Value × ℕ)) → IsBest w p k best →
    if_member w p (heard_by (member_of w p) (suc k)) ≡ here → IsBest w p (suc k) (larger_of best (suc k) here)
best_more w p k None None so here = heard_on w p k (λ _. ⊥) so (λ v more h. cc (sym here ∙ h))
best_more w p k None (Some e) so here =
    newest w p k e here (λ other v more low high h. absurd (so other v more low high h))
best_more w p k (Some b) None so here =
    same_one w p k b.0 b.1 so (λ v more h. absurd (cc (sym here ∙ h)))
best_more w p k (Some b) (Some e) so here = by_test w p k b e (nat_lt b.1 e.1) refl so here

best_is : (w : Rehearsal) (p k : ℕ) → IsBest w p k (largest_heard w p k)
best_is w p zero = λ other v ts low high h. absurd (omega (arith, low, high))
best_is w p (suc k) =
    best_more w p k (largest_heard w p k) (if_member w p (heard_by (member_of w p) (suc k))) (best_is w p k) refl

largest_by : (w : Rehearsal) (p : ℕ) (best : Option (ℕ × ℕ)) (q ts : ℕ) → IsBest w p w.setting.members best →
    largest_of best ≡ Largest q ts → IsLargest w p q ts
largest_by w p None q ts so is = absurd (cc is)
largest_by w p (Some b) q ts so is =
    let member : b.0 ≡ q = cc is in
    let stamp : b.1 ≡ ts = cc is in
    let all = subst (λ n. IsLargestTo w p w.setting.members n ts) member
    (subst (λ t. IsLargestTo w p w.setting.members b.0 t) stamp so) in
    record {
      there = (all.low, all.high);
      heard = all.heard;
      largest = λ other v more there h. all.largest other v more there.0 there.1 h;
    }

-- ---- a choice

chosen : (from : ℕ) (heard : Option (Value × ℕ)) (right : Right) (q ts : ℕ) → unless_heard from heard right ≡ Largest q ts →
    right ≡ Largest q ts
chosen from None right q ts is = absurd (cc is)
chosen from (Some e) right q ts is = is

is_heard : (best : Option (ℕ × ℕ)) (q : ℕ) → largest_of best ≡ Unheard q → ⊥
is_heard None q is = cc is
is_heard (Some b) q is = cc is

unheard : (w : Rehearsal) (p from q : ℕ) (best : Option (ℕ × ℕ)) (heard : Option (Value × ℕ)) →
    if_member w p (heard_by (member_of w p) from) ≡ heard → unless_heard from heard (largest_of best) ≡ Unheard q → HearsNone w p q
unheard w p from q best None here is =
    let same : from ≡ q = cc is in
    subst (λ n. HearsNone w p n) same here
unheard w p from q best (Some e) here is = absurd (is_heard best q is)

pub unheard_right : (w : Rehearsal) (step : Step) (q : ℕ) → right_of w step NotLargest ≡ Unheard q → HearsNone w (actor step) q
unheard_right w (steps.Choose p from) q is =
    unheard w p from q (largest_heard w p w.setting.members) (if_member w p (heard_by (member_of w p) from)) refl is
unheard_right w step q is = absurd (is_heard (largest_heard w (actor step) w.setting.members) q is)

pub largest_right : (w : Rehearsal) (step : Step) (q ts : ℕ) → right_of w step NotLargest ≡ Largest q ts → IsLargest w (actor step) q ts
largest_right w (steps.Choose p from) q ts is =
    largest_by w p (largest_heard w p w.setting.members) q ts (best_is w p w.setting.members)
    (chosen from (if_member w p (heard_by (member_of w p) from)) (largest_of (largest_heard w p w.setting.members)) q ts is)
largest_right w step q ts is =
    largest_by w (actor step) (largest_heard w (actor step) w.setting.members) q ts (best_is w (actor step) w.setting.members) is

-- ---- a proposal of another round

-- the step receives a proposal
record IsProposal (w : Rehearsal) (p round : ℕ) (step : Step) : Type 0 where
  pub serial : ℕ
  pub is : step ≡ steps.Receive p serial
  pub proposal : proposal_in (instance_of w p) (letter_at w serial) ≡ Some round

received_by : (w : Rehearsal) (p q k round : ℕ) (b : Bool) → (b ≡ true → q ≡ p) →
    (if b then proposal_in (instance_of w p) (letter_at w k) else None) ≡ Some round → IsProposal w p round (steps.Receive q k)
received_by w p q k round true same h =
    record { serial = k; is = ap (λ n. steps.Receive n k) (same refl); proposal = h }
received_by w p q k round false same h = absurd (cc h)

proposal_is : (w : Rehearsal) (p round : ℕ) (step : Step) → proposed_in w p step ≡ Some round → IsProposal w p round step
proposal_is w p round (steps.Receive q k) h = received_by w p q k round (q == p) (λ is. grind (arith, nat_tests)) h
proposal_is w p round _ h = absurd (cc h)

-- that step, among these
record IsAmong (w : Rehearsal) (p round : ℕ) (list : List Step) : Type 0 where
  pub index : ℕ
  pub step : Step
  pub there : slice_get list index ≡ Some step
  pub proposal : IsProposal w p round step

among_more : (w : Rehearsal) (p round : ℕ) (step : Step) (list : List Step) → IsAmong w p round list → IsAmong w p round (step ∷ list)
among_more w p round step list a =
    record { index = suc a.index; step = a.step; there = a.there; proposal = a.proposal }

among : (w : Rehearsal) (p round : ℕ) (list : List Step) (before : Option ℕ) →
    fold (λ last step. option_or (proposed_in w p step) last) before list ≡ Some round → (before ≡ Some round) ⊎ IsAmong w p round list
among w p round [] before h = inl h
among w p round (step ∷ list) before h = go (among w p round list (option_or (proposed_in w p step) before) h)
  where
    by : (here : Option ℕ) → proposed_in w p step ≡ here → option_or here before ≡ Some round →
        (before ≡ Some round) ⊎ IsAmong w p round (step ∷ list)
    by None is same = inl same
    by (Some r) is same =
        inr (record { index = 0; step = step; there = refl; proposal = proposal_is w p round step (is ∙ same) })

    go : (option_or (proposed_in w p step) before ≡ Some round) ⊎ IsAmong w p round list →
        (before ≡ Some round) ⊎ IsAmong w p round (step ∷ list)
    go (inl same) = by (proposed_in w p step) refl same
    go (inr later) = inr (among_more w p round step list later)

received : (w : Rehearsal) (p round : ℕ) → (None ≡ Some round) ⊎ IsAmong w p round w.steps → HasProposal w p round
received w p round (inl none) = absurd (cc none)
received w p round (inr a) = record {
  number = suc a.index;
  serial = a.proposal.serial;
  step = a.there ∙ ap Some a.proposal.is;
  proposal = a.proposal.proposal;
}

last_is : (w : Rehearsal) (p round : ℕ) → last_proposal w p ≡ Some round → HasProposal w p round
unfolding last_proposal
last_is w p round h = received w p round (among w p round w.steps None h)

pub proposal_right : (w : Rehearsal) (step : Step) (round last : ℕ) → right_of w step NoProposal ≡ Proposal round (Some last) →
    HasProposal w (actor step) last
proposal_right w step round last is =
    let same : last_proposal w (actor step) ≡ Some last = cc is in
    last_is w (actor step) last same

-- ---- more cells

pub cells_right : (w : Rehearsal) (step : Step) (limit : Limit) → right_of w step (Full limit) ≡ MoreCells → w.cells < MAX_CELLS
cells_right w step limit h = grind (arith, nat_tests)
