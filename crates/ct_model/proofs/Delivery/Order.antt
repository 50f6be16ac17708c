-- What a step does to the order of batches: a Deliver or Follow of who delivered as many as anyone adds its batch, and any
-- other step leaves it.
use Rattle.std.proofs.Common.{◌≡◌, ℕ, ◌-◌, ◌≤◌, ◌<◌, List, [], ◌∷◌, ◌++◌, Some, length, ap, sym, ◌∙◌, subst, arith, append-nil}
use Rattle.std.proofs.lemmas.List.{length-append}
use Rattle.ct_names.specs.Group.{IsMember}
use Rattle.ct_names.specs.Prefix.{IsPrefix}
use Rattle.ct_names.specs.Value.{Value}
use Rattle.ct_model.specs.declared.step.Step.{Step}
use Rattle.ct_model.specs.Actor.{actor}
use Rattle.ct_model.specs.Setting.{Setting}
use Rattle.ct_model.specs.State.{State, Member, member}
use Rattle.ct_model.specs.Next.{Outcome, row, after, next, close, batch_of}
use Rattle.ct_model.specs.Rehearsal.{Rehearsal, state_of, extended}
use Rattle.ct_model.specs.Cause.{order}
use Rattle.ct_model.specs.Lawful.{IsLawful}
use Rattle.ct_model.specs.Order.{DeliversNothing}
use Rattle.ct_model.proofs.Basics.Groups.{member_is}
use Rattle.ct_model.proofs.Relay.Messages.{in_members, next-is}
use Rattle.ct_model.proofs.Record.Frame.{order-kept, at_place, member-other}
use Rattle.ct_model.proofs.Record.Taken.{IsTaken, state-step, lawful-step}
use Rattle.ct_model.proofs.Delivery.Longest.{order-new, order-same, order-member}
use Rattle.ct_model.proofs.Delivery.Prefixes.{order-prefix}
use Rattle.ct_model.proofs.Delivery.Safety.{safe-run}
use Rattle.ct_model.proofs.Steps.Close.{length-close}

batches-row : (s : Setting) (g : State) (p : ℕ) (m : Member) (step : Step) (o : Outcome) → DeliversNothing step
    → row s g p m step ≡ Some o → o.member.batches ≡ m.batches
batches-row s g p m step o none = grind arith

-- a step that delivers nothing leaves the order
pub order-still : (s : Setting) (g h : State) (step : Step) → DeliversNothing step → next s g step ≡ Some h → order h ≡ order g
order-still s g h step d e =
    let t = next-is s g step h e in
    ap order (sym t.gives) ∙ order-kept s g (actor step) t.outcome
    (batches-row s g (actor step) (member g (actor step)) step t.outcome d t.row)

-- a list that begins another of its length is that list
prefix-equal : {A : Type 0} (xs ys : List A) → IsPrefix xs ys → length ys ≤ length xs → xs ≡ ys
prefix-equal xs ys ([], e) le = sym (append-nil xs) ∙ e
prefix-equal xs ys (z ∷ rest, e) le = grind (arith, length-append xs (z ∷ rest))

-- a step that closes an instance
module _ (w : Rehearsal) (step : Step) (k : ℕ) (v : Value) (law : IsLawful w)
    (taken : IsTaken w step (close (member (state_of w) (actor step)) k v)) where
  abbrev p : ℕ
  p = actor step

  abbrev m : Member
  m = member (state_of w) (actor step)

  abbrev o : Outcome
  o = close m k v

  abbrev h : State
  h = after w.setting (state_of w) p o

  there : p - 1 < length (state_of w).members
  there = in_members w.setting (state_of w) p law.size taken.present.in_group

  grows : length m.batches ≤ length o.member.batches
  grows = let more = length-close m k v in omega arith

  -- the batches of a member begin the order
  begins : (x : Rehearsal) → IsLawful x → (q : ℕ) → IsMember x.setting.members q →
      IsPrefix (member (state_of x) q).batches (order (state_of x))
  begins x lawful q is = order-prefix x.setting x.steps (state_of x) lawful.runs
      (safe-run x.setting x.steps (state_of x) lawful.runs).decisions q is

  after_step : state_of (extended w step) ≡ h
  after_step = state-step w step o law taken

  -- where the member delivered as many batches as anyone, its batch joins the order
  pub order-ahead : length (order (state_of w)) ≤ length (member (state_of w) (actor step)).batches →
      order (state_of (extended w step)) ≡ order (state_of w)
      ++ record { instance = k; messages = batch_of (member (state_of w) (actor step)) v } ∷ []
  order-ahead many =
      let is : IsMember w.setting.members p = member_is w.setting.members p taken.present.in_group in
      let same : m.batches ≡ order (state_of w) = prefix-equal m.batches (order (state_of w)) (begins w law p is) many in
      let more = length-close m k v in
      ap order after_step
      ∙ order-new w.setting (state_of w) p o there grows (omega arith)
      ∙ ap (λ list. list ++ record { instance = k; messages = batch_of m v } ∷ []) same

  -- where another delivered more, the order stays
  pub order-behind : length (member (state_of w) (actor step)).batches < length (order (state_of w)) →
      order (state_of (extended w step)) ≡ order (state_of w)
  order-behind few =
      let far = order-member (state_of w) (let place : p - 1 < length (state_of w).members = there in omega arith) in
      let size = law.size in
      let below : far.by ≤ length (state_of w).members = far.below in
      let is : IsMember w.setting.members far.by = (far.positive, omega arith) in
      let more = length-close m k v in
      let whole : length (order (state_of w)) ≡ length (member (state_of w) far.by).batches = ap length far.is in
      let other : (member h far.by).batches ≡ (member (state_of w) far.by).batches =
      ap (λ (x : Member). x.batches) (member-other w.setting (state_of w) p far.by o
      (λ same. let equal : length (member (state_of w) far.by).batches ≡ length m.batches =
      at_place (λ x. length x.batches) (state_of w) far.by p same in omega arith)) in
      let long = order-same w.setting (state_of w) p o there grows (omega arith) in
      let front : IsPrefix (member h far.by).batches (order h) =
      subst (λ x. IsPrefix (member x far.by).batches (order x)) after_step
      (begins (extended w step) (lawful-step w step o law taken) far.by is) in
      let its : length (member h far.by).batches ≡ length (member (state_of w) far.by).batches = ap length other in
      ap order after_step ∙ sym (prefix-equal (member h far.by).batches (order h) front (omega arith)) ∙ other ∙ sym far.is
