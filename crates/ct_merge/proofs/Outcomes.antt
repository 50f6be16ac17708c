-- What a step came to is the same in two runs that find its member alike.
use Rattle.ct_merge.proofs.Common.{◌≡◌, ℕ, zero, suc, ◌+◌, Bool, true, false, List, [], ◌∷◌, ◌++◌, Option, Some, None, length, refl, sym}
use Rattle.ct_merge.proofs.Common.{ap, ◌∙◌, subst, arith, slice_get, option_map, option_and_then, is_some, if◌then◌else◌, IsMember}
use Rattle.ct_merge.proofs.Common.{is_member, Envelope, Wire, order, without_value, Outcome, next, receive, row, wire_to, Rehearsal}
use Rattle.ct_merge.proofs.Common.{state_of, extended, Setting, Member, State, at_serial, member, value_of, made-map, some-none, some-same}
use Rattle.ct_merge.proofs.Common.{get-front, IsStep, next-is, deliver_row-is, follow_row-is, IsSame, deed_of, letter, outcome_of, Moment}
use Rattle.ct_merge.proofs.Common.{act_of, own, outcome, step_of, IsRun, FullName, LogAct, Receive, Begin, Deliver, Follow}
use Rattle.std.specs.Prelude.{unwrap_or}
use Rattle.ct_names.specs.Batch.{Batch}
use Rattle.ct_names.specs.Message.{Message}
use Rattle.ct_names.specs.Prefix.{IsPrefix}
use Rattle.ct_model.proofs.Delivery.Prefixes.{order-place, order-prefix}
use Rattle.ct_model.proofs.Delivery.Safety.{safe-run}
use Rattle.ct_world.specs.Standing.{estimate_by, heard_by}
use Rattle.ct_world.specs.World.{if_member, member_of}
use Rattle.ct_text.specs.Standing.{instance_of}
use Rattle.ct_play.specs.Outcomes.{alone_of, batch_by, carried_by, carried_of, estimate_of}
use Rattle.ct_play.specs.declared.outcomes.Came.TheVariants as came
use Rattle.ct_merge.specs.declared.log_act.LogAct.TheVariants.{Enter, Choose, Adopt, Conclude}
use Rattle.ct_merge.proofs.Begun.{is_member_of}
use Rattle.ct_merge.proofs.Local.{acts_of, outcome_is}
use Rattle.ct_merge.proofs.Moments.{IsPlaced, get_last, placed}
use Rattle.ct_merge.proofs.Posting.{from_kept}
use Rattle.ct_merge.proofs.Running.{run_next}
use Rattle.ct_merge.proofs.Sameness.{behind, left, like_behind}
use Rattle.ct_merge.proofs.Telling.{IsReceipt, IsToldStep, receipt_by, told_step}

-- ---- what is read of a member

module _ (w v : Rehearsal) (p : ℕ) (group : w.setting ≡ v.setting) (same : member (state_of w) p ≡ member (state_of v) p) where
  if_same : {A : Type 0} (f : Member → Option A) → if_member w p (f (member_of w p)) ≡ if_member v p (f (member_of v p))
  if_same f =
      ap (λ (s : Setting). if is_member s.members p then f (member (state_of w) p) else None) group
      ∙ ap (λ (m : Member). if is_member v.setting.members p then f m else None) same

  estimate_same : estimate_of (if_member w p (estimate_by (member_of w p))) ≡ estimate_of (if_member v p (estimate_by (member_of v p)))
  estimate_same = ap estimate_of (if_same estimate_by)

  alone_same : alone_of (if_member w p (estimate_by (member_of w p))) ≡ alone_of (if_member v p (estimate_by (member_of v p)))
  alone_same = ap alone_of (if_same estimate_by)

  heard_same : (from : ℕ) → alone_of (if_member w p (heard_by (member_of w p) from))
      ≡ alone_of (if_member v p (heard_by (member_of v p) from))
  heard_same from = ap alone_of (if_same (λ m. heard_by m from))

-- ---- batches

prefix_get : (xs ys : List Batch) (k : ℕ) (b : Batch) → IsPrefix xs ys → at_serial xs k ≡ Some b → at_serial ys k ≡ Some b
prefix_get xs ys zero b h e = some-none b e
prefix_get xs ys (suc i) b h e = subst (λ l. slice_get l i ≡ Some b) h.1 (get-front xs h.0 i b e)

-- a member's batch is that of its place in the order of the group
order_at : (w : Rehearsal) → IsRun w → (p k : ℕ) (b : Batch) → IsMember w.setting.members p →
    at_serial (member (state_of w) p).batches k ≡ Some b → at_serial (order (state_of w)) k ≡ Some b
order_at w r p k b isp e =
    prefix_get (member (state_of w) p).batches (order (state_of w)) k b
    (order-prefix w.setting w.steps (state_of w) r (safe-run w.setting w.steps (state_of w) r).decisions p isp) e

-- the batch of p's last instance stands there
IsLastBatch : Rehearsal → ℕ → Batch → Type 0
IsLastBatch w p b = at_serial (member (state_of w) p).batches (member (state_of w) p).last ≡ Some b

messages_of : Option Batch → List Message
messages_of o = unwrap_or (option_map (λ (b : Batch). b.messages) o) []

last_batch : (w : Rehearsal) → IsRun w → (p : ℕ) (b : Batch) → IsMember w.setting.members p → is_member w.setting.members p ≡ true →
    IsLastBatch w p b → batch_by w p ≡ messages_of (Some b)
unfolding batch_by instance_of IsLastBatch messages_of
last_batch w r p b isp test e =
    ap (λ t. messages_of (at_serial (order (state_of w)) (unwrap_or {T = ℕ × Bool}
    (if t then Some ((member_of w p).last, is_some (member_of w p).current) else None)
    (0, false)).0)) test
    ∙ ap messages_of (order_at w r p (member (state_of w) p).last b isp e)

-- behind a step that closes an instance it does
closes : (m o : Member) (b : Batch) → o.batches ≡ m.batches ++ b ∷ [] → o.last ≡ b.instance →
    ((i : ℕ) (x : Batch) → slice_get o.batches i ≡ Some x → x.instance ≡ i + 1) → at_serial o.batches o.last ≡ Some b
closes m o b batches last place =
    let there : slice_get o.batches (length m.batches) ≡ Some b = ap (λ l. slice_get l (length m.batches)) batches ∙ get_last m.batches b in
    let number : o.last ≡ suc (length m.batches) = omega (arith, place (length m.batches) b there, last) in
    ap (at_serial o.batches) number ∙ there

-- ---- how an own step leaves its member

-- the step closes an instance
abbrev closing : LogAct → Type 0
closing Deliver = Unit {0}
closing Follow = Unit {0}
closing _ = ⊥

-- the last batch is of the last instance
record IsClosed (m o : Member) : Type 0 where
  pub batch : Batch
  pub batches : o.batches ≡ m.batches ++ batch ∷ []
  pub last : o.last ≡ batch.instance

closed_row : (s : Setting) (g : State) (p k : ℕ) (m : Member) (act : LogAct) (o : Outcome) → closing act →
    row s g p m (step_of p k act) ≡ Some o → IsClosed m o.member
closed_row s g p k m Deliver o c e =
    let f = deliver_row-is m o e in
    subst (λ (x : Outcome). IsClosed m x.member) f.1 (record { batch = _; batches = refl; last = refl })
closed_row s g p k m Follow o c e =
    let f = follow_row-is m o e in
    subst (λ (x : Outcome). IsClosed m x.member) f.1 (record { batch = _; batches = refl; last = refl })
closed_row s g p k m _ o c e = absurd c

last_same : (xs : List Wire) (x y : Wire) → xs ++ x ∷ [] ≡ xs ++ y ∷ [] → x ≡ y
last_same xs x y e = some-same x y (sym (get_last xs x) ∙ (ap (λ l. slice_get l (length xs)) e ∙ get_last xs y))

-- what an own step of p is, and what it leaves
module _ (w : Rehearsal) (p i : ℕ) (m : Moment) (f : IsPlaced w p i m) (act : LogAct) (told : act_of m.before m.step ≡ Some act) where
  abbrev s : Setting
  s = m.before.setting

  abbrev g : State
  g = state_of m.before

  pub telling : IsToldStep m.before p m.step act
  telling = told_step m.before p m.step act told f.actor

  enabled : next s g (step_of p telling.serial act) ≡ Some f.state
  enabled = subst (λ z. next s g z ≡ Some f.state) telling.is f.enabled

  turn : IsStep s g (step_of p telling.serial act) f.state
  turn = next-is s g (step_of p telling.serial act) f.state enabled

  deed : deed_of m ≡ Some turn.outcome
  deed = ap (λ z. outcome_of s g z) telling.is ∙ outcome_is s g (step_of p telling.serial act) f.state turn

  row_is : row s g p (member g p) (step_of p telling.serial act) ≡ Some turn.outcome
  row_is = subst (λ q. row s g q (member g q) (step_of p telling.serial act) ≡ Some turn.outcome) (acts_of p telling.serial act) turn.row

  -- the outcome, and the member that it leaves
  stands : member (behind m) p ≡ (turn.outcome).member
  stands =
      let l = left w p i m f in
      (l.1).member ∙ ap (λ (o : Outcome). o.member) (some-same l.0 turn.outcome (sym (l.1).deed ∙ deed))

  run_behind : IsRun (extended m.before m.step)
  run_behind = run_next m.before m.step f.state f.run f.enabled

  -- behind a step that closes an instance the last batch is there
  batch_there : closing act → IsMember m.before.setting.members p →
      (b : Batch) × (at_serial (member (behind m) p).batches (member (behind m) p).last ≡ Some b)
  batch_there c isp =
      let z = closed_row s g p telling.serial (member g p) act turn.outcome c row_is in (
        z.batch,
        closes (member g p) (member (behind m) p) z.batch (ap (λ (x : Member). x.batches) stands ∙ z.batches)
            (ap (λ (x : Member). x.last) stands ∙ z.last)
            (order-place m.before.setting (m.before.steps ++ m.step ∷ []) (behind m) run_behind p),
      )

  -- what it receives
  receipt : (name : FullName) → act ≡ Receive name → IsReceipt m.before p telling.serial name
  receipt name is = receipt_by m.before p m.step act f.state telling f.enabled name is

  got : (name : FullName) (is : act ≡ Receive name) → (turn.outcome).member.got ≡ (member g p).got ++ (receipt name is).wire ∷ []
  got name is =
      let at_row = subst (λ z. row s g p (member g p) (step_of p telling.serial z) ≡ Some turn.outcome) is row_is in
      let made = made-map (receive s p (member g p)) (wire_to g p telling.serial) turn.outcome at_row in
      let same : made.from ≡ (receipt name is).wire = some-same made.from (receipt name is).wire (sym made.is ∙ (receipt name is).gets) in
      ap (λ (o : Outcome). o.member.got) (sym made.gives) ∙ ap (λ x. (member g p).got ++ x ∷ []) same

  carried_there : (name : FullName) (is : act ≡ Receive name) → carried_of (extended m.before m.step) telling.serial
      ≡ carried_by (Some (without_value (letter p (receipt name is).wire))) (unwrap_or (value_of (receipt name is).wire) [])
  unfolding carried_of
  carried_there name is =
      let there = (from_kept m.before m.step f.state f.run f.enabled name.from p (receipt name is).wire telling.serial
      (receipt name is).from).there in
      ap (λ (o : Option Envelope). carried_by (option_map without_value o)
      (unwrap_or (option_and_then (λ (e : Envelope). value_of e.wire) o) []))
      there

-- ---- two runs

by_act : (w v : Rehearsal) (p k l : ℕ) → w.setting ≡ v.setting → member (state_of w) p ≡ member (state_of v) p → (act : LogAct) →
    ((name : FullName) → act ≡ Receive name → carried_of w k ≡ carried_of v l) →
    (closing act → batch_by w p ≡ batch_by v p) →
    outcome w (step_of p k act) ≡ outcome v (step_of p l act)
by_act w v p k l group same (Receive name) carried batch = carried name refl
by_act w v p k l group same Begin carried batch = alone_same w v p group same
by_act w v p k l group same Enter carried batch = estimate_same w v p group same
by_act w v p k l group same (Choose from) carried batch = heard_same w v p group same from
by_act w v p k l group same Adopt carried batch = estimate_same w v p group same
by_act w v p k l group same Deliver carried batch = ap (λ l. (came.Batch, l)) (batch tt)
by_act w v p k l group same Follow carried batch = ap (λ l. (came.Batch, l)) (batch tt)
by_act w v p k l group same Conclude carried batch = alone_same w v p group same
by_act w v p k l group same _ carried batch = refl

-- the same own step of two runs comes to the same
pub outcome_same : (w v : Rehearsal) (p i j : ℕ) (m n : Moment) (act : LogAct) → IsRun w → IsRun v → v.setting ≡ w.setting →
    IsMember w.setting.members p → slice_get (own w p) i ≡ Some m → slice_get (own v p) j ≡ Some n →
    act_of m.before m.step ≡ Some act → act_of n.before n.step ≡ Some act → IsSame p m n →
    outcome (extended m.before m.step) m.step ≡ outcome (extended n.before n.step) n.step
unfolding IsLastBatch
outcome_same w v p i j m n act r u group isp there also told told_too same =
    let a = placed w r p i m there in
    let b = placed v u p j n also in
    let setting : m.before.setting ≡ n.before.setting = a.setting ∙ (sym group ∙ sym b.setting) in
    let isp_m : IsMember m.before.setting.members p = subst (λ (s : Setting). IsMember s.members p) (sym a.setting) isp in
    let isp_n : IsMember n.before.setting.members p = subst (λ (s : Setting). IsMember s.members p) setting isp_m in
    let alike = (like_behind w v p i j m n a b same).member in
    let x = telling w p i m a act told in
    let y = telling v p j n b act told_too in
    ap (λ z. outcome (extended m.before m.step) z) x.is
    ∙ (by_act (extended m.before m.step) (extended n.before n.step) p x.serial y.serial setting alike act
    (λ name is. carried_there w p i m a act told name is
    ∙ (ap (λ z. carried_by (Some (without_value (letter p z))) (unwrap_or (value_of z) []))
    (last_same (member (state_of m.before) p).got (receipt w p i m a act told name is).wire (receipt v p j n b act told_too name is).wire
    (sym (got w p i m a act told name is)
    ∙ (ap (λ (o : Outcome). o.member.got) (some-same (turn w p i m a act told).outcome (turn v p j n b act told_too).outcome
    (sym (deed w p i m a act told) ∙ (same.outcome ∙ deed v p j n b act told_too)))
    ∙ (got v p j n b act told_too name is
    ∙ ap (λ (z : Member). z.got ++ (receipt v p j n b act told_too name is).wire ∷ []) (sym same.like.member)))))
    ∙ sym (carried_there v p j n b act told_too name is)))
    (λ c.
    let z = batch_there w p i m a act told c isp_m in
    last_batch (extended m.before m.step) (run_behind w p i m a act told) p z.0 isp_m (is_member_of m.before.setting.members p isp_m) z.1
    ∙ sym (last_batch (extended n.before n.step) (run_behind v p j n b act told_too) p z.0 isp_n
    (is_member_of n.before.setting.members p isp_n)
    (subst (λ (x : Member). at_serial x.batches x.last ≡ Some z.0) alike z.1)))
    ∙ sym (ap (λ z. outcome (extended n.before n.step) z) y.is))
