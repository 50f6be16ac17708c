-- A line that stands in two runs leaves its member the same, and sends the same.
use Rattle.ct_merge.proofs.Common.{◌≡◌, ℕ, zero, suc, ◌+◌, ◌<◌, ◌≤◌, Option, Some, length, inl, inr, ◌⊎◌, refl, sym, ap, ◌∙◌, subst, arith}
use Rattle.ct_merge.proofs.Common.{slice_get, nat_lt, cases_Bool, nat_tests, IsMember, actor, Wire, Outcome, next, wire_to, Rehearsal}
use Rattle.ct_merge.proofs.Common.{state_of, empty, extended, Setting, State, member, submissions, envelopes, Step, some-same, some-none}
use Rattle.ct_merge.proofs.Common.{next-is, deed_of, letter, Sends, IsPosted, IsSame, outcome_of, IsLike, gets, Moment, act_of, own}
use Rattle.ct_merge.proofs.Common.{carried_of, IsRun, FullName, LogAct, Receive}
use Rattle.ct_merge.proofs.Local.{outcome_is, outcome_local}
use Rattle.ct_merge.proofs.Moments.{IsPlaced, IsUpTo, get_below, get_there, like_back, like_on, no_own, own_actor, own_cases, own_front}
use Rattle.ct_merge.proofs.Moments.{placed, up_to}
use Rattle.ct_merge.proofs.SentOnce.{count_mine, member_mine, named_past}
use Rattle.ct_merge.proofs.Owning.{at}
use Rattle.ct_merge.proofs.Posting.{is_named, posted, sends_apart, sends_one}
use Rattle.ct_merge.proofs.Running.{known, by_steps, state_next}
use Rattle.ct_merge.proofs.Telling.{IsReceipt, receipt_by, told_step}

-- ---- the same behind the same

pub below_or_not : (i n : ℕ) → (i < n) ⊎ (n ≤ i)
below_or_not i n = elim (cases_Bool (nat_lt i n)) [
  | inl a ↦ inl (grind (arith, nat_tests))
  | inr b ↦ inr (grind (arith, nat_tests))
]

-- the state behind an own step
abbrev pub behind : Moment → State
behind m = state_of (extended m.before m.step)

-- how an own step leaves its member
pub record IsLeft (p : ℕ) (m : Moment) (o : Outcome) : Type 0 where
  pub deed : deed_of m ≡ Some o
  pub member : member (behind m) p ≡ o.member
  pub submitted : submissions (behind m).submitted p ≡ submissions (state_of m.before).submitted p + length o.submitted

pub left : (w : Rehearsal) (p i : ℕ) (m : Moment) → IsPlaced w p i m → (o : Outcome) × IsLeft p m o
left w p i m f =
    let s : Setting = m.before.setting in
    let g : State = state_of m.before in
    let t = next-is s g m.step f.state f.enabled in
    let facts = known m.before f.run in
    let there : behind m ≡ f.state = state_next m.before m.step f.state f.enabled in
    let here : IsLeft (actor m.step) m t.outcome = record {
      deed = outcome_is s g m.step f.state t;
      member = ap (λ x. member x (actor m.step)) there ∙ member_mine s g m.step f.state t facts.holds facts.knows;
      submitted =
          ap (λ (x : State). submissions x.submitted (actor m.step)) there ∙ count_mine s g m.step f.state t facts.holds facts.knows;
    } in
    (t.outcome, subst (λ q. IsLeft q m t.outcome) f.actor here)

-- the same steps leave a member alike
pub like_behind : (w v : Rehearsal) (p i j : ℕ) (m n : Moment) → IsPlaced w p i m → IsPlaced v p j n → IsSame p m n →
    IsLike p (behind m) (behind n)
like_behind w v p i j m n a b same =
    let x = left w p i m a in
    let y = left v p j n b in
    let o : x.0 ≡ y.0 = some-same x.0 y.0 (sym (x.1).deed ∙ (same.outcome ∙ (y.1).deed)) in
    record {
      member = (x.1).member ∙ (ap (λ (z : Outcome). z.member) o ∙ sym (y.1).member);
      submitted =
          (x.1).submitted
          ∙ (ap (λ k. k + length (x.0).submitted) same.like.submitted
          ∙ (ap (λ (z : Outcome). submissions (state_of n.before).submitted p + length z.submitted) o ∙ sym (y.1).submitted));
    }

-- and send the same
pub sends_same : (m n : Moment) (q : ℕ) (x : Wire) → deed_of m ≡ deed_of n → m.before.setting ≡ n.before.setting → Sends m q x → Sends n q x
sends_same m n q x same setting s = record {
  outcome = s.outcome;
  is = sym same ∙ s.is;
  place = s.place;
  there = subst (λ (z : Setting). slice_get (envelopes z.members (s.outcome).mail) s.place ≡ Some (letter q x)) setting s.there;
}

-- p's own steps of both are the same as far as both go
unfoldable pub AreSame : Rehearsal → Rehearsal → ℕ → Type 0
AreSame w v p = (i : ℕ) (m n : Moment) → slice_get (own w p) i ≡ Some m → slice_get (own v p) i ≡ Some n → IsSame p m n

-- so p stands alike where both have come as far
pub like_there : (w v : Rehearsal) (p : ℕ) → IsRun w → IsRun v → IsMember w.setting.members p → IsMember v.setting.members p →
    AreSame w v p → length (own w p) ≡ length (own v p) → IsLike p (state_of w) (state_of v)
unfolding AreSame
like_there w v p r u isw isv same count = go (length (own w p)) refl
  where
    a : IsUpTo w p
    a = up_to w r p isw

    b : IsUpTo v p
    b = up_to v u p isv

    go : (i : ℕ) → length (own w p) ≡ i → IsLike p (state_of w) (state_of v)
    go zero none =
        let x = a.fresh none in
        let y = b.fresh (sym count ∙ none) in
        record { member = x.member ∙ sym y.member; submitted = x.submitted ∙ sym y.submitted }
    go (suc i) many =
        let m = get_there (own w p) i (omega arith) in
        let n = get_there (own v p) i (omega arith) in
        let one = a.last i m.0 m.1 (sym many) in
        let other = b.last i n.0 n.1 (sym many ∙ count) in
        like_on p (state_of w) (behind m.0) (state_of v) (like_back p (behind m.0) (state_of w) one)
        (like_on p (behind m.0) (behind n.0) (state_of v)
        (like_behind w v p i i m.0 n.0 (placed w r p i m.0 m.1) (placed v u p i n.0 n.1) (same i m.0 n.0 m.1 n.1)) other)

-- ---- runs of one set of lines

-- each own step is told by the line of its place
unfoldable pub Acts : (ℕ → ℕ → Option LogAct) → Rehearsal → Type 0
Acts a w = (p i : ℕ) (m : Moment) → IsMember w.setting.members p → slice_get (own w p) i ≡ Some m →
    (act : LogAct) × (a p i ≡ Some act) × (act_of m.before m.step ≡ Some act)

pub same_gets : (g h : State) (p k l : ℕ) (act : LogAct) → ((name : FullName) → act ≡ Receive name → wire_to g p k ≡ wire_to h p l) →
    gets g p k act ≡ gets h p l act
same_gets g h p k l (Receive name) same = same name refl
same_gets g h p k l _ same = refl

pub both_get : (g h : State) (p k l : ℕ) (x y : Wire) → wire_to g p k ≡ Some x → x ≡ y → wire_to h p l ≡ Some y →
    wire_to g p k ≡ wire_to h p l
both_get g h p k l x y a same b = a ∙ (ap Some same ∙ sym b)

-- what is received by one name is one wire, in two runs whose own steps are the same as far as both go
pub same_wire : (w v x : Rehearsal) (p k l : ℕ) (name : FullName) → IsRun w → IsRun v → IsRun x → v.setting ≡ w.setting →
    ((q : ℕ) → IsMember w.setting.members q → AreSame w v q) →
    ((q j : ℕ) (n : Moment) → slice_get (own x q) j ≡ Some n → slice_get (own v q) j ≡ Some n) → (a : IsReceipt w p k name) →
    (b : IsReceipt x p l name) → a.wire ≡ b.wire
unfolding AreSame
same_wire w v x p k l name r u run_x group old earlier a b = by_place (below_or_not there.place (length (own w q)))
  where
    q : ℕ
    q = name.from

    here : IsPosted w (name.from) p a.wire
    here = posted w r (name.from) p a.wire k a.from

    there : IsPosted x (name.from) p b.wire
    there = posted x run_x (name.from) p b.wire l b.from

    there_too : slice_get (own v (name.from)) there.place ≡ Some there.moment
    there_too = earlier (name.from) there.place there.moment there.there

    isq : IsMember w.setting.members (name.from)
    isq = (named_past w r (name.from) p (carried_of a.wire) k (is_named w (name.from) p a.wire k a.from)).0

    named : carried_of a.wire ≡ carried_of b.wire
    named = a.carried ∙ sym b.carried

    both_here : (m : Moment) → slice_get (own w (name.from)) there.place ≡ Some m → a.wire ≡ b.wire
    both_here m at =
        let same = old (name.from) isq there.place m there.moment at there_too in
        let f = placed w r (name.from) there.place m at in
        let g = placed v u (name.from) there.place there.moment there_too in
        let sends : Sends m p b.wire =
        sends_same there.moment m p b.wire (sym same.outcome) ((g.setting ∙ group) ∙ sym f.setting) there.sends in
        let place : here.place ≡ there.place =
        sends_apart w r (name.from) p here.place there.place here.moment m a.wire b.wire here.there at here.sends sends named in
        let one : here.moment ≡ m = some-same here.moment m (sym here.there ∙ (ap (λ i. slice_get (own w (name.from)) i) place ∙ at)) in
        sends_one m p a.wire b.wire (subst (λ z. Sends z p a.wire) one here.sends) sends

    later_there : (n : Moment) → slice_get (own v (name.from)) here.place ≡ Some n → here.place < there.place → a.wire ≡ b.wire
    later_there n at before =
        let same = old (name.from) isq here.place here.moment n here.there at in
        let f = placed w r (name.from) here.place here.moment here.there in
        let g = placed v u (name.from) here.place n at in
        let sends : Sends n p a.wire = sends_same here.moment n p a.wire same.outcome (f.setting ∙ sym (g.setting ∙ group)) here.sends in
        let place : here.place ≡ there.place =
        sends_apart v u (name.from) p here.place there.place n there.moment a.wire b.wire at there_too sends there.sends named in
        absurd (omega arith)

    by_place : (there.place < length (own w q)) ⊎ (length (own w q) ≤ there.place) → a.wire ≡ b.wire
    by_place (inl low) = let m = get_there (own w (name.from)) there.place low in both_here m.0 m.1
    by_place (inr high) =
        let mine : here.place < length (own w (name.from)) = get_below (own w (name.from)) here.place here.moment here.there in
        let theirs : there.place < length (own v (name.from)) = get_below (own v (name.from)) there.place there.moment there_too in
        let n = get_there (own v (name.from)) here.place (omega arith) in
        later_there n.0 n.1 (omega arith)

module _ (a : ℕ → ℕ → Option LogAct) (w : Rehearsal) (step : Step) (h : State) (r : IsRun w)
    (e : next w.setting (state_of w) step ≡ Some h) (v : Rehearsal) (u : IsRun v) (group : v.setting ≡ w.setting)
    (acts_w : Acts a (extended w step)) (acts_v : Acts a v) (old : (p : ℕ) → IsMember w.setting.members p → AreSame w v p) where
  step_same : (p i : ℕ) (n : Moment) → IsMember w.setting.members p → slice_get (own (extended w step) p) i ≡ Some (at w step) →
      actor step ≡ p → slice_get (own v p) i ≡ Some n → i ≡ length (own w p) → IsSame p (at w step) n
  unfolding Acts AreSame
  step_same p i n isp here mine there place =
      let f = placed v u p i n there in
      let setting : n.before.setting ≡ w.setting = f.setting ∙ group in
      let like : IsLike p (state_of w) (state_of n.before) =
      like_there w n.before p r f.run isp (subst (λ (z : Setting). IsMember z.members p) (sym setting) isp)
      (λ j m x at_w at_n. old p isp j m x at_w (f.earlier p j x at_n)) (sym place ∙ sym f.count) in
      let one = acts_w p i (at w step) isp here in
      let other = acts_v p i n (subst (λ (z : Setting). IsMember z.members p) (sym group) isp) there in
      let act : other.0 ≡ one.0 = some-same other.0 one.0 (sym other.1 ∙ one.1) in
      let x = told_step w p step one.0 one.2 mine in
      let y = told_step n.before p n.step one.0 (other.2 ∙ ap Some act) f.actor in
      let wires : (name : FullName) → one.0 ≡ Receive name → wire_to (state_of w) p x.serial ≡ wire_to (state_of n.before) p y.serial =
      λ name is.
      let rx = receipt_by w p step one.0 h x e name is in
      let ry = receipt_by n.before p n.step one.0 f.state y f.enabled name is in
      both_get (state_of w) (state_of n.before) p x.serial y.serial rx.wire ry.wire rx.gets
      (same_wire w v n.before p x.serial y.serial name r u f.run group old f.earlier rx ry) ry.gets in
      record {
        like = like;
        outcome =
            ap (λ z. outcome_of w.setting (state_of w) z) x.is
            ∙ (outcome_local w.setting (state_of w) (state_of n.before) p x.serial y.serial one.0 like
            (same_gets (state_of w) (state_of n.before) p x.serial y.serial one.0 wires)
            ∙ (ap (λ z. outcome_of w.setting (state_of n.before) z) (sym y.is)
            ∙ ap (λ (z : Setting). outcome_of z (state_of n.before) n.step) (sym setting)));
      }

-- the lines of a longer run are those of a shorter one
pub acts_less : (a : ℕ → ℕ → Option LogAct) (w : Rehearsal) (step : Step) → Acts a (extended w step) → Acts a w
unfolding Acts
acts_less a w step acts p i m isp there = acts p i m isp (own_front w step p i m there)

AllSame : Rehearsal → Type 0
AllSame w = (a : ℕ → ℕ → Option LogAct) (v : Rehearsal) → IsRun v → v.setting ≡ w.setting → Acts a w → Acts a v → (p : ℕ) →
    IsMember w.setting.members p → AreSame w v p

all_same_more : (w : Rehearsal) (step : Step) (h : State) → IsRun w → next w.setting (state_of w) step ≡ Some h → AllSame w →
    AllSame (extended w step)
unfolding AllSame AreSame
all_same_more w step h r e old a v u group acts_w acts_v p isp i m n there also = elim (own_cases w step p i m there) [
  | inl b ↦ old a v u group (acts_less a w step acts_w) acts_v p isp i m n b also
  | inr b ↦
      subst (λ x. IsSame p x n) (sym b.is)
      (step_same a w step h r e v u group acts_w acts_v (old a v u group (acts_less a w step acts_w) acts_v) p i n isp
      (there ∙ ap Some b.is) (own_actor p (at w step) b.own) also b.place)
]

-- own steps of one place in two runs of one set of lines are the same
pub same_deeds : (a : ℕ → ℕ → Option LogAct) (w v : Rehearsal) → IsRun w → IsRun v → v.setting ≡ w.setting → Acts a w → Acts a v →
    (p : ℕ) → IsMember w.setting.members p → AreSame w v p
unfolding AllSame AreSame
same_deeds a w v r u group acts_w acts_v =
    by_steps AllSame (λ s cells a v u group acts_w acts_v p isp. nothing s cells v p) all_same_more w r a v u group acts_w acts_v
  where
    nothing : (s : Setting) (cells : ℕ) (v : Rehearsal) (p : ℕ) → AreSame (empty s cells) v p
    nothing s cells v p i m n there also = some-none m (sym (ap (λ l. slice_get l i) (no_own s cells p)) ∙ there)
