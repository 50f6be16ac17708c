-- Lines that are never taken: no run of the lines of logs goes beyond one.
use Rattle.ct_merge.proofs.Common.{◌≡◌, ℕ, ◌<◌, ◌≤◌, true, false, ◌++◌, Option, Some, length, inl, inr, refl, sym, ap, ap₂, ◌∙◌, subst}
use Rattle.ct_merge.proofs.Common.{arith, ◌+◌, Bool, List, IfSome, slice_get, option_map, IsMember, actor, Wire, without_value, Outcome}
use Rattle.ct_merge.proofs.Common.{after, next, Rehearsal, state_of, extended, empty, senders, Setting, State, Member, member, is_crashed}
use Rattle.ct_merge.proofs.Common.{submissions, at_serial, Step, number_same, next-is, IsDone, IsThere, IsBarred, nobody, stopped, unable}
use Rattle.ct_merge.proofs.Common.{unknown, letter, Sends, IsFrom, IsPosted, IsSame, outcome_of, IsLike, gets, Moment, act_of, is_own, own}
use Rattle.ct_merge.proofs.Common.{IsMerge, IsTold, log_of, step_of, carried_of, named, IsRun, IsBegun, IsOfGroup, SendsNoMore, Carried}
use Rattle.ct_merge.proofs.Common.{FullName, LogAct, Receive, Vec, is_stated, outcome, down, never, refused, waits, LogLine}
use Rattle.ct_model.specs.Next.{wire_to}
use Rattle.ct_merge.specs.Barred.{AreBarred}
use Rattle.ct_play.specs.Picking.{sender_of}
use Rattle.ct_merge.specs.Names.{full_name}
use Rattle.ct_merge.proofs.Local.{next_outcome, outcome_local, outcome_is}
use Rattle.ct_merge.proofs.Moments.{get_below, get_last, get_there, placed, no_own, own_actor, own_front}
use Rattle.ct_merge.proofs.Unable.{NoMoreIn, no_more_sends}
use Rattle.ct_merge.proofs.OfGroup.{sent_group}
use Rattle.ct_merge.proofs.SentOnce.{named_past, stepping}
use Rattle.ct_merge.proofs.Owning.{at, only, own_more, own_grown}
use Rattle.ct_merge.proofs.Posting.{is_named, posted, sent_serial}
use Rattle.ct_merge.proofs.Sameness.{Acts, AreSame, below_or_not, both_get, like_there, same_deeds, same_wire, sends_same}
use Rattle.ct_merge.proofs.Telling.{IsReceipt, IsToldStep, carried_same, receipt_by, wire_named, told_step}
use Rattle.ct_merge.proofs.Begun.{IsByLines, acts_by, acts_in, by_lines, is_member_of, merge_begun, zip_length}
use Rattle.ct_merge.proofs.Outcomes.{outcome_same}
use Rattle.ct_merge.proofs.Running.{by_steps, run_next}
use Rattle.ct_merge.proofs.Taking.{own_step}

-- ---- what is there

abbrev full : Carried → ℕ → FullName
full c q = record { carried = c; from = q }

pub there_named : (w : Rehearsal) (p q k : ℕ) (x : Wire) (name : FullName) → IsFrom w q p x k → carried_of x ≡ name.carried →
    q ≡ name.from → full_name w k ≡ Some name
unfolding full_name sender_of
there_named w p q k x name f carried from =
    ap (λ o. named (option_map without_value o) (at_serial (senders w.setting w.steps) k)) f.there
    ∙ (ap (λ o. named (Some (without_value (letter p x))) o) f.sender
    ∙ ap Some (ap₂ full (carried_same x ∙ carried) from))

pub there_wire : (w : Rehearsal) (p q k : ℕ) (x : Wire) → IsFrom w q p x k → wire_to (state_of w) p k ≡ Some x
unfolding wire_to
there_wire w p q k x f = rw (f.there, number_same p p refl) refl

pub enabled_of : (s : Setting) (g : State) (step : Step) (o : Outcome) → outcome_of s g step ≡ Some o →
    next s g step ≡ Some (after s g (actor step) o)
enabled_of s g step o e = next_outcome s g step ∙ ap (option_map (after s g (actor step))) e

-- what an own step sent is there
pub sent_there : (w : Rehearsal) → IsRun w → (q i : ℕ) (m : Moment) (p : ℕ) (x : Wire) (name : FullName) → name.from ≡ q →
    carried_of x ≡ name.carried → slice_get (own w q) i ≡ Some m → Sends m p x → IsThere w p name
sent_there w r q i m p x name from carried there sends =
    let k = sent_serial w r q i m p x there sends in
    record { serial = k.0; wire = x; from = subst (λ z. IsFrom w z p x k.0) (sym from) k.1; carried = carried }

-- who never sends it sends nothing of that name at an own step
done_apart : (w t : Rehearsal) → IsRun w → t.setting ≡ w.setting → (q i j : ℕ) (m n : Moment) (p : ℕ) (x : Wire) (c : Carried) →
    IsMember w.setting.members q → slice_get (own w q) i ≡ Some m → slice_get (own w q) j ≡ Some n → i ≤ j →
    IsLike q (state_of m.before) (state_of t) → Sends n p x → carried_of x ≡ c → IsDone t q p c → ⊥
done_apart w t r group q i j m n p x c isq there also low alike sends carried (nobody out) =
    out (subst (λ (z : Setting). IsMember z.members q) (sym group) isq)
done_apart w t r group q i j m n p x c isq there also low alike sends carried (stopped crashed) =
    let b = placed w r q i m there in
    let s = next-is m.before.setting (state_of m.before) m.step b.state b.enabled in
    let up : is_crashed (state_of m.before) q ≡ false = subst (λ z. is_crashed (state_of m.before) z ≡ false) b.actor s.up in
    let fell : is_crashed (state_of m.before) q ≡ true = ap (λ (z : Member). z.crashed) alike.member ∙ crashed in
    cc
done_apart w t r group q i j m n p x c isq there also low alike sends carried (unknown foreign) =
    let k = sent_serial w r q j n p x also sends in
    foreign (subst (λ (z : Setting). IsOfGroup z.members c) (sym group)
    (subst (λ z. IsOfGroup w.setting.members z) carried (sent_group w r q p x k.0 k.1)))
done_apart w t r group q i j m n p x c isq there also low alike sends carried (unable more) =
    let here : NoMoreIn w.setting (state_of m.before) q p c =
    subst (λ (z : Setting). NoMoreIn z (state_of m.before) q p c) group
    (subst (λ z. SendsNoMore t.setting.members q p z (submissions (state_of m.before).submitted q) c) (sym alike.member)
    (subst (λ z. SendsNoMore t.setting.members q p (member (state_of t) q) z c) (sym alike.submitted) more)) in
    no_more_sends w r q i j m n p x isq there also low (subst (λ z. NoMoreIn w.setting (state_of m.before) q p z) (sym carried) here) sends

-- ---- a member whose line is barred

module _ (a : ℕ → ℕ → Option LogAct) (t : Rehearsal) (u : IsRun t) (acts_t : Acts a t) where
  -- a step of its own that the line tells of
  module _ (w : Rehearsal) (step : Step) (h : State) (r : IsRun w) (e : next w.setting (state_of w) step ≡ Some h)
      (group : t.setting ≡ w.setting) (acts_w : Acts a w) (p : ℕ) (isp : IsMember w.setting.members p)
      (count : length (own w p) ≡ length (own t p)) (act : LogAct) (x : IsToldStep w p step act) where
    ist : (q : ℕ) → IsMember w.setting.members q → IsMember t.setting.members q
    ist q isq = subst (λ (z : Setting). IsMember z.members q) (sym group) isq

    same : (q : ℕ) → IsMember w.setting.members q → AreSame w t q
    same = same_deeds a w t r u group acts_w acts_t

    pub like : IsLike p (state_of w) (state_of t)
    like = like_there w t p r u isp (ist p isp) (same p isp) count

    -- what it receives
    pub receipt : (name : FullName) → act ≡ Receive name → IsReceipt w p x.serial name
    receipt name is = receipt_by w p step act h x e name is

    -- and which own step sent that
    pub post : (name : FullName) (is : act ≡ Receive name) → IsPosted w name.from p (receipt name is).wire
    post name is = posted w r name.from p (receipt name is).wire x.serial (receipt name is).from

    pub poster : (name : FullName) (is : act ≡ Receive name) → IsMember w.setting.members name.from
    poster name is =
        (named_past w r name.from p (carried_of (receipt name is).wire) x.serial
        (is_named w name.from p (receipt name is).wire x.serial (receipt name is).from)).0

    -- it is none that t has too, as that would be there
    pub not_before : (name : FullName) (is : act ≡ Receive name) → (IsThere t p name → ⊥) →
        length (own t name.from) ≤ (post name is).place
    unfolding AreSame
    not_before name is unsent = elim (below_or_not (post name is).place (length (own t name.from))) [
      | inl low ↦
          let f = post name is in
          let n = get_there (own t name.from) f.place low in
          let deed = same name.from (poster name is) f.place f.moment n.0 f.there n.1 in
          let b = placed w r name.from f.place f.moment f.there in
          let c = placed t u name.from f.place n.0 n.1 in
          absurd (unsent (sent_there t u name.from f.place n.0 p (receipt name is).wire name refl (receipt name is).carried n.1
          (sends_same f.moment n.0 p (receipt name is).wire deed.outcome (b.setting ∙ (sym group ∙ sym c.setting)) f.sends)))
      | inr high ↦ high
    ]

    -- it is no step of a member that is done with it
    pub not_done : (name : FullName) (is : act ≡ Receive name) → length (own t name.from) ≤ (post name is).place →
        IsDone t name.from p name.carried → ⊥
    unfolding AreSame
    not_done name is later done =
        let f = post name is in
        let low : f.place < length (own w name.from) = get_below (own w name.from) f.place f.moment f.there in
        let m = get_there (own w name.from) (length (own t name.from)) (omega arith) in
        let b = placed w r name.from (length (own t name.from)) m.0 m.1 in
        let ism : IsMember (m.0).before.setting.members name.from =
        subst (λ (z : Setting). IsMember z.members name.from) (sym b.setting) (poster name is) in
        let alike : IsLike name.from (state_of (m.0).before) (state_of t) =
        like_there (m.0).before t name.from b.run u ism (ist name.from (poster name is))
        (λ i y z at_m at_t. same name.from (poster name is) i y z (b.earlier name.from i y at_m) at_t) b.count in
        done_apart w t r group name.from (length (own t name.from)) f.place m.0 f.moment p (receipt name is).wire name.carried
        (poster name is) m.1 f.there later alike f.sends (receipt name is).carried done

    -- so the line is not barred
    found : (act : LogAct) → ((name : FullName) → act ≡ Receive name → IsThere t p name) →
        ((name : FullName) → act ≡ Receive name → IsReceipt w p x.serial name) →
        (k : ℕ) × (act_of t (step_of p k act) ≡ Some act) × (gets (state_of w) p x.serial act ≡ gets (state_of t) p k act)
    found (Receive name) there received =
        let f = there name refl in
        let full_t : full_name t f.serial ≡ Some name = there_named t p name.from f.serial f.wire name f.from f.carried refl in
        let y = wire_named t p f.serial name f.wire full_t (there_wire t p name.from f.serial f.wire f.from) in
        let z = received name refl in (
          f.serial,
          ap (option_map Receive) full_t,
          both_get (state_of w) (state_of t) p x.serial f.serial z.wire y.wire z.gets
              (same_wire w t t p x.serial f.serial name r u u group same (λ q j n at. at) z y) y.gets,
        )
    found _ there received = (0, refl, refl)

    -- what a line tells of behind the shorter run is enabled behind the longer one
    pub enabled_too : ((name : FullName) → act ≡ Receive name → IsThere t p name) →
        (k : ℕ) × (act_of t (step_of p k act) ≡ Some act) × (outcome_of w.setting (state_of w) step
        ≡ outcome_of t.setting (state_of t) (step_of p k act))
    enabled_too there =
        let f = found act there receipt in (
          f.0,
          f.1,
          ap (λ z. outcome_of w.setting (state_of w) z) x.is
              ∙ (outcome_local w.setting (state_of w) (state_of t) p x.serial f.0 act like f.2
              ∙ ap (λ (z : Setting). outcome_of z (state_of t) (step_of p f.0 act)) (sym group)),
        )

pub own_last : (w : Rehearsal) (step : Step) (p : ℕ) → is_own p (at w step) ≡ true →
    slice_get (own (extended w step) p) (length (own w p)) ≡ Some (at w step)
own_last w step p mine =
    ap (λ l. slice_get l (length (own w p))) (own_more w p step ∙ ap (λ b. own w p ++ only b (at w step)) mine)
    ∙ get_last (own w p) (at w step)

module _ (logs : List (Vec LogLine)) (t : Rehearsal) (u : IsRun t) (lines_t : IsByLines logs t) (stays : ℕ → Bool)
    (barred : (p : ℕ) → stays p ≡ true → IsMember t.setting.members p → (line : LogLine) →
    slice_get (log_of logs p) (length (own t p)) ≡ Some line → IsBarred t stays p line) where
  acts_t : Acts (acts_in logs) t
  acts_t = acts_by logs t lines_t

  NotBeyond : Rehearsal → Type 0
  NotBeyond w = t.setting ≡ w.setting → IsByLines logs w → (p : ℕ) → stays p ≡ true → IsMember w.setting.members p →
      length (own w p) ≤ length (own t p)

  module _ (w : Rehearsal) (step : Step) (h : State) (r : IsRun w) (e : next w.setting (state_of w) step ≡ Some h)
      (group : t.setting ≡ w.setting) (lines : IsByLines logs w)
      (old : (p : ℕ) → stays p ≡ true → IsMember w.setting.members p → length (own w p) ≤ length (own t p)) (p : ℕ)
      (isp : IsMember w.setting.members p) (mine : is_own p (at w step) ≡ true) (count : length (own w p) ≡ length (own t p))
      (line : LogLine) (told : IsTold (at w step) line) where
    acts_w : Acts (acts_in logs) w
    acts_w = acts_by logs w lines

    x : IsToldStep w p step line.act
    x = told_step w p step line.act told.act (own_actor p (at w step) mine)

    alike : IsLike p (state_of w) (state_of t)
    alike = like (acts_in logs) t u acts_t w step h r e group acts_w p isp count line.act x

    -- the same step is taken behind the longer run
    taken_too : ((name : FullName) → line.act ≡ Receive name → IsThere t p name) →
        ((k : ℕ) (h : State) → next t.setting (state_of t) (step_of p k line.act) ≡ Some h →
        IsTold (at t (step_of p k line.act)) line → ⊥) → ⊥
    taken_too there none =
        let f = enabled_too (acts_in logs) t u acts_t w step h r e group acts_w p isp count line.act x there in
        let s = stepping w step h r e in
        let step_t : Step = step_of p f.0 line.act in
        let go = enabled_of t.setting (state_of t) step_t s.outcome (sym f.2 ∙ outcome_is w.setting (state_of w) step h s) in
        let same : IsSame p (at w step) (at t step_t) = record { like = alike; outcome = f.2 } in
        let came : outcome (extended w step) step ≡ outcome (extended t step_t) step_t =
        outcome_same (extended w step) (extended t step_t) p (length (own w p)) (length (own t p)) (at w step) (at t step_t) line.act
        (run_next w step h r e) (run_next t step_t (after t.setting (state_of t) (actor step_t) s.outcome) u go) group isp
        (own_last w step p mine) (own_last t step_t p (own_step t p f.0 line.act)) told.act f.1 same in
        none f.0 (after t.setting (state_of t) (actor step_t) s.outcome) go (record {
          act = f.1;
          said = subst (λ z. IfSome line.said (λ said. is_stated z said ≡ true)) came told.said;
        })

    by_bar : IsBarred t stays p line → ⊥
    by_bar (never name is unsent done) =
        not_done (acts_in logs) t u acts_t w step h r e group acts_w p isp count line.act x name is
        (not_before (acts_in logs) t u acts_t w step h r e group acts_w p isp count line.act x name is unsent) done
    by_bar (waits name is unsent stay) =
        let later = not_before (acts_in logs) t u acts_t w step h r e group acts_w p isp count line.act x name is unsent in
        let f = post (acts_in logs) t u acts_t w step h r e group acts_w p isp count line.act x name is in
        let low = get_below (own w name.from) f.place f.moment f.there in
        let most = old name.from stay (poster (acts_in logs) t u acts_t w step h r e group acts_w p isp count line.act x name is) in
        omega arith
    by_bar (down crashed) =
        let s = stepping w step h r e in
        let up : is_crashed (state_of w) p ≡ false = subst (λ q. is_crashed (state_of w) q ≡ false) (own_actor p (at w step) mine) s.up in
        let here : is_crashed (state_of w) p ≡ true = ap (λ (m : Member). m.crashed) alike.member ∙ crashed in
        cc
    by_bar (refused there none) = taken_too there none

  not_beyond_more : (w : Rehearsal) (step : Step) (h : State) → IsRun w → next w.setting (state_of w) step ≡ Some h → NotBeyond w →
      NotBeyond (extended w step)
  unfolding NotBeyond IsByLines
  not_beyond_more w step h r e old group lines p stay isp = by_test (is_own p (at w step)) refl
    where
      shorter : IsByLines logs w
      shorter q i m isq there = lines q i m isq (own_front w step q i m there)

      before : (q : ℕ) → stays q ≡ true → IsMember w.setting.members q → length (own w q) ≤ length (own t q)
      before = old group shorter

      last : is_own p (at w step) ≡ true → length (own w p) ≡ length (own t p) → ⊥
      last mine count =
          let f = lines p (length (own w p)) (at w step) isp (own_last w step p mine) in
          by_bar w step h r e group shorter before p isp mine count f.0 f.2
          (barred p stay (subst (λ (z : Setting). IsMember z.members p) (sym group) isp) f.0
          (subst (λ i. slice_get (log_of logs p) i ≡ Some f.0) count f.1))

      by_test : (b : Bool) → is_own p (at w step) ≡ b → length (own (extended w step) p) ≤ length (own t p)
      by_test false is =
          let same : length (own (extended w step) p) ≡ length (own w p) + 0 = own_grown w p step false is in
          let low : length (own w p) ≤ length (own t p) = before p stay isp in
          omega arith
      by_test true is =
          let more : length (own (extended w step) p) ≡ length (own w p) + 1 = own_grown w p step true is in
          let low : length (own w p) ≤ length (own t p) = before p stay isp in
          elim (below_or_not (length (own w p)) (length (own t p))) [
            | inl less ↦ omega arith
            | inr high ↦ absurd (last is (omega arith))
          ]

  not_beyond : (w : Rehearsal) → IsRun w → NotBeyond w
  unfolding NotBeyond
  not_beyond = by_steps NotBeyond
      (λ s cells group lines p stay isp.
      let none : length (own (empty s cells) p) ≡ 0 = ap length (no_own s cells p) in
      omega arith)
      not_beyond_more

-- a run of first lines of logs goes no further than one behind which the next lines of these members are barred
pub no_further : (logs : List (Vec LogLine)) (t w : Rehearsal) (stays : ℕ → Bool) → IsRun t → IsRun w → t.setting ≡ w.setting →
    IsBegun t logs → IsBegun w logs → AreBarred logs t stays → (p : ℕ) → stays p ≡ true →
    IsMember w.setting.members p → length (own w p) ≤ length (own t p)
unfolding NotBeyond
no_further logs t w stays u r group a b barred = not_beyond logs t u (by_lines logs t a) stays barred w r group (by_lines logs w b)

-- so where one of their logs goes on no run is a merge
pub no_merge : (logs : List (Vec LogLine)) (t w : Rehearsal) (stays : ℕ → Bool) → IsRun t → IsRun w → t.setting ≡ w.setting →
    IsBegun t logs → AreBarred logs t stays → (p : ℕ) → stays p ≡ true → IsMember w.setting.members p →
    length (own t p) < length (log_of logs p) → IsMerge w logs → ⊥
no_merge logs t w stays u r group a barred p stay isp more merge =
    let low = no_further logs t w stays u r group a (merge_begun w logs merge) barred p stay isp in
    let all : length (own w p) ≡ length (log_of logs p) =
    zip_length IsTold (own w p) (log_of logs p) (merge p (is_member_of w.setting.members p isp)) in
    omega arith
