-- What members send is of their group, and counted from 1 on.
use Rattle.ct_merge.proofs.Common.{◌≡◌, ℕ, zero, suc, ◌+◌, ◌≤◌, Bool, true, false, Some, map, inl, inr, sym, ap, ◌∙◌, subst, arith}
use Rattle.ct_merge.proofs.Common.{if◌then◌else◌, IsMember, IsIn, actor, Envelope, Mail, Standing, Turn, Wire, Outcome, next, own_ballots}
use Rattle.ct_merge.proofs.Common.{row, turn_at, is_gather, is_rest, is_tally, decided, Rehearsal, empty, extended, state_of, Setting}
use Rattle.ct_merge.proofs.Common.{Member, State, at_serial, member, All, Nobody, Move, Adopt, Choose, Conclude, Enter, Suspect, Phase}
use Rattle.ct_merge.proofs.Common.{Step, some-none, Holds, Carries, get-wire, p_or_other, member-first, sent-first, state-first, adopt-is}
use Rattle.ct_merge.proofs.Common.{choose-is, conclude-is, enter-is, suspect-is, by_shape, carried_of, IsFrom, letter, IsRun, IsOfGroup}
use Rattle.ct_model.specs.Next.{is_relayed}
use Rattle.ct_model.specs.Phases.{is_wait}
use Rattle.ct_model.proofs.Consensus.Facts.{member_is}
use Rattle.ct_model.proofs.Consensus.Sent.{Sent, Sent-cases, Sent-wire}
use Rattle.ct_merge.proofs.Running.{by_steps, known, state_next}
use Rattle.ct_merge.proofs.SentOnce.{member_mine, member_theirs, stepping}
use Rattle.ct_model.specs.declared.wire.Wire.TheVariants as wire

-- what the mail carries is of a group of n
abbrev AreOfGroup : ℕ → Mail → Type 0
AreOfGroup n mail = (x : Wire) → Carries mail x → IsOfGroup n (carried_of x)

-- a member with an open instance has begun one
abbrev HasBegun : Member → Type 0
HasBegun m = (c : Standing) → m.current ≡ Some c → 1 ≤ m.last

-- a phase of a round that was entered
gathers : (f : Phase) → is_gather f ≡ true → is_rest f ≡ false
gathers f e = grind arith

waits : (f : Phase) → is_wait f ≡ true → is_rest f ≡ false
waits f e = grind arith

tallies : (f : Phase) → is_tally f ≡ true → is_rest f ≡ false
tallies f e = grind arith

module _ (n q : ℕ) (m : Member) (c : Standing) (first : 1 ≤ m.last) where
  concludes : 1 ≤ c.round → (majority : Bool) → AreOfGroup n (if majority then All (wire.Dec m.last c.round c.estimate) else Nobody)
  concludes round true x e = subst (λ z. IsOfGroup n (carried_of z)) (sym e) (first, round)
  concludes round false x e = absurd e

  turn_group : (is_rest c.phase ≡ false → 1 ≤ c.round) → (a : Move) (t : Turn) → turn_at n q m a c ≡ Some t → AreOfGroup n t.mail
  turn_group started Enter t h =
      let f = enter-is n q m.last (decided m.got m.last) c t h in
      let round : 1 ≤ c.round + 1 = omega arith in
      subst (λ (y : Turn). AreOfGroup n y.mail) f.gives (λ x e. subst (λ z. IsOfGroup n (carried_of z)) (sym e) (first, round))
  turn_group started (Choose from) t h =
      let f = choose-is n m.last (own_ballots m c) c from t h in
      let round = started (gathers c.phase f.gathers) in
      subst (λ (y : Turn). AreOfGroup n y.mail) f.gives (λ x e. subst (λ z. IsOfGroup n (carried_of z)) (sym e) (first, round))
  turn_group started Adopt t h =
      let f = adopt-is n q m.last (own_ballots m c) c t h in
      let round = started (waits c.phase f.waits) in
      subst (λ (y : Turn). AreOfGroup n y.mail) f.gives (λ x e. subst (λ z. IsOfGroup n (carried_of z)) (sym e) (first, round))
  turn_group started Suspect t h =
      let f = suspect-is n q m.last (own_ballots m c) c t h in
      let round = started (waits c.phase f.waits) in
      subst (λ (y : Turn). AreOfGroup n y.mail) f.gives (λ x e. subst (λ z. IsOfGroup n (carried_of z)) (sym e) (first, round))
  turn_group started Conclude t h =
      let f = conclude-is n m.last (own_ballots m c) c t h in
      subst (λ (y : Turn). AreOfGroup n y.mail) f.gives (concludes (started (tallies c.phase f.tallies)) _)

-- each member with an open instance has begun one, and what was sent is of the group
record IsUsual (s : Setting) (g : State) : Type 0 where
  pub begun : (p : ℕ) → IsMember s.members p → HasBegun (member g p)
  pub sent : (x : Wire) → Sent g x → IsOfGroup s.members (carried_of x)

abbrev IsUsualStep : Setting → Outcome → Type 0
IsUsualStep s o = HasBegun o.member × AreOfGroup s.members o.mail

gets_group : (n : ℕ) (w : Wire) → IsOfGroup n (carried_of w) → (b : Bool) → AreOfGroup n (if b then All w else Nobody)
gets_group n w h true x e = subst (λ z. IsOfGroup n (carried_of z)) (sym e) h
gets_group n w h false x e = absurd e

usual_step : (s : Setting) (g : State) (q : ℕ) → Holds s g → IsMember s.members q → IsUsual s g → (step : Step) (o : Outcome) →
    row s g q (member g q) step ≡ Some o → IsUsualStep s o
usual_step s g q holds is old step o =
    by_shape s g q (member g q) (IsUsualStep s) step o (record {
      submits = λ c good. (
        old.begun q is,
        λ x e. subst (λ z. IsOfGroup s.members (carried_of z)) (sym e) (is, omega arith),
      );
      gets = λ k w at. (
        old.begun q is,
        gets_group s.members w (old.sent w (Sent-wire g q k w at)) (is_relayed s q (member g q).got w),
      );
      opens = λ idle some. ((λ c at. omega arith), (λ x e. absurd e));
      turns = λ a c t open_at taken. (
        λ d at. old.begun q is c open_at,
        turn_group s.members q (member g q) c (old.begun q is c open_at) (holds.sound q is c open_at).started a t taken,
      );
      closes = λ c v open_at has delivers. ((λ d at. some-none d at), (λ x e. absurd e));
      follows = λ v idle has delivers. ((λ d at. some-none d at), (λ x e. absurd e));
      marks = λ crashed. (old.begun q is, λ x e. absurd e);
    })

usual_first : (s : Setting) (cells : ℕ) → IsUsual s (state_of (empty s cells))
usual_first s cells = subst (λ g. IsUsual s g) (sym (state-first s cells)) (record {
  begun = λ p isp c at. some-none c (sym (ap (λ (m : Member). m.current) (member-first s p)) ∙ at);
  sent = λ x there.
      let none : ⊥ = subst (λ l. IsIn x (map (λ (e : Envelope). e.wire) l)) (sent-first s) there in
      absurd none;
})

usual_more : (w : Rehearsal) (step : Step) (h : State) → IsRun w → next w.setting (state_of w) step ≡ Some h →
    IsUsual w.setting (state_of w) → IsUsual w.setting (state_of (extended w step))
usual_more w step h r e old =
    let t = stepping w step h r e in
    let facts = known w r in
    let q : ℕ = actor step in
    let now : IsUsualStep w.setting (t.outcome) =
    usual_step w.setting (state_of w) q facts.holds (member_is w.setting.members q t.in_group) old step t.outcome t.row in
    subst (λ g. IsUsual w.setting g) (sym (state_next w step h e)) (record {
      begun = λ p isp. elim (p_or_other p q) [
        | inl same ↦
            subst HasBegun (sym (ap (λ x. member h x) same ∙ member_mine w.setting (state_of w) step h t facts.holds facts.knows)) now.0
        | inr ne ↦
            subst HasBegun (sym (member_theirs w.setting (state_of w) step h t facts.holds facts.knows p isp ne)) (old.begun p isp)
      ];
      sent = λ x there.
          elim (Sent-cases w.setting (state_of w) q t.outcome x (subst (λ g. Sent g x) (sym t.gives) there)) [
            | inl before ↦ old.sent x before
            | inr new ↦ now.1 x new
          ];
    })

-- what was sent in a run is of its group
pub sent_group : (w : Rehearsal) → IsRun w → (p q : ℕ) (x : Wire) (k : ℕ) → IsFrom w p q x k → IsOfGroup w.setting.members (carried_of x)
sent_group w r p q x k f = usual.sent x (there k f.there)
  where
    usual : IsUsual w.setting (state_of w)
    usual = by_steps (λ w. IsUsual w.setting (state_of w)) usual_first usual_more w r

    there : (k : ℕ) → at_serial (state_of w).sent k ≡ Some (letter q x) → Sent (state_of w) x
    there zero e = some-none (letter q x) e
    there (suc i) e = get-wire (state_of w).sent i (letter q x) e
