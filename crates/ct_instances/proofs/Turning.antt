-- The steps of the open instance: with values by number they are refused and taken as with the values themselves.
use Rattle.std.proofs.Common.{◌≡◌, ℕ, false, List, [], ◌∷◌, ◌+◌, Option, Some, None, is_none, option_map, refl, ap, sym, ◌∙◌, subst}
use Rattle.std.specs.Prelude.{nat_lt, ◌&&◌}
use Rattle.std.specs.Option.{option_map_or}
use Rattle.ct_names.specs.declared.limit.TheConstants.{MAX_ROUNDS}
use Rattle.ct_names.specs.declared.refusal.Refusal.TheVariants.{Idle}
use Rattle.ct_names.specs.Value.{Value}
use Rattle.ct_model.specs.declared.moves.Move.{Move}
use Rattle.ct_model.specs.Setting.{Setting}
use Rattle.ct_model.specs.State.{State, Member, Standing as AnyStanding, Turn as AnyTurn}
use Rattle.ct_model.specs.AtValue.{Standing, Turn}
use Rattle.ct_model.specs.Received.{Ballots, decided}
use Rattle.ct_model.specs.Faults.{faults_of}
use Rattle.ct_model.specs.Moves.{step_of, turn_of, sent_by, is_enter}
use Rattle.ct_model.specs.Mapped.{standing_map, turn_map}
use Rattle.ct_model.specs.Next.{own_ballots, turn_at, round_row, turned}
use Rattle.ct_model.specs.Cause.{Test, at, first_fault, open_tests, faults_at, tests}
use Rattle.ct_model.proofs.Steps.RoundSteps.{turn-map, faults-map, tests-move}
use Rattle.ct_model.proofs.Basics.Options.{some-same, made-map, made-then}
use Rattle.ct_rounds.specs.Part.{Part, got}
use Rattle.ct_instances.specs.Kept.{Kept}
use Rattle.ct_instances.specs.Keeping.{IsPartOf, KeepsInstances}
use Rattle.ct_instances.specs.Named.{value_at, NamesMail, NamesStanding, NamesBallots, NamesDecision}
use Rattle.ct_instances.specs.Steps.{Stepped, open_rounds, open_decision, tests_by, faults, with_standing, step_by, taken, sent}
use Rattle.ct_instances.specs.Steps.{passes_rounds}
use Rattle.ct_instances.proofs.Named.{mate, standing_some, standing_round}

-- a step of the open instance was taken, by its row at the values themselves
pub record IsTurnedBy (m : Member) (values : List Value) (step : Standing → Option Turn) (n p : ℕ) (stepped : Stepped) : Type 0 where
  pub standing : Standing
  pub is_open : m.current ≡ Some standing
  pub turn : Turn
  pub taken : step standing ≡ Some turn
  pub mail : NamesMail values stepped.mail turn.mail
  pub keeps : KeepsInstances n values p (record m { current = Some turn.after }) stepped.after

-- so the row of the step gives this turn
pub turned-row : (m : Member) (values : List Value) (step : Standing → Option Turn) (n p : ℕ) (stepped : Stepped)
    (t : IsTurnedBy m values step n p stepped) → round_row m step ≡ Some (turned m t.turn)
turned-row m values step n p stepped t = rw (t.is_open, t.taken) refl

module _ (s : Setting) (values : List Value) (p : ℕ) (m : Member) (kept : Kept) (h : KeepsInstances s.members values p m kept) where
  -- the standing is that of the part, with its value
  abbrev Names : Part → Standing → Type 0
  Names c x = standing_map (value_at values) c.standing ≡ standing_map Some x

  -- what is the same of no part and none, and of a part and its standing, is the same of the open ones
  met : {A : Type 0} (f : Option Part → A) (g : Option Standing → A) → f None ≡ g None →
      ((c : Part) (x : Standing) → kept.part ≡ Some c → Names c x → f (Some c) ≡ g (Some x)) → f kept.part ≡ g m.current
  met {A} f g none some = go kept.part m.current refl h.standing
    where
      go : (o : Option Part) (u : Option Standing) → kept.part ≡ o → NamesStanding values (option_map (λ c. c.standing) o) u → f o ≡ g u
      go None None is e = none
      go (Some c) (Some x) is e = some c x is (some-same (standing_map (value_at values) c.standing) (standing_map Some x) e)
      go _ _ is e = absurd (cc)

  -- what was got for its round
  own : (c : Part) (x : Standing) → Names c x → NamesBallots values (got (open_rounds kept) c) (own_ballots m x)
  own c x e = rw (← h.last, ← standing_round values c.standing x e) (h.ballots kept.last c.standing.round)

  own-decision : NamesDecision values (open_decision kept) (decided m.got m.last)
  own-decision = rw (← h.last) (h.decisions kept.last)

  -- what is read of the open instance

  pub keeps-round : option_map (λ c. c.standing.round) kept.part ≡ option_map (λ c. c.round) m.current
  keeps-round =
      met (option_map (λ c. c.standing.round)) (option_map (λ c. c.round)) refl
      (λ c x is e. ap (λ (z : AnyStanding (Option Value)). Some z.round) e)

  -- the tests

  tests-same : (a : Part → List Test) (b : Standing → List Test) →
      ((c : Part) (x : Standing) → kept.part ≡ Some c → Names c x → a c ≡ b x) →
      first_fault (tests_by a kept) ≡ first_fault (open_tests m b)
  tests-same a b same =
      met (λ o. first_fault (at Idle (is_none o) ∷ option_map_or a o [])) (λ u. first_fault (at Idle (is_none u) ∷ option_map_or b u []))
      refl
      (λ c x is e. ap first_fault (same c x is e))

  pub action-tests : (g : State) (line : List ℕ) (q : ℕ) (a : Move) →
      first_fault (faults kept a) ≡ first_fault (tests s g m line (step_of q a))
  action-tests g line q a =
      tests-same (λ c. faults_of c.members (open_decision kept) (got (open_rounds kept) c) c.standing a) (faults_at s.members m a)
      (λ c x is e.
      cc (
        (h.part c is).members_is,
        faults-map (value_at values) s.members (open_decision kept) (got (open_rounds kept) c) c.standing a,
        own-decision,
        own c x e,
        e,
        faults-map Some s.members (decided m.got m.last) (own_ballots m x) x a,
      ))
      ∙ ap first_fault (sym (tests-move s g m line q a))

  pub action-sent : (a : Move) → sent kept a ≡ option_map_or (λ x. sent_by s.members (own_ballots m x).acked a) m.current 0
  action-sent a =
      met (λ o. option_map_or (λ c. sent_by c.members (got (open_rounds kept) c).acked a) o 0)
      (λ u. option_map_or (λ x. sent_by s.members (own_ballots m x).acked a) u 0) refl
      (λ c x is e.
      ap (λ n. sent_by n (got (open_rounds kept) c).acked a) (h.part c is).members_is
      ∙ ap (λ (t : Ballots (Option Value)). sent_by s.members t.acked a) (own c x e))

  pub action-passes : (a : Move) → passes_rounds kept a ≡ (is_enter a
      && option_map_or (λ x. nat_lt MAX_ROUNDS (x.round + 1)) m.current false)
  action-passes a =
      ap (λ b. is_enter a && b)
      (met (λ o. option_map_or (λ c. nat_lt MAX_ROUNDS (c.standing.round + 1)) o false)
      (λ u. option_map_or (λ x. nat_lt MAX_ROUNDS (x.round + 1)) u false) refl
      (λ c x is e. ap (λ (z : AnyStanding (Option Value)). nat_lt MAX_ROUNDS (z.round + 1)) e))

  -- the turns

  -- what a row leaves of the part
  abbrev leaves : Part → AnyTurn ℕ → Stepped
  leaves c turn = record { after = with_standing kept c turn.after; mail = turn.mail }

  keeps-turned : (c : Part) (turn : AnyTurn ℕ) (t : Turn) → kept.part ≡ Some c → turn_map (value_at values) turn ≡ turn_map Some t →
      KeepsInstances s.members values p (record m { current = Some t.after }) (with_standing kept c turn.after)
  keeps-turned c turn t is e =
      let part = h.part c is in
      let new : Part = record c { standing = turn.after } in
      let new_part : IsPartOf s.members p m.last new =
      record { members_is = part.members_is; me_is = part.me_is; instance_is = part.instance_is } in
      record {
        members = h.members;
        me = h.me;
        last = h.last;
        part = λ d same. rw (← some-same new d same) new_part;
        standing = ap (λ (z : AnyTurn (Option Value)). Some z.after) e;
        ballots = h.ballots;
        decisions = h.decisions;
      }

  turned-by : (row : Part → Option (AnyTurn ℕ)) (step : Standing → Option Turn) (stepped : Stepped)
      → ((c : Part) (x : Standing) → IsPartOf s.members p m.last c → Names c x →
      option_map (turn_map (value_at values)) (row c) ≡ option_map (turn_map Some) (step x))
      → step_by row kept ≡ Some stepped
      → IsTurnedBy m values step s.members p stepped
  turned-by row step stepped same e =
      let a = made-then (λ c. option_map (leaves c) (row c)) kept.part stepped e in
      let b = made-map (leaves a.from) (row a.from) stepped a.gives in
      let c = standing_some values a.from.standing m.current
      (subst (λ o. NamesStanding values (option_map (λ c. c.standing) o) m.current) a.is h.standing) in
      let t = mate (turn_map (value_at values)) (turn_map Some) (row a.from) (step c.0) b.from (same a.from c.0 (h.part a.from a.is) c.2)
      b.is in
      subst (λ z. IsTurnedBy m values step s.members p z) b.gives
      (record {
        standing = c.0;
        is_open = c.1;
        turn = t.0;
        taken = t.1;
        mail = ap (λ (z : AnyTurn (Option Value)). z.mail) t.2;
        keeps = keeps-turned a.from b.from t.0 a.is t.2;
      })

  pub action-turn : (a : Move) (stepped : Stepped) → taken kept a ≡ Some stepped →
      IsTurnedBy m values (turn_at s.members p m a) s.members p stepped
  action-turn a stepped is =
      turned-by (λ c. turn_of c.members c.me c.instance (open_decision kept) (got (open_rounds kept) c) c.standing a)
      (turn_at s.members p m a) stepped
      (λ c x part e. cc (
        part.members_is,
        part.me_is,
        part.instance_is,
        turn-map (value_at values) s.members p m.last (open_decision kept) (got (open_rounds kept) c) c.standing a,
        own-decision,
        own c x e,
        e,
        turn-map Some s.members p m.last (decided m.got m.last) (own_ballots m x) x a,
      )) is
