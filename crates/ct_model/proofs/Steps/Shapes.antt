-- The few shapes that the outcome of a step has.
use Rattle.std.proofs.Common.{◌≡◌, ℕ, ◌+◌, Bool, true, false, Some, subst, ap}
use Rattle.std.specs.Prelude.{is_none}
use Rattle.ct_names.specs.declared.command.Command.{Command}
use Rattle.ct_names.specs.Command.{is_good}
use Rattle.ct_names.specs.Value.{Value}
use Rattle.ct_model.specs.declared.moves.Move.{Move}
use Rattle.ct_model.specs.declared.moves.Move.TheVariants as moves
use Rattle.ct_model.specs.declared.step.Step.{Step}
use Rattle.ct_model.specs.declared.step.Step.TheVariants.{Submit, Receive, Begin, Enter, Choose, Adopt, Suspect, Conclude, Deliver}
use Rattle.ct_model.specs.declared.step.Step.TheVariants.{Follow, Crash, Postpone, Lose, Repeat}
use Rattle.ct_model.specs.AtValue.{Wire, Standing, Turn}
use Rattle.ct_model.specs.Setting.{Setting}
use Rattle.ct_model.specs.declared.mail.Mail.TheVariants.{Nobody}
use Rattle.ct_model.specs.State.{State, Member}
use Rattle.ct_model.specs.Received.{decided}
use Rattle.ct_model.specs.Next.{Outcome, plain, row, submit, receive, wire_to, begin, proposed, is_empty, turned, turn_at, round_row}
use Rattle.ct_model.specs.Next.{line_row, deliver, follow, crash}
use Rattle.ct_model.specs.Order.{DeliversNothing}
use Rattle.ct_model.proofs.Basics.Options.{some-same, when-is, made-map}
use Rattle.ct_model.proofs.Steps.Rows.{round_row-is, begin_row-is, deliver_row-is, follow_row-is}

module _ (s : Setting) (g : State) (p : ℕ) (m : Member) where
  -- P holds of each shape of outcomes of p, the member m: it submits a message, gets a wire, opens an instance, turns in
  -- it, closes it, opens and closes one at once, or nothing changes but its crash mark
  pub record HoldsOfShapes (step : Step) (P : Outcome → Type 0) : Type 0 where
    pub submits : (c : Command) → is_good c ≡ true → P (submit g p m c)
    pub gets : (k : ℕ) (w : Wire) → wire_to g p k ≡ Some w → P (receive s p m w)
    pub opens : is_none m.current ≡ true → is_empty (proposed s m) ≡ false → P (begin s p m)
    pub turns : (a : Move) (c : Standing) (t : Turn) → m.current ≡ Some c → turn_at s.members p m a c ≡ Some t → P (turned m t)
    pub closes : (c : Standing) (v : Value) → m.current ≡ Some c → decided m.got m.last ≡ Some v → (DeliversNothing step → ⊥)
        → P (deliver m v)
    pub follows : (v : Value) → is_none m.current ≡ true → decided m.got (m.last + 1) ≡ Some v → (DeliversNothing step → ⊥) → P (follow m v)
    pub marks : (crashed : Bool) → P (plain (record m { crashed = crashed }) Nobody)

  module _ (P : Outcome → Type 0) where
    by_turn : (step : Step) (a : Move) (o : Outcome) → HoldsOfShapes step P → round_row m (turn_at s.members p m a) ≡ Some o → P o
    by_turn step a o holds e =
        let t = round_row-is m (turn_at s.members p m a) o e in subst P t.gives (holds.turns a t.standing t.turn t.is_open t.taken)

    by_line : (step : Step) (k : ℕ) (o : Outcome) → HoldsOfShapes step P → line_row g p m k ≡ Some o → P o
    by_line step k o holds e = subst P (made-map (λ (w : Wire). plain m Nobody) (wire_to g p k) o e).gives (holds.marks m.crashed)

    -- so it holds of the outcome of every step
    pub by_shape : (step : Step) (o : Outcome) → HoldsOfShapes step P → row s g p m step ≡ Some o → P o
    by_shape (Submit _ c) o holds e = let r = when-is (is_good c) (submit g p m c) o e in subst P r.1 (holds.submits c r.0)
    by_shape (Receive _ k) o holds e = let r = made-map (receive s p m) (wire_to g p k) o e in subst P r.gives (holds.gets k r.from r.is)
    by_shape (Begin _) o holds e = let r = begin_row-is s p m o e in subst P r.1 (holds.opens (ap is_none r.0.idle) r.0.something)
    by_shape (Enter q) o holds e = by_turn (Enter q) moves.Enter o holds e
    by_shape (Choose q from) o holds e = by_turn (Choose q from) (moves.Choose from) o holds e
    by_shape (Adopt q) o holds e = by_turn (Adopt q) moves.Adopt o holds e
    by_shape (Suspect q) o holds e = by_turn (Suspect q) moves.Suspect o holds e
    by_shape (Conclude q) o holds e = by_turn (Conclude q) moves.Conclude o holds e
    by_shape (Deliver _) o holds e =
        let r = deliver_row-is m o e in subst P r.1 (holds.closes r.0.standing r.0.value r.0.is_open r.0.decision (λ never. never))
    by_shape (Follow _) o holds e =
        let r = follow_row-is m o e in subst P r.1 (holds.follows r.0.value (ap is_none r.0.idle) r.0.decision (λ never. never))
    by_shape (Crash _) o holds e = subst P (some-same (crash m) o e) (holds.marks true)
    by_shape (Postpone q k) o holds e = by_line (Postpone q k) k o holds e
    by_shape (Lose q k) o holds e = by_line (Lose q k) k o holds e
    by_shape (Repeat q k) o holds e = by_line (Repeat q k) k o holds e
