-- What a turn comes to, and what it leaves.
use Rattle.std.specs.Prelude.{◌≡◌, ℕ, Bool, List, Option, None, Some, MatchOption}
use Rattle.ct_detect.specs.declared.ask.Ask.{Ask}
use Rattle.ct_model.specs.declared.step.Step.{Step}
use Rattle.ct_model.specs.Cause.{cause}
use Rattle.ct_model.specs.Rehearsal.{Rehearsal, extended, state_of}
use Rattle.ct_model.specs.Run.{run}
use Rattle.ct_world.specs.Driving.{next_local}
use Rattle.ct_world.specs.Posting.{HasPosted, IsRefusal}
use Rattle.ct_world.specs.World.{WorldView, IsDone}
use Rattle.ct_choices.specs.Choices.{HasAsked, ask_of, tried}
use Rattle.ct_rehearse.specs.Entries.{entry_step}
use Rattle.ct_rehearse.specs.Shares.{Held, risen_by}
use Rattle.ct_rehearse.specs.declared.disturbance.Disturbance.{Disturbance}
use Rattle.ct_rehearse.specs.declared.outcome.Turn.{Turn}
use Rattle.ct_rehearse.specs.declared.outcome.Turn.TheVariants.{Stepped, Resting, Refused}

-- the world answers that the step was tried, with a board of these cells
abbrev pub Answers : List ℕ → Rehearsal → Step → Rehearsal → Turn → Type 0
Answers cells old step new (Stepped done effect) = (done ≡ step) × (cause old step ≡ None) × IsDone old step new effect.sent
    × HasPosted cells old new effect.receipt
Answers cells old step new Resting = ⊥
Answers cells old step new (Refused refusal) = IsRefusal old step refusal × (new ≡ old)

-- the world after a turn: its record is the old one, or the old one and the step
abbrev pub world_after_turn : WorldView → Turn → WorldView
world_after_turn old (Stepped step effect) = record { rehearsal = extended old.rehearsal step; prepared = None }
world_after_turn old Resting = old
world_after_turn old (Refused refusal) = record old { prepared = None }

-- the share after a turn
abbrev pub share_after_turn : Held → Turn → Held
share_after_turn old (Stepped step effect) = risen_by old 1
share_after_turn old _ = old

-- on one world, whose record is a run, this was a turn of the member, whose detector was asked last what stands first before it
-- and what stands next after it
pub record IsTurn (cells : List ℕ) (p : ℕ) (asked answered : Option (Ask × Bool)) (turn : Turn) : Type 0 where
  pub old : WorldView
  pub new : WorldView
  pub runs : run old.rehearsal.setting old.rehearsal.steps ≡ Some (state_of old.rehearsal)
  pub asks : HasAsked (next_local old.rehearsal p) (ask_of old.rehearsal p) asked answered
  pub made : MatchOption (tried old.rehearsal p answered) (turn ≡ Resting)
      (λ step. Answers cells old.rehearsal step new.rehearsal turn)
  pub world : new ≡ world_after_turn old turn

-- on one world, whose record is a run, the entry came to this
pub record IsEntry (cells : List ℕ) (entry : Disturbance) (turn : Turn) : Type 0 where
  pub old : WorldView
  pub new : WorldView
  pub runs : run old.rehearsal.setting old.rehearsal.steps ≡ Some (state_of old.rehearsal)
  pub made : MatchOption (entry_step old.rehearsal entry) (turn ≡ Resting) (λ step. Answers cells old.rehearsal step new.rehearsal turn)
  pub world : new ≡ world_after_turn old turn
