-- The turns of a walk, and the steps that they try.
use Rattle.std.specs.Prelude.{◌≡◌, ◌≤◌, ℕ, zero, suc, Bool, true, false, ◌==◌, List, [], ◌∷◌, ◌++◌, length, get_or, if◌then◌else◌, ⊤}
use Rattle.std.specs.Prelude.{Option, Some, None, is_some, option_to_list, unwrap_or}
use Rattle.ct_names.specs.Membership.{IsIn}
use Rattle.ct_names.specs.Group.{IsMember}
use Rattle.ct_names.specs.Prefix.{IsPrefix}
use Rattle.ct_model.specs.Passed.{passed}
use Rattle.ct_model.specs.Rehearsal.{Rehearsal, empty}
use Rattle.ct_model.specs.declared.step.Step.{Step}
use Rattle.ct_detect.specs.Seeded.{SeededState, after_word}
use Rattle.ct_choices.specs.Choices.{after_try, first_waiting, question}
use Rattle.ct_play.specs.Picking.{waiting_at}
use Rattle.ct_rehearse.specs.Entries.{entry_step}
use Rattle.ct_rehearse.specs.declared.disturbance.Disturbance.{Disturbance}
use Rattle.ct_program.specs.FreeOptions.{setting_of}
use Rattle.ct_program.specs.Seeding.{detector_of}
use Rattle.ct_walk.specs.Adversary.{tries}
use Rattle.ct_walk.specs.Walking.{all_scripts, most_turns, says_yes}
use Rattle.ct_walk.specs.declared.options.WalkOptions.{WalkOptions}

-- a turn of a member, with its detector's answer where it asks it, whether it suspects, and the serial that it receives where it
-- receives one; or a turn of a script, counted from 0, with its entry
pub data WalkTurn : Type 0 where
  OfMember : (member : ℕ) (answer : Option Bool) (suspects : Bool) (receives : Option ℕ) → WalkTurn
  OfScript : (script : ℕ) (entry : Disturbance) → WalkTurn

-- what it tries after the record: what a driver does at the member, or the entry
abbrev pub tried_in : Rehearsal → WalkTurn → Option Step
tried_in w (OfMember p answer suspects serial) = tries w p serial suspects
tried_in w (OfScript i entry) = entry_step w entry

-- the record after the turn
abbrev pub after_turn : Rehearsal → WalkTurn → Rehearsal
after_turn w turn = after_try w (tried_in w turn)

-- what the turns try, each after those before it
abbrev pub all_tries : Rehearsal → List WalkTurn → List Step
all_tries w [] = []
all_tries w (turn ∷ turns) = option_to_list (tried_in w turn) ++ all_tries (after_turn w turn) turns

-- a detector of rate 0 says no, and one of rate 256 yes
abbrev pub IsAnswer : ℕ → Option Bool → Type 0
IsAnswer rate None = ⊤
IsAnswer rate (Some said) = (rate ≡ 0 → said ≡ false) × (rate ≡ 256 → said ≡ true)

-- it suspects where its detector says yes, and where no suspicion lasts only there
abbrev pub IsSuspicion : WalkOptions → Option Bool → Bool → Type 0
IsSuspicion o answer suspects =
    (unwrap_or answer false ≡ true → suspects ≡ true) × (o.lasting ≡ 0 → suspects ≡ unwrap_or answer false)

-- what it receives waits in its line, and is the first of it where nothing is scattered and the group never cut
abbrev pub IsReceipt : WalkOptions → Rehearsal → ℕ → Option ℕ → Type 0
IsReceipt o w p serial =
    ((k : ℕ) → serial ≡ Some k → IsIn k (waiting_at w p)) × (o.scatter ≡ 0 → o.cuts ≡ 0 → serial ≡ first_waiting w p)

-- a member asks where a suspicion comes next
pub record IsMemberTurn (o : WalkOptions) (w : Rehearsal) (p : ℕ) (answer : Option Bool) (suspects : Bool) (serial : Option ℕ)
    : Type 0 where
  pub there : IsMember o.run.members p
  pub asks : is_some answer ≡ is_some (question w p)
  pub answers : IsAnswer o.run.rate answer
  pub suspicion : IsSuspicion o answer suspects
  pub receipt : IsReceipt o w p serial

abbrev pub IsTurn : WalkOptions → Rehearsal → WalkTurn → Type 0
IsTurn o w (OfMember p answer suspects serial) = IsMemberTurn o w p answer suspects serial
IsTurn o w (OfScript i entry) = ⊤

abbrev pub AreTurns : WalkOptions → Rehearsal → List WalkTurn → Type 0
AreTurns o w [] = ⊤
AreTurns o w (turn ∷ turns) = IsTurn o w turn × AreTurns o (after_turn w turn) turns

-- the entries of a script that the turns make, in order
abbrev pub entries_in : ℕ → List WalkTurn → List Disturbance
entries_in i [] = []
entries_in i (OfMember p answer suspects serial ∷ turns) = entries_in i turns
entries_in i (OfScript j entry ∷ turns) = if i == j then entry ∷ entries_in i turns else entries_in i turns

-- the answers that p's turns got, in order
abbrev pub answers_to : ℕ → List WalkTurn → List Bool
answers_to p [] = []
answers_to p (OfMember q answer suspects serial ∷ turns) =
    if p == q then option_to_list answer ++ answers_to p turns else answers_to p turns
answers_to p (OfScript i entry ∷ turns) = answers_to p turns

-- a detector that answered once more
abbrev pub once_asked : SeededState → SeededState
once_asked d = record d { words = after_word d.words }

-- its first answers, so many
abbrev pub first_answers : SeededState → ℕ → List Bool
first_answers d zero = []
first_answers d (suc more) = says_yes d ∷ first_answers (once_asked d) more

-- the record has the allowed ones of what some turns try, which make the first entries of each script, in order; and each
-- member got the first answers of its own detector
pub record HasTurns (o : WalkOptions) (w : Rehearsal) : Type 0 where
  pub turns : List WalkTurn
  pub are : AreTurns o (empty (setting_of o.run) o.run.cells) turns
  pub few : length turns ≤ most_turns o
  pub scripts : (i : ℕ) → IsPrefix (entries_in i turns) (get_or (all_scripts o) i [])
  pub answers : (p : ℕ) → IsMember o.run.members p →
      answers_to p turns ≡ first_answers (detector_of o.run p) (length (answers_to p turns))
  pub steps : w.steps ≡ passed (empty (setting_of o.run) o.run.cells) (all_tries (empty (setting_of o.run) o.run.cells) turns)
