-- Which steps of a record each line of its schedule made.
use Rattle.std.specs.Prelude.{◌≡◌, ◌<◌, ℕ, zero, suc, Bool, true, false, List, [], ◌∷◌, ◌++◌, map, None, Result, Ok, Err, option_to_list}
use Rattle.std.specs.Prelude.{⊤}
use Rattle.ct_names.specs.Prefix.{IsPrefix}
use Rattle.ct_model.specs.Cause.{cause}
use Rattle.ct_model.specs.Passed.{passed}
use Rattle.ct_model.specs.Rehearsal.{Rehearsal, empty, extended}
use Rattle.ct_model.specs.declared.step.Step.{Step}
use Rattle.ct_model.specs.declared.step.Step.TheVariants.{Lose}
use Rattle.ct_choices.specs.Choices.{has_crashed}
use Rattle.ct_grammar.specs.Sides.{whole}
use Rattle.ct_grammar.specs.declared.act.Act.{Act}
use Rattle.ct_grammar.specs.declared.act.Act.TheVariants.{LoseFrom}
use Rattle.ct_grammar.specs.declared.goal.Goal.{Goal}
use Rattle.ct_grammar.specs.declared.line.Line.{Line}
use Rattle.ct_grammar.specs.declared.line.Line.TheVariants.{Blank, Given, Play as Plays}
use Rattle.ct_grammar.specs.declared.play.Play.{Play}
use Rattle.ct_grammar.specs.declared.play.Play.TheVariants.{Act as ByAct, Stated, Turns, Settle, Until, Cut, Heal, Expect}
use Rattle.ct_grammar.specs.declared.statement.Statement.{Statement}
use Rattle.ct_grammar.specs.declared.who.Who.{Who}
use Rattle.ct_grammar.specs.declared.who.Who.TheVariants.{All}
use Rattle.ct_play.specs.Acting.{step_of}
use Rattle.ct_play.specs.Cuts.{barred}
use Rattle.ct_play.specs.Goals.{uncut}
use Rattle.ct_play.specs.Picking.{waiting_from}
use Rattle.ct_play.specs.Played.{Played, with_record}
use Rattle.ct_play.specs.Outcomes.{is_stated, outcome}
use Rattle.ct_play.specs.Turning.{tried_at}
use Rattle.ct_play.specs.Who.{named}
use Rattle.ct_judging.specs.Reading.{line_in}
use Rattle.ct_laws.specs.Showing.{AreMet}

-- ---- steps behind a record

abbrev pub behind : Rehearsal → List Step → Rehearsal
behind w steps = record w { steps = w.steps ++ steps }

-- and the same sides
abbrev pub with_steps : Played → List Step → Played
with_steps s steps = with_record s (behind s.rehearsal steps)

-- each of them is allowed behind those before it
abbrev pub AreAllowed : Rehearsal → List Step → Type 0
AreAllowed w [] = ⊤
AreAllowed w (step ∷ steps) = (cause w step ≡ None) × AreAllowed (extended w step) steps

-- each step of the record is allowed behind those before it
abbrev pub EachIsAllowed : Rehearsal → Type 0
EachIsAllowed w = AreAllowed (empty w.setting w.cells) w.steps

-- ---- what a line says of its steps

-- p does this: one step, which no cut forbids, or the loss of each envelope from these that waits at it
abbrev pub IsDeed : Act → Played → ℕ → List Step → Type 0
IsDeed (LoseFrom set) s p steps = steps ≡ map (Lose p) (waiting_from s.rehearsal p set)
IsDeed act s p steps = (step : Step) × (step_of s.rehearsal p act ≡ Ok step) × (barred s step ≡ None) × (steps ≡ step ∷ [])

-- p takes one step of this, of which this is stated
abbrev pub IsSaid : Act → Statement → Played → ℕ → List Step → Type 0
IsSaid act said s p steps =
    (step : Step) × (step_of s.rehearsal p act ≡ Ok step) × (barred s step ≡ None)
    × (is_stated (outcome (extended s.rehearsal step) step) said ≡ true) × (steps ≡ step ∷ [])

-- the same; where all are named, one that has crashed does nothing
abbrev pub IsUnless : Bool → Type 0 → List Step → Type 0
IsUnless true deed steps = steps ≡ []
IsUnless false deed steps = deed

abbrev pub IsBy : Who → (Played → ℕ → List Step → Type 0) → Played → ℕ → List Step → Type 0
IsBy All Deed s p steps = IsUnless (has_crashed s.rehearsal p) (Deed s p steps) steps
IsBy who Deed s p steps = Deed s p steps

-- a turn of p has the step that a driver tries at it there, whose detector suspects these, where that is allowed; else none
abbrev pub IsTurn : List ℕ → Played → ℕ → List Step → Type 0
IsTurn set s p steps = steps ≡ passed s.rehearsal (option_to_list (tried_at s p set))

-- and the goal isn't shown before it
abbrev pub IsTurnBefore : Goal → List ℕ → Played → ℕ → List Step → Type 0
IsTurnBefore goal set s p steps = (AreMet s goal → ⊥) × IsTurn set s p steps

-- each of these does it in turn
abbrev pub AreDeeds : (Played → ℕ → List Step → Type 0) → Played → List ℕ → List Step → Type 0
AreDeeds Deed s [] steps = steps ≡ []
AreDeeds Deed s (p ∷ ps) steps =
    (own : List Step) × (others : List Step) × (steps ≡ own ++ others) × Deed s p own × AreDeeds Deed (with_steps s own) ps others

-- these, so many times over
unfoldable pub rounds : ℕ → List ℕ → List ℕ
rounds zero ps = []
rounds (suc n) ps = rounds n ps ++ ps

-- how many rounds of turns a line makes at most that says no number of them
abbrev pub most_rounds : ℕ
most_rounds = 10000

-- fewer rounds of turns, and behind them one in which nothing that is tried is allowed
abbrev pub AreSettling : List ℕ → Played → List ℕ → List Step → Type 0
AreSettling set s ps steps =
    (n : ℕ) × (n < most_rounds) × AreDeeds (IsTurn set) s (rounds n ps) steps × AreDeeds (IsTurn set) (with_steps s steps) ps []

-- the first turns of so many rounds: before none of them is the goal shown, and behind them it is
abbrev pub AreUntil : Goal → List ℕ → Played → List ℕ → List Step → Type 0
AreUntil goal set s ps steps =
    (turns : List ℕ) × IsPrefix turns (rounds most_rounds ps) × AreDeeds (IsTurnBefore goal set) s turns steps
    × AreMet (with_steps s steps) goal

-- an act has the steps of the members that it names, turns have what those try that they name, one after another, and other lines
-- have none; what is expected is shown
abbrev pub IsPlay : Played → Play → List Step → Type 0
IsPlay s (ByAct who act) steps = AreDeeds (IsBy who (IsDeed act)) s (named s.rehearsal.setting.members who) steps
IsPlay s (Stated who act said) steps = AreDeeds (IsBy who (IsSaid act said)) s (named s.rehearsal.setting.members who) steps
IsPlay s (Turns who n set) steps = AreDeeds (IsTurn set) s (rounds n (named s.rehearsal.setting.members who)) steps
IsPlay s (Settle who set) steps = AreSettling set s (named s.rehearsal.setting.members who) steps
IsPlay s (Until who set goal) steps = AreUntil goal set s (named s.rehearsal.setting.members who) steps
IsPlay s (Expect goal) steps = (steps ≡ []) × AreMet s goal
IsPlay s play steps = steps ≡ []

abbrev pub IsLine : {E : Type 0} → Played → Result Line E → List Step → Type 0
IsLine s (Ok Blank) steps = steps ≡ []
IsLine s (Ok (Given given)) steps = steps ≡ []
IsLine s (Ok (Plays play)) steps = IsPlay s play steps
IsLine s (Err misread) steps = ⊥

-- the sides behind a line: a cut says which, and one that heals it makes the group whole
abbrev pub sides_behind : {E : Type 0} → List ℕ → Result Line E → List ℕ
sides_behind sides (Ok (Plays (Cut cut))) = cut
sides_behind sides (Ok (Plays Heal)) = whole
sides_behind sides line = sides

-- the stage behind a line that has these steps
abbrev pub stage_behind : {E : Type 0} → Played → Result Line E → List Step → Played
stage_behind s line steps = record { rehearsal = behind s.rehearsal steps; sides = sides_behind s.sides line }

-- ---- the places of lines

abbrev pub ArePlaces : Played → List (List ℕ) → List (List Step) → Type 0
ArePlaces s [] [] = ⊤
ArePlaces s [] (steps ∷ places) = ⊥
ArePlaces s (line ∷ lines) [] = ⊥
ArePlaces s (line ∷ lines) (steps ∷ places) =
    IsLine s (line_in line) steps × ArePlaces (stage_behind s (line_in line) steps) lines places

abbrev pub joined : List (List Step) → List Step
joined [] = []
joined (steps ∷ places) = steps ++ joined places

-- the record falls into the steps of these lines, one after another, each of which is allowed
pub record HasPlaces (w : Rehearsal) (lines : List (List ℕ)) : Type 0 where
  pub places : List (List Step)
  pub all : joined places ≡ w.steps
  pub allowed : EachIsAllowed w
  pub are : ArePlaces (uncut (empty w.setting w.cells)) lines places
