-- What the threads of a free run are to do.
use Rattle.std.specs.Prelude.{◌≡◌, ℕ, zero, suc, ◌+◌, ◌*◌, ◌%◌, ◌==◌, List, [], ◌∷◌, ◌++◌, map, if◌then◌else◌}
use Rattle.ct_names.specs.declared.command.Command.TheVariants.{Add}
use Rattle.ct_rehearse.specs.declared.disturbance.Disturbance.{Disturbance}
use Rattle.ct_rehearse.specs.declared.disturbance.Disturbance.TheVariants.{Submit, Crash, Postpone, Lose, Repeat}
use Rattle.ct_rehearse.specs.declared.plan.Plan.{Plan}
use Rattle.ct_program.specs.declared.free_options.FreeOptions.{FreeOptions}
use Rattle.ct_program.specs.declared.kind.Kind.{Kind}
use Rattle.ct_program.specs.declared.kind.Kind.TheVariants.{Submission, Postponement, Loss, Repetition}

-- the first entries, of places counted from 0
abbrev pub first_entries : (ℕ → Disturbance) → ℕ → List Disturbance
first_entries entry zero = []
first_entries entry (suc i) = first_entries entry i ++ entry i ∷ []

-- the member whose turn it is at place i, of n members
abbrev pub in_turn : ℕ → ℕ → ℕ
in_turn n i = i % n + 1

-- the entry of this kind at place i, of n members. The registers take their turns too, and amounts and serials count the entries
abbrev pub entry : Kind → ℕ → ℕ → Disturbance
entry Submission n i = Submit (in_turn n i) (Add (i % 16) (i + 1))
entry Postponement n i = Postpone (in_turn n i)
entry Loss n i = Lose (in_turn n i)
entry Repetition n i = Repeat (in_turn n i) (i + 1)

-- the submissions, and then the crash where one is asked for
abbrev pub first_script : FreeOptions → List Disturbance
first_script o = first_entries (entry Submission o.members) o.submit ++ (if o.crash == 0 then [] else Crash o.crash ∷ [])

-- the postponements
abbrev pub second_script : FreeOptions → List Disturbance
second_script o = first_entries (entry Postponement o.members) o.postpone

-- the losses
abbrev pub third_script : FreeOptions → List Disturbance
third_script o = first_entries (entry Loss o.members) o.lose

-- the repetitions
abbrev pub fourth_script : FreeOptions → List Disturbance
fourth_script o = first_entries (entry Repetition o.members) o.repeat

abbrev pub scripts_of : FreeOptions → List (List Disturbance)
scripts_of o = first_script o ∷ second_script o ∷ third_script o ∷ fourth_script o ∷ []

-- the plan has the turns and the scripts that the options ask for
abbrev pub IsPlanOf : FreeOptions → Plan → Type 0
IsPlanOf o plan = (plan.turns ≡ o.turns) × (map (λ script. script.items) plan.scripts.items ≡ scripts_of o)

-- how many entries the first script has
abbrev pub first_count : FreeOptions → ℕ
first_count o = o.submit + (if o.crash == 0 then 0 else 1)

-- how many turns a run has: those of the members, and one for each entry
abbrev pub turns_of : FreeOptions → ℕ
turns_of o = o.members * o.turns + (first_count o + (o.postpone + (o.lose + o.repeat)))
