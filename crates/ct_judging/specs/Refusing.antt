-- What is told of refusals.
use Rattle.std.specs.Prelude.{ℕ, ◌+◌, ◌==◌, Bool, false, List, [], ◌∷◌, codes, decimal, Option, Some, None, option_map}
use Rattle.std.specs.List.{concat, position}
use Rattle.ct_names.specs.RefusalText.{refusal_text}
use Rattle.ct_names.specs.declared.limit.Limit.{Limit}
use Rattle.ct_names.specs.declared.limit.Limit.TheVariants.{Submissions, Instances, Rounds, Envelopes, Cells, Steps}
use Rattle.ct_names.specs.declared.limit.TheConstants.{MAX_ENVELOPES, MAX_INSTANCES, MAX_ROUNDS, MAX_STEPS, MAX_SUBMISSIONS}
use Rattle.ct_names.specs.declared.refusal.Refusal.{Refusal}
use Rattle.ct_names.specs.declared.refusal.Refusal.TheVariants.{NoSuchMember, Crashed, BadCommand, Full}
use Rattle.ct_model.specs.Actor.{actor}
use Rattle.ct_model.specs.Rehearsal.{Rehearsal}
use Rattle.ct_model.specs.declared.step.Step.{Step}
use Rattle.ct_model.specs.declared.step.Step.TheVariants.{Crash}
use Rattle.ct_show.specs.Facts.{facts_text}
use Rattle.ct_judging.specs.Rights.{right_of, right_text}

-- how much a limit allows
abbrev pub limit_of : Rehearsal → Limit → ℕ
limit_of w Submissions = MAX_SUBMISSIONS
limit_of w Instances = MAX_INSTANCES
limit_of w Rounds = MAX_ROUNDS
limit_of w Envelopes = MAX_ENVELOPES
limit_of w Cells = w.cells
limit_of w Steps = MAX_STEPS

-- p crashes in the step
abbrev pub is_crash_of : ℕ → Step → Bool
is_crash_of p (Crash q) = q == p
is_crash_of p step = false

-- the number of the step in which p crashed
unfoldable pub crash_of : List Step → ℕ → Option ℕ
crash_of steps p = option_map (λ i. i + 1) (position (is_crash_of p) steps)

abbrev pub crash_text : Option ℕ → List ℕ
crash_text None = []
crash_text (Some number) = concat (codes "in step " ∷ decimal number ∷ [])

abbrev pub members_text : ℕ → List ℕ
members_text n = concat (codes "members are 1 to " ∷ decimal n ∷ [])

abbrev pub limit_text : ℕ → List ℕ
limit_text limit = concat (decimal limit ∷ codes " at most" ∷ [])

-- what is right, or when the member crashed, where an instance has nothing to do with the refusal; else the facts behind it
abbrev pub reason_text : Rehearsal → Step → Refusal → List ℕ
reason_text w step NoSuchMember = members_text w.setting.members
reason_text w step Crashed = crash_text (crash_of w.steps (actor step))
reason_text w step BadCommand = codes "a register is 0 to 15"
reason_text w step (Full limit) = limit_text (limit_of w limit)
reason_text w step refusal = facts_text w step refusal

-- a step that is refused: whose it is, the refusal, that, and what would be right
unfoldable pub refused_text : Rehearsal → Step → Refusal → List ℕ
refused_text w step refusal =
    concat (codes "refused " ∷ decimal (actor step) ∷ codes " " ∷ refusal_text refusal ∷ codes ": " ∷ reason_text w step refusal
    ∷ right_text (right_of w step refusal) ∷ [])
