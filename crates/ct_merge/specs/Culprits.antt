-- Why lines of logs are not taken, as text.
use Rattle.std.specs.Prelude.{ℕ, List, [], ◌∷◌, ◌++◌, codes, decimal}
use Rattle.std.specs.List.{concat}
use Rattle.ct_model.specs.Actor.{actor}
use Rattle.ct_names.specs.RefusalText.{refusal_text}
use Rattle.ct_names.specs.declared.limit.Limit.{Limit}
use Rattle.ct_names.specs.declared.limit.Limit.TheVariants.{Submissions, Instances, Rounds, Envelopes, Cells, Steps}
use Rattle.ct_names.specs.declared.limit.TheConstants.{MAX_CELLS, MAX_ENVELOPES, MAX_INSTANCES, MAX_ROUNDS, MAX_STEPS, MAX_SUBMISSIONS}
use Rattle.ct_names.specs.declared.refusal.Refusal.{Refusal}
use Rattle.ct_names.specs.declared.refusal.Refusal.TheVariants.{Full}
use Rattle.ct_play.specs.declared.line_fault.LineFault.{LineFault}
use Rattle.ct_play.specs.declared.line_fault.LineFault.TheVariants.{Refused}
use Rattle.ct_merge.specs.declared.own_fault.OwnFault.TheVariants.{Line, CameTo}
use Rattle.ct_merge.specs.declared.verdict.Why.{Why}
use Rattle.ct_merge.specs.declared.verdict.Why.TheVariants.{Fault, Never, Ended, Circle}

-- how large the limit is, or what gives room for more
unfoldable pub size_text : Limit → List ℕ
size_text Submissions = concat (codes ": a member submits at most " ∷ decimal MAX_SUBMISSIONS ∷ codes " messages" ∷ [])
size_text Instances = concat (codes ": a member has at most " ∷ decimal MAX_INSTANCES ∷ codes " instances" ∷ [])
size_text Rounds = concat (codes ": an instance has at most " ∷ decimal MAX_ROUNDS ∷ codes " rounds" ∷ [])
size_text Envelopes = concat (codes ": a run has at most " ∷ decimal MAX_ENVELOPES ∷ codes " envelopes" ∷ [])
size_text Cells =
    concat (codes ": no cell is left; cells " ∷ decimal MAX_CELLS ∷ codes " at the top of a log gives room for more" ∷ [])
size_text Steps = concat (codes ": a run has at most " ∷ decimal MAX_STEPS ∷ codes " steps" ∷ [])

-- what is said behind a refusal
unfoldable pub note_text : Refusal → List ℕ
note_text (Full limit) = size_text limit ++ codes "; it accuses nobody"
note_text _ = []

-- p is refused a step
unfoldable pub head_text : ℕ → Refusal → List ℕ
head_text p refusal = concat (codes "member " ∷ decimal p ∷ codes " is refused " ∷ refusal_text refusal ∷ [])

-- a step of p that the rules refuse
unfoldable pub refused_text : ℕ → Refusal → List ℕ
refused_text p refusal = head_text p refusal ++ note_text refusal

-- what p came to, where something else is stated
unfoldable pub came_to_text : ℕ → List ℕ → List ℕ
came_to_text p came = concat (codes "member " ∷ decimal p ∷ codes " came to " ∷ came ∷ [])

-- a line that is refused by itself
unfoldable pub fault_text : LineFault → List ℕ
fault_text (Refused step refusal) = refused_text (actor step) refusal
fault_text _ = codes "refused"

-- why a line is not taken
unfoldable pub why_text : Why → List ℕ
why_text (Fault (Line fault)) = fault_text fault
why_text (Fault (CameTo p came)) = came_to_text p came
why_text (Never p) = concat (codes "it was not sent before, and member " ∷ decimal p ∷ codes " can't send it any more" ∷ [])
why_text (Ended p) = concat (codes "the log of member " ∷ decimal p ∷ codes " ends before it is sent" ∷ [])
why_text Circle = codes "it waits for a line that waits for it"
