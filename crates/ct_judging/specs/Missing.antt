-- What is told of an envelope that is not there.
use Rattle.std.specs.Prelude.{ℕ, List, [], ◌++◌, codes, length, Option, Some, None}
use Rattle.ct_model.specs.Rehearsal.{Rehearsal}
use Rattle.ct_model.specs.declared.step.Step.{Step}
use Rattle.ct_model.specs.declared.step.Step.TheVariants.{Receive, Lose}
use Rattle.ct_show.specs.Facts.{last_taking}
use Rattle.ct_grammar.specs.declared.pick.Pick.{Pick}
use Rattle.ct_play.specs.Picking.{repeated, waiting_at}
use Rattle.ct_judging.specs.Naming.{envelope_name, pick_name, shortened}
use Rattle.ct_judging.specs.Wording.{behind, numbered, numbered_twice}

-- ---- what took an envelope out of its line

-- the step that took it, by its number
abbrev pub took_text : ℕ → Step → List ℕ
took_text number (Receive p k) = numbered_twice (codes " was received by ") p (codes " in step ") number
took_text number (Lose p k) = numbered (codes " was lost in step ") number
took_text number step = []

abbrev pub taking_text : Option (ℕ × Step) → List ℕ
taking_text None = []
taking_text (Some t) = took_text t.0 t.1

-- ---- where it went

-- where the last one went that was sent to p and is so named
abbrev pub gone_text : Rehearsal → ℕ → Option ℕ → List ℕ
gone_text w p None = numbered (codes " was never sent to ") p
gone_text w p (Some k) = taking_text (last_taking w.steps k (length w.steps))

-- what waits at p
abbrev pub waits_text : Rehearsal → ℕ → List ℕ
waits_text w p = behind (codes "; waits: ") (shortened (envelope_name w) (waiting_at w p))

-- where an envelope went that is not there, and what waits
unfoldable pub missing_text : Rehearsal → ℕ → Pick → List ℕ
missing_text w p pick = behind (codes "not there: ") (pick_name pick) ++ gone_text w p (repeated w p pick) ++ waits_text w p

-- nothing that certain members sent waits at p
unfoldable pub none_from_text : Rehearsal → ℕ → List ℕ
none_from_text w p = numbered (codes "not there: nothing from them waits at ") p ++ waits_text w p

-- the envelope was sent on another side
unfoldable pub across_text : Rehearsal → ℕ → List ℕ
across_text w k = behind (codes "across the cut: ") (envelope_name w k)
