-- Records that are kept.
use Rattle.std.proofs.Common.{ℕ, List, Option, Result, Ok, Err, refl, subst}
use Rattle.std.specs.Prelude.{IsOk}
use Rattle.ct_model.specs.Rehearsal.{Rehearsal}
use Rattle.ct_streams.specs.NewFiles.{Makes, MakesPart}
use Rattle.ct_judge.specs.Keeping.{IsKeptIn, Keeps, KeepsPart}
use Rattle.ct_play.specs.declared.line_fault.LineFault.{LineFault}

module _ (old new : Option (List (List ℕ × List ℕ))) (name text : List ℕ) where
  pub keeps : (r : Result Rehearsal LineFault) → IsKeptIn text r → Makes old new name text → Keeps r old new name
  keeps (Ok w) is made = subst (Makes old new name) is made
  keeps (Err fault) is made = absurd is

  pub keeps_part : (r : Result Rehearsal LineFault) → IsKeptIn text r → MakesPart old new name text → KeepsPart r old new name
  keeps_part (Ok w) is made = subst (MakesPart old new name) is made
  keeps_part (Err fault) is made = absurd is

pub kept_there : (text : List ℕ) (r : Result Rehearsal LineFault) → IsKeptIn text r → IsOk r
kept_there text (Ok w) is = refl
kept_there text (Err fault) is = absurd is

pub ruleset kept_so = (keeps, keeps_part, kept_there)
