use Rattle.std.proofs.Common.{◌≡◌, ◌++◌, codes}
use Rattle.std.specs.Prelude.{decimal}
use Rattle.std.specs.List.{concat}
use Rattle.std.proofs.lemmas.List.Folds.{concat-append}
use Rattle.ct_model.specs.declared.step.Step.{Step}
use Rattle.ct_model.specs.StepText.{step_entry, rest_texts, step_text}
use Rattle.ct_model.proofs.step.StepDisplay.fmt.Goals as goal

-- the closing bracket stands behind what is behind the member
step_text-is : (s : Step) → let e = step_entry s in
    codes "[\"" ++ (e.name ++ (codes "\"," ++ (decimal e.first ++ (concat (rest_texts e.rest) ++ codes "]")))) ≡ step_text s
unfolding step_text
step_text-is s = simp concat-append

pub returns-clause-writes : goal.returns-clause-writes
returns-clause-writes g c =
    let said = c.entry-member.ensures in
    rw (← step_text-is c.args.self.now, ← said.word, ← said.first, ← said.tail) c.write.ensures.writes
