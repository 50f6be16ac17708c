use Rattle.std.proofs.Common.{◌≡◌, ◌++◌, take}
use Rattle.std.specs.Prelude.{flat_map, string_bytes}
use Rattle.ct_judging.specs.Steps.{step_line}
use Rattle.ct_judge.proofs.steps.push_more.Given as goal

abbrev pub invariant-loop-step : goal.invariant-loop-step
invariant-loop-step l =
    string_bytes l.text ≡ string_bytes l.fn.text
    ++ flat_map (λ step. l.between ++ step_line l.stage.rehearsal step) (take l.step-index l.steps)
