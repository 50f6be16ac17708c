use Rattle.std.proofs.Common.{◌≡◌, ◌++◌, take}
use Rattle.std.specs.Prelude.{codes, flat_map, string_bytes}
use Rattle.ct_show.specs.Acts.{step_words}
use Rattle.ct_show.proofs.state.push_others.Given as goal

abbrev pub invariant-loop-step : goal.invariant-loop-step
invariant-loop-step l =
    string_bytes l.text ≡ string_bytes l.fn.text ++ flat_map (λ other. codes " or " ++ step_words other) (take l.step-index l.steps)
