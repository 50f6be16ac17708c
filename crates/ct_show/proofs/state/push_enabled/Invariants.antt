use Rattle.std.proofs.Common.{◌≡◌, ◌++◌, take}
use Rattle.std.specs.Prelude.{flat_map, string_bytes}
use Rattle.ct_show.specs.State.{enabled_line}
use Rattle.ct_show.proofs.state.push_enabled.Given as goal

abbrev pub invariant-loop-step : goal.invariant-loop-step
invariant-loop-step l =
    string_bytes l.text ≡ string_bytes l.fn.text ++ flat_map enabled_line (take l.step-index l.steps)
