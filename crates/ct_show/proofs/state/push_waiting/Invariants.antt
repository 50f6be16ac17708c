use Rattle.std.proofs.Common.{◌≡◌, ◌++◌, take}
use Rattle.std.specs.Prelude.{flat_map, string_bytes}
use Rattle.ct_show.specs.State.{waiting_line}
use Rattle.ct_show.proofs.state.push_waiting.Given as goal

abbrev pub invariant-loop-serial : goal.invariant-loop-serial
invariant-loop-serial l =
    string_bytes l.text ≡ string_bytes l.fn.text ++ flat_map (waiting_line l.world.rehearsal l.senders) (take l.serial-index l.line)
