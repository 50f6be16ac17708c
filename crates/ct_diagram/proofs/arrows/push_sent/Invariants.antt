use Rattle.std.proofs.Common.{◌≡◌, ◌++◌}
use Rattle.std.specs.Prelude.{string_bytes}
use Rattle.ct_diagram.specs.Arrows.{first_stubs}
use Rattle.ct_diagram.proofs.arrows.push_sent.Given as goal

abbrev pub invariant-loop-k : goal.invariant-loop-k
invariant-loop-k l =
    string_bytes l.text ≡ string_bytes l.fn.text ++ first_stubs l.world.rehearsal l.window l.senders l.drawn l.later l.k
