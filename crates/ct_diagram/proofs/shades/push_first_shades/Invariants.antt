use Rattle.std.proofs.Common.{◌≡◌, ◌++◌}
use Rattle.std.specs.Prelude.{string_bytes}
use Rattle.ct_diagram.specs.Shades.{first_shades}
use Rattle.ct_diagram.proofs.shades.push_first_shades.Given as goal

abbrev pub invariant-loop-i : goal.invariant-loop-i
invariant-loop-i l = string_bytes l.text ≡ string_bytes l.fn.text ++ first_shades l.world.rehearsal l.grid l.place l.i
