use Rattle.std.specs.Prelude.{string_bytes}
use Rattle.ct_world.specs.World.{member_of}
use Rattle.ct_text.specs.Lists.{first_decisions}
use Rattle.ct_text.proofs.Pieces.{HasWritten}
use Rattle.ct_text.proofs.lists.push_decisions.Given as goal

abbrev pub invariant-loop-i : goal.invariant-loop-i
invariant-loop-i l = HasWritten 32 (first_decisions (member_of l.world.rehearsal l.member).got l.i) (string_bytes l.fn.text)
    (string_bytes l.text) l.later
