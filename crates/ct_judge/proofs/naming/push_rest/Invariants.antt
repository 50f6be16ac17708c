use Rattle.std.proofs.Common.{◌≡◌, ◌++◌, take}
use Rattle.std.specs.Prelude.{codes, flat_map, string_bytes}
use Rattle.ct_judging.specs.Naming.{envelope_name}
use Rattle.ct_judge.proofs.naming.push_rest.Given as goal

abbrev pub invariant-loop-serial : goal.invariant-loop-serial
invariant-loop-serial l =
    string_bytes l.text ≡ string_bytes l.fn.text
    ++ flat_map (λ k. codes ", " ++ envelope_name l.stage.rehearsal k) (take l.serial-index l.line)
