use Rattle.std.proofs.Common.{◌≡◌}
use Rattle.ct_world.specs.Replay.{AllowsFirst, first_steps}
use Rattle.ct_world.specs.Setup.{setting_of}
use Rattle.ct_embed.proofs.own_world.replayed.Given as goal

-- the first steps were done, each of them allowed
abbrev pub invariant-loop-i : goal.invariant-loop-i
invariant-loop-i l =
    let s = l.fn.setup in
    (l.own ≡ first_steps (setting_of s) s.cells l.steps l.i) × AllowsFirst (setting_of s) s.cells l.steps l.i
