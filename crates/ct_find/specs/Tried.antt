-- How far a search came.
use Rattle.std.specs.Prelude.{ℕ, ◌-◌, ◌/◌, max}
use Rattle.ct_walk.specs.declared.call.Seeds.{Seeds}
use Rattle.ct_walk.specs.Finding.{seeds_to}
use Rattle.ct_find.specs.declared.tried.Tried.{Tried}

-- how many of how many seeds, how many in a second, and how many seconds the others take at that rate
abbrev pub tried_by : Seeds → ℕ → ℕ → Tried
tried_by seeds last seconds =
    let tried = seeds_to seeds.first last in
    let all = seeds_to seeds.first seeds.last in
    let rate = tried / max seconds 1 in
    record { tried = tried; all = all; rate = rate; left = (all - tried) / max rate 1; last = last }
