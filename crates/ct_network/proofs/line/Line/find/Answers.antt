use Rattle.std.proofs.Common.{◌≤◌, length, subst, sym, ap, ◌∙◌, arith}
use Rattle.ct_network.specs.Moves.{IsRising}
use Rattle.ct_network.specs.Network.{place_of}
use Rattle.ct_network.proofs.Finding.{near_found}
use Rattle.ct_network.proofs.line.Line.find.Goals as goal
use Rattle.ct_network.proofs.line.Line.find.Goals.{then-line-gt-NEAR, else-line-gt-NEAR}

pub find_far-requires : goal.find_far-requires
find_far-requires c sorted =
    subst (IsRising c.args.moves.now.keys.items c.args.moves.now.base) (sym c.as_slice-line.ensures) (c.requires sorted)

pub returns-in-Some : goal.returns-in-Some
returns-in-Some c =
    let near = c.if-line-gt-NEAR.near in
    let within : near ≤ length c.as_slice-line.result.now =
    elim c.if-line-gt-NEAR.branch [ then-line-gt-NEAR w ↦ omega arith | else-line-gt-NEAR w ↦ omega arith ] in
    near_found c.args.serial c.as_slice-line.result.now near c.in-Some.place within (sym c.first.ensures ∙ c.in-Some.is)
    ∙ ap (place_of c.args.serial) c.as_slice-line.ensures
