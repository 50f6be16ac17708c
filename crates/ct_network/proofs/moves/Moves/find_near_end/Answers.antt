use Rattle.std.proofs.Common.{sym, arith}
use Rattle.ct_network.proofs.Finding.{end_found}
use Rattle.ct_network.proofs.moves.Moves.find_near_end.Goals as goal

pub returns : goal.returns
returns c =
    let moves = c.args.self.now in
    end_found moves.keys.items moves.base c.args.serial c.args.line.now c.saturating_sub-from.result c.in_ok-place.place c.requires
    (omega (arith, c.saturating_sub-from.ensures)) (sym c.in_ok-place.ensures)
