use Rattle.std.proofs.Common.{◌+◌, ◌-◌, arith}
use Rattle.ct_network.proofs.Finding.{turned}
use Rattle.ct_network.proofs.line.take_out_far.Goals as goal

pub returns : goal.returns
returns c = turned c.args.kept.now c.args.start c.args.at (c.args.start + c.args.at + 1 - c.args.start) c.rotate_right.new.self
    c.requires (omega arith) c.rotate_right.ensures.after
