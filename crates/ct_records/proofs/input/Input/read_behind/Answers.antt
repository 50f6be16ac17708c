use Rattle.std.proofs.Common.{◌∙◌, arith}
use Rattle.ct_records.proofs.Sources.{advances_front}
use Rattle.ct_records.proofs.input.Input.read_behind.Goals as goal

pub returns-clause-read : goal.returns-clause-read
returns-clause-read g c =
    let read = c.in-Ok.ensures in
    advances_front _ _ c.args.self.now.bytes.items c.copy_from_slice.new.self _ c.read.new.buffer _ c.len-kept.result c.in-Ok.n
    c.args.self.now.count (c.copy_from_slice.ensures.after ∙ c.deref.ensures.value) (omega (arith, c.len-kept.ensures)) read.bound.0
    read.bound.1 read.bytes.0
