use Rattle.ct_streams.specs.Streams.{read_part}
use Rattle.ct_streams.proofs.reading.read_all.Goals as goal

pub returns-clause-bytes : goal.returns-clause-bytes
unfolding read_part
returns-clause-bytes g c = c.read_up_to.ensures.bytes
