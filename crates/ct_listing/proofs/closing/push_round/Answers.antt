use Rattle.std.proofs.Common.{arith}
use Rattle.ct_listing.proofs.Present.{phase_there, round_there}
use Rattle.ct_listing.proofs.closing.push_round.Goals as goal

pub push_fact-requires-clause-there : goal.push_fact-requires-clause-there
push_fact-requires-clause-there c = round_there c.args.stage.now c.args.member c.args.round c.args.phase c.requires.place (omega arith)

pub push_fact-requires-2-clause-there : goal.push_fact-requires-2-clause-there
push_fact-requires-2-clause-there c = phase_there c.args.stage.now c.args.member c.args.round c.args.phase c.requires.place
