use Rattle.std.proofs.Common.{sym, ◌∙◌}
use Rattle.ct_listing.proofs.Present.{idle_there}
use Rattle.ct_listing.proofs.closing.push_place.Goals as goal

pub push_fact-requires-clause-there : goal.push_fact-requires-clause-there
push_fact-requires-clause-there c =
    idle_there c.args.stage.now c.args.member c.requires.member (sym (rw c.world.ensures at c.round.ensures) ∙ c.in-None.is)

pub push_round-requires-clause-place : goal.push_round-requires-clause-place
push_round-requires-clause-place c = sym (rw c.world.ensures at c.round.ensures) ∙ c.in-Some.is
