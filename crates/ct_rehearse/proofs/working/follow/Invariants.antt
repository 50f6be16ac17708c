use Rattle.std.proofs.Common.{◌≡◌}
use Rattle.ct_rehearse.specs.Plans.{turns_made}
use Rattle.ct_rehearse.specs.Works.{HasFollowed}
use Rattle.ct_rehearse.proofs.working.follow.Given as goal

abbrev pub invariant-loop-entry : goal.invariant-loop-entry
invariant-loop-entry g l = (l.share.parts ≡ 1) × (l.share.steps ≡ l.made.steps) × (turns_made l.made ≡ l.entry-index)
    × (l.number ≡ l.entry-index) × HasFollowed l.crew.hall.now.cells l.script l.entry-index l.made
