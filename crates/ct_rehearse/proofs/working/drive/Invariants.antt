use Rattle.std.proofs.Common.{◌≡◌}
use Rattle.ct_rehearse.specs.Plans.{turns_made}
use Rattle.ct_rehearse.specs.Works.{HasDriven}
use Rattle.ct_rehearse.proofs.working.drive.Given as goal

abbrev pub invariant-loop-number : goal.invariant-loop-number
invariant-loop-number g l = (l.share.parts ≡ 1) × (l.share.steps ≡ l.made.steps) × (turns_made l.made ≡ l.number)
    × HasDriven l.crew.hall.now.cells l.member l.number l.made
