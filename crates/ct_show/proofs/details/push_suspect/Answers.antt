use Rattle.std.specs.Prelude.{[], ◌∷◌, codes, decimal, string_bytes}
use Rattle.ct_text.specs.Standing.{estimate_of}
use Rattle.ct_show.specs.Details.{suspect_text}
use Rattle.ct_text.proofs.Pushed.{pushed_last}
use Rattle.ct_show.proofs.details.push_suspect.Goals as goal

pub returns : goal.returns
unfolding suspect_text
returns c =
    let w = c.args.world.now.rehearsal in
    rw (← c.coordinator_of-coordinator.ensures) (pushed_last c.push_estimate_of.result
    (codes "suspect  member " ∷ decimal c.coordinator_of-coordinator.result ∷ codes "; keeps " ∷ []) (estimate_of w c.args.member)
    (string_bytes c.args.text.now) _ _ c.in_ok-write.ensures.bytes c.push_estimate_of.ensures)
