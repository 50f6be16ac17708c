use Rattle.std.specs.Prelude.{[], ◌∷◌, codes, decimal, string_bytes}
use Rattle.ct_show.specs.Details.{begin_text}
use Rattle.ct_text.specs.Standing.{estimate_alone}
use Rattle.ct_text.proofs.Pushed.{pushed_last}
use Rattle.ct_show.proofs.details.push_begin.Goals as goal

pub returns : goal.returns
unfolding begin_text
returns c =
    let w = c.args.world.now.rehearsal in
    rw (← c.instance_of-instance.ensures) (pushed_last c.push_estimate_alone.result
    (codes "begin    instance " ∷ decimal c.instance_of-instance.result ∷ codes " proposes " ∷ []) (estimate_alone w c.args.member)
    (string_bytes c.args.text.now) _ _ c.in_ok-write.ensures.bytes c.push_estimate_alone.ensures)
