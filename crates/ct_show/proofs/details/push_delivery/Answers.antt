use Rattle.std.specs.Prelude.{[], ◌∷◌, codes, decimal, string_bytes}
use Rattle.ct_text.specs.Standing.{batch_text}
use Rattle.ct_show.specs.Details.{delivery_text}
use Rattle.ct_text.proofs.Pushed.{pushed_last}
use Rattle.ct_show.proofs.details.push_delivery.Goals as goal

pub returns : goal.returns
unfolding delivery_text
returns c =
    let w = c.args.world.now.rehearsal in
    rw (← c.instance_of-instance.ensures) (pushed_last c.push_batch.result
    (c.args.name.now ∷ codes "instance " ∷ decimal c.instance_of-instance.result ∷ codes ": " ∷ [])
    (batch_text w c.instance_of-instance.result)
    (string_bytes c.args.text.now) _ _ c.in_ok-write.ensures.bytes c.push_batch.ensures)
