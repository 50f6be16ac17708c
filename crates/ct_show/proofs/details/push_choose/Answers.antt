use Rattle.std.specs.Prelude.{[], ◌∷◌, codes, decimal, string_bytes}
use Rattle.ct_show.specs.Details.{choose_text}
use Rattle.ct_text.proofs.Pushed.{pushed_last}
use Rattle.ct_show.proofs.details.push_choose.Goals as goal

pub returns : goal.returns
unfolding choose_text
returns c =
    rw (← c.heard_from.ensures) (pushed_last c.push_estimate.result
    (codes "choose   estimate of " ∷ decimal c.args.from ∷ codes ": " ∷ []) _ (string_bytes c.args.text.now) _ _
    c.in_ok-write.ensures.bytes c.push_estimate.ensures)
