use Rattle.std.specs.Prelude.{[], ◌∷◌, codes, decimal, string_bytes}
use Rattle.ct_show.specs.Acts.{step_words}
use Rattle.ct_show.specs.Facts.{left_in}
use Rattle.ct_text.proofs.Pushed.{pushed_last}
use Rattle.ct_show.proofs.facts.push_left_in.Goals as goal

pub returns : goal.returns
unfolding left_in
returns c =
    pushed_last c.push_step.result (codes ", left in step " ∷ decimal c.args.number ∷ codes ": " ∷ []) (step_words c.args.step)
    (string_bytes c.args.text.now) _ _ c.in_ok-write.ensures.bytes c.push_step.ensures
