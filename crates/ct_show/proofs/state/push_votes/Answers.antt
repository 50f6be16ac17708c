use Rattle.std.specs.Prelude.{[], ◌∷◌, codes, flat_map, string_bytes}
use Rattle.ct_show.specs.Facts.{first_heard, heard_text}
use Rattle.ct_show.specs.State.{votes_lines}
use Rattle.ct_text.proofs.Pushed.{pushed_first, pushed_last, pushed_more}
use Rattle.ct_show.proofs.state.push_votes.Goals as goal

pub returns : goal.returns
unfolding votes_lines
returns c =
    let w = c.args.world.now.rehearsal in
    let p = c.args.member in
    let old = string_bytes c.args.text.now in
    let heard = flat_map (heard_text (codes "  heard    ") (codes "\n")) (first_heard w p w.setting.members) in
    rw (← c.estimate.ensures, ← c.acked.ensures, ← c.replied.ensures) (pushed_last c.push_set_line-2.result (_ ∷ heard ∷ _ ∷ []) _ old _ _
    (pushed_more (_ ∷ heard ∷ []) _ old _ _ (pushed_more (_ ∷ []) heard old _ _ (pushed_first _ old _ c.in_ok-push_estimate_line.ensures)
    c.in_ok-push_all_heard.ensures) c.in_ok-push_set_line.ensures) c.push_set_line-2.ensures)
