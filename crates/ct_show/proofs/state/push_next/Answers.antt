use Rattle.std.specs.Prelude.{[], ◌∷◌, codes, string_bytes}
use Rattle.ct_show.specs.State.{next_line, tried_text}
use Rattle.ct_text.proofs.Pushed.{pushed_more, pushed_str}
use Rattle.ct_show.proofs.state.push_next.Goals as goal

pub returns : goal.returns
unfolding next_line
returns c =
    let old = string_bytes c.args.text.now in
    let tried = tried_text c.deref.result.now in
    rw (← c.requires, ← c.next_local.ensures, ← c.first_receipt-receipt.ensures, ← c.in_ok-steps.ensures, ← c.deref.ensures.value)
    (pushed_str c.push_str-2.result (codes "  next     " ∷ tried ∷ []) (codes "\n") old _ _
    (pushed_more (codes "  next     " ∷ []) tried old _ _ c.in_ok-push_str.ensures.bytes c.in_ok-push_tried.ensures)
    c.push_str-2.ensures.bytes)
