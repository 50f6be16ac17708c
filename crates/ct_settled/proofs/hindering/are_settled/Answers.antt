use Rattle.std.proofs.Common.{◌≡◌, ◌+◌, ◌∙◌, false, sym, ap, arith}
use Rattle.std.specs.List.{list_all}
use Rattle.ct_names.specs.Group.{members}
use Rattle.ct_progress.specs.Progress.{is_settled}
use Rattle.ct_settled.specs.Hindrance.{are_settled}
use Rattle.ct_settled.proofs.Firsts.{not_all}
use Rattle.ct_settled.proofs.hindering.are_settled.Goals as goal

pub returns-then-not-is_settled : goal.returns-then-not-is_settled
unfolding are_settled
returns-then-not-is_settled c =
    let w = c.args.world.now.rehearsal in
    let here : is_settled w (c.loop-i.i + 1) ≡ false = grind arith in
    sym (ap (λ n. list_all (is_settled w) (members n)) (sym (c.n-i-end.ensures.value ∙ c.group.ensures))
    ∙ not_all (is_settled w) c.loop-i.i c.n-i-end.result (omega arith) here)
