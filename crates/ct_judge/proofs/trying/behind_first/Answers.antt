use Rattle.std.proofs.Common.{◌≡◌, ◌-◌, Ok, subst}
use Rattle.ct_play.specs.Played.{Played}
use Rattle.ct_play.specs.Turning.{ended}
use Rattle.ct_judging.specs.Telling.{done_by_first}
use Rattle.ct_judge.proofs.trying.behind_first.Goals as goal

pub returns : goal.returns
unfolding ended
returns c =
    let who = c.args.who.now in
    let act = c.args.act.now in
    let begun : c.in-Ok.tried ≡ c.args.stage.now = c.in-Ok.ensures.ok in
    let count : c.saturating_sub.result ≡ c.args.member - 1 = c.saturating_sub.ensures in
    subst (λ n. done_by_first who act c.args.stage.now n ≡ Ok c.act_first.new.stage) count
    (subst (λ (s : Played). done_by_first who act s c.saturating_sub.result ≡ Ok c.act_first.new.stage) begun c.in_ok-act_first.ensures)
