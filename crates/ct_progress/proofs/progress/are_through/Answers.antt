use Rattle.std.proofs.Common.{◌≡◌, ℕ, ap, sym, ◌∙◌, arith}
use Rattle.std.specs.List.{list_all}
use Rattle.ct_names.specs.Group.{members}
use Rattle.ct_progress.specs.Progress.{is_through}
use Rattle.ct_progress.proofs.Members.{all_from, all_more, one_fails}
use Rattle.ct_progress.proofs.progress.are_through.Goals as goal

pub returns-then-not-is_through : goal.returns-then-not-is_through
returns-then-not-is_through c =
    let n : ℕ = c.args.world.now.rehearsal.setting.members in
    let size : c.n-i-end.result ≡ n = c.n-i-end.ensures.value ∙ c.group.ensures in
    one_fails (is_through c.args.world.now.rehearsal c.args.count) c.loop-i.i n (omega (arith, c.loop-i-test.true))
    (grind (arith, c.is_through.ensures, c.if-not-is_through.true))

pub loop-i-preserved : goal.loop-i-preserved
loop-i-preserved c =
    all_more (is_through c.args.world.now.rehearsal c.args.count) c.loop-i.i c.loop-i.invariant
    (grind (arith, c.is_through.ensures, c.if-not-is_through.false))

pub returns : goal.returns
returns c =
    let test = is_through c.args.world.now.rehearsal c.args.count in
    let same : c.loop-i.i ≡ c.n-i-end.result = omega (arith, c.loop-i-test.false) in
    sym (ap (λ n. list_all test (members n)) (sym (same ∙ c.n-i-end.ensures.value ∙ c.group.ensures))
    ∙ all_from test c.loop-i.i c.loop-i.invariant)
