use Rattle.std.proofs.Common.{rules, ◌≡◌, ◌∙◌, ap, subst, sym}
use Rattle.std.proofs.lemmas.Result.{IfOk-weaker}
use Rattle.ct_merge.specs.Merging.{Growing}
use Rattle.ct_merge.specs.Waits.{AllBegin}
use Rattle.ct_presume.proofs.GoingOn.{begun_on}
use Rattle.ct_presume.proofs.presuming.go_beyond.Goals as goal

pub returns-in-Err-clause-begun : goal.returns-in-Err-clause-begun
returns-in-Err-clause-begun c =
    let same : c.in-Err.logs.items ≡ c.loop-more.growing.logs = search rules in
    subst (λ l. AllBegin c.args.merger.logs l) (sym same) c.loop-more.invariant.begun

pub returns-then-not-branch-clause-begun : goal.returns-then-not-branch-clause-begun
returns-then-not-branch-clause-begun c =
    let same : c.in-Ok.growing ≡ c.loop-more.growing = search rules in
    let here : AllBegin c.args.merger.logs c.in-Ok.growing.logs =
    subst (λ (m : Growing). AllBegin c.args.merger.logs m.logs) (sym same) c.loop-more.invariant.begun in
    let more : AllBegin c.args.merger.logs c.presume_line.new.merger.logs =
    begun_on c.args.merger.logs c.in-Ok.growing.logs c.presume_line.new.merger.logs here c.in_ok-presume_line.ensures.begun in
    IfOk-weaker c.ended.result _ _ (λ it e. subst (λ l. AllBegin c.args.merger.logs l) (sym e) more) c.ended.ensures.logs

pub loop-more-preserved : goal.loop-more-preserved
loop-more-preserved c =
    let same : c.in-Ok.growing ≡ c.loop-more.growing = search rules in
    let here : AllBegin c.args.merger.logs c.in-Ok.growing.logs =
    subst (λ (m : Growing). AllBegin c.args.merger.logs m.logs) (sym same) c.loop-more.invariant.begun in
    record {
      begun = begun_on c.args.merger.logs c.in-Ok.growing.logs c.presume_line.new.merger.logs here c.in_ok-presume_line.ensures.begun;
      setting = c.presume_line.ensures.setting ∙ ap (λ (m : Growing). m.setting) same ∙ c.loop-more.invariant.setting;
      cells = c.presume_line.ensures.cells ∙ ap (λ (m : Growing). m.cells) same ∙ c.loop-more.invariant.cells;
    }

pub returns-clause-begun : goal.returns-clause-begun
returns-clause-begun c =
    IfOk-weaker c.ended-2.result _ _ (λ it e. subst (λ l. AllBegin c.args.merger.logs l) (sym e) c.loop-more.invariant.begun)
    c.ended-2.ensures.logs
