use Rattle.std.proofs.Common.{◌∙◌}
use Rattle.ct_views.proofs.Checks.{checks_next, checks_stop, on_err}
use Rattle.ct_views.proofs.checking.check.Goals as goal

pub loop-name-preserved : goal.loop-name-preserved
loop-name-preserved g c = record {
  checked = checks_next _ _ _ c.args.names.now c.loop-name.name-index _ c.loop-name-test.true _ _ _ _ c.loop-name.invariant.checked _ _
      c.in_ok-status.ensures.ok c.max-worst.ensures;
  same = c.in_ok-status.ensures.same ∙ c.loop-name.invariant.same;
}

pub returns-in_err-status-clause-part : goal.returns-in_err-status-clause-part
returns-in_err-status-clause-part g c =
    on_err c.from_residual.result _
    (checks_stop _ _ (λ name. name.now) c.args.names.now c.loop-name.name-index _ c.loop-name-test.true _ _ _ _
    c.loop-name.invariant.checked c.in_err-status.ensures.part)
