use Rattle.std.proofs.Common.{rules, ◌≡◌, List, length, subst}
use Rattle.ct_model.specs.declared.step.Step.{Step}
use Rattle.ct_records.specs.View.{rehearsal_of}
use Rattle.ct_play.specs.Goals.{shows}
use Rattle.ct_shrink.specs.Runs.{IsNoLarger}
use Rattle.ct_shrink.specs.declared.summary.Summary.{Summary}
use Rattle.ct_shrink.proofs.Reading.{faults_on, is_left}
use Rattle.ct_shrink.proofs.running.smaller_of.Goals as goal

pub returns-in_err-shrunk-clause-fault : goal.returns-in_err-shrunk-clause-fault
returns-in_err-shrunk-clause-fault g c =
    faults_on (shows c.args.goal.now) c.setup-setup.result c.deref.result.now (rehearsal_of c.args.script.now)
    c.from_residual-in_err-shrunk.result c.in_err-shrunk.field-0.0 c.setup-setup.ensures c.deref.ensures.value
    c.from_residual-in_err-shrunk.ensures.1 c.in_err-shrunk.ensures.fault

pub returns-clause-ok : goal.returns-clause-ok
returns-clause-ok g c =
    let shrunk = c.in_ok-shrunk.shrunk in
    let told : Summary = record { steps = c.len.result; left = c.len-2.result; trials = shrunk.trials; is_stopped = shrunk.is_stopped } in
    let steps : c.len.result ≡ length c.args.script.now.steps.items = search rules in
    let left : c.len-2.result ≡ length shrunk.lines.items = search rules in
    record {
      run = shrunk.world.rehearsal;
      left = is_left (shows c.args.goal.now) c.args.options.now.tries (rehearsal_of c.args.script.now) told shrunk.world.rehearsal
          c.setup-setup.result shrunk.lines.items c.setup-setup.ensures c.in_ok-replay.ensures.allowed c.in_ok-shrunk.ensures.run
          c.in_ok-shrunk.ensures.named
          (subst (λ (l : List Step). IsNoLarger (shows c.args.goal.now) c.setup-setup.result l (length shrunk.world.rehearsal.steps))
          c.deref.ensures.value c.in_ok-shrunk.ensures.no_larger)
          c.in_ok-shrunk.ensures.least c.in_ok-shrunk.ensures.stopped c.in_ok-shrunk.ensures.few steps left;
      written = c.in_ok-text.ensures.text;
    }
