use Rattle.std.proofs.Common.{◌≡◌, ◌++◌, Some, ap, ◌∙◌, subst, length}
use Rattle.std.specs.Prelude.{IfOk, slice_get, string_bytes}
use Rattle.ct_model.specs.Rehearsal.{Rehearsal, extended, state_of}
use Rattle.ct_records.specs.View.{rehearsal_of}
use Rattle.ct_world.specs.Replay.{IsFaultOf, first_steps}
use Rattle.ct_world.specs.Stage.{ReplayView, so_far}
use Rattle.ct_world.specs.World.{WorldView}
use Rattle.ct_views.specs.declared.answer.Answer.{Answer}
use Rattle.ct_views.specs.Answer.{refused_line}
use Rattle.ct_views.proofs.Stepping.{answer_refused, replayed_more}
use Rattle.ct_views.proofs.answer.lines_of.Goals as goal

pub returns-in-Err-clause-ok : goal.returns-in-Err-clause-ok
returns-in-Err-clause-ok c =
    let h = c.in-Err.ensures in
    let fault = c.in-Err.fault in
    let i = c.loop-form.replay.done in
    let whole = c.loop-form.invariant.whole in
    let old = string_bytes c.loop-form.text in
    let there : IfOk c.refused.result (λ (a : Answer). a.text.items
    ≡ old ++ refused_line c.args.form (so_far c.loop-form.replay) fault.at (slice_get c.loop-form.replay.whole.steps i) fault.refusal) =
    subst (λ (v : ReplayView). IfOk c.refused.result (λ (a : Answer). a.text.items
    ≡ old ++ refused_line c.args.form (so_far v) fault.at (slice_get v.whole.steps v.done) fault.refusal)) h.same c.refused.ensures.text in
    answer_refused c.args.selection.now c.args.form (rehearsal_of c.args.script.now) c.refused.result fault i old h.at
    (subst (λ (w : Rehearsal). IsFaultOf w.setting w.cells w.steps fault.at fault.refusal) whole h.err) c.loop-form.invariant.text
    (subst (λ (w : Rehearsal). IfOk c.refused.result (λ (a : Answer). a.text.items
    ≡ old ++ refused_line c.args.form (first_steps w.setting w.cells w.steps i) fault.at (slice_get w.steps i) fault.refusal)) whole there)
    c.refused.ensures.fault c.refused.ensures.not_memory

pub loop-form-preserved : goal.loop-form-preserved
loop-form-preserved c =
    let h = c.in-Ok-step.ensures in
    let it = c.in-Ok-step.done in
    let i = c.loop-form.replay.done in
    let whole = c.loop-form.invariant.whole in
    rw h.ok (record {
      whole = whole;
      text = replayed_more c.args.selection.now c.args.form (rehearsal_of c.args.script.now) c.world.result.now.rehearsal i it
          (string_bytes c.loop-form.text) (string_bytes c.push_selected.new.text)
          (subst (λ (w : Rehearsal). slice_get w.steps i ≡ Some it.step) whole h.step) h.number
          (subst (λ (w : Rehearsal). it.before ≡ length (state_of (first_steps w.setting w.cells w.steps i)).sent) whole h.before)
          (ap (λ (v : WorldView). v.rehearsal) c.world.ensures ∙ h.done.joined
          ∙ ap (λ (w : Rehearsal). extended (first_steps w.setting w.cells w.steps i) it.step) whole)
          c.loop-form.invariant.text c.in_ok-push_selected.ensures;
    })
