use Rattle.std.proofs.Common.{◌≡◌, ap, refl, subst, take, ◌∙◌}
use Rattle.std.proofs.lemmas.List.{take_min}
use Rattle.ct_model.specs.Rehearsal.{Rehearsal}
use Rattle.ct_model.specs.Senders.{senders as senders_of}
use Rattle.ct_records.specs.Replay.{IsAllowed}
use Rattle.ct_records.specs.View.{rehearsal_of}
use Rattle.ct_world.specs.Replay.{IsFaultOf}
use Rattle.ct_world.specs.Setup.{record_of}
use Rattle.ct_views.specs.declared.view.View.TheVariants.{State}
use Rattle.ct_views.specs.Answer.{part_of, state_in}
use Rattle.ct_views.proofs.Stepping.{answer_without}
use Rattle.ct_views.proofs.answer.state_of.Goals as goal

pub returns-in-Err-clause-ok : goal.returns-in-Err-clause-ok
returns-in-Err-clause-ok c =
    let fault = c.in-Err.fault in
    let v = rehearsal_of c.args.script.now in
    let first : take c.min-count.result c.deref.result.now ≡ take c.args.count v.steps =
    rw (c.min-count.ensures, c.len.ensures, ← c.deref.ensures.len) (take_min c.args.count c.deref.result.now)
    ∙ ap (take c.args.count) c.deref.ensures.value in
    let part : record_of c.setup.result (take c.min-count.result c.deref.result.now) ≡ part_of (State c.args.count c.args.form) v =
    ap (record_of c.setup.result) first ∙ ap (λ (w : Rehearsal). record w { steps = take c.args.count w.steps }) c.setup.ensures in
    answer_without (State c.args.count c.args.form) (part_of (State c.args.count c.args.form) v) c.without_text.result fault
    (subst (λ (w : Rehearsal). IsFaultOf w.setting w.cells w.steps fault.at fault.refusal) part c.in-Err.ensures.err) refl
    c.without_text.ensures.text c.without_text.ensures.fault c.without_text.ensures.not_memory

pub returns-in_ok-state_in-in-Ok-clause-ok : goal.returns-in_ok-state_in-in-Ok-clause-ok
returns-in_ok-state_in-in-Ok-clause-ok c =
    let h = c.in-Ok.ensures in
    let senders = c.in-Ok.traced.senders.items in
    let v = rehearsal_of c.args.script.now in
    let looked_at = take c.min-count.result c.deref.result.now in
    let first : looked_at ≡ take c.args.count v.steps =
    rw (c.min-count.ensures, c.len.ensures, ← c.deref.ensures.len) (take_min c.args.count c.deref.result.now)
    ∙ ap (take c.args.count) c.deref.ensures.value in
    let part : record_of c.setup.result looked_at ≡ part_of (State c.args.count c.args.form) v =
    ap (record_of c.setup.result) first ∙ ap (λ (w : Rehearsal). record w { steps = take c.args.count w.steps }) c.setup.ensures in (
      subst IsAllowed part h.allowed,
      c.in_ok-state_in-in-Ok.ensures ∙ ap (λ (w : Rehearsal). state_in c.args.form w senders) h.world
          ∙ ap (state_in c.args.form (record_of c.setup.result looked_at)) h.senders
          ∙ ap (λ (w : Rehearsal). state_in c.args.form w (senders_of w.setting w.steps)) part,
    )
