-- The lines of one step more, and of a refused step.
use Rattle.std.proofs.Common.{◌≡◌, ℕ, suc, ◌+◌, ◌-◌, List, [], ◌++◌, length, Some}
use Rattle.std.proofs.Common.{Result, Ok, Err, refl, sym, ap, ◌∙◌, subst, arith}
use Rattle.std.specs.Prelude.{◌≢◌, IfOk, OnOk, if◌then◌else◌, slice_get}
use Rattle.ct_names.specs.declared.refusal.Refusal.TheVariants.{OutOfMemory}
use Rattle.ct_model.specs.Actor.{actor}
use Rattle.ct_model.specs.declared.step.Step.{Step}
use Rattle.ct_model.specs.Rehearsal.{Rehearsal, state_of, extended}
use Rattle.ct_model.specs.Setting.{Setting}
use Rattle.ct_world.specs.Replay.{IsFaultOf, first_steps}
use Rattle.ct_world.specs.declared.replay.Replayed.{Replayed}
use Rattle.ct_world.specs.declared.replay_fault.ReplayFault.{ReplayFault}
use Rattle.ct_records.specs.declared.program_fault.ProgramFault.{ProgramFault}
use Rattle.ct_records.proofs.Refused.{is_refused}
use Rattle.ct_views.specs.declared.answer.Answer.{Answer}
use Rattle.ct_views.specs.declared.form.Form.{Form}
use Rattle.ct_views.specs.declared.selection.Selection.{Selection}
use Rattle.ct_views.specs.declared.view.View.{View}
use Rattle.ct_views.specs.declared.view.View.TheVariants.{Steps}
use Rattle.ct_views.specs.Answer.{IsAnswer, IsShown, lines_to, refused_line, refused_shown}
use Rattle.ct_views.specs.Selected.{first_lines, is_selected, line_after, line_in}

module _ (selection : Selection) (form : Form) (s : Setting) (cells : ℕ) (steps : List Step) (i : ℕ) (here : Step)
    (there : slice_get steps i ≡ Some here) where
  -- the line of the step at the place joins those before it
  pub lines_more : (v : Rehearsal) (before : ℕ) (old new : List ℕ) → v ≡ extended (first_steps s cells steps i) here →
      before ≡ length (state_of (first_steps s cells steps i)).sent → old ≡ first_lines selection form s cells steps i →
      new ≡ old ++ (if is_selected selection (i + 1) (actor here) then line_in form v before (i + 1) here else []) →
      new ≡ first_lines selection form s cells steps (i + 1)
  lines_more v before old new joined count so_far more =
      let next : i + 1 ≡ suc i = omega arith in
      let one : first_lines selection form s cells steps (suc i)
      ≡ first_lines selection form s cells steps i ++ line_after selection form (first_steps s cells steps i) i (Some here) =
      ap (λ o. first_lines selection form s cells steps i ++ line_after selection form (first_steps s cells steps i) i o) there in
      more ∙ rw (so_far, joined, count) refl ∙ sym (ap (first_lines selection form s cells steps) next ∙ one)

-- the line of the next step of a replay joins those before it
pub replayed_more : (selection : Selection) (form : Form) (w v : Rehearsal) (i : ℕ) (it : Replayed) (old new : List ℕ) →
    slice_get w.steps i ≡ Some it.step → it.number ≡ i + 1 →
    it.before ≡ length (state_of (first_steps w.setting w.cells w.steps i)).sent →
    v ≡ extended (first_steps w.setting w.cells w.steps i) it.step → old ≡ lines_to selection form w i →
    new ≡ old ++ (if is_selected selection it.number (actor it.step) then line_in form v it.before it.number it.step else []) →
    new ≡ lines_to selection form w (i + 1)
replayed_more selection form w v i it old new there number before joined so_far more =
    lines_more selection form w.setting w.cells w.steps i it.step there v it.before old new joined before so_far (subst (λ n. new
    ≡ old ++ (if is_selected selection n (actor it.step) then line_in form v it.before n it.step else [])) number more)

-- the answer is that of the refused step, which has the number at
pub answer_refused : (selection : Selection) (form : Form) (w : Rehearsal) (r : Result Answer ProgramFault) (fault : ReplayFault)
    (done : ℕ) (old : List ℕ) →
    fault.at ≡ done + 1 → IsFaultOf w.setting w.cells w.steps fault.at fault.refusal → old ≡ lines_to selection form w done →
    IfOk r (λ a. a.text.items ≡ old
    ++ refused_line form (first_steps w.setting w.cells w.steps done) fault.at (slice_get w.steps done) fault.refusal) →
    IfOk r (λ a. a.refused ≡ Some fault) → OnOk r (fault.refusal ≢ OutOfMemory) →
    IfOk r (λ a. IsAnswer (Steps selection form) w a.text.items a.refused)
answer_refused selection form w (Ok a) fault done old at h so_far text refused other =
    let place : fault.at - 1 ≡ done = omega (arith, at) in
    rw refused (
      is_refused w fault.at fault.refusal h other,
      rw place (text ∙ ap (λ l. l
          ++ refused_line form (first_steps w.setting w.cells w.steps done) fault.at (slice_get w.steps done) fault.refusal) so_far),
    )
answer_refused selection form w (Err e) fault done old at h so_far text refused other = tt

-- an answer without a text is that of the refused step, where the view shows none
pub answer_without : (view : View) (w : Rehearsal) (r : Result Answer ProgramFault) (fault : ReplayFault) →
    IsFaultOf w.setting w.cells w.steps fault.at fault.refusal → refused_shown view w fault.at fault.refusal ≡ [] →
    IfOk r (λ a. a.text.items ≡ []) → IfOk r (λ a. a.refused ≡ Some fault) → OnOk r (fault.refusal ≢ OutOfMemory) →
    IfOk r (λ a. IsShown view w a.text.items a.refused)
answer_without view w (Ok a) fault h none text refused other =
    rw refused (is_refused w fault.at fault.refusal h other, text ∙ sym none)
answer_without view w (Err e) fault h none text refused other = tt
