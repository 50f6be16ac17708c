-- Steps that a stage took.
use Rattle.ct_embed.proofs.Common.{◌≡◌, ℕ, length, get_or, inl, inr, Refusal, Rehearsal, AllowsFirst, IsFaultOf, first_steps}
use Rattle.std.proofs.Common.{suc, add-one, ◌+◌, ◌-◌, ◌<◌, ◌++◌, List, Some, None, refl, sym, ap, subst, ◌∙◌, arith}
use Rattle.std.proofs.lemmas.Bool.{cases_lt}
use Rattle.std.proofs.lemmas.List.{take_more, length-append}
use Rattle.std.specs.Prelude.{Option, Ok, slice_get}
use Rattle.core.proofs.iter.runs.Lists.{nth_read}
use Rattle.ct_names.specs.declared.command.Command.TheVariants.{Set}
use Rattle.ct_model.specs.declared.step.Step.{Step}
use Rattle.ct_model.specs.declared.step.Step.TheVariants.{Submit}
use Rattle.ct_model.specs.AtValue.{Envelope}
use Rattle.ct_model.specs.Cause.{cause}
use Rattle.ct_model.specs.Lawful.{IsLawful}
use Rattle.ct_model.specs.Rehearsal.{extended, state_of}
use Rattle.ct_model.specs.Setting.{Setting}
use Rattle.ct_model.specs.State.{State}
use Rattle.ct_model.specs.Wire.{envelopes}
use Rattle.ct_model.proofs.Basics.Options.{some-same}
use Rattle.ct_model.proofs.Record.Allowed.{cause-allowed}
use Rattle.ct_model.proofs.Record.Runs.{state_of-push, stepped-next}
use Rattle.ct_model.proofs.Relay.Messages.{next-is}
use Rattle.ct_play.specs.Acting.{stepped, unless_refused}
use Rattle.ct_play.specs.Played.{Played}
use Rattle.ct_world.specs.Posting.{IsRefusal}
use Rattle.ct_world.specs.World.{IsDone}

taken : (s t : Played) (step : Step) (o : Option Refusal) → unless_refused s step o ≡ Ok t → o ≡ None
taken s t step None h = refl
taken s t step (Some refusal) h = search h

-- it was allowed
pub allowed : (s t : Played) (step : Step) → stepped s step ≡ Ok t → cause s.rehearsal step ≡ None
unfolding stepped
allowed s t step h = taken s t step (cause s.rehearsal step) h

-- it is done, and sent as many envelopes as there are more
pub is_done : (w new : Rehearsal) (step : Step) (count : ℕ) → IsLawful w → cause w step ≡ None → new ≡ extended w step →
    count ≡ length (state_of new).sent - length (state_of w).sent → IsDone w step new count
unfolding Rattle.ct_model.specs.Next.after
is_done w new step count lawful free joined sent =
    let it = cause-allowed w step lawful free in
    let reached : state_of new ≡ it.after =
    ap state_of joined ∙ state_of-push w step ∙ stepped-next w.setting (state_of w) it.after step it.enabled in
    let is = next-is w.setting (state_of w) step it.after it.enabled in
    let more : List Envelope = envelopes w.setting.members is.outcome.mail in
    let grown : (state_of new).sent ≡ (state_of w).sent ++ more =
    ap (λ (g : State). g.sent) reached ∙ sym (ap (λ (g : State). g.sent) is.gives) in
    let count_is = ap length grown ∙ length-append (state_of w).sent more in
    record { joined = joined; next = it.enabled ∙ ap Some (sym reached); sent_more = omega (arith, count_is, sent) }

-- ---- steps of a list, one after another

-- what a place past the end of the list would hold
abbrev no_step : Step
no_step = Submit 0 (Set 0 0)

allowed_more : (s : Setting) (cells : ℕ) (steps : List Step) (i : ℕ) → i < length steps → AllowsFirst s cells steps i →
    cause (first_steps s cells steps i) (get_or steps i no_step) ≡ None → AllowsFirst s cells steps (i + 1)
allowed_more s cells steps i left before now j step below at = elim (cases_lt j i) [
  | inl low ↦ before j step low at
  | inr high ↦ (let same : i ≡ j = omega arith in
      let here = get_or steps i no_step in
      let is : here ≡ step =
      some-same here step (sym (nth_read steps i no_step left) ∙ subst (λ m. slice_get steps m ≡ Some step) (sym same) at) in
      subst (λ m. cause (first_steps s cells steps m) step ≡ None) same
      (subst (λ t. cause (first_steps s cells steps i) t ≡ None) is now))
]

-- the next one is done
pub goes_on : (s : Setting) (cells : ℕ) (steps : List Step) (i : ℕ) (w new : Rehearsal) → i < length steps →
    w ≡ first_steps s cells steps i → AllowsFirst s cells steps i → cause w (get_or steps i no_step) ≡ None →
    new ≡ extended w (get_or steps i no_step) → (new ≡ first_steps s cells steps (i + 1)) × AllowsFirst s cells steps (i + 1)
goes_on s cells steps i w new left is before free joined =
    let here = get_or steps i no_step in (
      joined ∙ ap (λ (v : Rehearsal). extended v here) is
          ∙ ap (λ (l : List Step). record { setting = s; cells = cells; steps = l }) (sym (take_more steps i no_step left)),
      allowed_more s cells steps i left before (subst (λ v. cause v here ≡ None) is free),
    )

-- or refused
pub stops : (s : Setting) (cells : ℕ) (steps : List Step) (i : ℕ) (w : Rehearsal) (refusal : Refusal) → i < length steps →
    w ≡ first_steps s cells steps i → AllowsFirst s cells steps i → IsRefusal w (get_or steps i no_step) refusal →
    IsFaultOf s cells steps (i + 1) refusal
stops s cells steps i w refusal left is before why =
    let here = get_or steps i no_step in
    let at_here = subst (λ v. IsRefusal v here refusal) is why in
    let stopped : IsFaultOf s cells steps (suc i) refusal =
    record {
      within = left;
      before = before;
      refused = λ step at. subst (λ t. IsRefusal (first_steps s cells steps i) t refusal)
          (some-same here step (sym (nth_read steps i no_step left) ∙ at)) at_here;
    } in
    subst (λ n. IsFaultOf s cells steps n refusal) (sym (add-one i)) stopped
