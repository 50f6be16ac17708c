-- Records with more steps.
use Rattle.std.proofs.Common.{◌≡◌, ℕ, [], ◌∷◌, ◌++◌, length, take, sym, ap, ◌∙◌, append_assoc, append-nil, arith}
use Rattle.std.proofs.lemmas.List.{take_all}
use Rattle.std.proofs.Math.Seq.{take-append_seam}
use Rattle.ct_model.specs.declared.step.Step.{Step}
use Rattle.ct_play.specs.Played.{IsLater, Played, first_part, with_record, with_step}

pub later_same : (old new : Played) → new ≡ old → IsLater old new
later_same old new e = record {
  more = [];
  is = e ∙ ap (λ l. with_record old (record old.rehearsal { steps = l })) (sym (append-nil old.rehearsal.steps));
}

pub later_step : (old new : Played) (step : Step) → new ≡ with_step old step → IsLater old new
later_step old new step e = record { more = step ∷ []; is = e }

pub ruleset later_once = (later_same, later_step)

pub later_on : (old mid new : Played) → IsLater old mid → IsLater mid new → IsLater old new
later_on old mid new first then = record {
  more = first.more ++ then.more;
  is = then.is ∙ ap (λ (w : Played). with_record w (record w.rehearsal { steps = w.rehearsal.steps ++ then.more })) first.is
      ∙ ap (λ l. with_record old (record old.rehearsal { steps = l })) (append_assoc old.rehearsal.steps first.more then.more);
}

-- as many first steps as the old record had are the old record
pub back_again : (old mid new : Played) (count : ℕ) → count ≡ length old.rehearsal.steps → IsLater old mid →
    new ≡ first_part mid count → new ≡ old
back_again old mid new count n later e =
    e ∙ ap (λ (w : Played). first_part w count) later.is
    ∙ ap (λ k. with_record old (record old.rehearsal { steps = take k (old.rehearsal.steps ++ later.more) })) n
    ∙ ap (λ l. with_record old (record old.rehearsal { steps = l })) (take-append_seam old.rehearsal.steps later.more)

-- all its steps
pub whole_part : (s t : Played) (count : ℕ) → count ≡ length s.rehearsal.steps → t ≡ first_part s count → t ≡ s
whole_part s t count n e =
    e ∙ ap (λ l. with_record s (record s.rehearsal { steps = l })) (take_all count s.rehearsal.steps (omega (arith, n)))
