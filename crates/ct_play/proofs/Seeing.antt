-- What terms come to, one step more at a time.
use Rattle.std.proofs.Common.{◌≡◌, ℕ, zero, suc, ◌+◌, ◌<◌, ◌≤◌, Bool, List, [], ◌∷◌, ◌++◌, Option, Some, ap, sym, ◌∙◌, refl, arith, add-one}
use Rattle.std.proofs.Common.{get_or, length, length-append}
use Rattle.std.specs.Prelude.{◌&&◌, ◌||◌}
use Rattle.std.specs.List.{list_all, zip}
use Rattle.std.proofs.lemmas.Grind.{take_at_read}
use Rattle.std.proofs.lemmas.List.{take-append-le}
use Rattle.std.proofs.Math.ListN.{set}
use Rattle.ct_model.specs.declared.step.Step.{Step}
use Rattle.ct_grammar.specs.declared.goal.Goal.{Goal}
use Rattle.ct_grammar.specs.declared.term.Term.{Term}
use Rattle.ct_grammar.specs.declared.term.When.{When}
use Rattle.ct_grammar.specs.declared.term.When.TheVariants.{Now, Ever, Never}
use Rattle.ct_play.proofs.Later.{whole_part}
use Rattle.ct_play.specs.Goals.{after_look, come_to, holds_at, is_due, is_met, is_shown, looked_at, looks_of}
use Rattle.ct_play.specs.Goals.{next_look, shows, terms, was_seen}
use Rattle.ct_play.specs.Played.{Played, first_part, with_record, with_step}

-- ---- beginnings

-- the steps up to the last one are those that were there
part_of_more : (s : Played) (step : Step) (n : ℕ) → n ≤ length s.rehearsal.steps → first_part (with_step s step) n ≡ first_part s n
part_of_more s step n le =
    ap (λ l. with_record s (record s.rehearsal { steps = l })) (take-append-le n s.rehearsal.steps (step ∷ []) le)

-- one step more of the record
pub part_more : (s : Played) (i : ℕ) (d : Step) → i < length s.rehearsal.steps →
    with_step (first_part s i) (get_or s.rehearsal.steps i d) ≡ first_part s (i + 1)
part_more s i d lt = ap (λ l. with_record s (record s.rehearsal { steps = l })) (sym ((take_at_read s.rehearsal.steps i d lt).1))

-- the same of the steps by another name
pub part_next : (s part new : Played) (steps : List Step) (i : ℕ) (d : Step) → steps ≡ s.rehearsal.steps → i < length steps →
    part ≡ first_part s i → new ≡ with_step part (get_or steps i d) → new ≡ first_part s (i + 1)
part_next s part new steps i d same lt so_far e =
    let here : i < length s.rehearsal.steps = omega (arith, ap length same) in
    e ∙ (ap (λ u. with_step u (get_or steps i d)) so_far
    ∙ (ap (λ l. with_step (first_part s i) (get_or l i d)) same ∙ part_more s i d here))

seen_still : (s : Played) (step : Step) (t : Term) (n : ℕ) → n ≤ length s.rehearsal.steps → was_seen (with_step s step) t n ≡ was_seen s t n
unfolding was_seen
seen_still s step t zero le = ap (λ u. holds_at u t) (part_of_more s step 0 le)
seen_still s step t (suc n) le =
    ap (λ b. b || holds_at (first_part (with_step s step) (suc n)) t) (seen_still s step t n (omega arith))
    ∙ ap (λ u. was_seen s t n || holds_at u t) (part_of_more s step (suc n) le)

seen_next : (s : Played) (t : Term) (n : ℕ) → was_seen s t (suc n) ≡ (was_seen s t n || holds_at (first_part s (suc n)) t)
unfolding was_seen
seen_next s t n = refl

pub seen_first : (s : Played) (t : Term) → was_seen s t 0 ≡ holds_at (first_part s 0) t
unfolding was_seen
seen_first s t = refl

-- one beginning more
pub seen_more : (s part : Played) (t : Term) (n : ℕ) → part ≡ first_part s (n + 1) →
    was_seen s t (n + 1) ≡ (was_seen s t n || holds_at part t)
seen_more s part t n e =
    ap (was_seen s t) (add-one n) ∙ (seen_next s t n
    ∙ ap (λ u. was_seen s t n || holds_at u t) (sym (e ∙ ap (first_part s) (add-one n))))

seen_by_step : (s : Played) (step : Step) (t : Term) →
    was_seen (with_step s step) t (length (with_step s step).rehearsal.steps)
    ≡ (was_seen s t (length s.rehearsal.steps) || holds_at (with_step s step) t)
seen_by_step s step t =
    let n : length (s.rehearsal.steps ++ step ∷ []) ≡ length s.rehearsal.steps + 1 =
    omega (arith, length-append s.rehearsal.steps (step ∷ [])) in
    ap (was_seen (with_step s step) t) n
    ∙ (seen_more (with_step s step) (with_step s step) t (length s.rehearsal.steps)
    (sym (whole_part (with_step s step) (first_part (with_step s step) (length s.rehearsal.steps + 1))
    (length s.rehearsal.steps + 1) (sym n) refl))
    ∙ ap (λ b. b || holds_at (with_step s step) t) (seen_still s step t (length s.rehearsal.steps) (omega arith)))

-- ---- terms

come_more : (when : When) (s : Played) (step : Step) (t : Term) →
    come_to when (with_step s step) t ≡ after_look when (come_to when s t) (holds_at (with_step s step) t)
come_more Now s step t = refl
come_more Ever s step t = seen_by_step s step t
come_more Never s step t = seen_by_step s step t

-- each of the terms was looked at after one step more
pub looks_more : (s : Played) (step : Step) (ts : List Term) →
    looked_at (with_step s step) (length ts) ts (looks_of s ts) ≡ looks_of (with_step s step) ts
looks_more s step [] = refl
looks_more s step (t ∷ ts) =
    ap (λ b. b ∷ looked_at (with_step s step) (length ts) ts (looks_of s ts)) (sym (come_more t.when s step t))
    ∙ ap (λ l. come_to t.when (with_step s step) t ∷ l) (looks_more s step ts)

-- the same of the terms and the looks by other names
pub looks_stepped : (s t : Played) (step : Step) (ts us : List Term) (old new : List Bool) → us ≡ ts → t ≡ with_step s step →
    old ≡ looks_of s ts → new ≡ looked_at t (length us) us old → new ≡ looks_of t ts
looks_stepped s t step ts us old new of taken before here =
    here
    ∙ (ap (λ l. looked_at t (length l) l old) of
    ∙ (ap (looked_at t (length ts) ts) before
    ∙ (ap (λ (u : Played). looked_at u (length ts) ts (looks_of s ts)) taken
    ∙ (looks_more s step ts ∙ ap (λ (u : Played). looks_of u ts) (sym taken)))))

-- ---- one term after another

pub looked_none : (s : Played) (ts : List Term) (looks : List Bool) → looked_at s 0 ts looks ≡ looks
looked_none s ts looks = refl

looked_suc : (s : Played) (i : ℕ) (ts : List Term) (looks : List Bool) (d : Term) (e : Bool) → i < length ts → length looks ≡ length ts →
    set (looked_at s i ts looks) i (next_look s (get_or ts i d) (get_or (looked_at s i ts looks) i e)) ≡ looked_at s (suc i) ts looks
looked_suc s i [] looks d e lt same = absurd (omega arith)
looked_suc s i (t ∷ ts) [] d e lt same = absurd (omega arith)
looked_suc s zero (t ∷ ts) (b ∷ looks) d e lt same = refl
looked_suc s (suc i) (t ∷ ts) (b ∷ looks) d e lt same =
    ap (λ l. next_look s t b ∷ l) (looked_suc s i ts looks d e (omega arith) (omega arith))

pub looked_more : (s : Played) (i : ℕ) (ts : List Term) (looks : List Bool) (d : Term) (e : Bool) → i < length ts →
    length looks ≡ length ts →
    set (looked_at s i ts looks) i (next_look s (get_or ts i d) (get_or (looked_at s i ts looks) i e)) ≡ looked_at s (i + 1) ts looks
looked_more s i ts looks d e lt same = looked_suc s i ts looks d e lt same ∙ ap (λ k. looked_at s k ts looks) (sym (add-one i))

-- ---- whether the terms hold

pub due_looks : (s : Played) (ts : List Term) →
    list_all (λ look. is_due look.0.when look.1) (zip ts (looks_of s ts)) ≡ list_all (is_met s) ts
due_looks s [] = refl
due_looks s (t ∷ ts) = ap (λ b. is_met s t && b) (due_looks s ts)

-- the goal is shown where each look is due
pub shown_by_looks : (o : Option Goal) (goal : Goal) (s : Played) (ts : List Term) (looks : List Bool) (r : Bool) →
    r ≡ list_all (λ look. is_due look.0.when look.1) (zip ts looks) → ts ≡ goal → looks ≡ looks_of s (terms o) → o ≡ Some goal →
    r ≡ is_shown o s
unfolding is_shown shows
shown_by_looks o goal s ts looks r here of came e =
    here
    ∙ (ap (λ l. list_all (λ look. is_due look.0.when look.1) (zip l looks)) of
    ∙ (ap (λ l. list_all (λ look. is_due look.0.when look.1) (zip goal l)) (came ∙ ap (λ o. looks_of s (terms o)) e)
    ∙ (due_looks s goal ∙ ap (λ o. is_shown o s) (sym e))))
