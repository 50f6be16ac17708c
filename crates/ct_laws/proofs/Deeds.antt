-- The steps of acts and of turns.
use Rattle.std.proofs.Common.{◌≡◌, ℕ, Bool, true, false, List, [], ◌∷◌, ◌++◌, map, refl, ap, sym, ◌∙◌, subst}
use Rattle.std.proofs.Common.{append_assoc, append-nil}
use Rattle.std.specs.Prelude.{if◌then◌else◌, Option, Some, None, Result, Ok, Err, fold}
use Rattle.ct_names.specs.declared.refusal.Refusal.{Refusal}
use Rattle.ct_model.specs.Cause.{cause}
use Rattle.ct_model.specs.Rehearsal.{Rehearsal, empty, extended}
use Rattle.ct_model.specs.declared.step.Step.{Step}
use Rattle.ct_model.specs.declared.step.Step.TheVariants as step
use Rattle.ct_choices.specs.Choices.{has_crashed}
use Rattle.ct_grammar.specs.declared.act.Act.{Act}
use Rattle.ct_grammar.specs.declared.act.Act.TheVariants.{LoseFrom}
use Rattle.ct_grammar.specs.declared.statement.Statement.{Statement}
use Rattle.ct_grammar.specs.declared.who.Who.{Who}
use Rattle.ct_grammar.specs.declared.who.Who.TheVariants as who
use Rattle.ct_play.specs.Acting.{after_losses, after_step, done, done_by, done_by_each}
use Rattle.ct_play.specs.Acting.{go_on, step_of, stepped, unless_barred, unless_refused}
use Rattle.ct_play.specs.Cuts.{barred}
use Rattle.ct_play.specs.Picking.{waiting_from}
use Rattle.ct_play.specs.Played.{Played, with_record, with_step}
use Rattle.ct_play.specs.Outcomes.{is_stated, outcome}
use Rattle.ct_play.specs.Stating.{done_so, done_so_by, done_so_by_each, unless_other}
use Rattle.ct_play.specs.declared.line_fault.LineFault.{LineFault}
use Rattle.ct_play.specs.declared.line_fault.LineFault.TheVariants.{NotSo}
use Rattle.ct_laws.specs.Places.{AreAllowed, AreDeeds, EachIsAllowed, IsBy, IsDeed, IsSaid, IsUnless, behind, with_steps}

-- ---- steps behind a record

pub nothing_behind : (w : Rehearsal) → behind w [] ≡ w
nothing_behind w = ap (λ steps. record w { steps = steps }) (append-nil w.steps)

pub both_behind : (w : Rehearsal) (a b : List Step) → behind (behind w a) b ≡ behind w (a ++ b)
both_behind w a b = ap (λ steps. record w { steps = steps }) (append_assoc w.steps a b)

pub allowed_both : (a b : List Step) (w : Rehearsal) → AreAllowed w a → AreAllowed (behind w a) b → AreAllowed w (a ++ b)
allowed_both [] b w h k = subst (λ v. AreAllowed v b) (nothing_behind w) k
allowed_both (s ∷ a) b w h k =
    (h.0, allowed_both a b (extended w s) h.1 (subst (λ v. AreAllowed v b) (sym (both_behind w (s ∷ []) a)) k))

-- such a record is allowed throughout where the first one is
pub whole_behind : (w v : Rehearsal) (steps : List Step) → v ≡ behind w steps → AreAllowed w steps → EachIsAllowed w → EachIsAllowed v
whole_behind w v steps is more whole = subst EachIsAllowed (sym is) (allowed_both w.steps steps (empty w.setting w.cells) whole more)

pub grown_whole : (s t : Played) (steps : List Step) → t ≡ with_steps s steps → AreAllowed s.rehearsal steps → EachIsAllowed s.rehearsal →
    EachIsAllowed t.rehearsal
grown_whole s t steps is more whole = whole_behind s.rehearsal t.rehearsal steps (ap (λ (v : Played). v.rehearsal) is) more whole

-- a stage that has these steps more, of which this is true
pub record Grows (P : List Step → Type 0) (s t : Played) : Type 0 where
  pub steps : List Step
  pub is : t ≡ with_steps s steps
  pub allowed : AreAllowed s.rehearsal steps
  pub so : P steps

-- the same, which is so where the record is allowed throughout
abbrev pub GrowsIf : (List Step → Type 0) → Played → Played → Type 0
GrowsIf P s t = Grows (λ steps. EachIsAllowed s.rehearsal → P steps) s t

pub grows_more : (P Q : List Step → Type 0) (s t : Played) → ((steps : List Step) → P steps → Q steps) → Grows P s t → Grows Q s t
grows_more P Q s t f g = record { steps = g.steps; is = g.is; allowed = g.allowed; so = f g.steps g.so }

pub grows_not : (P : List Step → Type 0) (s : Played) → P [] → Grows P s s
grows_not P s h = record { steps = []; is = ap (with_record s) (sym (nothing_behind s.rehearsal)); allowed = tt; so = h }

-- and then more
pub grows_on : (P Q R : List Step → Type 0) (s t u : Played) → Grows P s t → Grows Q t u →
    ((a b : List Step) → t ≡ with_steps s a → AreAllowed s.rehearsal a → P a → Q b → R (a ++ b)) → Grows R s u
grows_on P Q R s t u g h f = record {
  steps = g.steps ++ h.steps;
  is = h.is ∙ ap (λ v. with_steps v h.steps) g.is ∙ ap (with_record s) (both_behind s.rehearsal g.steps h.steps);
  allowed = allowed_both g.steps h.steps s.rehearsal g.allowed (subst (λ (v : Played). AreAllowed v.rehearsal h.steps) g.is h.allowed);
  so = f g.steps h.steps g.is g.allowed g.so h.so;
}

-- ---- one step

unless_grows : (s t : Played) (step : Step) (o : Option Refusal) → cause s.rehearsal step ≡ o → unless_refused s step o ≡ Ok t →
    Grows (λ steps. steps ≡ step ∷ []) s t
unless_grows s t step None free h =
    let same : with_step s step ≡ t = cc h in
    record { steps = step ∷ []; is = sym same; allowed = (free, tt); so = refl }
unless_grows s t step (Some refusal) free h = absurd (cc h)

step_grows : (s t : Played) (step : Step) → stepped s step ≡ Ok t → Grows (λ steps. steps ≡ step ∷ []) s t
unfolding stepped
step_grows s t step h = unless_grows s t step (cause s.rehearsal step) refl h

unless_same : (o : Option LineFault) (t u : Played) → unless_barred o t ≡ Ok u → (o ≡ None) × (t ≡ u)
unless_same None t u h = (refl, cc h)
unless_same (Some fault) t u h = absurd (cc h)

pub going_on : {A B : Type 0} (r : Result A LineFault) (f : A → Result B LineFault) (b : B) → go_on r f ≡ Ok b →
    (a : A) × (r ≡ Ok a) × (f a ≡ Ok b)
going_on (Ok a) f b h = (a, refl, h)
going_on (Err fault) f b h = absurd (cc h)

pub after_grows : (s t : Played) (step : Step) → after_step s step ≡ Ok t → Grows (λ steps. steps ≡ step ∷ []) s t
unfolding after_step
after_grows s t step h =
    let on = going_on (stepped s step) (unless_barred (barred s step)) t h in
    step_grows s t step (on.1 ∙ ap Ok (unless_same (barred s step) on.0 t on.2).1)

not_barred : (s t : Played) (step : Step) → after_step s step ≡ Ok t → barred s step ≡ None
unfolding after_step
not_barred s t step h =
    let on = going_on (stepped s step) (unless_barred (barred s step)) t h in
    (unless_same (barred s step) on.0 t on.2).0

-- ---- the losses of an act

losses_fail : (p : ℕ) (ks : List ℕ) (fault : LineFault) (t : Played) →
    fold (λ r k. go_on r (λ u. after_step u (step.Lose p k))) (Err fault) ks ≡ Ok t → ⊥
losses_fail p [] fault t h = absurd (cc h)
losses_fail p (k ∷ ks) fault t h = losses_fail p ks fault t h

losses_of : (p k : ℕ) (ks : List ℕ) (a b : List Step) → a ≡ step.Lose p k ∷ [] → b ≡ map (step.Lose p) ks →
    a ++ b ≡ map (step.Lose p) (k ∷ ks)
losses_of p k ks a b here later = ap (λ l. l ++ b) here ∙ ap (λ l. step.Lose p k ∷ l) later

losses_on : (p k : ℕ) (ks : List ℕ) (s t : Played) (r : Result Played LineFault) → after_step s (step.Lose p k) ≡ r →
    ((u : Played) → after_losses p u ks ≡ Ok t → Grows (λ steps. steps ≡ map (step.Lose p) ks) u t) →
    fold (λ r k. go_on r (λ u. after_step u (step.Lose p k))) r ks ≡ Ok t → Grows (λ steps. steps ≡ map (step.Lose p) (k ∷ ks)) s t
losses_on p k ks s t (Ok u) by more h =
    grows_on (λ steps. steps ≡ step.Lose p k ∷ []) (λ steps. steps ≡ map (step.Lose p) ks) (λ steps. steps ≡ map (step.Lose p) (k ∷ ks))
    s u t (after_grows s u (step.Lose p k) by) (more u h) (λ a b _ _ here later. losses_of p k ks a b here later)
losses_on p k ks s t (Err fault) by more h = absurd (losses_fail p ks fault t h)

losses_grow : (p : ℕ) (ks : List ℕ) (s t : Played) → after_losses p s ks ≡ Ok t → Grows (λ steps. steps ≡ map (step.Lose p) ks) s t
losses_grow p [] s t h = subst (λ v. Grows (λ steps. steps ≡ []) s v) (cc h) (grows_not (λ steps. steps ≡ []) s refl)
losses_grow p (k ∷ ks) s t h = losses_on p k ks s t (after_step s (step.Lose p k)) refl (λ u. losses_grow p ks u t) h

-- ---- the deed of a member

-- a deed of one step
abbrev IsOne : Played → ℕ → Act → List Step → Type 0
IsOne s p act steps = (step : Step) × (step_of s.rehearsal p act ≡ Ok step) × (barred s step ≡ None) × (steps ≡ step ∷ [])

one_grows : (s t : Played) (p : ℕ) (act : Act) → go_on (step_of s.rehearsal p act) (after_step s) ≡ Ok t →
    Grows (IsOne s p act) s t
one_grows s t p act h =
    let on = going_on (step_of s.rehearsal p act) (after_step s) t h in
    grows_more (λ steps. steps ≡ on.0 ∷ []) (IsOne s p act) s t
    (λ steps so. (on.0, on.1, not_barred s t on.0 on.2, so)) (after_grows s t on.0 on.2)

pub deed_grows : (s t : Played) (p : ℕ) (act : Act) → done s p act ≡ Ok t → Grows (IsDeed act s p) s t
deed_grows s t p (LoseFrom set) h =
    let on = going_on (step_of s.rehearsal p (LoseFrom set)) (λ _. after_losses p s (waiting_from s.rehearsal p set)) t h in
    losses_grow p (waiting_from s.rehearsal p set) s t on.2
deed_grows s t p act h = one_grows s t p act h

-- ---- a step that comes to this

if_so : (c : Bool) (p : ℕ) (t u : Played) → (if c then Ok t else Err (NotSo p)) ≡ Ok u → (c ≡ true) × (t ≡ u)
if_so true p t u h = (refl, cc h)
if_so false p t u h = absurd (cc h)

said_of : (s t : Played) (p : ℕ) (act : Act) (said : Statement) (step : Step) → step_of s.rehearsal p act ≡ Ok step →
    barred s step ≡ None → is_stated (outcome t.rehearsal step) said ≡ true → Grows (λ steps. steps ≡ step ∷ []) s t →
    Grows (IsSaid act said s p) s t
said_of s t p act said step is free came g =
    let at : t ≡ with_steps s (step ∷ []) = g.is ∙ ap (with_steps s) g.so in
    let here = ap (λ (u : Played). is_stated (outcome u.rehearsal step) said) (sym at) ∙ came in
    grows_more (λ steps. steps ≡ step ∷ []) (IsSaid act said s p) s t (λ steps so. (step, is, free, here, so)) g

said_grows : (s t : Played) (p : ℕ) (act : Act) (said : Statement) → done_so act said s p ≡ Ok t → Grows (IsSaid act said s p) s t
unfolding done_so
said_grows s t p act said h =
    let on = going_on (step_of s.rehearsal p act) (λ step. go_on (after_step s step) (unless_other p step said)) t h in
    let more = going_on (after_step s on.0) (unless_other p on.0 said) t on.2 in
    let so = if_so (is_stated (outcome (more.0).rehearsal on.0) said) p more.0 t more.2 in
    said_of s t p act said on.0 on.1 (not_barred s more.0 on.0 more.1)
    (ap (λ (u : Played). is_stated (outcome u.rehearsal on.0) said) (sym so.1) ∙ so.0)
    (subst (λ u. Grows (λ steps. steps ≡ on.0 ∷ []) s u) so.1 (after_grows s more.0 on.0 more.1))

-- ---- each of several members

-- what is done, and that it has these steps
record Does (Deed : Played → ℕ → List Step → Type 0) (takes : Played → ℕ → Result Played LineFault) : Type 0 where
  pub so : (s t : Played) (p : ℕ) → takes s p ≡ Ok t → Grows (Deed s p) s t

each_fails : (takes : Played → ℕ → Result Played LineFault) (ps : List ℕ) (fault : LineFault) (t : Played) →
    fold (λ r p. go_on r (λ u. takes u p)) (Err fault) ps ≡ Ok t → ⊥
each_fails takes [] fault t h = absurd (cc h)
each_fails takes (p ∷ ps) fault t h = each_fails takes ps fault t h

module _ (Deed : Played → ℕ → List Step → Type 0) (takes : Played → ℕ → Result Played LineFault) (does : Does Deed takes) where
  each_of : (p : ℕ) (ps : List ℕ) (s u : Played) (a b : List Step) → u ≡ with_steps s a → Deed s p a → AreDeeds Deed u ps b →
      AreDeeds Deed s (p ∷ ps) (a ++ b)
  each_of p ps s u a b at here later = (a, b, refl, here, subst (λ v. AreDeeds Deed v ps b) at later)

  each_on : (p : ℕ) (ps : List ℕ) (s t : Played) (r : Result Played LineFault) → takes s p ≡ r →
      ((u : Played) → fold (λ r p. go_on r (λ v. takes v p)) (Ok u) ps ≡ Ok t → Grows (AreDeeds Deed u ps) u t) →
      fold (λ r p. go_on r (λ v. takes v p)) r ps ≡ Ok t → Grows (AreDeeds Deed s (p ∷ ps)) s t
  each_on p ps s t (Ok u) by more h =
      grows_on (Deed s p) (AreDeeds Deed u ps) (AreDeeds Deed s (p ∷ ps)) s u t
      (does.so s u p by) (more u h) (λ a b at _ here later. each_of p ps s u a b at here later)
  each_on p ps s t (Err fault) by more h = absurd (each_fails takes ps fault t h)

  each_grows : (ps : List ℕ) (s t : Played) → fold (λ r p. go_on r (λ v. takes v p)) (Ok s) ps ≡ Ok t →
      Grows (AreDeeds Deed s ps) s t
  each_grows [] s t h = subst (λ v. Grows (λ steps. steps ≡ []) s v) (cc h) (grows_not (λ steps. steps ≡ []) s refl)
  each_grows (p ∷ ps) s t h = each_on p ps s t (takes s p) refl (λ u. each_grows ps u t) h

-- where all are named, one that has crashed does nothing
unless_crashed : (Deed : Played → ℕ → List Step → Type 0) (takes : Played → ℕ → Result Played LineFault) → Does Deed takes →
    (c : Bool) (s t : Played) (p : ℕ) → (if c then Ok s else takes s p) ≡ Ok t →
    Grows (λ steps. IsUnless c (Deed s p steps) steps) s t
unless_crashed Deed takes does true s t p h = subst (λ v. Grows (λ steps. steps ≡ []) s v) (cc h) (grows_not (λ steps. steps ≡ []) s refl)
unless_crashed Deed takes does false s t p h = does.so s t p h

deed_does : (act : Act) → Does (IsDeed act) (λ s p. done s p act)
deed_does act = record { so = λ s t p h. deed_grows s t p act h }

said_does : (act : Act) (said : Statement) → Does (IsSaid act said) (done_so act said)
said_does act said = record { so = λ s t p h. said_grows s t p act said h }

done_does : (by : Who) (act : Act) → Does (IsBy by (IsDeed act)) (done_by by act)
done_does (who.One q) act = deed_does act
done_does (who.Some set) act = deed_does act
done_does who.All act = record {
  so = λ s t p h. unless_crashed (IsDeed act) (λ u q. done u q act) (deed_does act) (has_crashed s.rehearsal p) s t p h;
}

said_by_does : (by : Who) (act : Act) (said : Statement) → Does (IsBy by (IsSaid act said)) (done_so_by by act said)
said_by_does (who.One q) act said = said_does act said
said_by_does (who.Some set) act said = said_does act said
said_by_does who.All act said = record {
  so = λ s t p h. unless_crashed (IsSaid act said) (done_so act said) (said_does act said) (has_crashed s.rehearsal p) s t p h;
}

pub act_grows : (by : Who) (act : Act) (ps : List ℕ) (s t : Played) → done_by_each by act s ps ≡ Ok t →
    Grows (AreDeeds (IsBy by (IsDeed act)) s ps) s t
act_grows by act ps s t h = each_grows (IsBy by (IsDeed act)) (done_by by act) (done_does by act) ps s t h

pub stated_grows : (by : Who) (act : Act) (said : Statement) (ps : List ℕ) (s t : Played) → done_so_by_each by act said s ps ≡ Ok t →
    Grows (AreDeeds (IsBy by (IsSaid act said)) s ps) s t
stated_grows by act said ps s t h = each_grows (IsBy by (IsSaid act said)) (done_so_by by act said) (said_by_does by act said) ps s t h
