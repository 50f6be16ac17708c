-- The steps of turns.
use Rattle.std.proofs.Common.{◌≡◌, ℕ, zero, suc, Bool, true, false, List, [], ◌∷◌, ◌++◌, refl, ap, sym, ◌∙◌, subst}
use Rattle.std.proofs.lemmas.Bool.{cond_both}
use Rattle.std.proofs.lemmas.List.Sums.{fold-append}
use Rattle.std.specs.Prelude.{if◌then◌else◌, Option, Some, None, find, fold, is_none, option_map, ⊤}
use Rattle.std.specs.Option.{option_to_list}
use Rattle.ct_names.specs.Prefix.{IsPrefix}
use Rattle.ct_names.specs.declared.refusal.Refusal.{Refusal}
use Rattle.ct_names.proofs.Lists.{contrary}
use Rattle.ct_model.specs.Actor.{actor}
use Rattle.ct_model.specs.Cause.{cause}
use Rattle.ct_model.specs.Passed.{passed}
use Rattle.ct_model.specs.Rehearsal.{Rehearsal}
use Rattle.ct_model.specs.declared.step.Step.{Step}
use Rattle.ct_model.specs.declared.step.Step.TheVariants as step
use Rattle.ct_world.specs.Driving.{best_heard, candidates, next_local}
use Rattle.ct_world.specs.World.{member_of}
use Rattle.ct_grammar.specs.declared.play.Play.{Play}
use Rattle.ct_play.specs.Played.{Played, with_record}
use Rattle.ct_play.specs.Turning.{after_attempt, after_round, after_rounds, after_turn, has_ended, suspected_by, tried_at}
use Rattle.ct_laws.specs.Places.{AreAllowed, AreDeeds, EachIsAllowed, IsTurn, rounds}
use Rattle.ct_laws.proofs.Cases.{if_either}
use Rattle.ct_laws.proofs.Deeds.{Grows, GrowsIf, grown_whole, grows_more, grows_not, grows_on}
use Rattle.ct_laws.proofs.Passing.{tried_passes}

-- ---- whose step a turn tries

abbrev AllBy : ℕ → List Step → Type 0
AllBy p [] = ⊤
AllBy p (step ∷ steps) = (actor step ≡ p) × AllBy p steps

-- a step that is tried, if any, is p's
abbrev pub IsTry : ℕ → Option Step → Type 0
IsTry p None = ⊤
IsTry p (Some step) = actor step ≡ p

found_by : (f : Step → Bool) (p : ℕ) (steps : List Step) → AllBy p steps → IsTry p (find f steps)
found_by f p [] h = tt
found_by f p (step ∷ steps) h = if_either (IsTry p) (f step) (Some step) (find f steps) h.0 (found_by f p steps h.1)

candidates_by : (p : ℕ) (o : Option ℕ) →
    AllBy p ((step.Deliver p ∷ step.Follow p ∷ step.Begin p ∷ []) ++ option_to_list (option_map (step.Choose p) o)
    ++ (step.Adopt p ∷ step.Conclude p ∷ step.Enter p ∷ step.Suspect p ∷ []))
candidates_by p None = (refl, (refl, (refl, (refl, (refl, (refl, (refl, tt)))))))
candidates_by p (Some from) = (refl, (refl, (refl, (refl, (refl, (refl, (refl, (refl, tt))))))))

pub next_by : (w : Rehearsal) (p : ℕ) → IsTry p (next_local w p)
next_by w p = found_by (λ s. is_none (cause w s)) p (candidates p (member_of w p)) (candidates_by p (best_heard (member_of w p)))

-- ---- a turn

free_if : (o : Option Refusal) (w : Rehearsal) (step : Step) → cause w step ≡ o → AreAllowed w (if is_none o then step ∷ [] else [])
free_if None w step free = (free, tt)
free_if (Some refusal) w step free = tt

tried_allowed : (w : Rehearsal) (o : Option Step) → AreAllowed w (passed w (option_to_list o))
unfolding passed
tried_allowed w None = tt
tried_allowed w (Some step) = free_if (cause w step) w step refl

attempt_grows : (s : Played) (o : Option Step) → Grows (λ steps. steps ≡ passed s.rehearsal (option_to_list o)) s (after_attempt s o)
attempt_grows s o = record {
  steps = passed s.rehearsal (option_to_list o);
  is = ap (with_record s) (tried_passes s.rehearsal o);
  allowed = tried_allowed s.rehearsal o;
  so = refl;
}

-- ---- turns up to the end of their line

-- a line's turns, of each of which before its end this is so
module _ (play : Play) (Turn : Played → ℕ → List Step → Type 0)
    (so : (s : Played) (p : ℕ) (steps : List Step) → EachIsAllowed s.rehearsal → has_ended s play ≡ false →
    IsTurn (suspected_by play) s p steps → Turn s p steps) where
  -- they are the first ones that these take, all where the line hasn't come to its end
  abbrev AreFirst : Played → Played → List ℕ → List Step → Type 0
  AreFirst s t ps steps =
      (turns : List ℕ) × IsPrefix turns ps × (has_ended t play ≡ false → turns ≡ ps) × AreDeeds Turn s turns steps

  stays : (ps : List ℕ) (s : Played) → has_ended s play ≡ true → fold (after_turn play) s ps ≡ s
  unfolding after_turn
  stays [] s h = refl
  stays (p ∷ ps) s h =
      ap (λ b. fold (after_turn play) (if b then s else after_attempt s (tried_at s p (suspected_by play))) ps) h ∙ stays ps s h

  first_on : (p : ℕ) (ps : List ℕ) (s t u : Played) → has_ended s play ≡ false →
      Grows (IsTurn (suspected_by play) s p) s t → GrowsIf (AreFirst t u ps) t u → GrowsIf (AreFirst s u (p ∷ ps)) s u
  first_on p ps s t u going g h =
      grows_on _ _ _ s t u g h (λ a b at allowed here later whole.
      let rest = later (grown_whole s t a at allowed whole) in (
        p ∷ rest.0,
        (rest.1.0, ap (λ l. p ∷ l) rest.1.1),
        λ going. ap (λ l. p ∷ l) (rest.2 going),
        (a, b, refl, so s p a whole going here, subst (λ v. AreDeeds Turn v rest.0 b) at rest.3),
      ))

  pub turns_grow : (ps : List ℕ) (s : Played) → GrowsIf (AreFirst s (fold (after_turn play) s ps) ps) s (fold (after_turn play) s ps)
  unfolding after_turn
  turns_grow [] s = grows_not _ s (λ whole. ([], ([], refl), λ going. refl, refl))
  turns_grow (p ∷ ps) s =
      let t = after_attempt s (tried_at s p (suspected_by play)) in
      let f : Played → Played = λ u. fold (after_turn play) u ps in
      cond_both (has_ended s play) s t (λ u. GrowsIf (AreFirst s (f u) (p ∷ ps)) s (f u))
      (λ e. subst (λ u. GrowsIf (AreFirst s u (p ∷ ps)) s u) (sym (stays ps s e))
      (grows_not _ s (λ whole. ([], (p ∷ ps, refl), λ going. contrary (has_ended s play) e going, refl))))
      (λ e. first_on p ps s t (f t) e (attempt_grows s (tried_at s p (suspected_by play))) (turns_grow ps t))

-- all of them, where the line has no such end
pub all_grow : (play : Play) → ((t : Played) → has_ended t play ≡ false) → (ps : List ℕ) (s : Played) →
    GrowsIf (AreDeeds (IsTurn (suspected_by play)) s ps) s (fold (after_turn play) s ps)
all_grow play going ps s =
    grows_more _ _ s (fold (after_turn play) s ps)
    (λ steps first whole. let turns = first whole in
    subst (λ l. AreDeeds (IsTurn (suspected_by play)) s l steps) (turns.2 (going (fold (after_turn play) s ps))) turns.3)
    (turns_grow play (IsTurn (suspected_by play)) (λ t p steps whole going here. here) ps s)

-- rounds are turns of the same ones so many times over
pub in_turns : (play : Play) (ps : List ℕ) (s : Played) (n : ℕ) → after_rounds play ps s n ≡ fold (after_turn play) s (rounds n ps)
unfolding after_rounds rounds
in_turns play ps s zero = refl
in_turns play ps s (suc n) =
    ap (after_round play ps) (in_turns play ps s n) ∙ sym (fold-append (after_turn play) s (rounds n ps) ps)

pub rounds_grow : (play : Play) → ((t : Played) → has_ended t play ≡ false) → (ps : List ℕ) (s : Played) (n : ℕ) →
    GrowsIf (AreDeeds (IsTurn (suspected_by play)) s (rounds n ps)) s (after_rounds play ps s n)
rounds_grow play going ps s n =
    subst (GrowsIf (AreDeeds (IsTurn (suspected_by play)) s (rounds n ps)) s) (sym (in_turns play ps s n))
    (all_grow play going (rounds n ps) s)
