-- What a driver does next at a member.
use Rattle.std.proofs.Common.{arith, ◌≡◌, ℕ, List, [], ◌∷◌, ◌++◌, Option, Some, None, Result, Ok, Err, Bor, find, flat_map, map, option_map}
use Rattle.std.proofs.Common.{option_and_then, is_none, refl, ap, sym, ◌∙◌, subst}
use Rattle.std.specs.Prelude.{MatchResult}
use Rattle.std.specs.Option.{option_to_list}
use Rattle.std.specs.Result.{result_ok}
use Rattle.ct_names.specs.declared.refusal.Refusal.{Refusal}
use Rattle.ct_names.specs.Value.{Value}
use Rattle.ct_model.specs.declared.step.Step.{Step}
use Rattle.ct_model.specs.declared.step.Step.TheVariants.{Begin, Enter, Choose, Adopt, Suspect, Conclude, Deliver, Follow}
use Rattle.ct_model.specs.Actor.{actor}
use Rattle.ct_model.specs.AtValue.{Standing}
use Rattle.ct_model.specs.Received.{Heard, Ballots, ballots, is_largest}
use Rattle.ct_model.specs.Mapped.{heard_map, ballots_map}
use Rattle.ct_model.specs.Next.{own_ballots}
use Rattle.ct_model.specs.Rehearsal.{Rehearsal, state_of}
use Rattle.ct_model.specs.Cause.{cause}
use Rattle.ct_model.proofs.Record.Causes.{cause-absent}
use Rattle.ct_model.proofs.Numbers.Naturality.{is_largest-map}
use Rattle.ct_model.proofs.Basics.Options.{some-same, some-none}
use Rattle.ct_rounds.specs.Best.{best}
use Rattle.ct_rounds.specs.Part.{Part, got}
use Rattle.ct_instances.specs.Kept.{ballots_of}
use Rattle.ct_instances.specs.Named.{value_at}
use Rattle.ct_instances.specs.Steps.{open_rounds}
use Rattle.ct_instances.proofs.Turning.{keeps-round}
use Rattle.ct_world.specs.declared.seat.Seat.{Seat}
use Rattle.ct_world.specs.Driving.{best_heard, next_local}
use Rattle.ct_world.specs.Kept.{IsActor, IsAbsent, values_of}
use Rattle.ct_world.specs.World.{member_of}

-- the best one heard has the same member, whatever the values are
best-map : {V U : Type 0} (f : V → U) (t : Ballots V) → best (ballots_map f t) ≡ best t
best-map {V} f t = go t.estimates
  where
    go : (es : List (Heard V)) → option_map (λ e. e.member) (find (λ e. is_largest (ballots_map f t) e.ts) (map (heard_map f) es))
        ≡ option_map (λ e. e.member) (find (λ e. is_largest t e.ts) es)
    go [] = refl
    go (e ∷ es) = grind (arith, is_largest-map f t e.ts, go es)

-- the member may take steps

module _ {w : Rehearsal} {p : ℕ} {seat : Seat} (a : IsActor w p seat) where
  best_at : (r : ℕ) → best (ballots_of seat.instances seat.instances.last r) ≡ best (ballots (member_of w p).got (member_of w p).last r)
  best_at r =
      let h = a.sits.keeps.instances in
      let m = member_of w p in
      sym (best-map (value_at (values_of (state_of w))) (ballots_of seat.instances seat.instances.last r))
      ∙ ap (best {V = Option Value}) (h.ballots seat.instances.last r ∙ ap (λ k. ballots_map Some (ballots m.got k r)) h.last)
      ∙ best-map Some (ballots m.got m.last r)

  -- the best one that its seat has is the best one that it heard
  pub best_heard-is : option_and_then (λ c. best (got (open_rounds seat.instances) c)) seat.instances.part ≡ best_heard (member_of w p)
  best_heard-is =
      go seat.instances.part (member_of w p).current (keeps-round w.setting (values_of (state_of w)) p (member_of w p) seat.instances
      a.sits.keeps.instances)
    where
      go : (o : Option Part) (u : Option Standing) → option_map {U = ℕ} (λ c. c.standing.round) o ≡ option_map (λ c. c.round) u →
          option_and_then (λ c. best (got (open_rounds seat.instances) c)) o ≡ option_and_then (λ c. best (own_ballots (member_of w p) c)) u
      go None None e = refl
      go None (Some x) e = absurd (cc)
      go (Some c) None e = absurd (cc)
      go (Some c) (Some x) e = grind (arith, best_at c.standing.round, some-same c.standing.round x.round e)

-- the member may take no step

module _ (w : Rehearsal) (p : ℕ) (refusal : Refusal) (a : IsAbsent w p refusal) where
  none_of : (xs : List ((step : Step) × IsAbsent w (actor step) refusal)) → find (λ step. is_none (cause w step)) (map (λ x. x.0) xs) ≡ None
  none_of [] = refl
  none_of (x ∷ xs) = rw (cause-absent w x.0 refusal x.1) (none_of xs)

  refused : (o : Option ℕ) → find (λ step. is_none (cause w step))
      ((Deliver p ∷ Follow p ∷ Begin p ∷ []) ++ option_to_list (option_map (Choose p) o)
      ++ (Adopt p ∷ Conclude p ∷ Enter p ∷ Suspect p ∷ [])) ≡ None
  refused None = none_of ((Deliver p, a) ∷ (Follow p, a) ∷ (Begin p, a) ∷ (Adopt p, a) ∷ (Conclude p, a) ∷ (Enter p, a)
      ∷ (Suspect p, a) ∷ [])
  refused (Some q) = none_of ((Deliver p, a) ∷ (Follow p, a) ∷ (Begin p, a) ∷ (Choose p q, a) ∷ (Adopt p, a) ∷ (Conclude p, a)
      ∷ (Enter p, a) ∷ (Suspect p, a) ∷ [])

  -- so none is next
  pub next_local-absent : next_local w p ≡ None
  next_local-absent = refused (best_heard (member_of w p))

-- as the look-up of the member's seat answers

module _ (w : Rehearsal) (p : ℕ) where
  abbrev pub IsLookUp : Result (Bor Seat) Refusal → Type 0
  IsLookUp r = MatchResult r (λ seat. IsActor w p seat.now) (λ refusal. IsAbsent w p refusal)

  pub actor-of : (r : Result (Bor Seat) Refusal) (seat : Bor Seat) → IsLookUp r → result_ok r ≡ Some seat → IsActor w p seat.now
  actor-of (Ok x) seat a e = subst (λ (s : Bor Seat). IsActor w p s.now) (some-same x seat e) a
  actor-of (Err refusal) seat a e = some-none seat e

  pub nothing_next : (r : Result (Bor Seat) Refusal) → IsLookUp r → result_ok r ≡ None → next_local w p ≡ None
  nothing_next (Ok x) a e = some-none x (sym e)
  nothing_next (Err refusal) a e = next_local-absent w p refusal a

  -- the candidates, one after the other
  abbrev tried : Option Step → List (Option Step)
  tried choice = Some (Deliver p) ∷ Some (Follow p) ∷ Some (Begin p) ∷ choice ∷ Some (Adopt p) ∷ Some (Conclude p) ∷ Some (Enter p)
      ∷ Some (Suspect p) ∷ []

  pub next_local-is : (choice : Option Step) → choice ≡ option_map (Choose p) (best_heard (member_of w p))
      → find (λ step. is_none (cause w step)) (flat_map option_to_list (tried choice)) ≡ next_local w p
  next_local-is choice e = ap (λ o. find (λ step. is_none (cause w step)) (flat_map option_to_list (tried o))) e
