-- What is kept of a member's instances stays what its state says: as the list of values grows, a wire is noted, room is
-- made, and an instance is opened, closed, and followed.
use Rattle.std.proofs.Common.{◌≡◌, ℕ, ◌+◌, List, [], ◌∷◌, ◌++◌, length, Option, Some, None, option_map, refl, ap, sym, ◌∙◌, arith}
use Rattle.std.specs.Option.{option_or}
use Rattle.std.proofs.lemmas.List.Elements.{filter_map-append}
use Rattle.ct_names.specs.Value.{Value}
use Rattle.ct_model.specs.declared.phase.Phase.TheVariants.{Rest}
use Rattle.ct_model.specs.declared.wire.Wire.{Wire as AnyWire}
use Rattle.ct_model.specs.AtValue.{Wire}
use Rattle.ct_model.specs.State.{Member, new_member}
use Rattle.ct_names.specs.Batch.{Batch}
use Rattle.ct_model.specs.Received.{Ballots, decision_of, decided, ballots}
use Rattle.ct_model.specs.Counted.{count_in, NamesSomebody}
use Rattle.ct_model.specs.Mapped.{ballots_map}
use Rattle.ct_model.proofs.Numbers.Counts.{ballots-push, ballots-none, count_in-map}
use Rattle.ct_model.proofs.Basics.Options.{some-same, some-none}
use Rattle.ct_rounds.specs.Part.{Part}
use Rattle.ct_instances.specs.Kept.{Kept, ballots_of, decision_at}
use Rattle.ct_instances.specs.Keeping.{IsPartOf, KeepsInstances}
use Rattle.ct_instances.specs.Named.{value_at, NamesWire, NamesBallots, NamesDecision}
use Rattle.ct_instances.specs.Steps.{opened}
use Rattle.ct_instances.proofs.Named.{decision_of-map, value_at-last, grows_standing, grows_ballots, grows_decision}

-- the list of values grows

pub keeps-grown : (n : ℕ) (values more : List Value) (p : ℕ) (m : Member) (kept : Kept) → KeepsInstances n values p m kept →
    KeepsInstances n (values ++ more) p m kept
keeps-grown n values more p m kept h = record {
  members = h.members;
  me = h.me;
  last = h.last;
  part = h.part;
  standing = grows_standing values more (option_map (λ c. c.standing) kept.part) m.current h.standing;
  ballots = λ k r. grows_ballots values more (ballots_of kept k r) (ballots m.got k r) (h.ballots k r);
  decisions = λ k. grows_decision values more (decision_at kept k) (decided m.got k) (h.decisions k);
}

-- another state of the member with the same wires, and the same instance open
pub keeps-same : (n : ℕ) (values : List Value) (p : ℕ) (m m' : Member) (kept : Kept) → m'.got ≡ m.got → m'.last ≡ m.last →
    m'.current ≡ m.current → KeepsInstances n values p m kept → KeepsInstances n values p m' kept
keeps-same n values p m m' kept got last current h = record {
  members = h.members;
  me = h.me;
  last = h.last ∙ sym last;
  part = λ c is. rw last (h.part c is);
  standing = rw current h.standing;
  ballots = λ k r. rw got (h.ballots k r);
  decisions = λ k. rw got (h.decisions k);
}

-- nothing was got, and nothing began

pub keeps-new : (n : ℕ) (values : List Value) (p : ℕ) → KeepsInstances n values p new_member
    (record { members = n; me = p; last = 0; part = None; entries = [] })
keeps-new n values p = record {
  members = refl;
  me = refl;
  last = refl;
  part = λ c is. some-none c is;
  standing = refl;
  ballots = λ k r. ap (ballots_map Some) (sym (ballots-none k r));
  decisions = λ k. unfold decided in refl;
}

-- a wire is noted

-- the first decision stays
pub decided-push : {V : Type 0} (got : List (AnyWire V)) (w : AnyWire V) (k : ℕ) →
    decided (got ++ w ∷ []) k ≡ option_or (decided got k) (decision_of k w)
unfolding decided
decided-push {V} got w k = grind (arith, filter_map-append (decision_of k) got (w ∷ []))

or-map : {A B : Type 0} (f : A → B) (a b : Option A) → option_or (option_map f a) (option_map f b) ≡ option_map f (option_or a b)
or-map f a b = grind arith

ballots-noted : (values : List Value) (a : Ballots ℕ) (t : Ballots Value) (k r : ℕ) (x : AnyWire ℕ) (w : Wire) → NamesBallots values a t →
    NamesWire values x w → NamesBallots values (count_in a k r x) (count_in t k r w)
ballots-noted values a t k r x w h e = grind (arith, count_in-map (value_at values) a k r x, count_in-map Some t k r w)

decision-noted : (values : List Value) (a : Option ℕ) (o : Option Value) (k : ℕ) (x : AnyWire ℕ) (w : Wire) → NamesDecision values a o →
    NamesWire values x w → NamesDecision values (option_or a (decision_of k x)) (option_or o (decision_of k w))
decision-noted values a o k x w h e =
    sym (or-map (value_at values) a (decision_of k x))
    ∙ rw (h, ← decision_of-map (value_at values) k x, e, decision_of-map Some k w) (or-map Some o (decision_of k w))

-- other entries, where these are the ballots and decisions
keeps-entries : (n : ℕ) (values : List Value) (p : ℕ) (m m' : Member) (kept kept' : Kept) → KeepsInstances n values p m kept →
    m'.last ≡ m.last → m'.current ≡ m.current → kept' ≡ record kept { entries = kept'.entries } →
    ((k r : ℕ) → NamesBallots values (ballots_of kept' k r) (ballots m'.got k r)) →
    ((k : ℕ) → NamesDecision values (decision_at kept' k) (decided m'.got k)) → KeepsInstances n values p m' kept'
keeps-entries n values p m m' kept kept' h last current rest got_ballots got_decisions = record {
  members = rw rest h.members;
  me = rw rest h.me;
  last = rw (rest, last) h.last;
  part = λ c is. rw last (h.part c (rw rest at is));
  standing = rw (rest, current) h.standing;
  ballots = got_ballots;
  decisions = got_decisions;
}

pub keeps-noted : (n : ℕ) (values : List Value) (p : ℕ) (m : Member) (x : AnyWire ℕ) (w : Wire) (kept kept' : Kept) →
    KeepsInstances n values p m kept → NamesWire values x w → NamesSomebody w
    → ((k r : ℕ) → ballots_of kept' k r ≡ count_in (ballots_of kept k r) k r x)
    → ((k : ℕ) → decision_at kept' k ≡ option_or (decision_at kept k) (decision_of k x))
    → kept' ≡ record kept { entries = kept'.entries }
    → KeepsInstances n values p (record m { got = m.got ++ w ∷ [] }) kept'
keeps-noted n values p m x w kept kept' h e somebody new_ballots new_decisions rest =
    keeps-entries n values p m (record m { got = m.got ++ w ∷ [] }) kept kept' h refl refl rest
    (λ k r. rw (new_ballots k r, ballots-push m.got k r w somebody)
    (ballots-noted values (ballots_of kept k r) (ballots m.got k r) k r x w (h.ballots k r) e))
    (λ k. rw (new_decisions k, decided-push m.got w k)
    (decision-noted values (decision_at kept k) (decided m.got k) k x w (h.decisions k) e))

-- room is made
pub keeps-prepared : (n : ℕ) (values : List Value) (p : ℕ) (m : Member) (kept kept' : Kept) → KeepsInstances n values p m kept
    → ((k r : ℕ) → ballots_of kept' k r ≡ ballots_of kept k r)
    → ((k : ℕ) → decision_at kept' k ≡ decision_at kept k)
    → kept' ≡ record kept { entries = kept'.entries }
    → KeepsInstances n values p m kept'
keeps-prepared n values p m kept kept' h same_ballots same_decisions rest =
    keeps-entries n values p m m kept kept' h refl refl rest
    (λ k r. rw (same_ballots k r) (h.ballots k r)) (λ k. rw (same_decisions k) (h.decisions k))

-- the next instance is opened with a value that joins the list

pub keeps-opened : (n : ℕ) (values : List Value) (p : ℕ) (m : Member) (kept : Kept) (v : Value) → KeepsInstances n values p m kept →
    KeepsInstances n (values ++ v ∷ []) p
    (record m { last = m.last + 1; current = Some (record { round = 0; phase = Rest; estimate = v; ts = 0 }) })
    (opened kept (length values))
keeps-opened n values p m kept v old =
    let h = keeps-grown n values (v ∷ []) p m kept old in
    let last : kept.last + 1 ≡ m.last + 1 = ap (λ k. k + 1) h.last in
    let part : Part = record {
      members = kept.members;
      me = kept.me;
      instance = kept.last + 1;
      standing = record { round = 0; phase = Rest; estimate = length values; ts = 0 };
    } in
    let is_part : IsPartOf n p (m.last + 1) part = record { members_is = h.members; me_is = h.me; instance_is = last } in
    record {
      members = h.members;
      me = h.me;
      last = last;
      part = λ c is. rw (← some-same part c is) is_part;
      standing = rw (value_at-last values v) refl;
      ballots = h.ballots;
      decisions = h.decisions;
    }

-- and closed

pub keeps-closed : (n : ℕ) (values : List Value) (p : ℕ) (m : Member) (kept : Kept) (batches : List Batch) →
    KeepsInstances n values p m kept → KeepsInstances n values p (record m { current = None; batches = batches })
    (record kept { part = None })
keeps-closed n values p m kept batches h = record {
  members = h.members;
  me = h.me;
  last = h.last;
  part = λ c is. some-none c is;
  standing = refl;
  ballots = h.ballots;
  decisions = h.decisions;
}

-- and, while none is open, the next one is followed

pub keeps-followed : (n : ℕ) (values : List Value) (p : ℕ) (m : Member) (kept : Kept) (batches : List Batch) → kept.part ≡ None →
    KeepsInstances n values p m kept → KeepsInstances n values p (record m { last = m.last + 1; current = None; batches = batches })
    (record kept { last = kept.last + 1 })
keeps-followed n values p m kept batches idle h = record {
  members = h.members;
  me = h.me;
  last = ap (λ k. k + 1) h.last;
  part = λ c is. some-none c (sym idle ∙ is);
  standing = rw idle refl;
  ballots = h.ballots;
  decisions = h.decisions;
}
