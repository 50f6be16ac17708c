-- What is read of a member's part in its open instance, and what its seat keeps of it.
use Rattle.std.proofs.Common.{◌≡◌, ℕ, List, Option, Some, None, option_map, slice_get, ap, sym, ◌∙◌, subst, arith}
use Rattle.std.specs.Prelude.{option_and_then}
use Rattle.ct_names.specs.Value.{Value}
use Rattle.ct_model.specs.AtValue.{Standing}
use Rattle.ct_model.specs.Mapped.{heard_map, ballots_map, standing_map}
use Rattle.ct_model.specs.Next.{own_ballots}
use Rattle.ct_model.specs.Received.{Heard, Ballots, ballots, heard, estimate_from}
use Rattle.ct_model.specs.Rehearsal.{Rehearsal, state_of}
use Rattle.ct_model.specs.State.{Member}
use Rattle.ct_model.proofs.Basics.Options.{some-same}
use Rattle.ct_model.proofs.Numbers.Naturality.{heard-map, estimate_from-map}
use Rattle.ct_rounds.specs.Inbox.{Rounds, ballots_at}
use Rattle.ct_rounds.specs.Part.{Part}
use Rattle.ct_instances.specs.Keeping.{KeepsInstances}
use Rattle.ct_instances.specs.Named.{NamesStanding, NamesBallots, value_at}
use Rattle.ct_instances.specs.Steps.{open_rounds}
use Rattle.ct_instances.proofs.Named.{standing_round, standing_some}
use Rattle.ct_world.specs.declared.seat.Seat.{Seat}
use Rattle.ct_world.specs.Kept.{IsSeatOf, values_of}
use Rattle.ct_world.specs.Standing.{all_heard_by, heard_by}
use Rattle.ct_world.specs.World.{member_of}

-- an estimate with its value by number, and the same with the value

abbrev IsSame : List Value → Option (Heard ℕ) → Option (Heard Value) → Type 0
IsSame values o u = option_map (heard_map (value_at values)) o ≡ option_map (heard_map Some) u

none_there : {A : Type 0} (values : List Value) (o : Option (Heard ℕ)) (u : Option (Heard Value)) (f : Heard ℕ → A) → IsSame values o u →
    None ≡ option_map f o
    → option_map {T = Heard Value} {U = Value × ℕ} (λ e. (e.value, e.ts)) u ≡ None
none_there values o u f h e = grind arith

some_there : (values : List Value) (o : Option (Heard ℕ)) (u : Option (Heard Value)) (id ts : ℕ) (got : Option Value) → IsSame values o u →
    Some id ≡ option_map (λ e. e.value) o → Some ts ≡ option_map (λ e. e.ts) o → got ≡ slice_get values id →
    option_map {T = Value} {U = Value × ℕ} (λ v. (v, ts)) got ≡ option_map (λ e. (e.value, e.ts)) u
some_there values o u id ts got h a b g = grind arith

module _ {w : Rehearsal} {p : ℕ} {seat : Seat} (sits : IsSeatOf w p seat) {c : Part} (is_open : Some c ≡ seat.instances.part)
    {rounds : Rounds} (read : Some rounds ≡ option_map (λ (d : Part). open_rounds seat.instances) seat.instances.part)
    {r : ℕ} (at : r ≡ c.standing.round) where
  abbrev values : List Value
  values = values_of (state_of w)

  abbrev m : Member
  m = member_of w p

  kept : KeepsInstances w.setting.members values p m seat.instances
  kept = sits.keeps.instances

  found : (x : Standing) × (m.current ≡ Some x) × (standing_map (value_at values) c.standing ≡ standing_map Some x)
  found = standing_some values c.standing m.current
      (subst (λ (o : Option Part). NamesStanding values (option_map (λ d. d.standing) o) m.current) (sym is_open) kept.standing)

  read_is : rounds ≡ open_rounds seat.instances
  read_is = some-same rounds (open_rounds seat.instances)
      (read ∙ ap (λ (o : Option Part). option_map (λ d. open_rounds seat.instances) o) (sym is_open))

  own : NamesBallots values (ballots_at rounds r) (own_ballots m found.0)
  own =
      ap (λ (z : Rounds). ballots_map (value_at values) (ballots_at z r)) read_is
      ∙ kept.ballots seat.instances.last r
      ∙ ap (λ k. ballots_map Some (ballots m.got k r)) kept.last
      ∙ ap (λ n. ballots_map Some (ballots m.got m.last n)) (at ∙ standing_round values c.standing found.0 found.2)

  pub heard_is : Some (heard (ballots_at rounds r)) ≡ all_heard_by (member_of w p)
  heard_is =
      ap Some (sym (heard-map (value_at values) (ballots_at rounds r)) ∙ ap heard own ∙ heard-map Some (own_ballots m found.0))
      ∙ ap (λ (o : Option Standing). option_map (λ z. heard (own_ballots m z)) o) (sym found.1)

  module _ (from : ℕ) where
    named : IsSame values (estimate_from (ballots_at rounds r) from) (estimate_from (own_ballots m found.0) from)
    named =
        sym (estimate_from-map (value_at values) (ballots_at rounds r) from)
        ∙ ap (λ (t : Ballots (Option Value)). estimate_from t from) own
        ∙ estimate_from-map Some (own_ballots m found.0) from

    shown : option_map (λ e. (e.value, e.ts)) (estimate_from (own_ballots m found.0) from) ≡ heard_by m from
    shown = ap (λ (o : Option Standing). option_and_then (λ z. option_map (λ e. (e.value, e.ts)) (estimate_from (own_ballots m z) from)) o)
        (sym found.1)

    -- nothing is read of an estimate that wasn't heard
    pub heard_none : {A : Type 0} (f : Heard ℕ → A) → None ≡ option_map f (estimate_from (ballots_at rounds r) from) →
        None ≡ heard_by (member_of w p) from
    heard_none f e = sym (none_there values _ _ f named e) ∙ shown

    -- what is read of one that was
    pub heard_some : (id ts : ℕ) (got : Option Value) → Some id ≡ option_map (λ e. e.value) (estimate_from (ballots_at rounds r) from) →
        Some ts ≡ option_map (λ e. e.ts) (estimate_from (ballots_at rounds r) from) → got ≡ slice_get (values_of (state_of w)) id →
        option_map (λ v. (v, ts)) got ≡ heard_by (member_of w p) from
    heard_some id ts got a b g = some_there values _ _ id ts got named a b g ∙ shown
