-- What turns of members receive.
use Rattle.ct_laws.proofs.Records.{at_in}
use Rattle.std.proofs.Common.{◌≡◌, ℕ, zero, suc, Bool, true, false, List, [], refl, ap₂, ◌∙◌, drop, arith}
use Rattle.std.specs.Prelude.{◌==◌, if◌then◌else◌, Option, Some, None, find, option_and_then, slice_get, unwrap_or}
use Rattle.ct_names.specs.Membership.{IsIn}
use Rattle.ct_names.proofs.Lists.{found-find}
use Rattle.ct_model.specs.Rehearsal.{Rehearsal, line_of}
use Rattle.ct_world.specs.World.{of_member}
use Rattle.ct_choices.specs.Choices.{first_waiting}
use Rattle.ct_play.specs.Picking.{waiting_at}
use Rattle.ct_walk.specs.Adversary.{is_near, place_of, received}
use Rattle.ct_walk.specs.Walking.{Walk, receives_at}
use Rattle.ct_walk.specs.declared.options.WalkOptions.{WalkOptions}

drop_in : (n k : ℕ) (xs : List ℕ) → IsIn k (drop n xs) → IsIn k xs
drop_in zero k xs h = h
drop_in (suc n) k xs h = grind (arith, drop_in n k)

received_by : (b : Bool) (f : ℕ → Bool) (xs : List ℕ) (place k : ℕ) →
    (if b then slice_get xs place else find f (drop place xs)) ≡ Some k → IsIn k xs
received_by true f xs place k h = at_in xs place k h
received_by false f xs place k h = drop_in place k xs (found-find f k (drop place xs) h).0

received_waits : (cut : ℕ) (w : Rehearsal) (p place k : ℕ) → received cut w p place ≡ Some k → IsIn k (waiting_at w p)
unfolding received
received_waits cut w p place k h = received_by (cut == 0) (is_near cut w p) (waiting_at w p) place k h

pub receives_waiting : (o : WalkOptions) (w : Walk) (p k : ℕ) → receives_at o w p ≡ Some k → IsIn k (waiting_at w.rehearsal p)
receives_waiting o w p k h = received_waits w.cut w.rehearsal p (place_of o w.draws w.rehearsal p) k h

first_by : (o : Option (List ℕ)) → slice_get (unwrap_or o []) 0 ≡ option_and_then (λ line. slice_get line 0) o
first_by None = refl
first_by (Some line) = refl

first_is : (w : Rehearsal) (p : ℕ) → received 0 w p 0 ≡ first_waiting w p
unfolding received waiting_at first_waiting
first_is w p = first_by (of_member w p (line_of w p))

first_place : (o : WalkOptions) (w : Walk) (p : ℕ) → o.scatter ≡ 0 → place_of o w.draws w.rehearsal p ≡ 0
unfolding place_of
first_place o w p h = rw h refl

-- of a group that is not cut, where nothing is scattered, what waits first
pub receives_first : (o : WalkOptions) (w : Walk) (p : ℕ) → o.scatter ≡ 0 → w.cut ≡ 0 → receives_at o w p ≡ first_waiting w.rehearsal p
receives_first o w p scatter cut =
    ap₂ (λ c place. received c w.rehearsal p place) cut (first_place o w p scatter) ∙ first_is w.rehearsal p
