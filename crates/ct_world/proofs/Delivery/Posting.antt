-- The receipt of a step that posts.
use Rattle.std.proofs.Common.{◌≡◌, ℕ, ◌+◌, ◌≤◌, List, [], ◌∷◌, ◌++◌, Option, Some, None, length, ap, ◌∙◌, arith}
use Rattle.std.specs.Prelude.{slice_get, option_map, IfSome}
use Rattle.ct_names.specs.Batch.{Batch}
use Rattle.ct_model.specs.declared.step.Step.{Step}
use Rattle.ct_model.specs.Cause.{order}
use Rattle.ct_model.specs.Lawful.{IsLawful}
use Rattle.ct_model.specs.Order.{Joins}
use Rattle.ct_model.specs.Rehearsal.{Rehearsal, state_of, extended}
use Rattle.ct_model.proofs.Delivery.Prefixes.{order-instance}
use Rattle.ct_instances.proofs.Named.{value_at-last}
use Rattle.ct_board.specs.Board.{Posted}
use Rattle.ct_world.specs.Posting.{HasPosted, IsSet}

-- the batch that joins the order is of the instance of its place from 1
joined_instance : (w : Rehearsal) (list : List Batch) (b : Batch) → IsLawful w → order (state_of w) ≡ list ++ b ∷ [] →
    b.instance ≡ length list + 1
joined_instance w list b law joined =
    order-instance w.setting w.steps (state_of w) law.runs (length list) b
    (ap (λ all. slice_get all (length list)) joined ∙ value_at-last list b)

-- so it has a place
pub posting_low : {A : Type 0} (w : Rehearsal) (step : Step) (f : A → Batch) (o : Option A) → IsLawful (extended w step)
    → Joins (order (state_of w)) (order (state_of (extended w step))) (option_map f o) → IfSome o (λ b. 1 ≤ (f b).instance)
posting_low w step f None law joins = tt
posting_low w step f (Some b) law joins = grind (arith, joined_instance (extended w step) (order (state_of w)) (f b) law joins)

-- what was set is what joins the order
pub has_posted : (cells : List ℕ) (w : Rehearsal) (step : Step) (posting : Option Batch) (receipt : Option Posted)
    → IsLawful (extended w step) → Joins (order (state_of w)) (order (state_of (extended w step))) posting
    → IsSet cells posting receipt → HasPosted cells w (extended w step) receipt
has_posted cells w step None None law joins set = joins
has_posted cells w step None (Some r) law joins set = absurd set
has_posted cells w step (Some b) None law joins set = absurd set
has_posted cells w step (Some b) (Some r) law joins set =
    grind (arith, joined_instance (extended w step) (order (state_of w)) b law joins)
