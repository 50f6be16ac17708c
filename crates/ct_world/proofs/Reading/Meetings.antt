-- A watcher that looks at the batches of the order.
use Rattle.std.proofs.Common.{◌≡◌, ℕ, ◌+◌, List, Option, Some, map, ap, sym, ◌∙◌}
use Rattle.std.specs.Prelude.{slice_get}
use Rattle.std.proofs.lemmas.Option.{slice_get-map}
use Rattle.ct_names.specs.Batch.{Batch}
use Rattle.ct_names.specs.Message.{Message}
use Rattle.ct_model.specs.Cause.{order}
use Rattle.ct_model.specs.Rehearsal.{Rehearsal, state_of}
use Rattle.ct_model.specs.Run.{run}
use Rattle.ct_model.proofs.Basics.Options.{made-map}
use Rattle.ct_model.proofs.Delivery.Prefixes.{order-instance}
use Rattle.ct_board.specs.Known.{Keeps, Knows}
use Rattle.ct_board.proofs.Meeting.{KnowsBelow, knows_more}

same_batch : (b found : Batch) (instance : ℕ) (messages : List Message) → b.instance ≡ instance → b.messages ≡ messages →
    found ≡ record { instance = instance; messages = messages } → b ≡ found
same_batch b found instance messages e f is = rw (sym e, sym f) at (sym is)

-- the watcher found the next batch of the order
pub finds_more : (w : Rehearsal) (old new : List (Option Batch)) (n : ℕ) (found : Batch) (messages : List Message) →
    run w.setting w.steps ≡ Some (state_of w) → slice_get (map (λ (b : Batch). b.messages) (order (state_of w))) n ≡ Some messages →
    found ≡ record { instance = n + 1; messages = messages } → KnowsBelow (order (state_of w)) old n → Keeps old new → Knows new n found →
    KnowsBelow (order (state_of w)) new (n + 1)
finds_more w old new n found messages runs here is before keeps known =
    let t = made-map (λ (b : Batch). b.messages) (slice_get (order (state_of w)) n) messages
    (sym (slice_get-map (λ (b : Batch). b.messages) (order (state_of w)) n) ∙ here) in
    let same : t.from ≡ found = same_batch t.from found (n + 1) messages
    (order-instance w.setting w.steps (state_of w) runs n t.from t.is) t.gives is in
    knows_more (order (state_of w)) old new n found before keeps known (t.is ∙ ap Some same)
