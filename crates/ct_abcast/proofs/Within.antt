-- What the largest numbers tell of the messages that were delivered.
use Rattle.std.proofs.Common.{◌≡◌, ℕ, ◌<◌, ◌≤◌, false, List, slice_index, arith}
use Rattle.std.proofs.lemmas.Bool.Decides.{nat_tests}
use Rattle.indexmap.specs.IndexSet.{insert_key}
use Rattle.ct_names.specs.Message.{Message}
use Rattle.ct_names.specs.contracts.message.MessagePartialEq.TheImpl.{ghosts as equal}
use Rattle.ct_names.proofs.Receipts.{has-push}
use Rattle.ct_names.proofs.Values.{same_message}
use Rattle.ct_abcast.specs.declared.last.TheConstants.{ORIGINS}
use Rattle.ct_abcast.specs.Last.{is_past, AreWithin}

-- one more message is seen, and numbers that grow leave no more messages past them
module _ (old new : List ℕ) (keys : List Message) (m : Message) (within : AreWithin old keys)
    (here : m.origin < ORIGINS → m.number ≤ slice_index new m.origin)
    (grown : (origin : ℕ) → slice_index old origin ≤ slice_index new origin) where
  still-within : (x : Message) → is_past old x ≡ false → is_past new x ≡ false
  still-within x e = grind (arith, nat_tests, grown x.origin)

  it-within : is_past new m ≡ false
  it-within = grind (arith, nat_tests, here)

  -- it is inserted
  pub within-insert : (more : List Message) → more ≡ insert_key equal.eq keys m → AreWithin new more
  within-insert more is x there = grind (arith, is, still-within x, within x, it-within, has-push keys m x, same_message m x)
