-- What is learned of a watcher that looks at place after place and finds the batches of a list.
use Rattle.std.proofs.Common.{◌≡◌, ℕ, ◌+◌, ◌<◌, ◌≤◌, List, Option, Some, All, IsSome, length, take, subst, arith}
use Rattle.std.specs.Prelude.{slice_get}
use Rattle.std.proofs.lemmas.Bool.{cases_eq}
use Rattle.std.proofs.lemmas.Option.{slice_get_within}
use Rattle.ct_names.specs.Batch.{Batch}
use Rattle.ct_board.specs.Known.{somes, Knows, Keeps}
use Rattle.ct_names.specs.Prefix.{IsPrefix}
use Rattle.ct_board.specs.Watched.{Watched, batches_read, batches_told}
use Rattle.ct_board.proofs.Somes.{somes_are, somes_begin}

-- each batch of the list below n is known at its place
abbrev pub KnowsBelow : List Batch → List (Option Batch) → ℕ → Type 0
KnowsBelow list notes n = (k : ℕ) (b : Batch) → k < n → slice_get list k ≡ Some b → Knows notes k b

-- the watcher found the next of them
pub knows_more : (list : List Batch) (old new : List (Option Batch)) (n : ℕ) (found : Batch) → KnowsBelow list old n → Keeps old new →
    Knows new n found → slice_get list n ≡ Some found → KnowsBelow list new (n + 1)
knows_more list old new n found before keeps known is k b less at = grind (arith, cases_eq k n, before k b, keeps k b)

-- the watcher knows the whole list, and what it read and was told of begins it
pub record IsMet (list : List Batch) (w : Watched) : Type 0 where
  pub within : length list ≤ length w.notes
  pub known : All IsSome (take (length list) w.notes)
  pub same : somes (take (length list) w.notes) ≡ list
  pub read : IsPrefix (batches_read w) list
  pub told : IsPrefix (batches_told w) list

pub met : (list : List Batch) (w : Watched) → KnowsBelow list w.notes (length list) → w.read ≤ length list → w.told ≤ length list →
    IsMet list w
met list w knows read told =
    let first = somes_are list w.notes (λ k b at. knows k b (slice_get_within list k b at) at) in
    let begins = λ (n : ℕ) (less : n ≤ length list). subst (λ (all : List Batch). IsPrefix (somes (take n w.notes)) all) first.same
    (somes_begin n (length list) w.notes less first.known first.within) in
    record { within = first.within; known = first.known; same = first.same; read = begins w.read read; told = begins w.told told }
