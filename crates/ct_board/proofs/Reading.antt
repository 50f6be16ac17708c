-- What a look and a read make of a watcher.
use Rattle.std.proofs.Common.{◌≡◌, ℕ, ◌+◌, ◌<◌, ◌≤◌, zero, suc, List, [], ◌∷◌, ◌++◌, Some, None, length, get_or, sym, ◌∙◌, ap, arith}
use Rattle.std.proofs.Common.{append-nil}
use Rattle.std.specs.Prelude.{slice_get}
use Rattle.std.proofs.lemmas.List.{length-map}
use Rattle.std.proofs.lemmas.List.Concat.{flat_map-append}
use Rattle.std.proofs.lemmas.List.Sums.{fold-append}
use Rattle.once_cell.specs.declared.race.note.Note.{Note}
use Rattle.ct_names.specs.Batch.{Batch}
use Rattle.ct_table.specs.Table.{zeros, applied, applied_all, table}
use Rattle.ct_board.specs.Known.{Knows, Keeps}
use Rattle.ct_board.specs.Notes.{cells_of, known_of}
use Rattle.ct_board.specs.Watched.{Watched, IsWatching, batches_read, batches_told, messages_of}
use Rattle.ct_board.proofs.Somes.{length-somes, slice_get-somes, somes_kept, somes_next}

-- what the notes say of a watcher that read and was told of so many batches
abbrev pub seen : List (Note Batch) → ℕ → ℕ → Watched
seen notes read told = record { cells = cells_of notes; notes = known_of notes; read = read; told = told }

as_many : (notes : List (Note Batch)) → length (known_of notes) ≡ length (cells_of notes)
as_many notes = length-map notes (λ (n : Note Batch). n.known) ∙ sym (length-map notes (λ (n : Note Batch). n.cell))

as_long : (before after : List (Note Batch)) → cells_of after ≡ cells_of before → length (known_of after) ≡ length (known_of before)
as_long before after cells = as_many after ∙ (ap length cells ∙ sym (as_many before))

-- the batches that were read and those that were told of stay
pub record IsKept (before after : Watched) : Type 0 where
  pub watching : IsWatching after
  pub read : batches_read after ≡ batches_read before
  pub told : batches_told after ≡ batches_told before

pub looked : (before after : List (Note Batch)) (r t : ℕ) → cells_of after ≡ cells_of before → Keeps (known_of before) (known_of after) →
    IsWatching (seen before r t) → IsKept (seen before r t) (seen after r t)
looked before after r t cells keeps w =
    let len = as_long before after cells in
    let read = somes_kept r (known_of before) (known_of after) w.read_known w.read_within keeps in
    let told = somes_kept t (known_of before) (known_of after) w.told_known w.told_within keeps in
    let read_within : r ≤ length (known_of after) = omega arith in
    let told_within : t ≤ length (known_of after) = omega arith in
    search (as_many after, read, told)

-- one batch more was read
pub record IsReadOn (before after : Watched) (batch : Batch) : Type 0 where
  pub watching : IsWatching after
  pub read : batches_read after ≡ batches_read before ++ batch ∷ []
  pub told : batches_told after ≡ batches_told before
  pub below : before.read < before.told → slice_get (batches_told before) before.read ≡ Some batch

pub read_on : (before after : List (Note Batch)) (r t : ℕ) (batch : Batch) → cells_of after ≡ cells_of before →
    Keeps (known_of before) (known_of after) → r < length before → Knows (known_of after) r batch → IsWatching (seen before r t) →
    IsReadOn (seen before r t) (seen after (r + 1) t) batch
read_on before after r t batch cells keeps room known w =
    let kept = looked before after r t cells keeps w in
    let now = kept.watching in
    let len = as_long before after cells in
    let len_before = length-map before (λ (n : Note Batch). n.known) in
    let more = somes_next r (known_of after) batch now.read_known (omega arith) known in
    let told_within = now.told_within in
    let read_within : r + 1 ≤ length (known_of after) = omega arith in
    record {
      watching = search (as_many after, more.known, now);
      read = more.appended ∙ ap (λ batches. batches ++ batch ∷ []) kept.read;
      told = kept.told;
      below = λ less. ap (λ batches. slice_get batches r) (sym kept.told)
          ∙ (slice_get-somes t r (known_of after) now.told_known told_within less ∙ known);
    }

-- the table of one batch more
pub table-next : (batches : List Batch) (batch : Batch) → table (messages_of (batches ++ batch ∷ []))
    ≡ applied_all (table (messages_of batches)) batch.messages
table-next batches batch = grind (
  arith,
  flat_map-append (λ (b : Batch). b.messages) batches (batch ∷ []),
  append-nil batch.messages,
  fold-append (λ so_far m. applied so_far m.command) zeros (messages_of batches) batch.messages,
)

past_none : {A : Type 0} (xs : List A) (k : ℕ) → slice_get xs k ≡ None → length xs ≤ k
past_none [] k none = omega arith
past_none (x ∷ xs) zero none = cc
past_none (x ∷ xs) (suc k) none = let rest = past_none xs k none in omega arith

-- where all cells were read it was told of no more
pub all_read : (notes : List (Note Batch)) (r t : ℕ) → IsWatching (seen notes r t) → length notes ≤ r → r < t → ⊥
all_read notes r t w full less =
    let len = length-map notes (λ (n : Note Batch). n.known) in
    absurd (omega arith)

-- a note that knows nothing is of no place below those that it was told of
pub none_below : (notes : List (Note Batch)) (r t : ℕ) → IsWatching (seen notes r t) → get_or (known_of notes) r None ≡ None → r < t → ⊥
none_below notes r t w none less =
    let told = length-somes t (known_of notes) w.told_known w.told_within in
    let at = slice_get-somes t r (known_of notes) w.told_known w.told_within less in
    let past = past_none (batches_told (seen notes r t)) r (at ∙ none) in
    absurd (omega arith)
