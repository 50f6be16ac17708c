-- What a look and a comparison make of a list of notes, at one place.
use Rattle.std.proofs.lemmas.Bool.Decides.{nat_tests}
use Rattle.std.proofs.Common.{◌≡◌, ℕ, ◌+◌, ◌<◌, List, [], ◌∷◌, ◌++◌, take, Option, Some, None, length, get_or, set, replicate, sym, ◌∙◌, ap}
use Rattle.std.proofs.Common.{arith, IfSome, IfNone, Bor, get_or-set_other, get_or-set_same}
use Rattle.std.specs.Option.{MatchOption}
use Rattle.std.proofs.lemmas.List.{get_or-map, take_more, length-set, map-append, length-map, map-set, set-get_or}
use Rattle.std.proofs.lemmas.List.{replicate-append-replicate}
use Rattle.std.proofs.Math.Seq.{map-set_same}
use Rattle.std.specs.Prelude.{slice_get}
use Rattle.std.proofs.lemmas.Option.{slice_get_within, get_or_from_slice_get}
use Rattle.std.proofs.lemmas.Bool.{cases_eq}
use Rattle.once_cell.specs.Once.{Agrees}
use Rattle.once_cell.specs.declared.race.note.Note.{Note}
use Rattle.ct_names.specs.Batch.{Batch}
use Rattle.ct_board.specs.Known.{Knows, Keeps}
use Rattle.ct_board.specs.Notes.{cells_of, known_of}

-- what an answer tells of what a note knows, before and after it
abbrev pub Tells : Option (Bor Batch) → Option Batch → Option Batch → Type 0
Tells answer old new = MatchOption answer ((old ≡ None) × (new ≡ None)) (λ batch. (new ≡ Some batch.now) × Agrees old batch.now)

known_at : (notes : List (Note Batch)) (i : ℕ) (at : Note Batch) → i < length notes → at ≡ get_or notes i at →
    get_or (known_of notes) i None ≡ at.known
known_at notes i at below is = grind (arith, nat_tests, get_or-map (λ (n : Note Batch). n.known) notes i at None below)

cell_at : (notes : List (Note Batch)) (i : ℕ) (at : Note Batch) → i < length notes → at ≡ get_or notes i at →
    get_or (cells_of notes) i 0 ≡ at.cell
cell_at notes i at below is = grind (arith, nat_tests, get_or-map (λ (n : Note Batch). n.cell) notes i at 0 below)

-- two notes of one cell that know the same are the same
same_note : (a b : Note Batch) → a.cell ≡ b.cell → a.known ≡ b.known → a ≡ b
same_note a b cell known = λ i. record { marker = a.marker; cell = cell i; known = known i }

-- the note at a place is replaced by another of its cell
pub cells_of-set : (notes : List (Note Batch)) (i : ℕ) (at new : Note Batch) → at ≡ get_or notes i at → new.cell ≡ at.cell →
    cells_of (set notes i new) ≡ cells_of notes
cells_of-set notes i at new is cell =
    map-set_same (λ (n : Note Batch). n.cell) notes i new at (cell ∙ ap (λ (n : Note Batch). n.cell) is)

pub known_of-set : (answer : Option (Bor Batch)) (notes : List (Note Batch)) (i : ℕ) (old : Option Batch) (new : Note Batch) →
    Tells answer old new.known → IfSome answer (λ batch. known_of (set notes i new) ≡ set (known_of notes) i (Some batch.now))
known_of-set None notes i old new tells = tt
known_of-set (Some batch) notes i old new tells = grind (arith, nat_tests, map-set (λ (n : Note Batch). n.known) notes i new)

-- with no answer nothing changes
pub notes_same : (answer : Option (Bor Batch)) (notes : List (Note Batch)) (i : ℕ) (at new : Note Batch) → at ≡ get_or notes i at →
    new.cell ≡ at.cell → Tells answer at.known new.known → IfNone answer (set notes i new ≡ notes)
notes_same None notes i at new is cell tells =
    ap (λ note. set notes i note) (same_note new at cell (tells.1 ∙ sym tells.0) ∙ is) ∙ set-get_or notes i at
notes_same (Some batch) notes i at new is cell tells = tt

pub unknown_before : (answer : Option (Bor Batch)) (notes : List (Note Batch)) (i : ℕ) (at : Note Batch) (new : Option Batch) →
    i < length notes → at ≡ get_or notes i at → Tells answer at.known new → IfNone answer (get_or (known_of notes) i None ≡ None)
unknown_before None notes i at new below is tells = known_at notes i at below is ∙ tells.0
unknown_before (Some batch) notes i at new below is tells = tt

pub known_after : (answer : Option (Bor Batch)) (notes : List (Note Batch)) (i : ℕ) (old : Option Batch) (new : Note Batch) →
    i < length notes → Tells answer old new.known → IfSome answer (λ batch. Knows (known_of (set notes i new)) i batch.now)
known_after None notes i old new below tells = tt
known_after (Some batch) notes i old new below tells =
    known_at (set notes i new) i new (omega (arith, length-set notes i new)) (sym (get_or-set_same notes i new new below)) ∙ tells.0

still : (answer : Option (Bor Batch)) (old new : Option Batch) → Tells answer old new → (x : Batch) → old ≡ Some x → new ≡ Some x
still answer old new tells x e = grind arith

-- an answer keeps what is known at every place
pub Keeps-set : (answer : Option (Bor Batch)) (notes : List (Note Batch)) (i : ℕ) (at new : Note Batch) → i < length notes →
    at ≡ get_or notes i at → Tells answer at.known new.known → Keeps (known_of notes) (known_of (set notes i new))
Keeps-set answer notes i at new below is tells k x known =
    let e = map-set (λ (n : Note Batch). n.known) notes i new in
    let len : i < length (known_of notes) = omega (arith, length-map notes (λ (n : Note Batch). n.known)) in
    grind (
      arith,
      cases_eq k i,
      get_or-set_same (known_of notes) i new.known None len,
      get_or-set_other (known_of notes) i k new.known None,
      still answer at.known new.known tells x,
      known_at notes i at below is,
    )

as_long : (mine theirs : List (Note Batch)) → cells_of mine ≡ cells_of theirs → length mine ≡ length theirs
as_long mine theirs cells =
    sym (length-map mine (λ (n : Note Batch). n.cell)) ∙ (ap length cells ∙ length-map theirs (λ (n : Note Batch). n.cell))

module _ (mine theirs : List (Note Batch)) (i : ℕ) (m n : Note Batch) (cells : cells_of mine ≡ cells_of theirs) (below : i < length mine)
    (m_is : m ≡ get_or mine i m) (n_is : n ≡ get_or theirs i n) where
  -- notes at one place are of one cell
  pub one_cell : n.cell ≡ m.cell
  one_cell =
      let len = as_long mine theirs cells in
      sym (cell_at theirs i n (omega arith) n_is) ∙ (ap (λ names. get_or names i 0) (sym cells) ∙ cell_at mine i m below m_is)

  -- where the two notes agree, what is known agrees at one place more
  pub same_more : IfSome n.known (Agrees m.known) → ((k : ℕ) (x y : Batch) → k < i → Knows (known_of mine) k x →
      Knows (known_of theirs) k y → x ≡ y) → (k : ℕ) (x y : Batch) → k < i + 1 → Knows (known_of mine) k x → Knows (known_of theirs) k y →
      x ≡ y
  same_more agrees before k x y less mine_x theirs_y =
      let len = as_long mine theirs cells in
      grind (
        arith,
        cases_eq k i,
        agree m.known n.known agrees x y,
        known_at mine i m below m_is,
        known_at theirs i n (omega arith) n_is,
        before k x y,
      )
    where
      agree : (a b : Option Batch) → IfSome b (Agrees a) → (x y : Batch) → a ≡ Some x → b ≡ Some y → x ≡ y
      agree a b h x y p q = grind arith

-- one note more, of the next cell
pub cells_of-next : (notes : List (Note Batch)) (board : List ℕ) (i : ℕ) (note : Note Batch) → cells_of notes ≡ take i board →
    slice_get board i ≡ Some note.cell → cells_of (notes ++ note ∷ []) ≡ take (i + 1) board
cells_of-next notes board i note cells at = grind (
  arith,
  map-append (λ (n : Note Batch). n.cell) notes (note ∷ []),
  get_or_from_slice_get board i note.cell 0 at,
  take_more board i 0 (slice_get_within board i note.cell at),
)

pub known_of-next : (notes : List (Note Batch)) (i : ℕ) (note : Note Batch) → known_of notes ≡ replicate i None → note.known ≡ None →
    known_of (notes ++ note ∷ []) ≡ replicate (i + 1) None
known_of-next notes i note known none =
    grind (arith, map-append (λ (n : Note Batch). n.known) notes (note ∷ []), replicate-append-replicate {A = Option Batch} i 1 None)
