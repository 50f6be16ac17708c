-- Lists of seats that are made one by one.
use Rattle.std.proofs.Common.{◌≡◌, ℕ, ◌+◌, ◌<◌, List, [], ◌∷◌, ◌++◌, length, get_or, take, refl, ap, sym, ◌∙◌, subst, arith, inl, inr}
use Rattle.std.proofs.Common.{length-append}
use Rattle.std.proofs.lemmas.Bool.{cases_lt}
use Rattle.std.proofs.lemmas.List.{length-map, map-append, get_or_append_left, get_or_push, take_more}
use Rattle.ct_world.specs.declared.seat.Seat.{Seat}
use Rattle.ct_world.specs.Seats.{AreNewSeats, AreSameSeats, content, new_seat}

pub new-none : (n : ℕ) → AreNewSeats n 0 []
new-none n = record { seated = refl; each = λ i d h. absurd (omega arith) }

pub new-more : (n k : ℕ) (seats : List Seat) (s : Seat) → AreNewSeats n k seats → content s ≡ content (new_seat n (k + 1))
    → AreNewSeats n (k + 1) (seats ++ s ∷ [])
new-more n k seats s a new =
    let seated : length seats ≡ k = a.seated in
    record {
      seated = length-append seats (s ∷ []) ∙ ap (λ j. j + 1) seated;
      each = λ i d h. elim (cases_lt i k) [
        | inl low ↦ (let within : i < length seats = omega arith in subst (λ x. content x ≡ content (new_seat n (i + 1)))
            (sym (get_or_append_left seats (s ∷ []) d i within)) (a.each i d low))
        | inr high ↦ (let last : length seats ≡ i = omega arith in let same : k + 1 ≡ i + 1 = omega arith in
            subst (λ x. content x ≡ content (new_seat n (i + 1))) (sym (get_or_push seats s d i last))
            (subst (λ p. content s ≡ content (new_seat n p)) same new))
      ];
    }

pub same_length : (old new : List Seat) → AreSameSeats old new → length new ≡ length old
same_length old new same = sym (length-map new content) ∙ ap length same ∙ length-map old content

pub same-more : (old new : List Seat) (i : ℕ) (s t : Seat) → AreSameSeats (take i old) new → i < length old → s ≡ get_or old i s
    → content t ≡ content s → AreSameSeats (take (i + 1) old) (new ++ t ∷ [])
same-more old new i s t a within is same =
    grind (arith, map-append content new (t ∷ []), map-append content (take i old) (s ∷ []), take_more old i s within)
