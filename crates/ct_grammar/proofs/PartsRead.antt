-- A word and its parts.
use Rattle.std.proofs.Common.{◌≡◌, ℕ, ◌+◌, ◌-◌, ◌==◌, length, take, drop, Some, arith}
use Rattle.std.specs.Prelude.{position}
use Rattle.std.proofs.lemmas.List.{length-drop, take_all}
use Rattle.std.proofs.lemmas.List.Quantifiers.{position-Some}
use Rattle.ct_grammar.specs.Words.{Word}
use Rattle.ct_grammar.specs.Numbers.{IsParted}
use Rattle.ct_grammar.proofs.LineFeeds.{parted_at}

pub all_behind : (word : Word) (i : ℕ) → take (length word - (i + 1)) (drop (i + 1) word) ≡ drop (i + 1) word
all_behind word i = take_all (length word - (i + 1)) (drop (i + 1) word) (omega (arith, length-drop (i + 1) word))

pub two_parts : (at : ℕ) (word : Word) (i : ℕ) → position (λ c. c == at) word ≡ Some i → IsParted at word (take i word) (drop (i + 1) word)
two_parts at word i e =
    let within = position-Some (λ c. c == at) word i 0 e in
    record { parts = parted_at (λ c. c == at) word i e; shorter = omega (arith, length-drop (i + 1) word, within.0) }
