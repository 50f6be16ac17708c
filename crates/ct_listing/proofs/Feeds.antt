-- What stands before a line feed.
use Rattle.std.proofs.Common.{◌≡◌, ◌<◌, ◌≤◌, ℕ, true, false, not, List, length, get_or, take, refl, ap, ◌∙◌, subst, arith, Some, None}
use Rattle.std.proofs.Common.{length-take}
use Rattle.std.specs.List.{position, position_or_len}
use Rattle.std.specs.Str.{IsCharBoundary}
use Rattle.std.proofs.lemmas.Bool.Decides.{nat_tests}
use Rattle.std.proofs.lemmas.List.{get_or-take}
use Rattle.std.proofs.lemmas.List.Sums.{fails_before_first, list_all-from_AllPass, passes_at_first, prefix_len-le-length}
use Rattle.ct_grammar.specs.Texts.{is_feed}
use Rattle.ct_grammar.proofs.LineFeeds.{no_place, place_there}
use Rattle.ct_listing.specs.Leading.{one_line}

feed_small : (c : ℕ) → is_feed c ≡ true → c < 128
feed_small c e = grind (arith, nat_tests)

boundary_at : (text : List ℕ) → IsCharBoundary text (position_or_len is_feed text)
boundary_at text = (
  prefix_len-le-length (λ c. not (is_feed c)) text,
  λ l h.
      let small = feed_small (get_or text (position_or_len is_feed text) 0) (passes_at_first is_feed text 0 l) in
      absurd (omega arith),
)

no_feed : (c : ℕ) → is_feed c ≡ false → not (is_feed c) ≡ true
no_feed c e = rw e refl

pub feed_boundary : (text : List ℕ) (end : ℕ) → position is_feed text ≡ Some end → IsCharBoundary text end
feed_boundary text end h =
    subst (IsCharBoundary text) (place_there (position_or_len is_feed text) (length text) end h).1 (boundary_at text)

pub before_feed : (text : List ℕ) (end : ℕ) → position is_feed text ≡ Some end → one_line (take end text) ≡ true
before_feed text end h =
    let there = place_there (position_or_len is_feed text) (length text) end h in
    list_all-from_AllPass (λ c. not (is_feed c)) (take end text) (λ k d l.
    let low : k < end = omega (arith, length-take end text) in
    let same : get_or (take end text) k d ≡ get_or text k d = get_or-take end text k d low in
    no_feed (get_or (take end text) k d) (ap is_feed same ∙ fails_before_first is_feed text k d (omega (arith, low, there.1))))

pub without_feed : (text : List ℕ) → position is_feed text ≡ None → one_line text ≡ true
without_feed text h =
    let all : length text ≤ position_or_len is_feed text = no_place (position_or_len is_feed text) (length text) h in
    list_all-from_AllPass (λ c. not (is_feed c)) text (λ k d l.
    no_feed (get_or text k d) (fails_before_first is_feed text k d (omega (arith, l, all))))
