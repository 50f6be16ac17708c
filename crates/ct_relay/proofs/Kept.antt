-- What stays as it is when one more is taken, and when the marks cover more numbers.
use Rattle.std.proofs.Common.{◌≡◌, ℕ, ◌+◌, Bool, true, false, ◌||◌, List, [], ◌∷◌, ◌++◌, Option, Some, None, refl, ap, ap₂, ◌∙◌}
use Rattle.std.proofs.Common.{◌⊎◌, arith, length, get_or, zero, suc}
use Rattle.std.specs.Prelude.{is_some, option_map, replicate}
use Rattle.std.specs.List.{list_any}
use Rattle.std.proofs.lemmas.List.Folds.{list_any-append}
use Rattle.std.proofs.lemmas.List.{length-append, length-replicate, get_or_past}
use Rattle.std.proofs.lemmas.Bool.Decides.{nat_tests}
use Rattle.ct_relay.specs.declared.known.Known.{Known}
use Rattle.ct_relay.specs.declared.relay_id.RelayId.{RelayId}
use Rattle.ct_relay.specs.declared.relay_id.RelayId.TheVariants.{Data, Dec}
use Rattle.ct_relay.specs.Taken.{is_id, with_id}
use Rattle.ct_relay.specs.Marks.{told, covers_id, told_of, with_mark_of, IsKept}
use Rattle.ct_relay.proofs.Receipts.{once-last, out, same-is_id}
use Rattle.ct_relay.proofs.Marked.{told-with_mark}

-- one more comes last
added : (ids : List RelayId) (id x : RelayId) → list_any (is_id x) (ids ++ id ∷ []) ≡ (list_any (is_id x) ids || is_id x id)
added ids id x = grind (arith, list_any-append (is_id x) ids (id ∷ []))

-- what is covered is told of, and nothing else is
covered-some : (known : Known) (id : RelayId) → covers_id known id ≡ is_some (told_of known id)
covered-some known id = grind arith

same-marks : (known : Known) (id : RelayId) → covers_id known id ≡ false → with_mark_of known id ≡ known
same-marks known id e = grind arith

module _ (order : List RelayId) (known : Known) (others : List RelayId) (kept : IsKept order known others) (id : RelayId)
    (first : list_any (is_id id) order ≡ false) where
  -- it is covered, and leaves the others as they are
  pub marked-kept : covers_id known id ≡ true → IsKept (order ++ id ∷ []) (with_mark_of known id) others
  marked-kept there = record {
    once = once-last order id (out order id first) kept.once;
    taken = λ x there. grind (arith, added order id x, kept.taken x);
    covered = λ x b e. grind (arith, added order id x, told-with_mark known id x, kept.covered x);
    uncovered = λ x e. grind (arith, added order id x, told-with_mark known id x, kept.uncovered x, covered-some known, same-is_id x id);
  }

  -- it is not covered, and stands with the others
  pub other-kept : covers_id known id ≡ false → IsKept (order ++ id ∷ []) (with_mark_of known id) (with_id others id)
  other-kept away =
      let not-other : with_id others id ≡ others ++ id ∷ [] = grind (arith, covered-some known id, kept.uncovered id, first) in
      rw (same-marks known id away, not-other) (record {
        once = once-last order id (out order id first) kept.once;
        taken = λ x there. grind (arith, added order id x, added others id x, kept.taken x);
        covered = λ x b e.
            grind (arith, kept.covered x b e, added order id x, covered-some known id, covered-some known x, same-is_id x id);
        uncovered = λ x e. grind (arith, added others id x, kept.uncovered x, added order id x);
      })

abbrev none : List ℕ
none = []

-- places that are added last are empty, as those past the end are
filled : (more n : ℕ) → get_or (replicate more none) n none ≡ none
filled zero n = refl
filled (suc more) zero = refl
filled (suc more) (suc n) = filled more n

padded : (marks : List (List ℕ)) (more n : ℕ) → get_or (marks ++ replicate more none) n none ≡ get_or marks n none
padded [] more n = filled more n
padded (set ∷ marks) more zero = refl
padded (set ∷ marks) more (suc n) = padded marks more n

-- what the longer marks tell: the same, or that what they cover now was not taken
module _ (marks : List (List ℕ)) (more : ℕ) where
  abbrev longer : List (List ℕ)
  longer = marks ++ replicate more []

  module _ (origin number : ℕ) where
    long : length longer ≡ length marks + more
    long = length-append marks (replicate more none) ∙ ap (λ k. length marks + k) (length-replicate more none)

    same-at : (a : Bool) → told marks origin number ≡ Some a → told longer origin number ≡ Some a
    same-at a e = grind (arith, nat_tests, long, padded marks more number)

    more-at : told marks origin number ≡ None → (told longer origin number ≡ None) ⊎ (told longer origin number ≡ Some false)
    more-at e = grind (arith, nat_tests, long, padded marks more number, get_or_past marks number none)

-- both kinds of marks are longer
module _ (known : Known) (more also : ℕ) where
  abbrev pub long_known : Known
  long_known = record { messages = longer known.messages more; decisions = longer known.decisions also }

  told-same : (x : RelayId) (a : Bool) → told_of known x ≡ Some a → told_of long_known x ≡ Some a
  told-same (Data origin number) a e = same-at known.messages more origin number a e
  told-same (Dec instance round) a e = same-at known.decisions also round instance a e

  told-more : (x : RelayId) → told_of known x ≡ None → (told_of long_known x ≡ None) ⊎ (told_of long_known x ≡ Some false)
  told-more (Data origin number) e = more-at known.messages more origin number e
  told-more (Dec instance round) e = more-at known.decisions also round instance e

-- what is told once the marks are longer and what the others have of it is marked
longer-marked : (was long now : Option Bool) (in_order in_others : Bool) → ((a : Bool) → was ≡ Some a → long ≡ Some a) →
    (was ≡ None → (long ≡ None) ⊎ (long ≡ Some false)) → now ≡ option_map (λ a. a || in_others) long →
    (in_others ≡ true → in_order ≡ true) → ((b : Bool) → was ≡ Some b → b ≡ in_order) → (was ≡ None → in_others ≡ in_order) →
    ((b : Bool) → now ≡ Some b → b ≡ in_order) × (now ≡ None → in_others ≡ in_order)
longer-marked was long now in_order in_others same more is taken covered uncovered = (λ b e. grind arith, λ e. grind arith)

-- the marks cover more numbers, and what the others have of them is marked
pub grown-kept : (order : List RelayId) (known grown new : Known) (others : List RelayId) (more also : ℕ) → IsKept order known others →
    grown.messages ≡ longer known.messages more → grown.decisions ≡ longer known.decisions also →
    ((id : RelayId) → told_of new id ≡ option_map (λ b. b || list_any (is_id id) others) (told_of grown id)) → IsKept order new others
grown-kept order known grown new others more also kept messages decisions tells =
    let still = λ (x : RelayId). longer-marked (told_of known x) (told_of (long_known known more also) x) (told_of new x)
    (list_any (is_id x) order) (list_any (is_id x) others) (told-same known more also x) (told-more known more also x)
    (tells x ∙ ap (λ g. option_map (λ a. a || list_any (is_id x) others) (told_of g x)) (ap₂ both messages decisions))
    (kept.taken x) (kept.covered x) (kept.uncovered x) in
    record { once = kept.once; taken = kept.taken; covered = λ x. (still x).0; uncovered = λ x. (still x).1 }
  where
    both : List (List ℕ) → List (List ℕ) → Known
    both m d = record { messages = m; decisions = d }
