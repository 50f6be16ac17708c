-- Quotes in texts.
use Rattle.std.specs.Prelude.{codes}
use Rattle.std.specs.List.{after_first, before_first, position_or_len}
use Rattle.std.proofs.Common.{◌≡◌, ◌∙◌, ◌<◌, ◌+◌, ◌==◌, ℕ, suc, Bool, true, false, List, [], ◌∷◌, ◌++◌, length, take}
use Rattle.std.proofs.Common.{ap, append_assoc, arith, drop, refl, sym}
use Rattle.ct_find.specs.Texts.{quoted}

abbrev is_quote : ℕ → Bool
is_quote c = c == 39

abbrev place : List ℕ → ℕ
place text = position_or_len is_quote text

place_here : (c : ℕ) (cs : List ℕ) → is_quote c ≡ true → place (c ∷ cs) ≡ 0
place_here c cs e = rw e refl

place_later : (c : ℕ) (cs : List ℕ) → is_quote c ≡ false → place (c ∷ cs) ≡ suc (place cs)
place_later c cs e =
    let one : place (c ∷ cs) ≡ 1 + place cs = rw e refl in
    omega (arith, one)

quoted_here : (c : ℕ) (cs : List ℕ) → is_quote c ≡ true → quoted (c ∷ cs) ≡ codes "'\\''" ++ quoted cs
unfolding quoted
quoted_here c cs e = rw e refl

quoted_later : (c : ℕ) (cs : List ℕ) → is_quote c ≡ false → quoted (c ∷ cs) ≡ c ∷ quoted cs
unfolding quoted
quoted_later c cs e = rw e refl

before_here : (c : ℕ) (cs : List ℕ) → is_quote c ≡ true → before_first is_quote (c ∷ cs) ≡ []
before_here c cs e = rw e refl

before_later : (c : ℕ) (cs : List ℕ) → is_quote c ≡ false → before_first is_quote (c ∷ cs) ≡ c ∷ before_first is_quote cs
before_later c cs e = ap (λ n. take n (c ∷ cs)) (place_later c cs e)

after_here : (c : ℕ) (cs : List ℕ) → is_quote c ≡ true → after_first is_quote (c ∷ cs) ≡ cs
after_here c cs e = rw e refl

after_later : (c : ℕ) (cs : List ℕ) → is_quote c ≡ false → after_first is_quote (c ∷ cs) ≡ after_first is_quote cs
after_later c cs e =
    let all : place (c ∷ cs) + 1 ≡ suc (place cs + 1) = omega (arith, place_later c cs e) in
    ap (λ n. drop n (c ∷ cs)) all

-- a text without quotes is as it is
pub quoted_same : (text : List ℕ) → place text ≡ length text → quoted text ≡ text
unfolding quoted
quoted_same [] none = refl
quoted_same (c ∷ cs) none = go (is_quote c) refl (quoted_same cs)
  where
    go : (h : Bool) → is_quote c ≡ h → (place cs ≡ length cs → quoted cs ≡ cs) → quoted (c ∷ cs) ≡ c ∷ cs
    go true is rest = absurd (omega (arith, none, place_here c cs is))
    go false is rest = quoted_later c cs is ∙ ap (λ more. c ∷ more) (rest (omega (arith, none, place_later c cs is)))

-- what stands before the first one, that one, and the text behind it
pub quoted_first : (text : List ℕ) → place text < length text →
    quoted text ≡ before_first is_quote text ++ (codes "'\\''" ++ quoted (after_first is_quote text))
quoted_first [] inside = absurd (omega (arith, inside))
quoted_first (c ∷ cs) inside = go (is_quote c) refl (quoted_first cs)
  where
    go : (h : Bool) → is_quote c ≡ h → (place cs < length cs →
        quoted cs ≡ before_first is_quote cs ++ (codes "'\\''" ++ quoted (after_first is_quote cs))) →
        quoted (c ∷ cs) ≡ before_first is_quote (c ∷ cs) ++ (codes "'\\''" ++ quoted (after_first is_quote (c ∷ cs)))
    go true is rest =
        quoted_here c cs is
        ∙ sym (ap (λ front. front ++ (codes "'\\''" ++ quoted (after_first is_quote (c ∷ cs)))) (before_here c cs is)
        ∙ ap (λ text. codes "'\\''" ++ quoted text) (after_here c cs is))
    go false is rest =
        quoted_later c cs is
        ∙ (ap (λ more. c ∷ more) (rest (omega (arith, inside, place_later c cs is)))
        ∙ sym (ap (λ front. front ++ (codes "'\\''" ++ quoted (after_first is_quote (c ∷ cs)))) (before_later c cs is)
        ∙ ap (λ text. (c ∷ before_first is_quote cs) ++ (codes "'\\''" ++ quoted text)) (after_later c cs is)))

-- what is held of the text, with the next quote
pub quoted_more : (text rest before behind held first next : List ℕ) → place rest < length rest → before ≡ before_first is_quote rest →
    behind ≡ after_first is_quote rest → first ≡ held ++ before → next ≡ first ++ codes "'\\''" → held ++ quoted rest ≡ quoted text →
    next ++ quoted behind ≡ quoted text
quoted_more text rest before behind held first next inside front back one two so_far =
    ap (λ t. t ++ quoted behind) (two ∙ ap (λ t. t ++ codes "'\\''") one)
    ∙ (append_assoc (held ++ before) (codes "'\\''") (quoted behind)
    ∙ (append_assoc held before (codes "'\\''" ++ quoted behind)
    ∙ (ap (λ t. held ++ (t ++ (codes "'\\''" ++ quoted behind))) front
    ∙ (ap (λ t. held ++ (before_first is_quote rest ++ (codes "'\\''" ++ quoted t))) back
    ∙ (ap (λ t. held ++ t) (sym (quoted_first rest inside)) ∙ so_far)))))
