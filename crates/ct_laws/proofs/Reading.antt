-- XML, piece by piece.
use Rattle.std.proofs.Common.{◌≡◌, ℕ, zero, suc, ◌%◌, ◌/◌, ◌<◌, Bool, true, false, List, [], ◌∷◌, ◌++◌, refl, ap, ◌∙◌, arith}
use Rattle.std.proofs.Common.{decimal, mod-lt}
use Rattle.std.proofs.lemmas.Bool.Decides.{nat_tests}
use Rattle.std.proofs.lemmas.List.Sums.{fold-append}
use Rattle.std.specs.Fmt.{digits, digits_onto, digit_glyph}
use Rattle.std.specs.List.{list_all}
use Rattle.std.specs.Prelude.{fold, ◌==◌, if◌then◌else◌}
use Rattle.ct_names.proofs.Lists.{both, both-left, both-right}
use Rattle.ct_laws.specs.Xml.{is_in_value}
use Rattle.ct_laws.proofs.Reader.{Reading, read}
use Rattle.ct_laws.proofs.Reader.Reading.{Within, Value}

-- ---- what is plain

-- plain text without quotes
abbrev pub IsMild : List ℕ → Type 0
IsMild text = list_all is_in_value text ≡ true

pub mild_both : (a b : List ℕ) → IsMild a → IsMild b → IsMild (a ++ b)
mild_both [] b h k = k
mild_both (x ∷ a) b h k =
    both (is_in_value x) (list_all is_in_value (a ++ b)) (both-left (is_in_value x) (list_all is_in_value a) h)
    (mild_both a b (both-right (is_in_value x) (list_all is_in_value a) h) k)

pub if_mild : (b : Bool) (one other : List ℕ) → IsMild one → IsMild other → IsMild (if b then one else other)
if_mild true one other h k = h
if_mild false one other h k = k

-- ---- texts that are read from one state to another

abbrev pub Leads : Reading → List ℕ → Reading → Type 0
Leads r text s = fold read r text ≡ s

pub leads : (r s t : Reading) (a b : List ℕ) → Leads r a s → Leads s b t → Leads r (a ++ b) t
leads r s t a b h k = fold-append read r a b ∙ ap (λ q. fold read q b) h ∙ k

digit : (n : ℕ) → is_in_value (digit_glyph false (n % 10)) ≡ true
digit n = let low : n % 10 < 10 = mod-lt n {m = 10} (omega arith) in grind (arith, nat_tests)

digits_mild : (k n : ℕ) (acc : List ℕ) → IsMild acc → IsMild (digits_onto k 10 false n acc)
digits_mild zero n acc h = h
digits_mild (suc k) n acc h =
    let glyph = digit_glyph false (n % 10) in
    let one : IsMild (glyph ∷ acc) = both (is_in_value glyph) (list_all is_in_value acc) (digit n) h in
    if_mild (n / 10 == 0) (glyph ∷ acc) (digits_onto k 10 false (n / 10) (glyph ∷ acc)) one (digits_mild k (n / 10) (glyph ∷ acc) one)

pub decimal_mild : (n : ℕ) → IsMild (decimal n)
unfolding digits
decimal_mild n = digits_mild 64 n [] refl

-- mild text, within an element or in the value of an attribute

mild_within : (name : List ℕ) (names : List (List ℕ)) (b : ℕ) → is_in_value b ≡ true → read (Within name names) b ≡ Within name names
mild_within name names b h = grind (arith, nat_tests)

mild_value : (names : List (List ℕ)) (name : List ℕ) (known : List (List ℕ)) (b : ℕ) → is_in_value b ≡ true →
    read (Value names name known) b ≡ Value names name known
mild_value names name known b h = grind (arith, nat_tests)

pub stays_within : (name : List ℕ) (names : List (List ℕ)) (text : List ℕ) → IsMild text →
    Leads (Within name names) text (Within name names)
stays_within name names [] h = refl
stays_within name names (b ∷ text) h =
    ap (λ r. fold read r text) (mild_within name names b (both-left (is_in_value b) (list_all is_in_value text) h))
    ∙ stays_within name names text (both-right (is_in_value b) (list_all is_in_value text) h)

pub stays_value : (names : List (List ℕ)) (name : List ℕ) (known : List (List ℕ)) (text : List ℕ) → IsMild text →
    Leads (Value names name known) text (Value names name known)
stays_value names name known [] h = refl
stays_value names name known (b ∷ text) h =
    ap (λ r. fold read r text) (mild_value names name known b (both-left (is_in_value b) (list_all is_in_value text) h))
    ∙ stays_value names name known text (both-right (is_in_value b) (list_all is_in_value text) h)
