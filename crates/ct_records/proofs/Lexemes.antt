-- Lexemes, put together.
use Rattle.ct_records.proofs.Common.{◌≡◌, ℕ, ◌+◌, ◌*◌, ◌/◌, ◌%◌, ◌<◌, ◌^◌, Bool, true, false, List, [], ◌∷◌, ◌++◌, length, take, get_or}
use Rattle.ct_records.proofs.Common.{decimal, Option, Some, None, refl, sym, ap, ◌∙◌, arith, append_assoc, inl, inr, ◌⊎◌, ◌==◌, IfSome}
use Rattle.ct_records.proofs.Common.{nat_lt, take_more, decimal_digit, decimal_step, eqb-true, nat_tests, begin_object, end_object}
use Rattle.ct_records.proofs.Common.{begin_array, end_array, string, Lexeme, token, comma, colon, escape, quoted, is_space, ends_word}
use Rattle.ct_records.proofs.Common.{IsNumber-decimal, Step, lexemes, number_lexeme, step_lexemes, comma_if, steps_lexemes, Begins, IsPlain}
use Rattle.std.proofs.lemmas.Bool.{lt-ltb}
use Rattle.json.specs.Lex.{string_token, lex, between, in_string}
use Rattle.json.proofs.Printed.Numbers.{lex-number}
use Rattle.json.proofs.Printed.Strings.{content-escape, lex-escape}

-- ---- numbers

-- a digit alone
pub digit_first : (xs : List ℕ) (n b : ℕ) → 0 < length xs → n < 10 → get_or xs 0 b ≡ 48 + n → take 1 xs ≡ decimal n
digit_first xs n b some digit is = take_more xs 0 b some ∙ ap (λ x. x ∷ []) is ∙ sym (decimal_digit n digit)

-- one more digit
pub digit_joins : (xs : List ℕ) (i n d b : ℕ) → i < length xs → take i xs ≡ decimal n → 0 < n → d < 10 → get_or xs i b ≡ 48 + d →
    n * 10 + d < 2 ^ 64 → take (i + 1) xs ≡ decimal (n * 10 + d)
digit_joins xs i n d b within so_far some digit is small =
    let m = n * 10 + d in
    let before : m / 10 ≡ n = omega arith in
    let last : m % 10 ≡ d = omega arith in
    take_more xs i b within ∙ ap (λ t. t ++ get_or xs i b ∷ []) so_far ∙ ap (λ x. decimal n ++ x ∷ []) is
    ∙ sym (decimal_step m (omega arith) small ∙ ap (λ k. decimal k ++ (48 + m % 10) ∷ []) before ∙ ap
    (λ k. decimal n ++ (48 + k) ∷ []) last)

-- what holds of what is there, said in another way
pub if_some : {A : Type 0} (P Q : A → Type 0) (o : Option A) → ((x : A) → P x → Q x) → IfSome o P → IfSome o Q
if_some P Q None f h = tt
if_some P Q (Some x) f h = f x h

-- ---- one lexeme

pub commas : (bytes rest : List ℕ) → Begins bytes 44 rest → lexemes bytes ≡ comma ∷ lexemes rest
unfolding lex
commas bytes rest h = h.text

pub colons : (bytes rest : List ℕ) → Begins bytes 58 rest → lexemes bytes ≡ colon ∷ lexemes rest
unfolding lex
colons bytes rest h = h.text

pub opens : (bytes rest : List ℕ) → Begins bytes 91 rest → lexemes bytes ≡ token begin_array ∷ lexemes rest
unfolding lex
opens bytes rest h = h.text

pub closes : (bytes rest : List ℕ) → Begins bytes 93 rest → lexemes bytes ≡ token end_array ∷ lexemes rest
unfolding lex
closes bytes rest h = h.text

pub opens_object : (bytes rest : List ℕ) → Begins bytes 123 rest → lexemes bytes ≡ token begin_object ∷ lexemes rest
unfolding lex
opens_object bytes rest h = h.text

-- white space, one byte at a time
are_spaces : (x : ℕ) → is_space x ≡ true → (x ≡ 32) ⊎ ((x ≡ 9) ⊎ ((x ≡ 10) ⊎ (x ≡ 13)))
are_spaces x h = grind (arith, nat_tests)

pub space_skipped : (bytes rest : List ℕ) (x : ℕ) → is_space x ≡ true → bytes ≡ x ∷ rest →
    (lexemes bytes ≡ lexemes rest) × (ends_word bytes ≡ true)
unfolding lex
space_skipped bytes rest x h e = go (are_spaces x h)
  where
    go : (x ≡ 32) ⊎ ((x ≡ 9) ⊎ ((x ≡ 10) ⊎ (x ≡ 13))) → (lexemes bytes ≡ lexemes rest) × (ends_word bytes ≡ true)
    go (inl i) = rw (e, i) (refl, refl)
    go (inr (inl i)) = rw (e, i) (refl, refl)
    go (inr (inr (inl i))) = rw (e, i) (refl, refl)
    go (inr (inr (inr i))) = rw (e, i) (refl, refl)

-- the bracket that closes an object is the last
pub object_ends : (bytes rest t : List ℕ) → Begins bytes 125 rest → lexemes rest ≡ lexemes t → (length t == 0) ≡ true →
    lexemes bytes ≡ token end_object ∷ []
unfolding lex
object_ends bytes rest [] h same none = h.text ∙ ap (λ l. token end_object ∷ l) same
object_ends bytes rest (x ∷ t) h same none = absurd (omega (arith, eqb-true (length (x ∷ t)) 0 none))

lex-quoted : (s r : List ℕ) → lexemes (quoted s ++ r) ≡ token (string s) ∷ lexemes r
unfolding lex
lex-quoted s r =
    ap (λ l. lex between (34 ∷ l)) (append_assoc (escape s) (34 ∷ []) r)
    ∙ ap (λ o. token (string_token o) ∷ lex in_string (escape s ++ 34 ∷ r)) (content-escape s r)
    ∙ ap (λ l. token (string s) ∷ l) (lex-escape s r)

-- a word between quotation marks
pub word_first : (s bytes r : List ℕ) → lexemes bytes ≡ lexemes (34 ∷ (s ++ 34 ∷ r)) → IsPlain s →
    lexemes bytes ≡ token (string s) ∷ lexemes r
word_first s bytes r e h =
    let joined : quoted s ++ r ≡ 34 ∷ (s ++ 34 ∷ r) = ap (λ t. t ++ r) h ∙ ap (λ t. 34 ∷ t) (append_assoc s (34 ∷ []) r) in
    e ∙ sym (ap lexemes joined) ∙ lex-quoted s r

-- a number before white space or a mark
pub number_first : (n : ℕ) (bytes t r : List ℕ) → n < 2 ^ 64 → lexemes bytes ≡ lexemes t → t ≡ decimal n ++ r → ends_word r ≡ true →
    lexemes bytes ≡ number_lexeme n ∷ lexemes r
number_first n bytes t r fits same is ended = same ∙ ap lexemes is ∙ lex-number (decimal n) r (IsNumber-decimal n fits) ended

-- ---- the list of the steps

push_later : (ss : List Step) (s : Step) (after : List Lexeme) →
    steps_lexemes true (ss ++ s ∷ []) after ≡ steps_lexemes true ss (comma ∷ step_lexemes s after)
push_later [] s after = refl
push_later (t ∷ ss) s after = ap (λ l. comma ∷ step_lexemes t l) (push_later ss s after)

-- one more step, behind a comma where others stand before it
steps_push : (ss : List Step) (s : Step) (later : Bool) (after : List Lexeme) → later ≡ nat_lt 0 (length ss) →
    steps_lexemes false (ss ++ s ∷ []) after ≡ steps_lexemes false ss (comma_if later (step_lexemes s after))
steps_push [] s later after e = rw e refl
steps_push (t ∷ ss) s later after e =
    let some : later ≡ true = e ∙ lt-ltb 0 (length (t ∷ ss)) (omega arith) in
    rw some (ap (step_lexemes t) (push_later ss s after))

pub steps_joined : (ss : List Step) (s : Step) (later : Bool) (bytes a b : List ℕ) → later ≡ nat_lt 0 (length ss) →
    lexemes bytes ≡ token begin_array ∷ steps_lexemes false ss (lexemes a) → lexemes a ≡ comma_if later (step_lexemes s (lexemes b)) →
    lexemes bytes ≡ token begin_array ∷ steps_lexemes false (ss ++ s ∷ []) (lexemes b)
steps_joined ss s later bytes a b e h0 h1 =
    h0 ∙ ap (λ l. token begin_array ∷ steps_lexemes false ss l) h1
    ∙ ap (λ l. token begin_array ∷ l) (sym (steps_push ss s later (lexemes b) e))
