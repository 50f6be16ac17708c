-- The compact text of a value that is mild is read as that value.
use Rattle.std.proofs.Common.{◌≡◌, decimal, ℕ, zero, suc, ◌≤◌, Bool, true, false, cond, ◌&&◌, List, [], ◌∷◌, ◌++◌, Some, refl, sym, ap, ap₂}
use Rattle.std.proofs.Common.{◌∙◌, append-nil, append_assoc, arith}
use Rattle.std.specs.Prelude.{option_and_then, option_map}
use Rattle.json.specs.Token.{Token, begin_object, key, string as text, number as digits, boolean as truth, bad}
use Rattle.json.specs.Token as t
use Rattle.json.specs.Json as json
use Rattle.json.specs.Lex.{Lexeme, token, comma, colon, string_token, lex, between, fresh, punctuate, tokens}
use Rattle.json.specs.Print.{escape, quoted, token_text, begins, ends, separator, print_from, print, IsPrintable, ArePrintable}
use Rattle.json.specs.Word.{ends_word, word}
use Rattle.json.specs.Tree as tree
use Rattle.json.proofs.Printed.Decimals.{IsNumber-decimal}
use Rattle.json.proofs.Printed.Numbers.{lex-number, in_word-ended}
use Rattle.json.proofs.Printed.Strings.{content-escape, lex-escape}
use Rattle.json.proofs.Printed.Tokens.{tokens-print}
use Rattle.json.proofs.Printed.Trees.{value-json_tokens, ArePrintable-json_tokens}
use Rattle.serde_json.specs.Data.{Num, unsigned, negative, float, Data, number, array, object, Items, no_items, item, Members, no_members}
use Rattle.serde_json.specs.Data.{member, put}
use Rattle.serde_json.specs.Read.{of_json, of_items, of_members}
use Rattle.serde_json.specs.Written.{blank, blank_items, blank_members, compact_text, items_outline, members_outline, outline}
use Rattle.serde_json.proofs.Numbers.{number_of-decimal}
use Rattle.serde_json.proofs.Texts.{print-outline, unless_float-number_of}
use Rattle.ct_laws.specs.JsonValues.{IsRead, in_order, items_in_order, members_in_order}
use Rattle.ct_laws.proofs.Values.Mild.{IsMild, IsWhole, ItemsAreMild, MembersAreMild}
use Rattle.ct_json.specs.Fields.{line_text}

-- ---- the value again

-- the tree of the value is read as it, its numbers are written so, it is no deeper than k, and it has no float
abbrev Reads : ℕ → Data → Type 0
Reads k d =
    (of_json (outline d) ≡ Some (in_order d)) × tree.HasNumbers (outline d) × (tree.depth (outline d) ≤ k) × (blank (outline d) ≡ outline d)

number_reads : (k : ℕ) (n : Num) → IsWhole n → Reads k (number n)
number_reads k (unsigned n) h =
    let again = number_of-decimal n h in (
      ap (option_map number) again,
      IsNumber-decimal n h,
      omega arith,
      ap json.number (unless_float-number_of (decimal n) (unsigned n) again),
    )
number_reads k (negative z) h = absurd h
number_reads k (float x) h = absurd h

mutual
  reads : (k : ℕ) (d : Data) → IsMild k d → Reads k d
  reads k (number n) h = number_reads k n h
  reads zero (array ds) h = absurd h
  reads (suc k) (array ds) h = let r = items_read k ds h in (ap (option_map array) r.0, r.1, omega (arith, r.2), ap json.array r.3)
  reads zero (object ms) h = absurd h
  reads (suc k) (object ms) h =
      let r = members_read k ms h in (ap (option_map object) (r.0 no_members), r.1, omega (arith, r.2), ap json.object r.3)
  reads k _ h = (refl, tt, omega arith, refl)

  items_read : (k : ℕ) (ds : Items) → ItemsAreMild k ds →
      (of_items (items_outline ds) ≡ Some (items_in_order ds)) × tree.ItemsHaveNumbers (items_outline ds)
      × (tree.items_depth (items_outline ds) ≤ k) × (blank_items (items_outline ds) ≡ items_outline ds)
  items_read k no_items h = (refl, tt, omega arith, refl)
  items_read k (item d ds) h =
      let first = reads k d h.0 in
      let rest = items_read k ds h.1 in
      (rw (first.0, rest.0) refl, (first.1, rest.1), omega (arith, first.2, rest.2), ap₂ json.item first.3 rest.3)

  members_read : (k : ℕ) (ms : Members) → MembersAreMild k ms →
      ((found : Members) → of_members (members_outline ms) found ≡ Some (members_in_order ms found))
      × tree.MembersHaveNumbers (members_outline ms) × (tree.members_depth (members_outline ms) ≤ k)
      × (blank_members (members_outline ms) ≡ members_outline ms)
  members_read k no_members h = ((λ found. refl), tt, omega arith, refl)
  members_read k (member name d ms) h =
      let first = reads k d h.0 in
      let rest = members_read k ms h.1 in (
        (λ found. ap (option_and_then (λ e. of_members (members_outline ms) (put name e found))) first.0
            ∙ rest.0 (put name (in_order d) found)),
        (first.1, rest.1),
        omega (arith, first.2, rest.2),
        ap₂ (json.member name) first.3 rest.3,
      )

-- ---- its text

-- a text with the tokens of the value is read as it
read_by : (bytes : List ℕ) (d : Data) → IsMild 127 d → tokens bytes ≡ tree.json_tokens (outline d) → IsRead bytes d
read_by bytes d h same =
    let r = reads 127 d h in
    let ts = tree.json_tokens (outline d) in
    record {
      value = ap (λ o. option_and_then of_json (option_and_then (λ p. json.if_last p.0 p.1) o))
          (ap (json.value 127) (same ∙ sym (append-nil ts)) ∙ value-json_tokens (outline d) 127 [] r.2) ∙ r.0;
      order = (outline d, same, r.3);
    }

printable : (d : Data) → IsMild 127 d → ArePrintable (tree.json_tokens (outline d))
printable d h = ArePrintable-json_tokens (outline d) (reads 127 d h).1

pub compact_read : (d : Data) → IsMild 127 d → IsRead (compact_text d) d
compact_read d h =
    read_by (compact_text d) d h (ap tokens (sym (print-outline d)) ∙ tokens-print (tree.json_tokens (outline d)) (printable d h))

-- ---- with a line feed behind it

token_lexemes : Token → List Lexeme
token_lexemes (key s) = token (text s) ∷ colon ∷ []
token_lexemes bad = []
token_lexemes x = token x ∷ []

lex-quoted : (s r : List ℕ) → lex between (quoted s ++ r) ≡ token (text s) ∷ lex between r
unfolding lex
lex-quoted s r =
    ap (λ l. lex between (34 ∷ l)) (append_assoc (escape s) (34 ∷ []) r)
    ∙ ap₂ (λ o l. token (string_token o) ∷ l) (content-escape s r) (lex-escape s r)

-- the lexeme of a token that is written before a text that ends a word
lex-token : (x : Token) (r : List ℕ) → IsPrintable x → (ends x ≡ true → ends_word r ≡ true) →
    lex between (token_text x ++ r) ≡ token_lexemes x ++ lex between r
unfolding lex word token_lexemes
lex-token (key s) r h ended = ap (lex between) (append_assoc (quoted s) (58 ∷ []) r) ∙ lex-quoted s (58 ∷ r)
lex-token (text s) r h ended = lex-quoted s r
lex-token (digits s) r h ended = lex-number s r h (ended refl)
lex-token (truth true) r h ended = ap₂ (λ b l. token (cond b (truth true) bad) ∷ l) (ended refl) (in_word-ended r (ended refl))
lex-token (truth false) r h ended = ap₂ (λ b l. token (cond b (truth false) bad) ∷ l) (ended refl) (in_word-ended r (ended refl))
lex-token t.null r h ended = ap₂ (λ b l. token (cond b t.null bad) ∷ l) (ended refl) (in_word-ended r (ended refl))
lex-token bad r h ended = absurd h
lex-token _ r h ended = refl

lex-comma : (b : Bool) (r : List ℕ) → lex between (cond b (44 ∷ []) [] ++ r) ≡ cond b (comma ∷ []) [] ++ lex between r
unfolding lex
lex-comma true r = refl
lex-comma false r = refl

lexemes : Bool → List Token → List Lexeme
lexemes c [] = []
lexemes c (x ∷ ts) = cond (c && begins x) (comma ∷ []) [] ++ (token_lexemes x ++ lexemes (ends x) ts)

ends_before : (ts : List Token) (r : List ℕ) → ends_word r ≡ true → ends_word (print_from true ts ++ r) ≡ true
unfolding print_from
ends_before [] r h = h
ends_before (begin_object ∷ ts) r h = refl
ends_before (x ∷ ts) r h = refl

-- the lexemes of tokens that are written before a text that ends a word
lex-print : (c : Bool) (ts : List Token) (r : List ℕ) → ArePrintable ts → ends_word r ≡ true →
    lex between (print_from c ts ++ r) ≡ lexemes c ts ++ lex between r
unfolding lexemes print_from ArePrintable
lex-print c [] r h ended = refl
lex-print c (x ∷ ts) r h ended =
    let rest = print_from (ends x) ts ++ r in
    let commas : List Lexeme = cond (c && begins x) (comma ∷ []) [] in
    let split : print_from c (x ∷ ts) ++ r ≡ separator c x ++ (token_text x ++ rest) = simp append_assoc in
    ap (lex between) split ∙ lex-comma (c && begins x) (token_text x ++ rest)
    ∙ ap (λ l. commas ++ l) (lex-token x rest h.0 (λ e. ap (λ b. ends_word (print_from b ts ++ r)) e ∙ ends_before ts r ended)
    ∙ ap (λ l. token_lexemes x ++ l) (lex-print (ends x) ts r h.1 ended))
    ∙ simp append_assoc

-- the line feed adds no lexeme
feed_skipped : (ts : List Token) → ArePrintable ts → lex between (print ts ++ 10 ∷ []) ≡ lex between (print ts)
unfolding lex
feed_skipped ts h =
    lex-print false ts (10 ∷ []) h refl ∙ sym (lex-print false ts [] h refl) ∙ ap (lex between) (append-nil (print ts))

pub ended_read : (d : Data) → IsMild 127 d → IsRead (line_text d) d
ended_read d h =
    let ts = tree.json_tokens (outline d) in
    read_by (line_text d) d h
    (ap (λ b. tokens (b ++ 10 ∷ [])) (sym (print-outline d)) ∙ ap (punctuate fresh) (feed_skipped ts (printable d h))
    ∙ tokens-print ts (printable d h))
