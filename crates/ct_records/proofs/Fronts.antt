-- What stands at the front of some bytes, put together.
use Rattle.ct_records.proofs.Common.{◌≡◌, ℕ, ◌+◌, ◌^◌, ◌<◌, ◌≤◌, true, List, [], ◌∷◌, ◌++◌, length, decimal, refl, sym, ap, ◌∙◌, ◌-◌, arith}
use Rattle.ct_records.proofs.Common.{append_assoc, append-nil, get_or, length-append, subst, take, drop, drop-append-add, take-append_seam}
use Rattle.ct_records.proofs.Common.{take-append-drop, take_all, take_more, All-cons, All-head, All-nil, All-tail, All-append, Lexeme}
use Rattle.ct_records.proofs.Common.{token, comma, begin_array, end_array, string, is_operator, is_space, ends_word, lexemes, number_lexeme}
use Rattle.ct_records.proofs.Common.{pair_lexemes, Begins, IsAscii, IsWhite, IsBehindWhite, Says, Reads, ReadsMark, ReadsNumber, ReadsName}
use Rattle.ct_records.proofs.Common.{ReadsKey, ReadsEntry}
use Rattle.ct_records.proofs.Lexemes.{commas, colons, opens, closes, word_first, number_first, space_skipped}
use Rattle.ct_records.proofs.Utf8.{ascii_valid, decimal_valid, valid_then, white_valid}

-- ---- places

-- one text behind another
pub split_then : (bytes s mid t rest : List ℕ) → bytes ≡ s ++ mid → mid ≡ t ++ rest → bytes ≡ (s ++ t) ++ rest
split_then bytes s mid t rest h k = h ∙ ap (λ x. s ++ x) k ∙ sym (append_assoc s t rest)

-- three texts and what follows them
pub around : (a b c next : List ℕ) → (a ++ (b ++ c)) ++ next ≡ a ++ (b ++ (c ++ next))
around a b c next = simp append_assoc

pub lexed_then : (s t next : List ℕ) (l : List Lexeme) → lexemes (s ++ (t ++ next)) ≡ l → lexemes ((s ++ t) ++ next) ≡ l
lexed_then s t next l h = ap lexemes (append_assoc s t next) ∙ h

-- what was taken from the front, and what is left
pub first_is : (bytes text rest : List ℕ) → bytes ≡ text ++ rest → take (length bytes - length rest) bytes ≡ text
first_is bytes text rest is =
    let count : length bytes - length rest ≡ length text = omega (arith, ap length is, length-append text rest) in
    rw (count, is) (take-append_seam text rest)

-- what is left of the bytes, where as many were taken from their front as were added to another text
pub left_is : (a b xs ys : List ℕ) → a ++ xs ≡ b ++ ys → length ys ≤ length xs → ys ≡ drop (length xs - length ys) xs
left_is a b xs ys same le =
    let lengths : length a + length xs ≡ length b + length ys = sym (length-append a xs) ∙ ap length same ∙ length-append b ys in
    let count : length b ≡ length a + (length xs - length ys) = omega (arith, lengths, le) in
    sym (drop-append-add b ys 0) ∙ ap (drop (length b + 0)) (sym same)
    ∙ ap (λ n. drop n (a ++ xs)) (omega (arith, count)) ∙ drop-append-add a xs (length xs - length ys)

-- ---- texts

pub says_none : Says [] (λ after. after) 0
says_none = record { lexed = λ next. refl; valid = λ next. refl; long = omega arith }

pub says_then : (s t : List ℕ) (f g : List Lexeme → List Lexeme) (j k : ℕ) → Says s f j → Says t g k →
    Says (s ++ t) (λ after. f (g after)) (j + k)
says_then s t f g j k h i = record {
  lexed = λ next. lexed_then s t next _ (h.lexed (t ++ next) ∙ ap f (i.lexed next));
  valid = valid_then s t h.valid i.valid;
  long = omega (arith, length-append s t, h.long, i.long);
}

pub reads_none : (bytes : List ℕ) → Reads bytes (λ after. after) 0 bytes
reads_none bytes = record { text = []; split = refl; says = says_none }

abbrev pub reads_then : (bytes mid rest : List ℕ) (f g : List Lexeme → List Lexeme) (j k : ℕ) → Reads bytes f j mid → Reads mid g k rest →
    Reads bytes (λ after. f (g after)) (j + k) rest
reads_then bytes mid rest f g j k h i = record {
  text = h.text ++ i.text;
  split = split_then bytes h.text mid i.text rest h.split i.split;
  says = says_then h.text i.text f g j k h.says i.says;
}

-- the same, said in another way
abbrev pub reads_as : (bytes rest : List ℕ) (f g : List Lexeme → List Lexeme) (j k : ℕ) → Reads bytes f j rest →
    ((after : List Lexeme) → f after ≡ g after) → k ≤ j → Reads bytes g k rest
reads_as bytes rest f g j k h same le = record {
  text = h.text;
  split = h.split;
  says = record { lexed = λ next. h.says.lexed next ∙ same (lexemes next); valid = h.says.valid; long = omega (arith, h.says.long, le) };
}

-- ---- white space

pub white_first : (white next : List ℕ) → IsWhite white → lexemes (white ++ next) ≡ lexemes next
white_first [] next h = refl
white_first (x ∷ xs) next h =
    (space_skipped (x ∷ (xs ++ next)) (xs ++ next) x (All-head (λ b. is_space b ≡ true) x xs h) refl).0
    ∙ white_first xs next (All-tail (λ b. is_space b ≡ true) x xs h)

-- a word ends where white space begins, or what ends it
white_ends : (white next : List ℕ) → IsWhite white → ends_word next ≡ true → ends_word (white ++ next) ≡ true
white_ends [] next h e = e
white_ends (x ∷ xs) next h e = (space_skipped (x ∷ (xs ++ next)) (xs ++ next) x (All-head (λ b. is_space b ≡ true) x xs h) refl).1

pub white_none : (bytes : List ℕ) → IsBehindWhite bytes bytes
white_none bytes = record { white = []; split = refl; is = All-nil (λ b. is_space b ≡ true) }

pub white_nothing : IsWhite []
white_nothing = All-nil (λ b. is_space b ≡ true)

-- one more byte of it
pub white_more : (bytes : List ℕ) (i b : ℕ) → i < length bytes → is_space (get_or bytes i b) ≡ true → IsWhite (take i bytes) →
    IsWhite (take (i + 1) bytes)
white_more bytes i b within space h =
    rw (take_more bytes i b within) (All-append (λ x. is_space x ≡ true) (take i bytes) (get_or bytes i b ∷ []) h
    (All-cons (λ x. is_space x ≡ true) (get_or bytes i b) [] space white_nothing))

-- so many bytes of it, and what follows these
pub white_at : (bytes : List ℕ) (i : ℕ) → IsWhite (take i bytes) → IsBehindWhite bytes (drop i bytes)
white_at bytes i h = record { white = take i bytes; split = sym (take-append-drop i bytes); is = h }

pub white_all : (bytes : List ℕ) (i : ℕ) → length bytes ≤ i → IsWhite (take i bytes) → IsBehindWhite bytes []
white_all bytes i long h = record { white = bytes; split = sym (append-nil bytes); is = subst IsWhite (take_all i bytes long) h }

pub white_reads : (bytes rest : List ℕ) → IsBehindWhite bytes rest → Reads bytes (λ after. after) 0 rest
white_reads bytes rest h = record {
  text = h.white;
  split = h.split;
  says = record { lexed = λ next. white_first h.white next h.is; valid = white_valid h.white h.is; long = omega arith };
}

-- ---- a mark

operator_ends : (byte : ℕ) (next : List ℕ) → is_operator byte ≡ true → ends_word (byte ∷ next) ≡ true
operator_ends byte next h = rw h refl

one_ascii : (byte : ℕ) → byte < 128 → IsAscii (byte ∷ [])
one_ascii byte small = All-cons (λ b. b < 128) byte [] small (All-nil (λ b. b < 128))

pub mark_behind : (bytes mid rest : List ℕ) (byte : ℕ) → IsBehindWhite bytes mid → mid ≡ byte ∷ rest → ReadsMark bytes byte rest
mark_behind bytes mid rest byte h is =
    let one = byte ∷ [] in
    record {
      text = h.white ++ one;
      split = split_then bytes h.white mid one rest h.split is;
      begins = λ next.
          record {
            text = lexed_then h.white one next _ (white_first h.white (byte ∷ next) h.is);
            ends = λ operator.
                ap ends_word (append_assoc h.white one next)
                ∙ white_ends h.white (byte ∷ next) h.is (operator_ends byte next operator);
          };
      valid = λ small. valid_then h.white one (white_valid h.white h.is) (ascii_valid one (one_ascii byte small));
      long = omega (arith, length-append h.white one);
    }

pub mark_first : (bytes rest : List ℕ) (byte : ℕ) → bytes ≡ byte ∷ rest → ReadsMark bytes byte rest
mark_first bytes rest byte is = mark_behind bytes bytes rest byte (white_none bytes) is

pub mark_begins : (bytes rest : List ℕ) (byte : ℕ) → ReadsMark bytes byte rest → Begins bytes byte rest
mark_begins bytes rest byte h = subst (λ t. Begins t byte rest) (sym h.split) (h.begins rest)

-- the lexeme that a mark is
abbrev mark_reads : (byte : ℕ) (mark : Lexeme) → byte < 128 →
    ((bytes rest : List ℕ) → Begins bytes byte rest → lexemes bytes ≡ mark ∷ lexemes rest) → (bytes rest : List ℕ) →
    ReadsMark bytes byte rest → Reads bytes (λ after. mark ∷ after) 1 rest
mark_reads byte mark small first bytes rest h = record {
  text = h.text;
  split = h.split;
  says = record { lexed = λ next. first (h.text ++ next) next (h.begins next); valid = h.valid small; long = omega (arith, h.long) };
}

abbrev pub mark_comma : (bytes rest : List ℕ) → ReadsMark bytes 44 rest → Reads bytes (λ after. comma ∷ after) 1 rest
mark_comma = mark_reads 44 comma (omega arith) commas

abbrev pub mark_opens : (bytes rest : List ℕ) → ReadsMark bytes 91 rest → Reads bytes (λ after. token begin_array ∷ after) 1 rest
mark_opens = mark_reads 91 (token begin_array) (omega arith) opens

abbrev pub mark_closes : (bytes rest : List ℕ) → ReadsMark bytes 93 rest → Reads bytes (λ after. token end_array ∷ after) 1 rest
mark_closes = mark_reads 93 (token end_array) (omega arith) closes

-- ---- a number

pub number_behind : (bytes mid rest : List ℕ) (n : ℕ) → IsBehindWhite bytes mid → mid ≡ decimal n ++ rest → n < 2 ^ 64 →
    ReadsNumber bytes n rest
number_behind bytes mid rest n h is few = record {
  text = h.white ++ decimal n;
  split = split_then bytes h.white mid (decimal n) rest h.split is;
  lexed = λ next ended.
      lexed_then h.white (decimal n) next _ (white_first h.white (decimal n ++ next) h.is
      ∙ number_first n (decimal n ++ next) (decimal n ++ next) next few refl refl ended);
  valid = valid_then h.white (decimal n) (white_valid h.white h.is) (decimal_valid n few);
  long = omega (arith, length-append h.white (decimal n));
}

pub number_plain : (bytes rest : List ℕ) (n : ℕ) → bytes ≡ decimal n ++ rest → n < 2 ^ 64 → ReadsNumber bytes n rest
number_plain bytes rest n is few = number_behind bytes bytes rest n (white_none bytes) is few

-- what stands behind it ends it
abbrev pub number_then : (bytes mid rest : List ℕ) (n k : ℕ) (f : List Lexeme → List Lexeme) → ReadsNumber bytes n mid →
    (h : Reads mid f k rest) → ((next : List ℕ) → ends_word (h.text ++ next) ≡ true) →
    Reads bytes (λ after. number_lexeme n ∷ f after) (length (decimal n) + k) rest
number_then bytes mid rest n k f h i ended = record {
  text = h.text ++ i.text;
  split = split_then bytes h.text mid i.text rest h.split i.split;
  says = record {
    lexed = λ next.
        lexed_then h.text i.text next _ (h.lexed (i.text ++ next) (ended next) ∙ ap (λ l. number_lexeme n ∷ l) (i.says.lexed next));
    valid = valid_then h.text i.text h.valid i.says.valid;
    long = omega (arith, length-append h.text i.text, h.long, i.says.long);
  };
}

pub number_comma : (bytes mid rest : List ℕ) (n : ℕ) → ReadsNumber bytes n mid → ReadsMark mid 44 rest →
    Reads bytes (λ after. number_lexeme n ∷ comma ∷ after) (length (decimal n) + 1) rest
number_comma bytes mid rest n h i =
    number_then bytes mid rest n 1 (λ after. comma ∷ after) h (mark_comma mid rest i) (λ next. (i.begins next).ends refl)

abbrev pub number_closes : (bytes mid rest : List ℕ) (n : ℕ) → ReadsNumber bytes n mid → ReadsMark mid 93 rest →
    Reads bytes (λ after. number_lexeme n ∷ token end_array ∷ after) (length (decimal n) + 1) rest
number_closes bytes mid rest n h i =
    number_then bytes mid rest n 1 (λ after. token end_array ∷ after) h (mark_closes mid rest i) (λ next. (i.begins next).ends refl)

pub pair_reads : (a b c d e : List ℕ) (p n : ℕ) → ReadsNumber a p b → ReadsMark b 44 c → ReadsNumber c n d → ReadsMark d 93 e →
    Reads a (pair_lexemes p n) (length (decimal p) + 1 + (length (decimal n) + 1)) e
pair_reads a b c d e p n h i j k =
    reads_then a c e (λ after. number_lexeme p ∷ comma ∷ after) (λ after. number_lexeme n ∷ token end_array ∷ after)
    (length (decimal p) + 1) (length (decimal n) + 1) (number_comma a b c p h i) (number_closes c d e n j k)

-- ---- a name

quoted_ascii : (name : List ℕ) → IsAscii name → IsAscii (name ++ 34 ∷ [])
quoted_ascii name h = All-append (λ b. b < 128) name (34 ∷ []) h (one_ascii 34 (omega arith))

pub name_behind : (bytes mid name rest : List ℕ) → ReadsMark bytes 34 mid → mid ≡ name ++ 34 ∷ rest → ReadsName bytes name rest
name_behind bytes mid name rest h is =
    let last = name ++ 34 ∷ [] in
    record {
      text = h.text ++ last;
      split = h.split ∙ ap (λ t. h.text ++ t) is ∙ sym (around h.text name (34 ∷ []) rest);
      lexed = λ plain next.
          ap lexemes (around h.text name (34 ∷ []) next)
          ∙ word_first name (h.text ++ (name ++ 34 ∷ next)) next (h.begins (name ++ 34 ∷ next)).text plain;
      valid = λ ascii. valid_then h.text last (h.valid (omega arith)) (ascii_valid last (quoted_ascii name ascii));
      long = omega (arith, length-append h.text last, length-append name (34 ∷ []), h.long);
    }

pub key_behind : (bytes mid key rest : List ℕ) → ReadsName bytes key mid → ReadsMark mid 58 rest → ReadsKey bytes key rest
key_behind bytes mid key rest h i = record {
  text = h.text ++ i.text;
  split = split_then bytes h.text mid i.text rest h.split i.split;
  lexed = λ plain next.
      lexed_then h.text i.text next _ (h.lexed plain (i.text ++ next)
      ∙ ap (λ l. token (string key) ∷ l) (colons (i.text ++ next) next (i.begins next)));
}

-- ---- the front of a step or a command

entry_split : (a b c d next : List ℕ) → (a ++ (b ++ (c ++ d))) ++ next ≡ a ++ (b ++ (c ++ (d ++ next)))
entry_split a b c d next = simp append_assoc

pub entry_reads : (bytes a b c rest name : List ℕ) (n : ℕ) → ReadsMark bytes 91 a → ReadsName a name b → ReadsMark b 44 c →
    ReadsNumber c n rest → ReadsEntry bytes name n rest
entry_reads bytes a b c rest name n h i j k =
    let one = (mark_opens bytes a h).says in
    let two = (mark_comma b c j).says in
    record {
      text = h.text ++ (i.text ++ (j.text ++ k.text));
      split = h.split
          ∙ ap (λ t. h.text ++ t) (i.split ∙ ap (λ t. i.text ++ t) (j.split ∙ ap (λ t. j.text ++ t) k.split))
          ∙ sym (entry_split h.text i.text j.text k.text rest);
      lexed = λ plain next ended.
          ap lexemes (entry_split h.text i.text j.text k.text next)
          ∙ one.lexed (i.text ++ (j.text ++ (k.text ++ next)))
          ∙ ap (λ l. token begin_array ∷ l) (i.lexed plain (j.text ++ (k.text ++ next))
          ∙ ap (λ l. token (string name) ∷ l) (two.lexed (k.text ++ next) ∙ ap (λ l. comma ∷ l) (k.lexed next ended)));
      valid = λ ascii.
          valid_then h.text (i.text ++ (j.text ++ k.text)) one.valid
          (valid_then i.text (j.text ++ k.text) (i.valid ascii) (valid_then j.text k.text two.valid k.valid));
      long = omega (
        arith,
        length-append h.text (i.text ++ (j.text ++ k.text)),
        length-append i.text (j.text ++ k.text),
        length-append j.text k.text,
        h.long,
        i.long,
        j.long,
        k.long,
      );
    }
