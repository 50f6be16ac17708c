-- One step at the front of some bytes.
use Rattle.ct_records.proofs.Common.{◌≡◌, ℕ, ◌+◌, Bool, true, false, List, [], ◌∷◌, ◌++◌, length, codes, decimal, refl, sym, ap, ◌∙◌, arith}
use Rattle.ct_records.proofs.Common.{append_assoc, length-append, if◌then◌else◌, concat, Lexeme, token, comma, begin_array, end_array}
use Rattle.ct_records.proofs.Common.{string, ends_word, Command, Step, Submit, Number, nothing, command, amount, command_entry, entry_text}
use Rattle.ct_records.proofs.Common.{rest_texts, step_entry, lexemes, number_lexeme, entry_lexemes, command_lexemes, rest_lexemes}
use Rattle.ct_records.proofs.Common.{step_lexemes, comma_if, pair_lexemes, IsBehindWhite, IsValid, Reads, ReadsMark, ReadsNumber}
use Rattle.ct_records.proofs.Common.{ReadsEntry, ReadsTail, ReadsStep}
use Rattle.ct_model.specs.declared.step.Step.TheVariants.{Receive, Postpone}
use Rattle.ct_model.specs.StepText.{number, command_text, step_text}
use Rattle.ct_records.specs.Quick.{ReadsNamed, name_of, step_of}
use Rattle.ct_records.specs.declared.scan.kind.Kind.{Kind}
use Rattle.ct_records.proofs.Lexemes.{commas, word_first}
use Rattle.ct_records.proofs.Names.{IsName, command_name, step_name}
use Rattle.ct_records.proofs.Fronts.{reads_then, reads_as, white_none, white_reads, mark_begins, mark_behind, mark_first, mark_opens}
use Rattle.ct_records.proofs.Fronts.{mark_comma, mark_closes, number_closes, name_behind, entry_reads}
use Rattle.ct_records.proofs.Utf8.{ascii_are, ascii_valid, valid_then}
use Rattle.ct_records.specs.declared.scan.kind.Kind.TheVariants as kind

-- ---- entries

-- how long the text of an entry is
entry_length : (name : List ℕ) (first : ℕ) (rest : List (List ℕ)) →
    length (entry_text name first rest) ≡ 4 + length name + length (decimal first) + length (concat (rest ++ codes "]" ∷ []))
entry_length name first rest =
    let tail = concat (rest ++ codes "]" ∷ []) in
    omega (arith, length-append name (34 ∷ 44 ∷ (decimal first ++ tail)), length-append (decimal first) tail)

-- a comma ends the word before it, whatever text follows the comma
ends_behind : {a b : List ℕ} → (h : ReadsMark a 44 b) → (t next : List ℕ) → ends_word ((h.text ++ t) ++ next) ≡ true
ends_behind h t next = ap ends_word (append_assoc h.text t next) ∙ (h.begins (t ++ next)).ends refl

-- a name, its marks and the comma behind it
named_valid : (name : List ℕ) → IsName name → IsValid (34 ∷ (name ++ 34 ∷ 44 ∷ []))
named_valid name is =
    valid_then (34 ∷ []) (name ++ 34 ∷ 44 ∷ []) (ascii_valid (34 ∷ []) (ascii_are (34 ∷ []) refl))
    (valid_then name (34 ∷ 44 ∷ []) (ascii_valid name (ascii_are name is.ascii))
    (ascii_valid (34 ∷ 44 ∷ []) (ascii_are (34 ∷ 44 ∷ []) refl)))

-- what stands behind the front of an entry, and ends its number
entry_then : (bytes mid rest name : List ℕ) (n k : ℕ) (f : List Lexeme → List Lexeme) → ReadsEntry bytes name n mid → IsName name →
    (h : Reads mid f k rest) → ((next : List ℕ) → ends_word (h.text ++ next) ≡ true) →
    Reads bytes (λ after. entry_lexemes name n (f after)) (4 + length name + length (decimal n) + k) rest
entry_then bytes mid rest name n k f h is i ended = record {
  text = h.text ++ i.text;
  split = h.split ∙ ap (λ x. h.text ++ x) i.split ∙ sym (append_assoc h.text i.text rest);
  says = record {
    lexed = λ next.
        ap lexemes (append_assoc h.text i.text next)
        ∙ h.lexed is.plain (i.text ++ next) (ended next) ∙ ap (entry_lexemes name n) (i.says.lexed next);
    valid = valid_then h.text i.text (h.valid (ascii_are name is.ascii)) i.says.valid;
    long = omega (arith, length-append h.text i.text, h.long, i.says.long);
  };
}

-- behind a comma a number and a bracket
abbrev comma_number : (a b c rest : List ℕ) (n : ℕ) → ReadsMark a 44 b → ReadsNumber b n c → ReadsMark c 93 rest →
    Reads a (λ after. comma ∷ number_lexeme n ∷ token end_array ∷ after) (1 + (length (decimal n) + 1)) rest
comma_number a b c rest n h i j =
    reads_then a b rest (λ after. comma ∷ after) (λ after. number_lexeme n ∷ token end_array ∷ after) 1 (length (decimal n) + 1)
    (mark_comma a b h) (number_closes b c rest n i j)

pub command_reads : (bytes a b d rest name : List ℕ) (register n : ℕ) (c : Command) → ReadsEntry bytes name register a →
    ReadsMark a 44 b → ReadsNumber b n d → ReadsMark d 93 rest → (command_entry c).name ≡ name → (command_entry c).first ≡ register →
    amount (command_entry c).rest ≡ n → Reads bytes (command_lexemes c) (length (command_text c)) rest
unfolding command_text
command_reads bytes a b d rest name register n c h0 h1 h2 h3 named first is =
    let e = command_entry c in
    let front : ReadsEntry bytes e.name e.first a = rw (named, first) h0 in
    let last : ReadsNumber b (amount e.rest) d = rw is h2 in
    let m = amount e.rest in
    reads_as bytes rest _ (command_lexemes c) (4 + length e.name + length (decimal e.first) + (1 + (length (decimal m) + 1)))
    (length (command_text c))
    (entry_then bytes a rest e.name e.first (1 + (length (decimal m) + 1)) (λ after. comma ∷ number_lexeme m ∷ token end_array ∷ after)
    front (command_name c) (comma_number a b d rest m h1 last h3) (λ next. ends_behind h1 _ next))
    (λ after. refl)
    (omega (arith, entry_length e.name e.first (codes "," ∷ decimal m ∷ []), length-append (decimal m) (93 ∷ [])))

-- ---- what stands behind a step's member

pub tail_short : (name bytes rest : List ℕ) (p : ℕ) (s : Step) → ReadsMark bytes 93 rest → (step_entry s).name ≡ name →
    (step_entry s).first ≡ p → (step_entry s).rest ≡ nothing → ReadsTail name p bytes s rest
tail_short name bytes rest p s h named first is = record {
  named = named;
  of_member = first;
  tail = reads_as bytes rest _ _ 1 _ (mark_closes bytes rest h) (λ after. rw is refl) (rw is (omega arith));
  ends = λ next. (h.begins next).ends refl;
}

pub tail_numbered : (name bytes a b rest : List ℕ) (p n : ℕ) (s : Step) → ReadsMark bytes 44 a → ReadsNumber a n b → ReadsMark b 93 rest →
    (step_entry s).name ≡ name → (step_entry s).first ≡ p → ((x : Number) × ((step_entry s).rest ≡ number x) × (amount x ≡ n)) →
    ReadsTail name p bytes s rest
tail_numbered name bytes a b rest p n s h i j named first is =
    let x = is.0 in
    let value : ReadsNumber a (amount x) b = rw is.2 i in
    let lexed : (after : List Lexeme) → rest_lexemes (step_entry s).rest after ≡ comma ∷ number_lexeme (amount x) ∷ after =
    λ after. rw is.1 refl in
    let texts : rest_texts (step_entry s).rest ≡ codes "," ∷ decimal (amount x) ∷ [] = rw is.1 refl in
    record {
      named = named;
      of_member = first;
      tail =
          reads_as bytes rest _ _ (1 + (length (decimal (amount x)) + 1)) _ (comma_number bytes a b rest (amount x) h value j)
          (λ after. sym (lexed (token end_array ∷ after)))
          (rw texts (omega (arith, length-append (decimal (amount x)) (93 ∷ []))));
      ends = λ next. ends_behind h _ next;
    }

pub tail_commanded : (name bytes a b rest : List ℕ) (p : ℕ) (c : Command) (s : Step) → ReadsMark bytes 44 a →
    Reads a (command_lexemes c) (length (command_text c)) b → ReadsMark b 93 rest → (step_entry s).name ≡ name →
    (step_entry s).first ≡ p → (step_entry s).rest ≡ command c → ReadsTail name p bytes s rest
tail_commanded name bytes a b rest p c s h i j named first is = record {
  named = named;
  of_member = first;
  tail =
      reads_as bytes rest _ _ (1 + (length (command_text c) + 1)) _
      (reads_then bytes a rest (λ after. comma ∷ after) (λ after. command_lexemes c (token end_array ∷ after)) 1
      (length (command_text c) + 1) (mark_comma bytes a h)
      (reads_then a b rest (command_lexemes c) (λ after. token end_array ∷ after) (length (command_text c)) 1 i (mark_closes b rest j)))
      (λ after. rw is refl) (rw is (omega (arith, length-append (command_text c) (93 ∷ []))));
  ends = λ next. ends_behind h _ next;
}

-- ---- a step

pub step_reads : (bytes mid rest name : List ℕ) (p : ℕ) (s : Step) → ReadsEntry bytes name p mid → ReadsTail name p mid s rest →
    ReadsStep false bytes s rest
unfolding step_text
step_reads bytes mid rest name p s h i =
    let e = step_entry s in
    let front : ReadsEntry bytes e.name e.first mid = rw (i.named, i.of_member) h in
    let k = length (concat (rest_texts e.rest ++ codes "]" ∷ [])) in
    reads_as bytes rest _ _ (4 + length e.name + length (decimal e.first) + k) (length (step_text s))
    (entry_then bytes mid rest e.name e.first k (λ after. rest_lexemes e.rest (token end_array ∷ after)) front (step_name s) i.tail i.ends)
    (λ after. refl) (omega (arith, entry_length e.name e.first (rest_texts e.rest)))

-- a name and its comma, right behind one another
name_reads : (name bytes rest : List ℕ) → IsName name → bytes ≡ 34 ∷ (name ++ 34 ∷ 44 ∷ rest) →
    Reads bytes (λ after. token (string name) ∷ comma ∷ after) (3 + length name) rest
name_reads name bytes rest is h =
    let text = 34 ∷ (name ++ 34 ∷ 44 ∷ []) in
    let split : (next : List ℕ) → text ++ next ≡ 34 ∷ (name ++ 34 ∷ 44 ∷ next) =
    λ next. ap (λ t. 34 ∷ t) (append_assoc name (34 ∷ 44 ∷ []) next) in
    record {
      text = text;
      split = h ∙ sym (split rest);
      says = record {
        lexed = λ next.
            ap lexemes (split next) ∙ word_first name (34 ∷ (name ++ 34 ∷ 44 ∷ next)) (44 ∷ next) refl is.plain
            ∙ ap (λ l. token (string name) ∷ l) (commas (44 ∷ next) next
            (mark_begins (44 ∷ next) next 44 (mark_first (44 ∷ next) next 44 refl)));
        valid = named_valid name is;
        long = omega (arith, length-append name (34 ∷ 44 ∷ []));
      };
    }

-- the bracket that opens an array, and white space behind it
opened_white : (bytes mid rest : List ℕ) → ReadsMark bytes 91 mid → IsBehindWhite mid rest →
    Reads bytes (λ after. token begin_array ∷ after) 1 rest
opened_white bytes mid rest is white =
    reads_as bytes rest (λ after. token begin_array ∷ after) (λ after. token begin_array ∷ after) (1 + 0) 1
    (reads_then bytes mid rest (λ after. token begin_array ∷ after) (λ after. after) 1 0 (mark_opens bytes mid is)
    (white_reads mid rest white)) (λ after. refl) (omega arith)

-- a step behind a comma, where another stands before it
pub another_reads : (later : Bool) (bytes mid rest : List ℕ) (s : Step) → Reads bytes (comma_if later) (if later then 1 else 0) mid →
    ReadsStep false mid s rest → ReadsStep later bytes s rest
another_reads true bytes mid rest s h i =
    reads_as bytes rest (λ after. comma ∷ step_lexemes s after) (λ after. comma ∷ step_lexemes s after) (1 + length (step_text s))
    (length (44 ∷ step_text s))
    (reads_then bytes mid rest (λ after. comma ∷ after) (step_lexemes s) 1 (length (step_text s)) h i) (λ after. refl) (omega arith)
another_reads false bytes mid rest s h i =
    reads_as bytes rest (step_lexemes s) (step_lexemes s) (0 + length (step_text s)) (length (step_text s))
    (reads_then bytes mid rest (λ after. after) (step_lexemes s) 0 (length (step_text s)) h i) (λ after. refl) (omega arith)

-- what stands before a step: white space, behind a comma where another step stands before that
pub another_comma : (bytes mid rest : List ℕ) → bytes ≡ 44 ∷ mid → IsBehindWhite mid rest → Reads bytes (λ after. comma ∷ after) 1 rest
another_comma bytes mid rest is white =
    reads_as bytes rest (λ after. comma ∷ after) (λ after. comma ∷ after) (1 + 0) 1
    (reads_then bytes mid rest (λ after. comma ∷ after) (λ after. after) 1 0 (mark_comma bytes mid (mark_first bytes mid 44 is))
    (white_reads mid rest white)) (λ after. refl) (omega arith)

-- ---- a step without white space before its commas

-- a comma, a bracket, a name and one more comma, with white space anywhere but before that
pub named_reads : (bytes mid start inner named rest : List ℕ) (k : Kind) → bytes ≡ 44 ∷ mid → IsBehindWhite mid start →
    start ≡ 91 ∷ inner → IsBehindWhite inner named → named ≡ 34 ∷ (name_of k ++ 34 ∷ 44 ∷ rest) → ReadsNamed bytes k rest
named_reads bytes mid start inner named rest k first white second more is =
    let name = name_of k in
    reads_as bytes rest _ _ (1 + (1 + (3 + length name))) (5 + length name)
    (reads_then bytes start rest (λ after. comma ∷ after) (λ after. token begin_array ∷ token (string name) ∷ comma ∷ after) 1
    (1 + (3 + length name)) (another_comma bytes mid start first white)
    (reads_then start named rest (λ after. token begin_array ∷ after) (λ after. token (string name) ∷ comma ∷ after) 1 (3 + length name)
    (opened_white start inner named (mark_first start inner 91 second) more) (name_reads name named rest (step_name (step_of k 0 0)) is)))
    (λ after. refl) (omega arith)

-- without white space
pub close_named : (bytes rest : List ℕ) (k : Kind) → bytes ≡ 44 ∷ 91 ∷ 34 ∷ (name_of k ++ 34 ∷ 44 ∷ rest) → ReadsNamed bytes k rest
close_named bytes rest k is =
    let named = 34 ∷ (name_of k ++ 34 ∷ 44 ∷ rest) in
    named_reads bytes (91 ∷ named) (91 ∷ named) named named rest k is (white_none (91 ∷ named)) refl (white_none named) refl

pub named_step : (bytes mid rest : List ℕ) (k : Kind) (p n : ℕ) → ReadsNamed bytes k mid →
    Reads mid (pair_lexemes p n) (length (decimal p) + 1 + (length (decimal n) + 1)) rest → ReadsStep true bytes (step_of k p n) rest
unfolding step_text
named_step bytes mid rest kind.Receive p n h i =
    let s = Receive p n in
    let pair = length (decimal p) + 1 + (length (decimal n) + 1) in
    reads_as bytes rest _ _ (12 + pair) (length (44 ∷ step_text s))
    (reads_then bytes mid rest _ (pair_lexemes p n) 12 pair h i) (λ after. refl)
    (omega (arith, entry_length (step_entry s).name p (rest_texts (step_entry s).rest), length-append (decimal n) (93 ∷ [])))
named_step bytes mid rest kind.Postpone p n h i =
    let s = Postpone p n in
    let pair = length (decimal p) + 1 + (length (decimal n) + 1) in
    reads_as bytes rest _ _ (13 + pair) (length (44 ∷ step_text s))
    (reads_then bytes mid rest _ (pair_lexemes p n) 13 pair h i) (λ after. refl)
    (omega (arith, entry_length (step_entry s).name p (rest_texts (step_entry s).rest), length-append (decimal n) (93 ∷ [])))

-- a Submit with white space behind its bracket
pub submit_reads : (bytes inner named num a b e rest : List ℕ) (p : ℕ) (c : Command) → ReadsMark bytes 91 inner →
    IsBehindWhite inner named → named ≡ codes "\"submit\"," ++ num → ReadsNumber num p a → a ≡ 44 ∷ b →
    Reads b (command_lexemes c) (length (command_text c)) e → ReadsMark e 93 rest → ReadsStep false bytes (Submit p c) rest
submit_reads bytes inner named num a b e rest p c opens white is value behind reads closes =
    let name = codes "submit" in
    let comma_on = 44 ∷ num in
    let word = name ++ 34 ∷ comma_on in
    step_reads bytes a rest name p (Submit p c)
    (entry_reads bytes inner comma_on num a name p opens
    (name_behind inner word name comma_on (mark_behind inner named word 34 white is) refl)
    (mark_first comma_on num 44 refl) value)
    (tail_commanded name a b e rest p c (Submit p c) (mark_first a b 44 behind) reads closes refl refl refl)
