-- The text of all steps, with white space at any place or without.
use Rattle.ct_records.proofs.Common.{◌≡◌, ℕ, ◌+◌, ◌^◌, ◌<◌, ◌≤◌, Bool, true, false, List, [], ◌∷◌, ◌++◌, length, codes, decimal, refl, sym}
use Rattle.ct_records.proofs.Common.{ap, ◌∙◌, ◌-◌, arith, append_assoc, append-nil, length-append, subst, lt-ltb, drop, map, nat_eq, nat_lt}
use Rattle.ct_records.proofs.Common.{not, concat, is_utf8, Lexeme, token, comma, begin_array, Command, Step, Rest, nothing, command, amount}
use Rattle.ct_records.proofs.Common.{command_entry, rest_texts, step_entry, lexemes, command_lexemes, step_lexemes, steps_lexemes, comma_if}
use Rattle.ct_records.proofs.Common.{IsValid, Says, Reads, ReadsNumber, ReadsEntry, ReadsTail, ReadsStep, next_text, AllFit, CommandFits}
use Rattle.ct_records.proofs.Common.{RestFits, StepFits, AreTaken, IsAfter, IsTextOf, SaysSame, steps_text, rest_of, rest_of-join}
use Rattle.std.proofs.lemmas.Bool.{ne_eqb}
use Rattle.ct_model.specs.StepText.{number, command_text, step_text}
use Rattle.ct_records.proofs.Lexemes.{opens, steps_joined}
use Rattle.ct_records.proofs.Fronts.{around, says_none, says_then, mark_begins, mark_comma, mark_first, left_is, number_plain, name_behind}
use Rattle.ct_records.proofs.Fronts.{entry_reads}
use Rattle.ct_records.proofs.Steps.{command_reads, tail_short, tail_numbered, tail_commanded, step_reads}
use Rattle.ct_records.proofs.Utf8.{valid_then}
use Rattle.ct_records.proofs.Stored.{amount_fits}

later_is : (ss : List Step) (empty : Bool) → empty ≡ nat_eq (length ss) 0 → not empty ≡ nat_lt 0 (length ss)
later_is [] empty is = ap not is
later_is (s ∷ ss) empty is =
    ap not (is ∙ ne_eqb (length (s ∷ ss)) 0 (λ e. omega (arith, e))) ∙ sym (lt-ltb 0 (length (s ∷ ss)) (omega arith))

pub text_none : IsTextOf [] []
text_none = says_none

later_length : (ss : List Step) (s : Step) →
    length (rest_of 44 true (map step_text (ss ++ s ∷ []))) ≡ length (rest_of 44 true (map step_text ss)) + (1 + length (step_text s))
later_length [] s = omega (arith, length-append (step_text s) [])
later_length (t ∷ ss) s =
    omega (
      arith,
      later_length ss s,
      length-append (step_text t) (rest_of 44 true (map step_text (ss ++ s ∷ []))),
      length-append (step_text t) (rest_of 44 true (map step_text ss)),
    )

length_more : (ss : List Step) (s : Step) (later : Bool) → later ≡ nat_lt 0 (length ss) →
    length (steps_text (ss ++ s ∷ [])) ≡ length (steps_text ss) + length (next_text later s)
length_more [] s later e = rw e (omega arith)
length_more (t ∷ ss) s later e =
    let some : later ≡ true = e ∙ lt-ltb 0 (length (t ∷ ss)) (omega arith) in
    let f = map step_text in
    rw (some, sym (rest_of-join 44 (f (t ∷ (ss ++ s ∷ [])))), sym (rest_of-join 44 (f (t ∷ ss))))
    (omega (
      arith,
      later_length ss s,
      length-append (step_text t) (rest_of 44 true (f (ss ++ s ∷ []))),
      length-append (step_text t) (rest_of 44 true (f ss)),
    ))

-- one more step
text_more : (ss : List Step) (s : Step) (later : Bool) (text more : List ℕ) → later ≡ nat_lt 0 (length ss) → IsTextOf ss text →
    Says more (λ after. comma_if later (step_lexemes s after)) (length (next_text later s)) → IsTextOf (ss ++ s ∷ []) (text ++ more)
text_more ss s later text more e h i = record {
  lexed = λ next.
      let behind = more ++ next in
      let all = text ++ behind in
      let opened : (t : List ℕ) → lexemes (91 ∷ t) ≡ token begin_array ∷ lexemes t =
      λ t. opens (91 ∷ t) t (mark_begins (91 ∷ t) t 91 (mark_first (91 ∷ t) t 91 refl)) in
      ap lexemes (append_assoc text more next)
      ∙ ap (drop 1) (sym (opened all)
      ∙ steps_joined ss s later (91 ∷ all) behind next e (opened all ∙ ap (λ l. token begin_array ∷ l) (h.lexed behind)) (i.lexed next));
  valid = valid_then text more h.valid i.valid;
  long = omega (arith, length-append text more, length_more ss s later e, h.long, i.long);
}

pub taken_none : (has : List Step → Type 0) (bytes : List ℕ) → AreTaken has has bytes bytes
taken_none has bytes = λ ss text h is. record { steps = ss; has = h; joins = record { all = text; is = is; split = refl } }

pub taken_then : (a b c : List Step → Type 0) (x y z : List ℕ) → AreTaken a b x y → AreTaken b c y z → AreTaken a c x z
taken_then a b c x y z h k = λ ss text old is.
    let first = h ss text old is in
    let second = k first.steps first.joins.all first.has first.joins.is in
    record {
      steps = second.steps;
      has = second.has;
      joins = record { all = second.joins.all; is = second.joins.is; split = first.joins.split ∙ second.joins.split };
    }

-- no step was taken yet, or some
pub taken_first : (has : List Step → Type 0) (empty : Bool) (bytes : List ℕ) →
    ((ss : List Step) → has ss → empty ≡ nat_eq (length ss) 0) → AreTaken has (IsAfter has (not empty)) bytes bytes
taken_first has empty bytes is = λ ss text h text_is. record {
  steps = ss;
  has = (h, later_is ss empty (is ss h));
  joins = record { all = text; is = text_is; split = refl };
}

pub taken_one : (old new : List Step → Type 0) (s : Step) (later : Bool) (bytes rest : List ℕ) → ReadsStep later bytes s rest →
    ((ss : List Step) → old ss → new (ss ++ s ∷ [])) → AreTaken (IsAfter old later) (IsAfter new true) bytes rest
taken_one old new s later bytes rest h more = λ ss text has is. record {
  steps = ss ++ s ∷ [];
  has = (more ss has.0, sym (lt-ltb 0 (length (ss ++ s ∷ [])) (omega (arith, length-append ss (s ∷ [])))));
  joins = record {
    all = text ++ h.text;
    is = text_more ss s later text h.text has.1 is h.says;
    split = ap (λ t. text ++ t) h.split ∙ sym (append_assoc text h.text rest);
  };
}

-- what is left stands behind as many bytes
pub taken_at : (old new : List Step → Type 0) (later : Bool) (bytes rest : List ℕ) (n : ℕ) →
    AreTaken old (IsAfter new later) bytes rest → length rest ≤ length bytes → n ≡ length bytes - length rest →
    AreTaken old new bytes (drop n bytes)
taken_at old new later bytes rest n h le e = λ ss text has is.
    let t = h ss text has is in
    let j = t.joins in
    let at : rest ≡ drop n bytes = rw e (left_is text j.all bytes rest j.split le) in
    record { steps = t.steps; has = t.has.0; joins = record { all = j.all; is = j.is; split = j.split ∙ ap (λ t. j.all ++ t) at } }

-- ---- the text without white space

-- what a text says that is all of the bytes
says_self : (bytes : List ℕ) (f : List Lexeme → List Lexeme) (k : ℕ) → Reads bytes f k [] → Says bytes f k
says_self bytes f k h = subst (λ t. Says t f k) (sym (h.split ∙ append-nil h.text)) h.says

-- the front of an entry
entry_self : (name tail : List ℕ) (first : ℕ) → first < 2 ^ 64 →
    ReadsEntry (91 ∷ 34 ∷ (name ++ 34 ∷ 44 ∷ (decimal first ++ tail))) name first tail
entry_self name tail first few =
    let c = decimal first ++ tail in
    let b = 44 ∷ c in
    let mid = name ++ 34 ∷ b in
    let a = 34 ∷ mid in
    entry_reads (91 ∷ a) a b c tail name first (mark_first (91 ∷ a) a 91 refl)
    (name_behind a mid name b (mark_first a mid 34 refl) refl) (mark_first b c 44 refl) (number_plain c tail first refl few)

number_self : (n : ℕ) (tail : List ℕ) → n < 2 ^ 64 → ReadsNumber (decimal n ++ tail) n tail
number_self n tail few = number_plain (decimal n ++ tail) tail n refl few

command_self : (c : Command) → CommandFits c → Says (command_text c) (command_lexemes c) (length (command_text c))
unfolding command_text
command_self c h =
    let e = command_entry c in
    let n = amount e.rest in
    let last : List ℕ = 93 ∷ [] in
    let value : List ℕ = decimal n ++ last in
    says_self (command_text c) (command_lexemes c) (length (command_text c))
    (command_reads (command_text c) (44 ∷ value) value last [] e.name e.first n c
    (entry_self e.name (44 ∷ value) e.first (omega (arith, h.0))) (mark_first (44 ∷ value) value 44 refl)
    (number_self n last (omega (arith, amount_fits e.rest h.1))) (mark_first last [] 93 refl) refl refl refl)

tail_self : (s : Step) (r : Rest) → r ≡ (step_entry s).rest → RestFits r →
    ReadsTail (step_entry s).name (step_entry s).first (concat (rest_texts r ++ codes "]" ∷ [])) s []
tail_self s nothing e h = tail_short _ (93 ∷ []) [] _ s (mark_first (93 ∷ []) [] 93 refl) refl refl (sym e)
tail_self s (number x) e h =
    let n = amount x in
    let last : List ℕ = 93 ∷ [] in
    let value : List ℕ = decimal n ++ last in
    tail_numbered _ (44 ∷ value) value last [] _ n s (mark_first (44 ∷ value) value 44 refl)
    (number_self n last (omega (arith, amount_fits x h))) (mark_first last [] 93 refl) refl refl (x, sym e, refl)
tail_self s (command c) e h =
    let last : List ℕ = 93 ∷ [] in
    let value : List ℕ = command_text c ++ last in
    tail_commanded _ (44 ∷ value) value last [] _ c s (mark_first (44 ∷ value) value 44 refl)
    (record { text = command_text c; split = refl; says = command_self c h }) (mark_first last [] 93 refl) refl refl (sym e)

step_self : (s : Step) → StepFits s → Says (step_text s) (step_lexemes s) (length (step_text s))
unfolding step_text
step_self s h =
    let e = step_entry s in
    let tail = concat (rest_texts e.rest ++ codes "]" ∷ []) in
    says_self (step_text s) (step_lexemes s) (length (step_text s))
    (step_reads (step_text s) tail [] e.name e.first s (entry_self e.name tail e.first (omega (arith, h.0))) (tail_self s e.rest refl h.1))

comma_self : Says (44 ∷ []) (λ after. comma ∷ after) 1
comma_self = says_self (44 ∷ []) (λ after. comma ∷ after) 1 (mark_comma (44 ∷ []) [] (mark_first (44 ∷ []) [] 44 refl))

all_self : (later : Bool) (ss : List Step) → AllFit ss → Says (rest_of 44 later (map step_text ss)) (steps_lexemes later ss) 0
all_self later [] h = says_none
all_self true (s ∷ ss) h =
    let more = rest_of 44 true (map step_text ss) in
    says_then (44 ∷ []) (step_text s ++ more) (λ after. comma ∷ after) (λ after. step_lexemes s (steps_lexemes true ss after)) 0 0
    (record { lexed = comma_self.lexed; valid = comma_self.valid; long = omega arith })
    (says_then (step_text s) more (step_lexemes s) (steps_lexemes true ss) 0 0
    (record { lexed = (step_self s h.0).lexed; valid = (step_self s h.0).valid; long = omega arith }) (all_self true ss h.1))
all_self false (s ∷ ss) h =
    let more = rest_of 44 true (map step_text ss) in
    says_then (step_text s) more (step_lexemes s) (steps_lexemes true ss) 0 0
    (record { lexed = (step_self s h.0).lexed; valid = (step_self s h.0).valid; long = omega arith }) (all_self true ss h.1)

steps_self : (ss : List Step) → AllFit ss → Says (steps_text ss) (steps_lexemes false ss) 0
steps_self ss h = subst (λ t. Says t (steps_lexemes false ss) 0) (rest_of-join 44 (map step_text ss)) (all_self false ss h)

-- with white space or without, the steps say the same
pub steps_same : (head text last : List ℕ) (before : List Lexeme → List Lexeme) (ss : List Step) →
    ((next : List ℕ) → lexemes (head ++ next) ≡ before (lexemes next)) → IsValid head → IsTextOf ss text → AllFit ss →
    SaysSame (head ++ (text ++ last)) (head ++ (steps_text ss ++ last))
steps_same head text last before ss lexed valid h fit =
    let close = steps_text ss in
    let self = steps_self ss fit in
    record {
      lexed = λ next.
          let behind = last ++ next in
          ap lexemes (around head text last next) ∙ lexed (text ++ behind) ∙ ap before (h.lexed behind ∙ sym (self.lexed behind))
          ∙ sym (ap lexemes (around head close last next) ∙ lexed (close ++ behind));
      valid = λ next.
          let behind = last ++ next in
          ap is_utf8 (around head text last next) ∙ valid (text ++ behind) ∙ h.valid behind
          ∙ sym (ap is_utf8 (around head close last next) ∙ valid (close ++ behind) ∙ self.valid behind);
      shorter = omega (
        arith,
        h.long,
        length-append head (text ++ last),
        length-append text last,
        length-append head (close ++ last),
        length-append close last,
      );
    }
