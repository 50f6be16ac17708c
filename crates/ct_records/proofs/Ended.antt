-- A record whose steps stand between the numbers before them and those behind them says what its members do.
use Rattle.ct_records.proofs.Common.{◌≡◌, ℕ, ◌^◌, ◌<◌, ◌≤◌, true, false, List, [], ◌∷◌, ◌++◌, codes, length, Some, None, Ok, refl, sym, ap}
use Rattle.ct_records.proofs.Common.{subst, ◌∙◌, append_assoc, append-nil, IsUtf8, is_utf8, IsUtf8-from_is_utf8, IsUtf8-nil}
use Rattle.ct_records.proofs.Common.{is_utf8-from_IsUtf8, token, comma, colon, begin_array, begin_object, end_array, end_object, string}
use Rattle.ct_records.proofs.Common.{ends_word, Members, no_members, object, Step, Rehearsal, AllFit, lexemes, number_lexeme, steps_lexemes}
use Rattle.ct_records.proofs.Common.{Begins, IsPlain, IsAscii, IsWhite, ReadsKey, ReadsMark, ReadsNumber, max_len, of_value, script, num}
use Rattle.ct_records.proofs.Common.{IsTextOf, IsWholeOf, members_with, Adds, AreAll, IsFound, IsHead, IsPast, SoFar, Takes}
use Rattle.json.proofs.OnLiterals.{json_on_literals}
use Rattle.ct_records.proofs.Lexemes.{closes, commas, object_ends, opens, opens_object}
use Rattle.ct_records.proofs.Fronts.{around, lexed_then, mark_begins, split_then, white_first}
use Rattle.ct_records.proofs.Utf8.{ascii_valid}
use Rattle.ct_records.proofs.Keys.{adds_steps}
use Rattle.ct_records.proofs.Members.{so_far_none, so_far_more, takes_number, takes_steps, plain_script}
use Rattle.ct_records.specs.declared.numbers.Numbers.{Numbers}
use Rattle.ct_records.specs.Members.{AddsNumber, IsListKey, IsUpToList, IsUpToSteps}

-- ---- one number

-- a number at its key
pub taken : (bytes key value after : List ℕ) (n : ℕ) (old new : Members) → ReadsKey bytes key value → ReadsNumber value n after →
    n < 2 ^ 64 → Adds key (num n) old new → Takes bytes old new after
taken bytes key value after n old new h i few adds =
    takes_number key n bytes value after old new (λ plain. ap lexemes h.split ∙ h.lexed plain value)
    (λ ended. ap lexemes i.split ∙ i.lexed after ended) few adds

-- ---- the numbers before the steps

pub found_none : (bytes : List ℕ) (numbers : Numbers) → members_with numbers None ≡ no_members → IsFound bytes numbers bytes
found_none bytes numbers none = record {
  text = [];
  split = refl;
  so_far = λ next. rw none (so_far_none next);
  before = λ after. after;
  lexed = λ next. refl;
}

-- one more number, with a comma behind it
pub found_more : (bytes rest key value after next : List ℕ) (n : ℕ) (old new : Numbers) → IsFound bytes old rest → ReadsKey rest key value →
    ReadsNumber value n after → ReadsMark after 44 next → n < 2 ^ 64 → AddsNumber key n old new → IsFound bytes new next
found_more bytes rest key value after next n old new h i j k few adds =
    let m = i.text ++ (j.text ++ k.text) in
    let plain : IsPlain key = (adds None).0 in
    let begins : rest ≡ m ++ next =
    i.split ∙ ap (λ t. i.text ++ t) (j.split ∙ ap (λ t. j.text ++ t) k.split) ∙ sym (around i.text j.text k.text next) in
    let value_lexed : (x : List ℕ) → lexemes (j.text ++ (k.text ++ x)) ≡ number_lexeme n ∷ lexemes (k.text ++ x) =
    λ x. j.lexed (k.text ++ x) ((k.begins x).ends refl) in
    record {
      text = h.text ++ m;
      split = split_then bytes h.text rest m next h.split begins;
      so_far = λ x.
          let end = k.text ++ x in
          let takes : Takes (m ++ x) (members_with old None) (members_with new None) end =
          takes_number key n (m ++ x) (j.text ++ end) end _ _
          (λ plain. ap lexemes (around i.text j.text k.text x) ∙ i.lexed plain (j.text ++ end)) (λ ended. j.lexed end ended) few
          (adds None) in
          subst (λ t. SoFar t (members_with new None) x) (sym (append_assoc h.text m x))
          (so_far_more (h.text ++ (m ++ x)) (m ++ x) end x _ _ (h.so_far (m ++ x)) takes (k.begins x));
      before = λ l. h.before (token (string key) ∷ colon ∷ number_lexeme n ∷ comma ∷ l);
      lexed = λ x.
          lexed_then h.text m x _ (h.lexed (m ++ x)
          ∙ ap h.before (ap lexemes (around i.text j.text k.text x) ∙ i.lexed plain (j.text ++ (k.text ++ x))
          ∙ ap (λ l. token (string key) ∷ colon ∷ l) (value_lexed x
          ∙ ap (λ l. number_lexeme n ∷ l) (commas (k.text ++ x) x (k.begins x)))));
    }

-- ---- the key of the steps and the bracket behind it

list_key : (bytes key value next : List ℕ) → (h : ReadsKey bytes key value) → (i : ReadsMark value 91 next) → key ≡ codes "steps" →
    IsListKey (h.text ++ i.text)
unfolding json_on_literals
list_key bytes key value next h i same = λ x.
    lexed_then h.text i.text x _ (h.lexed (rw same refl) (i.text ++ x)
    ∙ ap (λ l. token (string key) ∷ colon ∷ l) (opens (i.text ++ x) x (i.begins x))
    ∙ ap (λ k. token (string k) ∷ colon ∷ token begin_array ∷ lexemes x) same)

pub listed : (bytes rest key value next : List ℕ) (numbers : Numbers) → IsFound bytes numbers rest → ReadsKey rest key value →
    key ≡ codes "steps" → ReadsMark value 91 next → IsUpToList bytes numbers next
listed bytes rest key value next numbers h i same j =
    let m = i.text ++ j.text in
    let key_is : IsListKey m = list_key rest key value next i j same in
    record {
      text = h.text ++ m;
      split = split_then bytes h.text rest m next h.split (split_then rest i.text value j.text next i.split j.split);
      list = m;
      key = key_is;
      so_far = λ x. subst (λ t. SoFar t (members_with numbers None) (m ++ x)) (sym (append_assoc h.text m x)) (h.so_far (m ++ x));
      before = λ l. h.before (token (string (codes "steps")) ∷ colon ∷ token begin_array ∷ l);
      lexed = λ x. lexed_then h.text m x _ (h.lexed (m ++ x) ∙ ap h.before (key_is x));
    }

pub up_to_steps : (bytes rest next : List ℕ) (numbers : Numbers) → ReadsMark bytes 123 rest → IsUpToList rest numbers next →
    IsUpToSteps bytes numbers next
up_to_steps bytes rest next numbers h i = record {
  text = h.text ++ i.text;
  split = split_then bytes h.text rest i.text next h.split i.split;
  head = record {
    first = i.text;
    opens = λ x. subst (λ t. Begins t 123 (i.text ++ x)) (sym (append_assoc h.text i.text x)) (h.begins (i.text ++ x));
    list = i.list;
    key = i.key;
    so_far = i.so_far;
    before = λ l. token begin_object ∷ i.before l;
    lexed = λ x. lexed_then h.text i.text x _ (opens_object (h.text ++ (i.text ++ x)) (i.text ++ x) (h.begins (i.text ++ x))
        ∙ ap (λ l. token begin_object ∷ l) (i.lexed x));
  };
}

-- ---- the end

pub closes_object : (bytes rest : List ℕ) → ReadsMark bytes 125 rest → IsWhite rest → lexemes bytes ≡ token end_object ∷ []
closes_object bytes rest h white =
    object_ends bytes rest [] (mark_begins bytes rest 125 h)
    (ap lexemes (sym (append-nil rest)) ∙ white_first rest [] white) refl

pub closes_ends : (bytes rest : List ℕ) → ReadsMark bytes 125 rest → ends_word bytes ≡ true
closes_ends bytes rest h = (mark_begins bytes rest 125 h).ends refl

pub ascii_utf8 : (bytes : List ℕ) → IsAscii bytes → IsUtf8 bytes
ascii_utf8 bytes h =
    IsUtf8-from_is_utf8 bytes (ap is_utf8 (sym (append-nil bytes)) ∙ ascii_valid bytes h [] ∙ is_utf8-from_IsUtf8 [] IsUtf8-nil)

-- ---- the whole

pub says_all : (ss : List Step) (w : Rehearsal) (bytes head text last : List ℕ) (numbers all : Numbers) → AllFit ss →
    bytes ≡ head ++ (text ++ last) → IsHead head numbers → IsTextOf ss text → AreAll numbers last all →
    of_value (object (members_with all (Some ss))) ≡ Ok w → IsUtf8 bytes → length bytes ≤ max_len → script bytes ≡ Ok w
says_all ss w bytes head text last numbers all fit split front steps are says utf8 few =
    let after = are.after in
    let x = text ++ last in
    let start = front.first ++ x in
    let begins : Begins bytes 123 start = subst (λ t. Begins t 123 start) (sym split) (front.opens x) in
    let list = front.list ++ x in
    let ended : lexemes last ≡ token end_array ∷ lexemes after = closes last after are.begins in
    let past : IsPast start (members_with numbers (Some ss)) after = record {
      last = list;
      earlier = members_with numbers None;
      so_far = front.so_far x;
      takes =
          takes_steps (codes "steps") ss list (91 ∷ x) after _ _
          (λ plain. front.key x ∙ ap (λ l. token (string (codes "steps")) ∷ colon ∷ l) (sym (bracket x)))
          (bracket x ∙ ap (λ l. token begin_array ∷ l) (steps.lexed last ∙ ap (steps_lexemes false ss) ended)) fit
          (adds_steps (codes "steps") ss numbers.batch numbers.cells numbers.n None numbers.version refl);
    } in
    plain_script bytes start _ w few utf8 begins (are.rest start ss past) says
  where
    bracket : (x : List ℕ) → lexemes (91 ∷ x) ≡ token begin_array ∷ lexemes x
    bracket x = opens (91 ∷ x) x (record { text = refl; ends = λ e. refl })

pub whole_says : (w : Rehearsal) (bytes : List ℕ) → AllFit w.steps → IsWholeOf bytes w → script bytes ≡ Ok w
whole_says w bytes fit whole =
    let x = whole.text ++ whole.last in
    let valid : is_utf8 bytes ≡ true =
    ap is_utf8 whole.split ∙ whole.valid x ∙ whole.steps.valid whole.last ∙ is_utf8-from_IsUtf8 whole.last whole.end.utf8 in
    says_all w.steps w bytes whole.head whole.text whole.last whole.numbers whole.end.all fit whole.split whole.front whole.steps whole.end.are
    whole.end.says (IsUtf8-from_is_utf8 bytes valid) whole.few
