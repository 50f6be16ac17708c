-- What was read of a source, one read after the other.
use Rattle.ct_records.proofs.Common.{◌≡◌, ℕ, suc, ◌+◌, ◌≤◌, ◌<◌, List, [], ◌∷◌, ◌++◌, length, Option, Some, None, Err, refl, sym, ap, ◌∙◌}
use Rattle.ct_records.proofs.Common.{append_assoc, append-nil, arith, inl, inr, subst, length-append, le-ltb, lt-ltb, ◌-◌, take, drop}
use Rattle.ct_records.proofs.Common.{IfSome, option_and_then, take-append-le, take-append_seam, is_utf8, Consumes, IsAtEnd, Lexeme, fresh}
use Rattle.ct_records.proofs.Common.{Data, max_depth, of_json, read, Step, lexemes, TooLong, max_len, Input, Advances, AreDone, AreTaken}
use Rattle.ct_records.proofs.Common.{Goes, IsEnough, IsReadAs, IsSeen, SaysSame}
use Rattle.json.specs.Lex.{punctuate}
use Rattle.ct_records.specs.Script.{script}
use Rattle.json.specs.Json as tree

consumes_more : (a b c : Option (List ℕ)) (xs ys : List ℕ) → Consumes a b xs → Consumes b c ys → Consumes a c (xs ++ ys)
consumes_more None b c xs ys h k = tt
consumes_more (Some x) None c xs ys h k = absurd h
consumes_more (Some x) (Some y) None xs ys h k = k
consumes_more (Some x) (Some y) (Some z) xs ys h k = h ∙ ap (λ t. xs ++ t) k ∙ sym (append_assoc xs ys z)

consumes_none : (a : Option (List ℕ)) → Consumes a a []
consumes_none None = tt
consumes_none (Some x) = refl

-- ---- what was read so far

pub seen_none : (a : Option (List ℕ)) (text : List ℕ) (count : ℕ) → text ≡ [] → count ≡ 0 → IsSeen a a text count
seen_none a text count empty none = rw (empty, none) (record { consumed = consumes_none a; counted = refl })

pub goes_none : (a : Option (List ℕ)) (x : List ℕ) (n : ℕ) → Goes a a x x n n
goes_none a x n first head h = h

pub goes_then : (a b c : Option (List ℕ)) (x y z : List ℕ) (k m n : ℕ) → Goes a b x y k m → Goes b c y z m n → Goes a c x z k n
goes_then a b c x y z k m n h i first head seen = i first head (h first head seen)

-- the bytes are said in another way
pub goes_as : (a : Option (List ℕ)) (x y : List ℕ) (n : ℕ) → x ≡ y → Goes a a x y n n
goes_as a x y n is first head h = subst (λ t. IsSeen first a (head ++ t) n) is h

-- the same behind another text
pub goes_behind : (a b : Option (List ℕ)) (f x y : List ℕ) (m n : ℕ) → Goes a b x y m n → Goes a b (f ++ x) (f ++ y) m n
goes_behind a b f x y m n h first head seen =
    subst (λ t. IsSeen first b t n) (append_assoc head f y)
    (h first (head ++ f) (subst (λ t. IsSeen first a t m) (sym (append_assoc head f x)) seen))

-- what was read stands behind the bytes
pub goes_on : (a b : Option (List ℕ)) (x y : List ℕ) (m n : ℕ) → Advances a b x y m n → Goes a b x y m n
goes_on a b x y m n h first head seen =
    let all : (head ++ x) ++ h.read ≡ head ++ y = append_assoc head x h.read ∙ ap (λ t. head ++ t) (sym h.text) in
    record {
      consumed = subst (Consumes first b) all (consumes_more first a b (head ++ x) h.read seen.consumed h.consumed);
      counted = omega (arith, seen.counted, h.counted, ap length all, length-append (head ++ x) h.read);
    }

take_on : (xs ys : List ℕ) (n : ℕ) → take (length xs + n) (xs ++ ys) ≡ xs ++ take n ys
take_on [] ys n = let none : 0 + n ≡ n = omega arith in ap (λ k. take k ys) none
take_on (x ∷ xs) ys n =
    let on : length (x ∷ xs) + n ≡ suc (length xs + n) = omega arith in
    ap (λ k. take k (x ∷ (xs ++ ys))) on ∙ ap (λ l. x ∷ l) (take_on xs ys n)

-- a text that was read into a piece behind what stands at its front
front_read : (front tail read post : List ℕ) (k n : ℕ) → length front ≡ k → n ≤ length read →
    take (k + n) (take k (front ++ tail) ++ (read ++ post)) ≡ front ++ take n read
front_read front tail read post k n long le =
    let first : take k (front ++ tail) ≡ front = ap (λ j. take j (front ++ tail)) (sym long) ∙ take-append_seam front tail in
    let all = read ++ post in
    ap (λ t. take (k + n) (t ++ all)) first ∙ ap (λ j. take (j + n) (front ++ all)) (sym long) ∙ take_on front all n
    ∙ ap (λ t. front ++ t) (take-append-le n read post le)

pub advances_front : (a b : Option (List ℕ)) (before front tail read post : List ℕ) (k n count : ℕ) → front ≡ before → length before ≡ k →
    n ≤ length read → n ≡ length (take n read) → Consumes a b (take n read) →
    Advances a b before (take (k + n) (take k (front ++ tail) ++ (read ++ post))) count (count + n)
advances_front a b before front tail read post k n count same long le few h = record {
  read = take n read;
  consumed = h;
  text = front_read front tail read post k n (ap length same ∙ long) le ∙ ap (λ t. t ++ take n read) same;
  counted = ap (λ i. count + i) few;
}

-- ---- steps

-- one after the other
pub done_then : (x y z : List Step → Type 0) (a b d : Option (List ℕ)) (i j k : Input) → AreDone x y a b i j → AreDone y z b d j k →
    AreDone x z a d i k
done_then x y z a b d i j k h more = λ ss text has is.
    let first = h ss text has is in
    let second = more first.steps first.all first.has first.is in
    record {
      steps = second.steps;
      has = second.has;
      all = second.all;
      is = second.is;
      goes = goes_then a b d (text ++ i.bytes.items) (first.all ++ j.bytes.items) (second.all ++ k.bytes.items) i.count j.count
          k.count first.goes second.goes;
    }

-- more was read behind the bytes, and steps were taken from their front
pub done_read : (old new : List Step → Type 0) (a b : Option (List ℕ)) (i k : Input) (all : List ℕ) (used : ℕ) →
    Advances a b i.bytes.items all i.count k.count → AreTaken old new all (drop used all) → k.bytes.items ≡ drop used all →
    AreDone old new a b i k
done_read old new a b i k all used read taken left = λ ss text has is.
    let t = taken ss text has is in
    let to = t.joins.all ++ k.bytes.items in
    record {
      steps = t.steps;
      has = t.has;
      all = t.joins.all;
      is = t.joins.is;
      goes =
          goes_then a b b (text ++ i.bytes.items) (text ++ all) to i.count k.count k.count
          (goes_behind a b text i.bytes.items all i.count k.count (goes_on a b i.bytes.items all i.count k.count read))
          (goes_as b (text ++ all) to k.count (t.joins.split ∙ ap (λ r. t.joins.all ++ r) (sym left)));
    }

-- ---- what the input says

abbrev value_of : List Lexeme → Option Data
value_of all = option_and_then of_json (option_and_then (λ p. tree.if_last p.0 p.1) (tree.value max_depth (punctuate fresh all)))

-- texts of the same lexemes say the same
script_same : (x y : List ℕ) → lexemes x ≡ lexemes y → is_utf8 x ≡ is_utf8 y → length x ≤ max_len → length y ≤ max_len →
    script x ≡ script y
unfolding script
script_same x y lexed valid few short =
    let same : read x ≡ read y = ap value_of lexed in
    rw (le-ltb _ _ few, le-ltb _ _ short, valid, same) refl

too_long : (x : List ℕ) → max_len < length x → script x ≡ Err TooLong
unfolding script
too_long x long = rw (lt-ltb _ _ long) refl

-- what follows the text of what was read
same_behind : (x y r : List ℕ) → SaysSame x y → length (x ++ r) ≤ max_len → script (x ++ r) ≡ script (y ++ r)
same_behind x y r h few =
    script_same (x ++ r) (y ++ r) (h.lexed r) (h.valid r) few
    (omega (arith, few, h.shorter, length-append x r, length-append y r))

-- the text that was read in all
record IsAll (first now : Option (List ℕ)) (bytes : List ℕ) (count : ℕ) : Type 0 where
  text : List ℕ
  seen : IsSeen first now text count
  same : length text ≤ max_len → script text ≡ script bytes

all_read : (a b c : Option (List ℕ)) (input : Input) (bytes : List ℕ) (n : ℕ) → IsReadAs a b input →
    Advances b c input.bytes.items bytes input.count n → IsAll a c bytes n
all_read a b c input bytes n h more =
    let text = h.text ++ more.read in
    record {
      text = text;
      seen = record {
        consumed = consumes_more a b c h.text more.read h.seen.consumed more.consumed;
        counted = omega (arith, h.seen.counted, more.counted, length-append h.text more.read);
      };
      same = λ few. same_behind h.text input.bytes.items more.read h.same few ∙ ap script (sym more.text);
    }

-- all was read, and the bytes say the same
pub input_says : (a b c : Option (List ℕ)) (input : Input) (bytes : List ℕ) (n : ℕ) → IsReadAs a b input →
    Advances b c input.bytes.items bytes input.count n → IsEnough 67108865 c n → n ≤ max_len →
    IfSome a (λ all. script bytes ≡ script all)
input_says None b c input bytes n h more enough few = tt
input_says (Some all) b None input bytes n h more enough few = absurd (all_read (Some all) b None input bytes n h more).seen.consumed
input_says (Some all) b (Some left) input bytes n h more enough few =
    let read = all_read (Some all) b (Some left) input bytes n h more in
    elim enough [
      | inl long ↦ absurd (omega (arith, long, few))
      | inr none ↦
          let same : all ≡ read.text = read.seen.consumed ∙ ap (λ t. read.text ++ t) none ∙ append-nil read.text in
          sym (ap script same ∙ read.same (omega (arith, read.seen.counted, few)))
    ]

-- more was read than a record may have
pub input_too_long : (a b c : Option (List ℕ)) (input : Input) (bytes : List ℕ) (n : ℕ) → IsReadAs a b input →
    Advances b c input.bytes.items bytes input.count n → max_len < n → IfSome a (λ all. script all ≡ Err TooLong)
input_too_long None b c input bytes n h more long = tt
input_too_long (Some all) b None input bytes n h more long = absurd (all_read (Some all) b None input bytes n h more).seen.consumed
input_too_long (Some all) b (Some left) input bytes n h more long =
    let read = all_read (Some all) b (Some left) input bytes n h more in
    too_long all (omega (arith, ap length read.seen.consumed, length-append read.text left, read.seen.counted, long))

-- what was read is the input
pub input_is : (a b : Option (List ℕ)) (z : List ℕ) → Consumes a b z → IsAtEnd b → IfSome a (λ input. input ≡ z)
input_is None b z h end = tt
input_is (Some input) None z h end = absurd h
input_is (Some input) (Some left) z h end = h ∙ ap (λ t. z ++ t) end ∙ append-nil z
