-- Compact texts have no line feed, so each is a line of its own.
use Rattle.ct_names.proofs.Lists.{not-true}
use Rattle.std.proofs.Common.{◌≡◌, ◌⊎◌, inl, inr, ℕ, zero, suc, ◌<◌, ◌≤◌, Bool, true, false, not, ◌&&◌, List, [], ◌∷◌, ◌++◌, map, refl, ap}
use Rattle.std.proofs.Common.{sym, ◌∙◌, subst, append_assoc, arith, decimal}
use Rattle.std.proofs.lemmas.Bool.{cases_eq, cases_lt, ne_eqb, and_parts}
use Rattle.std.specs.List.{list_all}
use Rattle.json.specs.Print.{escape, escape_byte, quoted}
use Rattle.json.proofs.Printed.Strings.{escape_byte_plain}
use Rattle.serde_json.specs.Data.{Num, unsigned, negative, float, Data, null, boolean, number, string, array, object, Items, no_items, item}
use Rattle.serde_json.specs.Data.{Members, no_members, member}
use Rattle.serde_json.specs.Written.{comma_if, compact_text, items_text, members_text}
use Rattle.ct_grammar.specs.Texts.{is_feed}
use Rattle.ct_laws.specs.JsonValues.{AreRead}
use Rattle.ct_laws.specs.Sessions.{but_nothing, lines_heard, text_of}
use Rattle.ct_laws.proofs.Finding.{Each}
use Rattle.ct_laws.proofs.Values.Compact.{compact_read}
use Rattle.ct_laws.proofs.Plain.{ArePlain, IsPlain, ended, lines_ended}
use Rattle.ct_json.specs.Fields.{lines_text}
use Rattle.ct_json.proofs.Unescaped.{AreSelf, decimal_self}
use Rattle.ct_laws.proofs.Values.Mild.{IsMild, IsWhole, ItemsAreMild, MembersAreMild}

both_plain : (xs ys : List ℕ) → IsPlain xs → IsPlain ys → IsPlain (xs ++ ys)
both_plain [] ys h k = k
both_plain (x ∷ xs) ys h k = (h.0, both_plain xs ys h.1 k)

self_plain : (xs : List ℕ) → AreSelf xs → IsPlain xs
self_plain [] h = tt
self_plain (x ∷ xs) h = (ne_eqb x 10 (λ e. let low = h.0.no_control in omega arith), self_plain xs h.1)

-- ---- strings

all_plain : (xs : List ℕ) → list_all (λ b. not (is_feed b)) xs ≡ true → IsPlain xs
all_plain [] h = tt
all_plain (x ∷ xs) h = let both = and_parts (not (is_feed x)) _ h in (not-true (is_feed x) both.0, all_plain xs both.1)

-- it passes for each number below
abbrev passes_below : (ℕ → Bool) → ℕ → Bool
passes_below test zero = true
passes_below test (suc n) = test n && passes_below test n

below_passes : (test : ℕ → Bool) (n : ℕ) → passes_below test n ≡ true → (x : ℕ) → x < n → test x ≡ true
below_passes test zero h x low = absurd (omega arith)
below_passes test (suc n) h x low =
    let both = and_parts (test n) (passes_below test n) h in
    elim (cases_eq x n) [
      | inl e ↦ ap test e ∙ both.0
      | inr other ↦ below_passes test n both.1 x (omega arith)
    ]

escaped_plain : (x : ℕ) → IsPlain (escape_byte x)
unfolding escape_byte
escaped_plain x = go (cases_eq x 34) (cases_eq x 92) (cases_lt x 32)
  where
    go : (x ≡ 34) ⊎ (x ≡ 34 → ⊥) → (x ≡ 92) ⊎ (x ≡ 92 → ⊥) → (x < 32) ⊎ (32 ≤ x) → IsPlain (escape_byte x)
    go (inl e) b c = subst (λ y. IsPlain (escape_byte y)) (sym e) (refl, (refl, tt))
    go (inr q) (inl e) c = subst (λ y. IsPlain (escape_byte y)) (sym e) (refl, (refl, tt))
    go (inr q) (inr b) (inl c) =
        all_plain (escape_byte x) (below_passes (λ y. list_all (λ z. not (is_feed z)) (escape_byte y)) 32 refl x c)
    go (inr q) (inr b) (inr l) =
        subst (λ t. IsPlain t) (sym (escape_byte_plain x q b l)) (ne_eqb x 10 (λ e. omega arith), tt)

escape_plain : (s : List ℕ) → IsPlain (escape s)
escape_plain [] = tt
escape_plain (x ∷ s) = both_plain (escape_byte x) (escape s) (escaped_plain x) (escape_plain s)

quoted_plain : (s : List ℕ) → IsPlain (quoted s)
quoted_plain s = (refl, both_plain (escape s) (34 ∷ []) (escape_plain s) (refl, tt))

-- ---- values

number_plain : (n : Num) → IsWhole n → IsPlain (compact_text (number n))
number_plain (unsigned n) h = self_plain (decimal n) (decimal_self n)
number_plain (negative z) h = absurd h
number_plain (float x) h = absurd h

comma_plain : (later : Bool) → IsPlain (comma_if later)
comma_plain true = (refl, tt)
comma_plain false = tt

mutual
  text_plain : (k : ℕ) (d : Data) → IsMild k d → IsPlain (compact_text d)
  text_plain k null h = (refl, (refl, (refl, (refl, tt))))
  text_plain k (boolean true) h = (refl, (refl, (refl, (refl, tt))))
  text_plain k (boolean false) h = (refl, (refl, (refl, (refl, (refl, tt)))))
  text_plain k (number n) h = number_plain n h
  text_plain k (string s) h = quoted_plain s
  text_plain zero (array ds) h = absurd h
  text_plain (suc k) (array ds) h = (refl, items_plain k false ds h)
  text_plain zero (object ms) h = absurd h
  text_plain (suc k) (object ms) h = (refl, members_plain k false ms h)

  items_plain : (k : ℕ) (later : Bool) (ds : Items) → ItemsAreMild k ds → IsPlain (items_text later ds)
  items_plain k later no_items h = (refl, tt)
  items_plain k later (item d ds) h =
      both_plain (comma_if later) _ (comma_plain later) (both_plain (compact_text d) _ (text_plain k d h.0) (items_plain k true ds h.1))

  members_plain : (k : ℕ) (later : Bool) (ms : Members) → MembersAreMild k ms → IsPlain (members_text later ms)
  members_plain k later no_members h = (refl, tt)
  members_plain k later (member key d ms) h =
      both_plain (comma_if later) _ (comma_plain later)
      (both_plain (quoted key) _ (quoted_plain key)
      (refl, both_plain (compact_text d) _ (text_plain k d h.0) (members_plain k true ms h.1)))

-- ---- lines of values

nothing_behind : (lines : List (List ℕ)) → but_nothing (ended lines) ≡ lines
nothing_behind [] = refl
nothing_behind (line ∷ []) = refl
nothing_behind (line ∷ (next ∷ lines)) = ap (λ l. line ∷ l) (nothing_behind (next ∷ lines))

texts_plain : (values : List Data) → Each (IsMild 127) values → ArePlain (map compact_text values)
texts_plain [] h = tt
texts_plain (d ∷ values) h = (text_plain 127 d h.0, texts_plain values h.1)

each_read : (values : List Data) → Each (IsMild 127) values → AreRead (map compact_text values) values
each_read [] h = tt
each_read (d ∷ values) h = (compact_read d h.0, each_read values h.1)

lines_same : (values : List Data) → lines_text values ≡ text_of (map compact_text values)
lines_same [] = refl
lines_same (d ∷ values) =
    append_assoc (compact_text d) (10 ∷ []) (lines_text values) ∙ ap (λ t. compact_text d ++ 10 ∷ t) (lines_same values)

-- the lines of these values are read as they
pub lines_read : (values : List Data) → Each (IsMild 127) values → AreRead (lines_heard (lines_text values)) values
unfolding lines_heard
lines_read values h =
    let texts = map compact_text values in
    subst (λ lines. AreRead lines values)
    (sym (ap lines_heard (lines_same values) ∙ ap but_nothing (lines_ended texts (texts_plain values h)) ∙ nothing_behind texts))
    (each_read values h)
