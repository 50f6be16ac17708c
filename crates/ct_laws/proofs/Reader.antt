-- A reader of XML, byte by byte: what it takes is XML.
use Rattle.std.proofs.Common.{◌≡◌, ◌⊎◌, ℕ, Bool, true, false, List, [], ◌∷◌, ◌++◌, fold, refl, ap, sym, ◌∙◌}
use Rattle.std.proofs.Common.{subst, inl, inr}
use Rattle.std.proofs.Common.{append_assoc, append-nil}
use Rattle.std.proofs.lemmas.Slice.Eq.{bytes_eq-Decides}
use Rattle.std.specs.List.{list_all, list_any}
use Rattle.std.specs.Prelude.{◌==◌, if◌then◌else◌}
use Rattle.std.specs.Str.{bytes_eq}
use Rattle.ct_names.proofs.Lists.{both}
use Rattle.ct_model.proofs.Basics.Tests.{same_number}
use Rattle.ct_laws.specs.Xml.{AreAttributes, IsContent, IsElement, IsName, IsXml, is_in_value, is_letter, is_line_feed, is_plain}
use Rattle.ct_laws.specs.Xml.AreAttributes.{none, more}
use Rattle.ct_laws.specs.Xml.IsElement.{alone, around}
use Rattle.ct_laws.specs.Xml.IsContent.{nothing, text, element}

-- ---- the reader

-- what was read of a text: which elements are open, by their names, the innermost first, and of the tag that is read its name and the
-- attributes that it has so far
pub data Reading : Type 0 where
  -- nothing
  Start : Reading
  -- behind a tag or a part of the text in an element, within these
  Within : (name : List ℕ) → (names : List (List ℕ)) → Reading
  -- `<`
  Begun : (names : List (List ℕ)) → Reading
  -- a part of the name of a tag that begins an element
  Named : (names : List (List ℕ)) → (name : List ℕ) → Reading
  -- a space behind the name, or behind an attribute
  Spaced : (names : List (List ℕ)) → (name : List ℕ) → (known : List (List ℕ)) → Reading
  -- a part of an attribute's name
  Attribute : (names : List (List ℕ)) → (name : List ℕ) → (known : List (List ℕ)) → (attribute : List ℕ) → Reading
  -- the `=` behind it
  Equals : (names : List (List ℕ)) → (name : List ℕ) → (known : List (List ℕ)) → Reading
  -- a quote, and a part of the attribute's value
  Value : (names : List (List ℕ)) → (name : List ℕ) → (known : List (List ℕ)) → Reading
  -- the quote behind it
  Valued : (names : List (List ℕ)) → (name : List ℕ) → (known : List (List ℕ)) → Reading
  -- the `/` of an element without content
  Closing : (names : List (List ℕ)) → Reading
  -- `</`, and a part of the name of a tag that ends an element
  Ending : (names : List (List ℕ)) → (name : List ℕ) → Reading
  -- the whole element
  End : Reading
  -- what is not well-formed
  Wrong : Reading

-- behind an element, where these are open
abbrev pub closed : List (List ℕ) → Reading
closed [] = End
closed (name ∷ names) = Within name names

-- the innermost element ends, by its name
abbrev pub left : List (List ℕ) → List ℕ → Reading
left [] name = Wrong
left (first ∷ names) name = if bytes_eq first name then closed names else Wrong

-- a byte behind the name of a tag, or behind an attribute
abbrev pub in_tag : List (List ℕ) → List ℕ → List (List ℕ) → ℕ → Reading
in_tag names name known b =
    if b == 32 then Spaced names name known
    else (if b == 62 then Within name names else (if b == 47 then Closing names else Wrong))

-- one byte more
abbrev pub read : Reading → ℕ → Reading
read Start b = if b == 60 then Begun [] else Wrong
read (Within name names) b = if b == 60 then Begun (name ∷ names) else (if is_plain b then Within name names else Wrong)
read (Begun names) b = if is_letter b then Named names (b ∷ []) else (if b == 47 then Ending names [] else Wrong)
read (Named names name) b = if is_letter b then Named names (name ++ b ∷ []) else in_tag names name [] b
read (Spaced names name known) b = if is_letter b then Attribute names name known (b ∷ []) else Wrong
read (Attribute names name known attribute) b =
    if is_letter b then Attribute names name known (attribute ++ b ∷ [])
    else (if b == 61 then (if list_any (bytes_eq attribute) known then Wrong else Equals names name (attribute ∷ known)) else Wrong)
read (Equals names name known) b = if b == 39 then Value names name known else Wrong
read (Value names name known) b =
    if b == 39 then Valued names name known else (if is_in_value b then Value names name known else Wrong)
read (Valued names name known) b = in_tag names name known b
read (Closing names) b = if b == 62 then closed names else Wrong
read (Ending names name) b = if is_letter b then Ending names (name ++ b ∷ []) else (if b == 62 then left names name else Wrong)
read End b = if b == 10 then End else Wrong
read Wrong b = Wrong

-- ---- what the rest of a text is, that the reader takes

-- content of the innermost element, the tag that ends it, and the rest of the others; line feeds where none is open
abbrev Closes : List (List ℕ) → List ℕ → Type 0
Closes [] rest = list_all is_line_feed rest ≡ true
Closes (name ∷ names) rest =
    (content : List ℕ) × (later : List ℕ) × (rest ≡ content ++ (60 ∷ 47 ∷ (name ++ (62 ∷ later)))) × IsContent content
    × Closes names later

-- the end of a tag that holds nothing, or of one that begins an element
abbrev IsTagEnd : List (List ℕ) → List ℕ → List ℕ → Type 0
IsTagEnd names name rest =
    ((later : List ℕ) × (rest ≡ 47 ∷ 62 ∷ later) × Closes names later)
    ⊎ ((later : List ℕ) × (rest ≡ 62 ∷ later) × Closes (name ∷ names) later)

-- attributes, and the end of their tag
record IsTail (names : List (List ℕ)) (name : List ℕ) (known : List (List ℕ)) (rest : List ℕ) : Type 0 where
  pub attributes : List ℕ
  pub behind : List ℕ
  pub all : rest ≡ attributes ++ behind
  pub are : AreAttributes known attributes
  pub end : IsTagEnd names name behind

-- the rest of an element that `<` began
record IsBegun (names : List (List ℕ)) (rest : List ℕ) : Type 0 where
  pub first : List ℕ
  pub later : List ℕ
  pub all : 60 ∷ rest ≡ first ++ later
  pub is : IsElement first
  pub closes : Closes names later

-- more of the name of the tag that ends the innermost element
abbrev IsEnding : List (List ℕ) → List ℕ → List ℕ → Type 0
IsEnding [] name rest = ⊥
IsEnding (first ∷ names) name rest =
    (letters : List ℕ) × (later : List ℕ) × (rest ≡ letters ++ (62 ∷ later)) × (first ≡ name ++ letters) × Closes names later

-- more of a value, and the rest of the tag
record IsValue (names : List (List ℕ)) (name : List ℕ) (known : List (List ℕ)) (rest : List ℕ) : Type 0 where
  pub value : List ℕ
  pub behind : List ℕ
  pub all : rest ≡ value ++ (39 ∷ behind)
  pub values : list_all is_in_value value ≡ true
  pub tail : IsTail names name known behind

-- more of an attribute's name, its value, and the rest of the tag
record IsAttribute (names : List (List ℕ)) (name : List ℕ) (known : List (List ℕ)) (attribute rest : List ℕ) : Type 0 where
  pub letters : List ℕ
  pub later : List ℕ
  pub all : rest ≡ letters ++ (61 ∷ 39 ∷ later)
  pub are : list_all is_letter letters ≡ true
  pub other : list_any (bytes_eq (attribute ++ letters)) known ≡ false
  pub value : IsValue names name ((attribute ++ letters) ∷ known) later

-- more of the name of a tag, and the rest of it
record IsNamed (names : List (List ℕ)) (name rest : List ℕ) : Type 0 where
  pub letters : List ℕ
  pub behind : List ℕ
  pub all : rest ≡ letters ++ behind
  pub are : list_all is_letter letters ≡ true
  pub tail : IsTail names (name ++ letters) [] behind

abbrev Rest : Reading → List ℕ → Type 0
Rest Start rest = IsXml rest
Rest (Within name names) rest = Closes (name ∷ names) rest
Rest (Begun names) rest = IsBegun names rest ⊎ ((later : List ℕ) × (rest ≡ 47 ∷ later) × IsEnding names [] later)
Rest (Named names name) rest = IsNamed names name rest
Rest (Spaced names name known) rest =
    (b : ℕ) × (later : List ℕ) × (rest ≡ b ∷ later) × (is_letter b ≡ true) × IsAttribute names name known (b ∷ []) later
Rest (Attribute names name known attribute) rest = IsAttribute names name known attribute rest
Rest (Equals names name known) rest = (later : List ℕ) × (rest ≡ 39 ∷ later) × IsValue names name known later
Rest (Value names name known) rest = IsValue names name known rest
Rest (Valued names name known) rest = IsTail names name known rest
Rest (Closing names) rest = (later : List ℕ) × (rest ≡ 62 ∷ later) × Closes names later
Rest (Ending names name) rest = IsEnding names name rest
Rest End rest = list_all is_line_feed rest ≡ true
Rest Wrong rest = ⊥

-- ---- one byte before it

closed_rest : (names : List (List ℕ)) (rest : List ℕ) → Rest (closed names) rest → Closes names rest
closed_rest [] rest h = h
closed_rest (name ∷ names) rest h = h

-- the byte is this one
here : (b c : ℕ) (rest later : List ℕ) → (b == c) ≡ true → rest ≡ later → b ∷ rest ≡ c ∷ later
here b c rest later h k = ap (λ x. x ∷ rest) (same_number b c h) ∙ ap (λ l. c ∷ l) k

-- the byte passes a test or not
either : (c : Bool) (r s : Reading) (rest : List ℕ) → Rest (if c then r else s) rest → ((c ≡ true) × Rest r rest) ⊎ Rest s rest
either true r s rest h = inl (refl, h)
either false r s rest h = inr h

only : (c : Bool) (r : Reading) (rest : List ℕ) → Rest (if c then r else Wrong) rest → (c ≡ true) × Rest r rest
only true r rest h = (refl, h)
only false r rest h = absurd h

spaced_tail : (names : List (List ℕ)) (name : List ℕ) (known : List (List ℕ)) (b : ℕ) (rest : List ℕ) → (b == 32) ≡ true →
    Rest (Spaced names name known) rest → IsTail names name known (b ∷ rest)
spaced_tail names name known b rest is h =
    let a = h.4 in
    let v = a.value in
    let t = v.tail in
    record {
      attributes = 32 ∷ h.0 ∷ (a.letters ++ (61 ∷ 39 ∷ (v.value ++ (39 ∷ (t.attributes ++ [])))));
      behind = t.behind;
      all = here b 32 rest _ is (simp (h.2, a.all, v.all, t.all, append_assoc));
      are = more (h.0 ∷ a.letters) v.value t.attributes (both (is_letter h.0) (list_all is_letter a.letters) h.3 a.are) a.other v.values
          t.are;
      end = t.end;
    }

in_tag_rest : (names : List (List ℕ)) (name : List ℕ) (known : List (List ℕ)) (b : ℕ) (rest : List ℕ) →
    Rest (in_tag names name known b) rest → IsTail names name known (b ∷ rest)
in_tag_rest names name known b rest h =
    let ends : Reading = if b == 47 then Closing names else Wrong in
    elim (either (b == 32) (Spaced names name known) (if b == 62 then Within name names else ends) rest h) [
      | inl s ↦ spaced_tail names name known b rest s.0 s.1
      | inr r ↦ record {
        attributes = [];
        behind = b ∷ rest;
        all = refl;
        are = none;
        end = elim (either (b == 62) (Within name names) ends rest r) [
          | inl o ↦ inr (rest, here b 62 rest rest o.0 refl, o.1)
          | inr c ↦
              let o = only (b == 47) (Closing names) rest c in
              inl (o.1.0, here b 47 rest (62 ∷ o.1.0) o.0 o.1.1, o.1.2)
        ];
      }
    ]

named_rest : (names : List (List ℕ)) (name : List ℕ) (b : ℕ) (rest : List ℕ) →
    Rest (if is_letter b then Named names (name ++ b ∷ []) else in_tag names name [] b) rest → IsNamed names name (b ∷ rest)
named_rest names name b rest h =
    elim (either (is_letter b) (Named names (name ++ b ∷ [])) (in_tag names name [] b) rest h) [
      | inl n ↦
          let l = n.1 in
          record {
            letters = b ∷ l.letters;
            behind = l.behind;
            all = ap (λ x. b ∷ x) l.all;
            are = both (is_letter b) (list_all is_letter l.letters) n.0 l.are;
            tail = subst (λ x. IsTail names x [] l.behind) (append_assoc name (b ∷ []) l.letters) l.tail;
          }
      | inr t ↦ record {
        letters = [];
        behind = b ∷ rest;
        all = refl;
        are = refl;
        tail = subst (λ x. IsTail names x [] (b ∷ rest)) (sym (append-nil name)) (in_tag_rest names name [] b rest t);
      }
    ]

-- ---- an element

ended_tag : (names : List (List ℕ)) (name attributes behind : List ℕ) → IsName name → AreAttributes [] attributes →
    IsTagEnd names name behind → IsBegun names (name ++ (attributes ++ behind))
ended_tag names name attributes behind is are (inl h) = record {
  first = 60 ∷ (name ++ (attributes ++ (47 ∷ 62 ∷ [])));
  later = h.0;
  all = simp (h.1, append_assoc);
  is = alone name attributes is are;
  closes = h.2;
}
ended_tag names name attributes behind is are (inr h) =
    let in_it = h.2 in
    record {
      first = 60 ∷ (name ++ (attributes ++ (62 ∷ (in_it.0 ++ (60 ∷ 47 ∷ (name ++ (62 ∷ [])))))));
      later = in_it.1;
      all = simp (h.1, in_it.2, append_assoc);
      is = around name attributes in_it.0 is are in_it.3;
      closes = in_it.4;
    }

begun_rest : (names : List (List ℕ)) (b : ℕ) (rest : List ℕ) → Rest (read (Begun names) b) rest → Rest (Begun names) (b ∷ rest)
begun_rest names b rest h =
    let ends : Reading = if b == 47 then Ending names [] else Wrong in
    elim (either (is_letter b) (Named names (b ∷ [])) ends rest h) [
      | inl n ↦
          let l = n.1 in
          let t = l.tail in
          inl (subst (λ x. IsBegun names (b ∷ x)) (sym (l.all ∙ ap (λ x. l.letters ++ x) t.all))
          (ended_tag names (b ∷ l.letters) t.attributes t.behind (both (is_letter b) (list_all is_letter l.letters) n.0 l.are) t.are t.end))
      | inr e ↦ let o = only (b == 47) (Ending names []) rest e in inr (rest, here b 47 rest rest o.0 refl, o.1)
    ]

begun_within : (name : List ℕ) (names : List (List ℕ)) (rest : List ℕ) → Rest (Begun (name ∷ names)) rest →
    Closes (name ∷ names) (60 ∷ rest)
begun_within name names rest (inl h) =
    let in_it = h.closes in
    (h.first ++ in_it.0, in_it.1, simp (h.all, in_it.2, append_assoc), element h.first in_it.0 h.is in_it.3, in_it.4)
begun_within name names rest (inr h) =
    let in_it = h.2 in
    ([], in_it.1, simp (h.1, in_it.2, in_it.3), nothing, in_it.4)

within_rest : (name : List ℕ) (names : List (List ℕ)) (b : ℕ) (rest : List ℕ) → Rest (read (Within name names) b) rest →
    Closes (name ∷ names) (b ∷ rest)
within_rest name names b rest h =
    let plain : Reading = if is_plain b then Within name names else Wrong in
    elim (either (b == 60) (Begun (name ∷ names)) plain rest h) [
      | inl o ↦ subst (λ l. Closes (name ∷ names) l) (sym (here b 60 rest rest o.0 refl)) (begun_within name names rest o.1)
      | inr p ↦
          let o = only (is_plain b) (Within name names) rest p in
          (b ∷ o.1.0, o.1.1, ap (λ l. b ∷ l) o.1.2, text o.0 o.1.3, o.1.4)
    ]

start_begun : (rest : List ℕ) → Rest (Begun []) rest → IsXml (60 ∷ rest)
start_begun rest (inl h) = record { root = h.first; behind = h.later; all = h.all; is = h.is; blank = h.closes }
start_begun rest (inr h) = absurd h.2

-- ---- attributes

attribute_rest : (names : List (List ℕ)) (name : List ℕ) (known : List (List ℕ)) (attribute : List ℕ) (b : ℕ) (rest : List ℕ) →
    Rest (read (Attribute names name known attribute) b) rest → IsAttribute names name known attribute (b ∷ rest)
attribute_rest names name known attribute b rest h =
    let known_so : Bool = list_any (bytes_eq attribute) known in
    let equals : Reading = if known_so then Wrong else Equals names name (attribute ∷ known) in
    elim (either (is_letter b) (Attribute names name known (attribute ++ b ∷ [])) (if b == 61 then equals else Wrong) rest h) [
      | inl n ↦
          let l = n.1 in
          let same = append_assoc attribute (b ∷ []) l.letters in
          record {
            letters = b ∷ l.letters;
            later = l.later;
            all = ap (λ x. b ∷ x) l.all;
            are = both (is_letter b) (list_all is_letter l.letters) n.0 l.are;
            other = subst (λ x. list_any (bytes_eq x) known ≡ false) same l.other;
            value = subst (λ x. IsValue names name (x ∷ known) l.later) same l.value;
          }
      | inr e ↦ let o = only (b == 61) equals rest e in ended o.0 known_so refl o.1
    ]
  where
    ended : (b == 61) ≡ true → (c : Bool) → list_any (bytes_eq attribute) known ≡ c →
        Rest (if c then Wrong else Equals names name (attribute ∷ known)) rest → IsAttribute names name known attribute (b ∷ rest)
    ended is true other e = absurd e
    ended is false other e = record {
      letters = [];
      later = e.0;
      all = here b 61 rest (39 ∷ e.0) is e.1;
      are = refl;
      other = subst (λ x. list_any (bytes_eq x) known ≡ false) (sym (append-nil attribute)) other;
      value = subst (λ x. IsValue names name (x ∷ known) e.0) (sym (append-nil attribute)) e.2;
    }

value_rest : (names : List (List ℕ)) (name : List ℕ) (known : List (List ℕ)) (b : ℕ) (rest : List ℕ) →
    Rest (read (Value names name known) b) rest → IsValue names name known (b ∷ rest)
value_rest names name known b rest h =
    let plain : Reading = if is_in_value b then Value names name known else Wrong in
    elim (either (b == 39) (Valued names name known) plain rest h) [
      | inl o ↦ record { value = []; behind = rest; all = here b 39 rest rest o.0 refl; values = refl; tail = o.1 }
      | inr p ↦
          let o = only (is_in_value b) (Value names name known) rest p in
          let v = o.1 in
          record {
            value = b ∷ v.value;
            behind = v.behind;
            all = ap (λ x. b ∷ x) v.all;
            values = both (is_in_value b) (list_all is_in_value v.value) o.0 v.values;
            tail = v.tail;
          }
    ]

-- ---- tags that end

ending_rest : (names : List (List ℕ)) (name : List ℕ) (b : ℕ) (rest : List ℕ) → Rest (read (Ending names name) b) rest →
    IsEnding names name (b ∷ rest)
ending_rest [] name b rest h =
    elim (either (is_letter b) (Ending [] (name ++ b ∷ [])) (if b == 62 then Wrong else Wrong) rest h) [
      | inl o ↦ o.1
      | inr e ↦ (only (b == 62) Wrong rest e).1
    ]
ending_rest (first ∷ names) name b rest h =
    let out : Reading = if bytes_eq first name then closed names else Wrong in
    elim (either (is_letter b) (Ending (first ∷ names) (name ++ b ∷ [])) (if b == 62 then out else Wrong) rest h) [
      | inl o ↦
          let e = o.1 in
          (b ∷ e.0, e.1, ap (λ l. b ∷ l) e.2, e.3 ∙ append_assoc name (b ∷ []) e.0, e.4)
      | inr e ↦
          let o = only (b == 62) out rest e in
          let c = only (bytes_eq first name) (closed names) rest o.1 in
          let same : first ≡ name = (bytes_eq-Decides first name).0 c.0 in
          ([], rest, here b 62 rest rest o.0 refl, same ∙ sym (append-nil name), closed_rest names rest c.1)
    ]

-- ---- all of it

before : (r : Reading) (b : ℕ) (rest : List ℕ) → Rest (read r b) rest → Rest r (b ∷ rest)
before Start b rest h =
    let o = only (b == 60) (Begun []) rest h in
    subst IsXml (sym (here b 60 rest rest o.0 refl)) (start_begun rest o.1)
before (Within name names) b rest h = within_rest name names b rest h
before (Begun names) b rest h = begun_rest names b rest h
before (Named names name) b rest h = named_rest names name b rest h
before (Spaced names name known) b rest h =
    let o = only (is_letter b) (Attribute names name known (b ∷ [])) rest h in
    (b, rest, refl, o.0, o.1)
before (Attribute names name known attribute) b rest h = attribute_rest names name known attribute b rest h
before (Equals names name known) b rest h =
    let o = only (b == 39) (Value names name known) rest h in
    (rest, here b 39 rest rest o.0 refl, o.1)
before (Value names name known) b rest h = value_rest names name known b rest h
before (Valued names name known) b rest h = in_tag_rest names name known b rest h
before (Closing names) b rest h =
    let o = only (b == 62) (closed names) rest h in
    (rest, here b 62 rest rest o.0 refl, closed_rest names rest o.1)
before (Ending names name) b rest h = ending_rest names name b rest h
before End b rest h = let o = only (b == 10) End rest h in both (b == 10) (list_all is_line_feed rest) o.0 o.1
before Wrong b rest h = absurd h

nothing_left : (r : Reading) → r ≡ End → Rest r []
nothing_left End h = refl
nothing_left r h = absurd (cc h)

rest_of : (rest : List ℕ) (r : Reading) → fold read r rest ≡ End → Rest r rest
rest_of [] r h = nothing_left r h
rest_of (b ∷ rest) r h = before r b rest (rest_of rest (read r b) h)

-- a text that the reader takes from start to end
pub is_xml : (bytes : List ℕ) → fold read Start bytes ≡ End → IsXml bytes
is_xml bytes h = rest_of bytes Start h
