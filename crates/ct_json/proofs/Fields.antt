-- Objects that are written in parts.
use Rattle.ct_json.proofs.Common.{◌≡◌, ℕ, true, List, [], ◌∷◌, ◌++◌, Result, Ok, Err, refl, ap, sym, ◌∙◌, append_assoc, append-nil, subst}
use Rattle.ct_json.proofs.Common.{arith, OnOk, codes, is_ok, if◌then◌else◌, quoted, Data, compact_text, members_text, Step, Rehearsal}
use Rattle.ct_json.proofs.Common.{Field, IsPlain, fields_text, line_text, members_of, object_of, opened}
use Rattle.ct_text.proofs.Pieces.{is_any}
use Rattle.ct_json.specs.Json.{group_fields, standing_fields}
use Rattle.ct_json.specs.JsonSteps.{head_fields}

assoc_field : (k a b c : List ℕ) → k ++ 58 ∷ (a ++ (b ++ c)) ≡ (k ++ 58 ∷ (a ++ b)) ++ c
assoc_field k a b c = simp append_assoc

fields_both : (some more : List Field) → fields_text (some ++ more) ≡ fields_text some ++ fields_text more
fields_both [] more = refl
fields_both (field ∷ some) more =
    ap (λ t. 44 ∷ (quoted field.0 ++ 58 ∷ (compact_text field.1 ++ t))) (fields_both some more)
    ∙ ap (λ t. 44 ∷ t) (assoc_field (quoted field.0) (compact_text field.1) (fields_text some) (fields_text more))

-- the same behind a text
pub fields_after : (old : List ℕ) (some more : List Field) →
    old ++ fields_text (some ++ more) ≡ (old ++ fields_text some) ++ fields_text more
fields_after old some more = rw (fields_both some more, append_assoc) refl

-- more keys behind the first ones
pub then_fields : (some more : List Field) (old mid end : List ℕ) → mid ≡ old ++ fields_text some → end ≡ mid ++ fields_text more →
    end ≡ old ++ fields_text (some ++ more)
then_fields some more old mid end first second = rw (second, first, fields_both some more, append_assoc) refl

pub then_last : {T E : Type 0} (r : Result T E) (some more : List Field) (old mid end : List ℕ) → mid ≡ old ++ fields_text some →
    OnOk r (end ≡ mid ++ fields_text more) → OnOk r (end ≡ old ++ fields_text (some ++ more))
then_last (Ok x) some more old mid end first second = then_fields some more old mid end first second
then_last (Err x) some more old mid end first second = tt

plain_key : (key t : List ℕ) → IsPlain key → (codes ",\"" ++ (key ++ codes "\":")) ++ t ≡ 44 ∷ (quoted key ++ 58 ∷ (t ++ []))
plain_key key t plain =
    let same : (key ++ codes "\":") ++ t ≡ (key ++ codes "\"") ++ 58 ∷ (t ++ []) = simp (append_assoc, append-nil) in
    ap (λ s. 44 ∷ 34 ∷ s) same ∙ ap (λ q. 44 ∷ (q ++ 58 ∷ (t ++ []))) (sym plain)

-- a value behind its key
pub then_value : {T E : Type 0} (r : Result T E) (key : List ℕ) (value : Data) (old mid end : List ℕ) → IsPlain key →
    mid ≡ old ++ (codes ",\"" ++ (key ++ codes "\":")) → OnOk r (end ≡ mid ++ compact_text value) →
    OnOk r (end ≡ old ++ fields_text ((key, value) ∷ []))
then_value (Ok x) key value old mid end plain first second =
    let t = compact_text value in
    second ∙ ap (λ s. s ++ t) first ∙ append_assoc old (codes ",\"" ++ (key ++ codes "\":")) t
    ∙ ap (λ s. old ++ s) (plain_key key t plain)
then_value (Err x) key value old mid end plain first second = tt

-- a text between quotes
pub quoted_is : (text : List ℕ) → IsPlain text → 34 ∷ (text ++ codes "\"") ≡ quoted text ++ []
quoted_is text plain = sym plain ∙ sym (append-nil (quoted text))

-- the same text, written otherwise
pub then_same : {T E : Type 0} (r : Result T E) (old end a b : List ℕ) → a ≡ b → OnOk r (end ≡ old ++ a) → OnOk r (end ≡ old ++ b)
then_same r old end a b same h = subst (λ t. OnOk r (end ≡ old ++ t)) same h

opened_both : (some more : List Field) → is_any some ≡ true → opened (some ++ more) ≡ opened some ++ fields_text more
opened_both [] more h = absurd (cc)
opened_both (field ∷ some) more h =
    ap (λ t. 123 ∷ (quoted field.0 ++ 58 ∷ (compact_text field.1 ++ t))) (fields_both some more)
    ∙ ap (λ t. 123 ∷ t) (assoc_field (quoted field.0) (compact_text field.1) (fields_text some) (fields_text more))

-- the same in an object that was opened with a key
pub then_opened : (some more : List Field) (old mid end : List ℕ) → is_any some ≡ true → mid ≡ old ++ opened some →
    end ≡ mid ++ fields_text more → end ≡ old ++ opened (some ++ more)
then_opened some more old mid end h first second = rw (second, first, opened_both some more h, append_assoc) refl

members_fields : (fields : List Field) → members_text true (members_of fields) ≡ fields_text fields ++ codes "}"
members_fields [] = refl
members_fields (field ∷ fields) =
    ap (λ t. 44 ∷ (quoted field.0 ++ 58 ∷ (compact_text field.1 ++ t))) (members_fields fields)
    ∙ ap (λ t. 44 ∷ t) (assoc_field (quoted field.0) (compact_text field.1) (fields_text fields) (codes "}"))

pub object_closed : (fields : List Field) → compact_text (object_of fields) ≡ opened fields ++ codes "}"
object_closed [] = refl
object_closed (field ∷ fields) =
    ap (λ t. 123 ∷ (quoted field.0 ++ 58 ∷ (compact_text field.1 ++ t))) (members_fields fields)
    ∙ ap (λ t. 123 ∷ t) (assoc_field (quoted field.0) (compact_text field.1) (fields_text fields) (codes "}"))

-- the bracket that closes the object
pub then_closed : {T E : Type 0} (r : Result T E) (fields : List Field) (old mid end : List ℕ) → mid ≡ old ++ opened fields →
    end ≡ (if is_ok r then mid ++ codes "}" else mid) → OnOk r (end ≡ old ++ compact_text (object_of fields))
then_closed (Ok x) fields old mid end h e = rw (e, h, object_closed fields, append_assoc) refl
then_closed (Err x) fields old mid end h e = tt

-- ---- pieces that a search puts together

pub opened_after : (old : List ℕ) (some more : List Field) → is_any some ≡ true →
    old ++ opened (some ++ more) ≡ (old ++ opened some) ++ fields_text more
opened_after old some more h = rw (opened_both some more h, append_assoc) refl

pub closed_after : (old : List ℕ) (fields : List Field) → old ++ compact_text (object_of fields) ≡ (old ++ opened fields) ++ codes "}"
closed_after old fields = rw (object_closed fields, append_assoc) refl

pub ended_after : (old : List ℕ) (fields : List Field) → old ++ line_text (object_of fields) ≡ (old ++ opened fields) ++ codes "}\n"
ended_after old fields =
    sym (append_assoc old (opened fields) (codes "}\n")
    ∙ ap (λ t. old ++ t) (sym (ap (λ t. t ++ codes "\n") (object_closed fields) ∙ append_assoc (opened fields) (codes "}") (codes "\n"))))

pub group_any : (w : Rehearsal) → is_any (group_fields w) ≡ true
unfolding group_fields
group_any w = refl

pub standing_any : (w : Rehearsal) (p : ℕ) → is_any (standing_fields w p) ≡ true
unfolding standing_fields
standing_any w p = refl

pub head_any : (number : ℕ) (step : Step) → is_any (head_fields number step) ≡ true
unfolding head_fields
head_any number step = refl

pub ruleset pieces = (arith, fields_after, opened_after, closed_after, ended_after, group_any, standing_any, head_any)
