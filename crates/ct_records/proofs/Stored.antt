-- The value that a record is, and that its text reads as that value.
use Rattle.ct_records.proofs.Common.{◌≡◌, ℕ, ◌+◌, ◌*◌, ◌^◌, ◌<◌, ◌≤◌, true, false, List, [], ◌∷◌, ◌++◌, length, codes, decimal, Some, refl}
use Rattle.ct_records.proofs.Common.{sym, ap, ap₂, ◌∙◌, arith, append_assoc, append-nil, map, option_map, option_and_then, concat, tokens}
use Rattle.ct_records.proofs.Common.{IsNumber-decimal, value-json_tokens, Data, number, Items, no_items, item, read, of_json, of_items}
use Rattle.ct_records.proofs.Common.{number_of-decimal, Command, Step, Rehearsal, Number, amount, Rest, nothing, command, command_entry}
use Rattle.ct_records.proofs.Common.{step_entry, entry_text, rest_texts, CommandFits, RestFits, StepFits, AllFit, IsStorable, steps_text}
use Rattle.ct_records.proofs.Common.{num, entry_data, command_data, rest_data, step_data, steps_data, record_data, rest_of, rest_of-join}
use Rattle.std.specs.Fmt.{digits}
use Rattle.std.proofs.lemmas.List.Folds.{concat-append}
use Rattle.json.proofs.OnLiterals.{json_on_literals}
use Rattle.json.proofs.Printed.Tokens.{tokens-print}
use Rattle.json.proofs.Printed.Trees.{ArePrintable-json_tokens}
use Rattle.serde_json.specs.Written.{outline, items_outline, compact_text, items_text}
use Rattle.serde_json.proofs.Texts.{print-outline}
use Rattle.ct_model.specs.StepText.{byte, value, command_text, step_text}
use Rattle.ct_records.specs.Fits.{NumberFits}
use Rattle.ct_records.proofs.Lengths.{Text}
use Rattle.ct_records.proofs.Names.{IsName, command_name, step_name}
use Rattle.json.specs.Json as json
use Rattle.json.specs.Tree as tree
use Rattle.ct_model.specs.StepText as steps
use Rattle.ct_records.proofs.Lengths as lengths

-- ---- values that are read as they are written

-- the value is that of its compact text t, which has `wide` bytes at most; it nests `deep` at most
record IsStored (d : Data) (t : List ℕ) (deep wide : ℕ) : Type 0 where
  again : of_json (outline d) ≡ Some d
  numbers : tree.HasNumbers (outline d)
  shallow : tree.depth (outline d) ≤ deep
  compact : compact_text d ≡ t
  text : Text t wide

-- the same of the entries of an array behind its first, with the commas before them
pub record AreStored (ds : Items) (t : List ℕ) (deep wide : ℕ) : Type 0 where
  pub again : of_items (items_outline ds) ≡ Some ds
  numbers : tree.ItemsHaveNumbers (items_outline ds)
  pub shallow : tree.items_depth (items_outline ds) ≤ deep
  compact : items_text true ds ≡ t ++ 93 ∷ []
  text : Text t wide

none_stored : (deep : ℕ) → AreStored no_items [] deep 0
none_stored deep = record { again = refl; numbers = tt; shallow = omega arith; compact = refl; text = lengths.plain [] refl }

more_stored : (d : Data) (ds : Items) (t u : List ℕ) (deep j k : ℕ) → IsStored d t deep j → AreStored ds u deep k
    → AreStored (item d ds) (44 ∷ (t ++ u)) deep (1 + (j + k))
more_stored d ds t u deep j k h i = record {
  again = rw (h.again, i.again) refl;
  numbers = (h.numbers, i.numbers);
  shallow = omega (arith, h.shallow, i.shallow);
  compact = ap₂ (λ x y. 44 ∷ (x ++ y)) h.compact i.compact ∙ ap (λ x. 44 ∷ x) (sym (append_assoc t u (93 ∷ [])));
  text = lengths.then (codes ",") (t ++ u) 1 (j + k) (lengths.plain (codes ",") refl) (lengths.then t u j k h.text i.text);
}

number_stored : (n deep : ℕ) → n ≤ 18446744073709551615 → IsStored (num n) (decimal n) deep 20
number_stored n deep h =
    let fits : n < 2 ^ 64 = omega arith in
    record {
      again = ap (option_map number) (number_of-decimal n fits);
      numbers = IsNumber-decimal n fits;
      shallow = omega arith;
      compact = refl;
      text = lengths.value n h;
    }

one_stored : (d : Data) (t : List ℕ) (deep wide : ℕ) → IsStored d t deep wide
    → AreStored (item d no_items) (concat (codes "," ∷ t ∷ [])) deep (1 + (wide + 0))
one_stored d t deep wide h = more_stored d no_items t [] deep wide 0 h (none_stored deep)

entry_text_width : (name : List ℕ) (first : ℕ) (rest : List (List ℕ)) (wide : ℕ) → IsName name → first ≤ 255 → Text (concat rest) wide
    → Text (entry_text name first rest) (2 + (8 + (2 + (3 + (wide + 1)))))
entry_text_width name first rest wide is few h =
    let last : Text (concat (rest ++ codes "]" ∷ [])) (wide + 1) =
    rw concat-append (lengths.then (concat rest) (codes "]") wide 1 h (lengths.plain (codes "]") refl)) in
    lengths.then (codes "[\"") _ 2 _ (lengths.plain (codes "[\"") refl)
    (lengths.then name _ 8 _ (lengths.weaker name (length name) 8 (lengths.plain name is.ascii) is.short)
    (lengths.then (codes "\",") _ 2 _ (lengths.plain (codes "\",") refl)
    (lengths.then (decimal first) _ 3 _ (lengths.byte first few) last)))

entry_compact : (name : List ℕ) (first : ℕ) (items : Items) (rest : List (List ℕ)) → IsName name →
    items_text true items ≡ concat rest ++ 93 ∷ []
    → compact_text (entry_data name first items) ≡ entry_text name first rest
entry_compact name first items rest is h =
    let after = decimal first ++ (concat rest ++ codes "]") in
    let before : compact_text (entry_data name first items) ≡ 91 ∷ ((34 ∷ (name ++ 34 ∷ [])) ++ 44 ∷ after) =
    ap₂ (λ q t. 91 ∷ (q ++ 44 ∷ (decimal first ++ t))) is.plain h in
    before ∙ ap (λ t. 91 ∷ 34 ∷ t) (append_assoc name (34 ∷ []) (44 ∷ after))
    ∙ ap (λ t. codes "[\"" ++ (name ++ (codes "\"," ++ (decimal first ++ t)))) (sym (concat-append rest (codes "]" ∷ [])))

entry_stored : (name : List ℕ) (first : ℕ) (items : Items) (rest : List (List ℕ)) (deep wide : ℕ) → IsName name → first ≤ 255
    → AreStored items (concat rest) deep wide → IsStored (entry_data name first items) (entry_text name first rest) (1 + deep) (16 + wide)
entry_stored name first items rest deep wide is few h =
    let fits : first < 2 ^ 64 = omega arith in
    record {
      again = rw (number_of-decimal first fits, h.again) refl;
      numbers = (tt, (IsNumber-decimal first fits, h.numbers));
      shallow = omega (arith, h.shallow);
      compact = entry_compact name first items rest is h.compact;
      text =
          lengths.weaker _ (2 + (8 + (2 + (3 + (wide + 1))))) (16 + wide) (entry_text_width name first rest wide is few h.text)
          (omega arith);
    }

-- ---- those of a record

pub amount_fits : (x : Number) → NumberFits x → amount x ≤ 18446744073709551615
amount_fits (value n) h = h
amount_fits _ h = omega arith

command_stored : (c : Command) → CommandFits c → IsStored (command_data c) (command_text c) 1 37
unfolding command_text
command_stored c h =
    let x = (command_entry c).rest in
    entry_stored (command_entry c).name (command_entry c).first _ (codes "," ∷ decimal (amount x) ∷ []) 0 21 (command_name c) h.0
    (one_stored (num (amount x)) (decimal (amount x)) 0 20 (number_stored (amount x) 0 (amount_fits x h.1)))

wider : (ds : Items) (t : List ℕ) (deep j k : ℕ) → AreStored ds t deep j → j ≤ k → AreStored ds t deep k
wider ds t deep j k h le =
    record { again = h.again; numbers = h.numbers; shallow = h.shallow; compact = h.compact; text = lengths.weaker t j k h.text le }

rest_stored : (r : Rest) → RestFits r → AreStored (rest_data r) (concat (rest_texts r)) 1 38
rest_stored nothing h = wider _ _ 1 0 38 (none_stored 1) (omega arith)
rest_stored (steps.number x) h =
    wider _ _ 1 21 38 (one_stored (num (amount x)) (decimal (amount x)) 1 20 (number_stored (amount x) 1 (amount_fits x h))) (omega arith)
rest_stored (command c) h = one_stored (command_data c) (command_text c) 1 37 (command_stored c h)

step_stored : (s : Step) → StepFits s → IsStored (step_data s) (step_text s) 2 54
unfolding step_text
step_stored s h =
    entry_stored (step_entry s).name (step_entry s).first _ (rest_texts (step_entry s).rest) 1 38 (step_name s) h.0
    (rest_stored (step_entry s).rest h.1)

pub steps_stored : (ss : List Step) → AllFit ss → AreStored (steps_data ss) (rest_of 44 true (map step_text ss)) 2 (55 * length ss)
steps_stored [] h = wider _ _ 2 0 _ (none_stored 2) (omega arith)
steps_stored (s ∷ ss) h =
    wider _ _ 2 (1 + (54 + 55 * length ss)) _
    (more_stored (step_data s) (steps_data ss) (step_text s) _ 2 54 _ (step_stored s h.0) (steps_stored ss h.1)) (omega arith)

-- the list of the steps begins with no comma
record IsList (ss : List Step) : Type 0 where
  compact : items_text false (steps_data ss) ≡ rest_of 44 false (map step_text ss) ++ 93 ∷ []
  text : Text (rest_of 44 false (map step_text ss)) (55 * length ss)

list_stored : (ss : List Step) → AllFit ss → IsList ss
list_stored [] h = record { compact = refl; text = lengths.plain [] refl }
list_stored (s ∷ ss) h =
    let first = step_stored s h.0 in
    let more = steps_stored ss h.1 in
    let rest = rest_of 44 true (map step_text ss) in
    record {
      compact = ap₂ (λ x y. x ++ y) first.compact more.compact ∙ sym (append_assoc (step_text s) rest (93 ∷ []));
      text =
          lengths.weaker _ (54 + 55 * length ss) _ (lengths.then (step_text s) rest 54 (55 * length ss) first.text more.text) (omega arith);
    }

pub steps_width : (ss : List Step) → AllFit ss → Text (steps_text ss) (55 * length ss)
steps_width ss h = rw (← rest_of-join 44 (map step_text ss)) (list_stored ss h).text

-- what stands for a value reads as it
printed_reads : (d : Data) → of_json (outline d) ≡ Some d → tree.HasNumbers (outline d) → tree.depth (outline d) ≤ 127
    → read (compact_text d) ≡ Some d
printed_reads d again numbers shallow =
    let ts = tree.json_tokens (outline d) in
    let text : tokens (compact_text d) ≡ ts ++ [] =
    ap tokens (sym (print-outline d)) ∙ tokens-print ts (ArePrintable-json_tokens (outline d) numbers) ∙ sym (append-nil ts) in
    ap (λ xs. option_and_then of_json (option_and_then (λ p. json.if_last p.0 p.1) (json.value 127 xs))) text
    ∙ ap (λ o. option_and_then of_json (option_and_then (λ p. json.if_last p.0 p.1) o)) (value-json_tokens (outline d) 127 [] shallow)
    ∙ again

-- the text of a record, piece by piece
abbrev pub whole_text : Rehearsal → List ℕ
whole_text w =
    codes "{\"batch\":" ++ (decimal w.setting.bound ++ (codes ",\"cells\":" ++ (decimal w.cells ++ (codes ",\"n\":"
    ++ (decimal w.setting.members ++ (codes ",\"steps\":[" ++ (steps_text w.steps ++ codes "],\"version\":3}")))))))

record_compact : (w : Rehearsal) → IsList w.steps → compact_text (record_data true 3 w) ≡ whole_text w
unfolding json_on_literals digits
record_compact w h =
    let list = h.compact ∙ ap (λ t. t ++ 93 ∷ []) (rest_of-join 44 (map step_text w.steps)) in
    let before : List ℕ → List ℕ =
    λ t. codes "{\"batch\":" ++ (decimal w.setting.bound ++ (codes ",\"cells\":" ++ (decimal w.cells ++ (codes ",\"n\":"
    ++ (decimal w.setting.members ++ (codes ",\"steps\":[" ++ t)))))) in
    ap (λ t. before (t ++ codes ",\"version\":3}")) list
    ∙ ap before (append_assoc (steps_text w.steps) (93 ∷ []) (codes ",\"version\":3}"))

pub record_reads : (w : Rehearsal) → IsStorable w → read (whole_text w) ≡ Some (record_data true 3 w)
record_reads w h =
    let steps = steps_stored w.steps h.fit in
    let again : of_json (outline (record_data true 3 w)) ≡ Some (record_data true 3 w) =
    rw (
      number_of-decimal w.setting.bound (omega (arith, h.few_bound)),
      number_of-decimal w.cells (omega (arith, h.few_cells)),
      number_of-decimal w.setting.members (omega (arith, h.few_members)),
      steps.again,
      number_of-decimal 3 (omega arith),
    ) refl in
    let numbers : tree.HasNumbers (outline (record_data true 3 w)) = (
      IsNumber-decimal w.setting.bound (omega (arith, h.few_bound)),
      (
        IsNumber-decimal w.cells (omega (arith, h.few_cells)),
        (IsNumber-decimal w.setting.members (omega (arith, h.few_members)), (steps.numbers, (IsNumber-decimal 3 (omega arith), tt))),
      ),
    ) in
    let shallow : tree.depth (outline (record_data true 3 w)) ≤ 127 = omega (arith, steps.shallow) in
    ap read (sym (record_compact w (list_stored w.steps h.fit))) ∙ printed_reads (record_data true 3 w) again numbers shallow
