-- What reports say of members, written and read.
use Rattle.std.proofs.Common.{◌≡◌, ℕ, zero, suc, ◌+◌, ◌<◌, ◌≤◌, ◌==◌, ◌≢◌, Bool, true, false, not, cond, List, [], ◌∷◌, ◌++◌, length, map}
use Rattle.std.proofs.Common.{get_or, replicate, refl, sym, true≢false, ap, ◌∙◌, arith, append-nil, append_assoc, inl, inr, eqb-true}
use Rattle.std.proofs.Common.{ext_get_or, length-set, get_or-set_same, get_or-set_other}
use Rattle.std.specs.Prelude.{codes, decimal, Option, Some, None, Result, Ok, IfSome, slice_set}
use Rattle.std.specs.List.{join_with_byte, list_all}
use Rattle.std.specs.Char.{is_ascii_digit}
use Rattle.std.specs.Option.{ok_or}
use Rattle.std.specs.Str.{bytes_eq}
use Rattle.std.proofs.lemmas.Bool.{eqb-false}
use Rattle.std.proofs.lemmas.List.Folds.{list_all-append}
use Rattle.ct_names.proofs.Lists.{both-left, both-right, true_or_false}
use Rattle.ct_names.specs.declared.limit.TheConstants.{REGISTERS}
use Rattle.ct_table.specs.Table.{zeros}
use Rattle.ct_text.specs.Lists.{first_registers, list_text, nonzero, register_text, register_texts, table_text}
use Rattle.ct_grammar.specs.declared.claim.Name.{Name}
use Rattle.ct_grammar.specs.declared.reports.decision.Decision.{Decision}
use Rattle.ct_grammar.specs.declared.reports.estimate.Estimate.{Estimate}
use Rattle.ct_grammar.specs.declared.claim.Amount.{Amount}
use Rattle.ct_grammar.specs.declared.claim.Amount.TheVariants as amount
use Rattle.ct_grammar.specs.Claims.{counted, one_instance, decided, before, delivered, event_claim, amount_claim}
use Rattle.ct_grammar.specs.Leading.{over}
use Rattle.ct_grammar.specs.Names.{name_of, names_behind, names_within, names_or_dash, decision_of, within_braces, value_of, with_register}
use Rattle.ct_grammar.specs.Numbers.{number_in, number_of, max_u8, max_u32, max_u64}
use Rattle.ct_grammar.specs.Reports.{lone_dash, with_names, messages_of, with_decisions, decisions_of, with_registers, table_of}
use Rattle.ct_grammar.specs.Reports.{ts_of, adopted_of, estimate_of}
use Rattle.ct_grammar.specs.Unfits.{◌>>=◌}
use Rattle.ct_grammar.specs.Words.{Word}
use Rattle.ct_print.specs.Reports.{name_text, names_text, decision_text, decisions_text, value_text, estimate_text}
use Rattle.ct_print.specs.Writable.{NameFits, NamesFit, DecisionsFit, TableFits, EstimateFits}
use Rattle.ct_print.proofs.ActsRead.{alone_back}
use Rattle.ct_print.proofs.Glued.{value_stays}
use Rattle.ct_print.proofs.NoAnd.{Says, said, led, numeric_says, whole_says}
use Rattle.ct_print.proofs.Numerals.{number_in_back, no_number}
use Rattle.ct_print.proofs.Numeric.{IsNumeric, AreNumeric, numeric_other, numeric_behind, decimal_numeric, decimal_digits, two_numeric}
use Rattle.ct_print.proofs.Numeric.{joined_numeric}
use Rattle.ct_print.proofs.Parts.{Lacks, digits_lack, parted_behind, two_back}
use Rattle.ct_print.proofs.TextWords.{is_letter, joined_parts}

-- ---- lists

-- the words of a list: a dash where there are none
abbrev pub or_dash : List Word → List Word
or_dash [] = codes "-" ∷ []
or_dash (word ∷ words) = word ∷ words

list_says : (words : List Word) → AreNumeric words → Says (list_text 32 words) (or_dash words)
list_says [] h = said (codes "-") refl refl
list_says (word ∷ []) h = numeric_says word h.0
list_says (word ∷ next ∷ words) h =
    led word (join_with_byte 32 (next ∷ words)) (next ∷ words) (numeric_says word h.0) (list_says (next ∷ words) h.1)

-- ---- messages

name_numeric : (name : Name) → NameFits name → IsNumeric (name_text name)
unfolding name_text
name_numeric name h = two_numeric name.origin name.number 46 (omega (arith, h.0)) (omega (arith, h.1)) refl

pub name_back : (name : Name) → NameFits name → name_of (name_text name) ≡ Some name
unfolding name_of name_text
name_back name h = rw (two_back 46 max_u8 max_u32 name.origin name.number refl (omega arith) (omega arith) h.0 h.1) refl

names_numeric : (names : List Name) → NamesFit names → AreNumeric (map name_text names)
names_numeric [] h = tt
names_numeric (name ∷ names) h = (name_numeric name h.0, names_numeric names h.1)

names_back : (before names : List Name) → NamesFit names → with_names before (map name_text names) ≡ Ok (before ++ names)
names_back before [] h = ap Ok (sym (append-nil before))
names_back before (name ∷ names) h =
    rw (name_back name h.0) (names_back (before ++ name ∷ []) names h.1 ∙ ap Ok (append_assoc before (name ∷ []) names))

pub messages_back : (names : List Name) → NamesFit names → messages_of (or_dash (map name_text names)) ≡ Ok names
unfolding messages_of lone_dash over
messages_back [] h = refl
messages_back (name ∷ names) h = rw (numeric_other (name_text name) 45 [] refl (name_numeric name h.0)) (names_back [] (name ∷ names) h)

pub names_say : (names : List Name) → NamesFit names → Says (names_text 32 names) (or_dash (map name_text names))
names_say names h = list_says (map name_text names) (names_numeric names h)

-- ---- messages with commas between them

name_lacks : (at : ℕ) (name : Name) → is_ascii_digit at ≡ false → (46 == at) ≡ false → NameFits name → Lacks at (name_text name)
unfolding name_text
name_lacks at name e dot h =
    let first = digits_lack at (decimal name.origin) e (decimal_digits name.origin (omega (arith, h.0))) in
    let second = digits_lack at (decimal name.number) e (decimal_digits name.number (omega (arith, h.1))) in
    list_all-append (λ c. not (c == at)) (decimal name.origin) (46 ∷ (decimal name.number ++ []))
    ∙ rw (first, dot, append-nil (decimal name.number)) second

pub names_lack : (at : ℕ) (names : List Name) → is_ascii_digit at ≡ false → (46 == at) ≡ false → NamesFit names →
    list_all (list_all (λ c. not (c == at))) (map name_text names) ≡ true
names_lack at [] e dot h = refl
names_lack at (name ∷ names) e dot h = rw (name_lacks at name e dot h.0) (names_lack at names e dot h.1)

pub joined_lacks : (at : ℕ) (words : List Word) → (44 == at) ≡ false → list_all (list_all (λ c. not (c == at))) words ≡ true →
    Lacks at (join_with_byte 44 words)
joined_lacks at [] e h = refl
joined_lacks at (word ∷ []) e h = both-left (list_all (λ c. not (c == at)) word) true h
joined_lacks at (word ∷ next ∷ words) e h =
    let rest = both-right (list_all (λ c. not (c == at)) word) (list_all (list_all (λ c. not (c == at))) (next ∷ words)) h in
    list_all-append (λ c. not (c == at)) word (44 ∷ join_with_byte 44 (next ∷ words))
    ∙ rw (both-left (list_all (λ c. not (c == at)) word) (list_all (list_all (λ c. not (c == at))) (next ∷ words)) h, e)
    (joined_lacks at (next ∷ words) e rest)

behind_back : (before names : List Name) → NamesFit names → names_behind before (map name_text names) ≡ Some (before ++ names)
behind_back before [] h = ap Some (sym (append-nil before))
behind_back before (name ∷ names) h =
    rw (name_back name h.0) (behind_back (before ++ name ∷ []) names h.1 ∙ ap Some (append_assoc before (name ∷ []) names))

pub within_back : (name : Name) (names : List Name) → NamesFit (name ∷ names) →
    names_within (join_with_byte 44 (map name_text (name ∷ names))) ≡ Some (name ∷ names)
unfolding names_within
within_back name names h =
    rw (joined_parts (λ c. c == 44) 44 refl (name_text name) (map name_text names) (names_lack 44 (name ∷ names) refl refl h))
    (behind_back [] (name ∷ names) h)

-- ---- decisions

commas_numeric : (name : Name) (names : List Name) → NamesFit (name ∷ names) → IsNumeric (join_with_byte 44 (map name_text (name ∷ names)))
commas_numeric name names h = joined_numeric (name_text name) (map name_text names) (names_numeric (name ∷ names) h)

or_dash_back : (names : List Name) → NamesFit names → names_or_dash (names_text 44 names) ≡ Some names
unfolding names_or_dash
or_dash_back [] h = refl
or_dash_back (name ∷ names) h = rw (numeric_other _ 45 [] refl (commas_numeric name names h)) (within_back name names h)

names_letters : (names : List Name) → NamesFit names → list_all is_letter (names_text 44 names) ≡ true
names_letters [] h = refl
names_letters (name ∷ names) h = (commas_numeric name names h).letters

decision_numeric : (d : Decision) → d.instance ≤ max_u32 → NamesFit d.names → IsNumeric (decision_text d)
unfolding decision_text
decision_numeric d h k =
    numeric_behind (decimal d.instance) _ (decimal_numeric d.instance (omega arith))
    (rw (append-nil (names_text 44 d.names)) (names_letters d.names k))

decision_back : (last : ℕ) (d : Decision) → last < d.instance → d.instance ≤ max_u32 → NamesFit d.names →
    decision_of last (decision_text d) ≡ Some d
unfolding decision_of decision_text
decision_back last d above h k =
    rw (
      append-nil (names_text 44 d.names),
      parted_behind 58 (decimal d.instance) (names_text 44 d.names)
          (digits_lack 58 (decimal d.instance) refl (decimal_digits d.instance (omega arith))),
      number_in_back (last + 1) max_u32 d.instance (omega arith) (omega arith) h,
      or_dash_back d.names k,
    ) refl

decisions_numeric : (last : ℕ) (decisions : List Decision) → DecisionsFit last decisions → AreNumeric (map decision_text decisions)
decisions_numeric last [] h = tt
decisions_numeric last (d ∷ decisions) h = (decision_numeric d h.1 h.2, decisions_numeric d.instance decisions h.3)

pub decisions_say : (decisions : List Decision) → DecisionsFit 0 decisions →
    Says (decisions_text decisions) (or_dash (map decision_text decisions))
decisions_say decisions h = list_says (map decision_text decisions) (decisions_numeric 0 decisions h)

more_back : (before : List Decision) (last : ℕ) (decisions : List Decision) → DecisionsFit last decisions →
    with_decisions before last (map decision_text decisions) ≡ Ok (before ++ decisions)
more_back before last [] h = ap Ok (sym (append-nil before))
more_back before last (d ∷ decisions) h =
    rw (decision_back last d h.0 h.1 h.2)
    (more_back (before ++ d ∷ []) d.instance decisions h.3 ∙ ap Ok (append_assoc before (d ∷ []) decisions))

pub decisions_back : (decisions : List Decision) → DecisionsFit 0 decisions →
    decisions_of (or_dash (map decision_text decisions)) ≡ Ok decisions
unfolding decisions_of lone_dash over
decisions_back [] h = refl
decisions_back (d ∷ decisions) h =
    rw (numeric_other (decision_text d) 45 [] refl (decision_numeric d h.1 h.2)) (more_back [] 0 (d ∷ decisions) h)

-- ---- estimates

abbrev pub estimate_words : Option Estimate → List Word
estimate_words None = codes "-" ∷ []
estimate_words (Some e) = value_text e.names ∷ codes "ts" ∷ decimal e.ts ∷ []

pub value_letters : (names : List Name) → NamesFit names → list_all is_letter (join_with_byte 44 (map name_text names)) ≡ true
value_letters [] h = refl
value_letters (name ∷ names) h = (commas_numeric name names h).letters

pub value_says : (names : List Name) → NamesFit names → Says (value_text names) (value_text names ∷ [])
unfolding value_text
value_says names h =
    said _ (rw (list_all-append is_letter (join_with_byte 44 (map name_text names)) (125 ∷ []), value_letters names h) refl) refl

pub estimate_says : (estimate : Option Estimate) → IfSome estimate EstimateFits → Says (estimate_text estimate) (estimate_words estimate)
estimate_says None h = said (codes "-") refl refl
estimate_says (Some e) h =
    rw append-nil
    (led (value_text e.names) _ (codes "ts" ∷ decimal e.ts ∷ []) (value_says e.names h.0)
    (led (codes "ts") (decimal e.ts) (decimal e.ts ∷ []) (said _ refl refl) (whole_says e.ts h.1)))

some_bytes : (word : Word) → IsNumeric word → bytes_eq word [] ≡ false
some_bytes [] h = absurd (true≢false (sym h.first))
some_bytes (c ∷ cs) h = refl

within_value : (names : List Name) → NamesFit names → within_braces (value_text names) ≡ Some (join_with_byte 44 (map name_text names))
unfolding value_text
within_value names h =
    rw (parted_behind 125 (join_with_byte 44 (map name_text names)) []
    (joined_lacks 125 (map name_text names) refl (names_lack 125 names refl refl h))) refl

pub value_back : (names : List Name) → NamesFit names → value_of (value_text names) ≡ Some names
unfolding value_of
value_back [] h = rw (within_value [] h) refl
value_back (name ∷ names) h =
    rw (within_value (name ∷ names) h, some_bytes _ (commas_numeric name names h)) (within_back name names h)

value_no_dash : (names : List Name) → bytes_eq (value_text names) (codes "-") ≡ false
unfolding value_text
value_no_dash names = refl

pub estimate_back : (estimate : Option Estimate) → IfSome estimate EstimateFits → estimate_of (estimate_words estimate) ≡ Ok estimate
unfolding estimate_of lone_dash adopted_of ts_of over
estimate_back None h = refl
estimate_back (Some e) h =
    rw (
      value_no_dash e.names,
      value_stays e.names (codes "ts" ∷ decimal e.ts ∷ []),
      value_back e.names h.0,
      alone_back e.ts _ h.1,
    ) refl

-- ---- tables

registers_append : (values table : List ℕ) (words others : List Word) → with_registers values words ≡ Ok table →
    with_registers values (words ++ others) ≡ with_registers table others
registers_append values table [] others e = ap (λ (r : Result (List ℕ) _). r >>= (λ more. with_registers more others)) e
registers_append values table (word ∷ words) others e =
    go _ _ (with_register values word) (λ more. registers_append more table words others) e
  where
    go : (a b : _) (o : Option (List ℕ)) →
        ((more : List ℕ) → with_registers more words ≡ Ok table → with_registers more (words ++ others) ≡ with_registers table others) →
        (ok_or o a >>= (λ more. with_registers more words)) ≡ Ok table →
        (ok_or o b >>= (λ more. with_registers more (words ++ others))) ≡ with_registers table others
    go a b None f e = cc
    go a b (Some more) f e = f more e

-- of these words, those of the first k registers
record AreRead (values : List ℕ) (k : ℕ) (words : List Word) : Type 0 where
  table : List ℕ
  reads : with_registers zeros words ≡ Ok table
  sixteen : length table ≡ REGISTERS
  same : (j : ℕ) → j < k → get_or table j 0 ≡ get_or values j 0
  left : (j : ℕ) → k ≤ j → get_or table j 0 ≡ 0

pub all_zero : (n j : ℕ) → get_or (replicate n zero) j zero ≡ zero
all_zero zero j = refl
all_zero (suc n) zero = refl
all_zero (suc n) (suc j) = all_zero n j

no_registers : (values : List ℕ) → AreRead values 0 []
no_registers values = record {
  table = zeros;
  reads = refl;
  sixteen = refl;
  same = λ j l. absurd (omega (arith, l));
  left = λ j l. all_zero REGISTERS j;
}

register_back : (table : List ℕ) (k v : ℕ) → k < REGISTERS → v ≤ max_u64 → v ≢ 0 → get_or table k 0 ≡ 0 →
    with_register table (register_text k v) ≡ Some (slice_set table k v)
unfolding with_register register_text
register_back table k v within h some free =
    rw (
      append-nil (decimal v),
      parted_behind 61 (decimal k) (decimal v) (digits_lack 61 (decimal k) refl (decimal_digits k (omega arith))),
      number_in_back 0 15 k (omega arith) (omega arith) (omega arith),
      number_in_back 1 max_u64 v (omega arith) (omega (arith, some)) h,
      free,
    ) refl

one_register : (values : List ℕ) (k : ℕ) (words : List Word) → k < REGISTERS → get_or values k 0 ≤ max_u64 → AreRead values k words →
    AreRead values (suc k) (words ++ register_texts k (nonzero (get_or values k 0)))
one_register values k words within h r = go (get_or values k 0 == 0) refl
  where
    v : ℕ
    v = get_or values k 0

    go : (b : Bool) → (v == 0) ≡ b → AreRead values (suc k) (words ++ register_texts k (cond b None (Some v)))
    go true e = rw (append-nil words) (record {
      table = r.table;
      reads = r.reads;
      sixteen = r.sixteen;
      same = λ j l. elim (true_or_false (j == k)) [
        | inl is ↦
            let at : j ≡ k = eqb-true j k is in
            r.left j (omega (arith, at)) ∙ sym (ap (λ i. get_or values i 0) at ∙ eqb-true v 0 e)
        | inr is ↦ r.same j (omega (arith, l, eqb-false j k is))
      ];
      left = λ j l. r.left j (omega (arith, l));
    })
    go false e = record {
      table = slice_set r.table k v;
      reads =
          registers_append zeros r.table words _ r.reads
          ∙ rw (register_back r.table k v within h (eqb-false v 0 e) (r.left k (omega arith))) refl;
      sixteen = length-set r.table k v ∙ r.sixteen;
      same = λ j l. elim (true_or_false (j == k)) [
        | inl is ↦
            let at : j ≡ k = eqb-true j k is in
            ap (λ i. get_or (slice_set r.table k v) i 0) at
            ∙ (get_or-set_same r.table k v 0 (omega (arith, within, r.sixteen)) ∙ sym (ap (λ i. get_or values i 0) at))
        | inr is ↦ get_or-set_other r.table k j v 0 (eqb-false j k is) ∙ r.same j (omega (arith, l, eqb-false j k is))
      ];
      left = λ j l. get_or-set_other r.table k j v 0 (omega (arith, l)) ∙ r.left j (omega (arith, l));
    }

registers_read : (values : List ℕ) (k : ℕ) → k ≤ REGISTERS → TableFits values → AreRead values k (first_registers values k)
registers_read values zero l h = no_registers values
registers_read values (suc k) l h =
    one_register values k (first_registers values k) (omega arith) (h.small k) (registers_read values k (omega arith) h)

numeric_append : (words others : List Word) → AreNumeric words → AreNumeric others → AreNumeric (words ++ others)
numeric_append [] others h k = k
numeric_append (word ∷ words) others h k = (h.0, numeric_append words others h.1 k)

register_numeric : (k v : ℕ) → k < REGISTERS → v ≤ max_u64 → AreNumeric (register_texts k (nonzero v))
unfolding register_text
register_numeric k v within h = go (v == 0)
  where
    go : (b : Bool) → AreNumeric (register_texts k (cond b None (Some v)))
    go true = tt
    go false = (two_numeric k v 61 (omega (arith, within)) (omega (arith, h)) refl, tt)

registers_numeric : (values : List ℕ) (k : ℕ) → k ≤ REGISTERS → TableFits values → AreNumeric (first_registers values k)
registers_numeric values zero l h = tt
registers_numeric values (suc k) l h =
    numeric_append (first_registers values k) _ (registers_numeric values k (omega arith) h)
    (register_numeric k (get_or values k 0) (omega arith) (h.small k))

unfoldable pub table_words : List ℕ → List Word
table_words values = or_dash (first_registers values REGISTERS)

pub table_says : (values : List ℕ) → TableFits values → Says (table_text values) (table_words values)
unfolding table_text table_words
table_says values h = list_says (first_registers values REGISTERS) (registers_numeric values REGISTERS (omega arith) h)

pub table_back : (values : List ℕ) → TableFits values → table_of (table_words values) ≡ Ok values
unfolding table_of table_words lone_dash over
table_back values h =
    go (first_registers values REGISTERS) (registers_numeric values REGISTERS (omega arith) h)
    (r.reads ∙ ap Ok (ext_get_or 0 r.table values (r.sixteen ∙ sym h.sixteen) (λ i l. r.same i (omega (arith, l, r.sixteen)))))
  where
    r : AreRead values REGISTERS (first_registers values REGISTERS)
    r = registers_read values REGISTERS (omega arith) h

    go : (words : List Word) → AreNumeric words → with_registers zeros words ≡ Ok values → table_of (or_dash words) ≡ Ok values
    go [] n e = e
    go (word ∷ words) n e = rw (numeric_other word 45 [] refl n.0) e

-- ---- what they say is no other claim

no_count : (what : Amount) (words : List Word) → AreNumeric words → counted what (or_dash words) ≡ None
unfolding counted
no_count what [] h = refl
no_count what (word ∷ words) h = rw (numeric_other word 99 _ refl h.0) refl

no_whole : (d : Decision) → d.instance ≤ max_u32 → number_of max_u32 (decision_text d) ≡ None
unfolding decision_text
no_whole d h = no_number max_u32 d.instance 58 _ (omega arith) refl

no_instance : (decisions : List Decision) → DecisionsFit 0 decisions → one_instance (or_dash (map decision_text decisions)) ≡ None
unfolding one_instance number_in number_of
no_instance [] h = refl
no_instance (d ∷ []) h = rw (no_whole d h.1) refl
no_instance (d ∷ next ∷ decisions) h = refl

no_before : (words : List Word) → AreNumeric words → before (or_dash words) ≡ None
unfolding before
no_before (first ∷ middle ∷ second ∷ []) h = rw (numeric_other middle 98 _ refl h.1.0) refl
no_before _ h = refl

pub only_received : (names : List Name) → NamesFit names → amount_claim (codes "received") (or_dash (map name_text names)) ≡ None
unfolding amount_claim
only_received names h = no_count amount.Received (map name_text names) (names_numeric names h)

pub only_decided : (decisions : List Decision) → DecisionsFit 0 decisions →
    amount_claim (codes "decided") (or_dash (map decision_text decisions)) ≡ None
unfolding amount_claim event_claim decided
only_decided decisions h =
    rw (
      no_count amount.Decided (map decision_text decisions) (decisions_numeric 0 decisions h),
      no_instance decisions h,
    ) refl

pub only_delivered : (names : List Name) → NamesFit names → amount_claim (codes "delivered") (or_dash (map name_text names)) ≡ None
unfolding amount_claim event_claim delivered
only_delivered names h =
    let numeric = names_numeric names h in
    rw (no_count amount.Delivered (map name_text names) numeric) (no_before (map name_text names) numeric)
