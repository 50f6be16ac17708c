-- What reports say of members: what is read can be written.
use Rattle.std.proofs.Common.{◌≡◌, ℕ, ◌+◌, ◌<◌, ◌≤◌, ◌==◌, List, [], ◌∷◌, ◌++◌, length, get_or, refl, sym, ap, ◌∙◌, arith, append-nil}
use Rattle.std.proofs.Common.{append_assoc, subst, inl, inr, eqb-true, length-append, length-set, get_or-set_same, get_or-set_other}
use Rattle.std.specs.Prelude.{codes, Option, Some, None, Result, Ok, Err, IfOk, IfSome, slice_set}
use Rattle.std.specs.Option.{ok_or}
use Rattle.std.specs.Str.{bytes_eq}
use Rattle.std.proofs.lemmas.Bool.{eqb-false}
use Rattle.std.proofs.lemmas.List.Splits.{length-slice_split}
use Rattle.ct_names.proofs.Lists.{true_or_false}
use Rattle.ct_names.specs.declared.limit.TheConstants.{REGISTERS}
use Rattle.ct_table.specs.Table.{zeros}
use Rattle.ct_grammar.specs.declared.claim.Name.{Name}
use Rattle.ct_grammar.specs.declared.reports.decision.Decision.{Decision}
use Rattle.ct_grammar.specs.Leading.{lone_whole}
use Rattle.ct_grammar.specs.Names.{name_of, names_behind, names_within, names_or_dash, decision_of, glued, within_braces, value_of}
use Rattle.ct_grammar.specs.Names.{with_register}
use Rattle.ct_grammar.specs.Numbers.{number_in, parted, max_u32, max_u64}
use Rattle.ct_grammar.specs.Reports.{unless_dash, with_names, messages_of, with_decisions, decisions_of, with_registers, table_of}
use Rattle.ct_grammar.specs.Reports.{ts_of, adopted_of, estimate_of}
use Rattle.ct_grammar.specs.Words.{Word}
use Rattle.ct_print.specs.Writable.{NameFits, NamesFit, DecisionsFit, TableFits, EstimateFits}
use Rattle.ct_print.proofs.Readable.{some_bound, bound, found, some_either, mapped, steps, some_if, May, Gives, two_within}
use Rattle.ct_print.proofs.Readable.{number_between, whole_first_fits}
use Rattle.ct_print.proofs.ReportsRead.{all_zero}

-- a number alone
pub alone_fits : (what : _) (words : List Word) → Gives (lone_whole what words) (λ n. n ≤ max_u32)
unfolding lone_whole
alone_fits what words Q k = search (steps, whole_first_fits) depth 7

-- what is read, unless a dash stands there
dash_or : {A : Type 0} (P : A → Type 0) (said : _) (nothing : A) (read : Result A _) → P nothing → IfOk read P →
    IfOk (unless_dash said nothing read) P
dash_or P None nothing read h k = k
dash_or P (Some (Ok x)) nothing read h k = h
dash_or P (Some (Err e)) nothing read h k = tt

pub some_weaker : {A : Type 0} {P Q : A → Type 0} (o : Option A) → IfSome o P → ((x : A) → P x → Q x) → IfSome o Q
some_weaker None h f = tt
some_weaker (Some x) h f = f x h

-- ---- messages

pub name_fits : (word : Word) → May (name_of word) NameFits
unfolding name_of
name_fits word Q k = search (steps, two_within)

one_name_more : (names : List Name) (name : Name) → NamesFit names → NameFits name → NamesFit (names ++ name ∷ [])
one_name_more [] name h k = (k, tt)
one_name_more (first ∷ names) name h k = (h.0, one_name_more names name h.1 k)

names_fit : (names : List Name) (words : List Word) → NamesFit names → IfOk (with_names names words) NamesFit
names_fit names [] h = h
names_fit names (word ∷ words) h =
    bound NamesFit (ok_or (name_of word) _) _
    (found _ (name_of word) _ (name_fits word _ (λ name k. names_fit (names ++ name ∷ []) words (one_name_more names name h k))))

pub messages_fit : (words : List Word) → IfOk (messages_of words) NamesFit
unfolding messages_of
messages_fit words = dash_or NamesFit _ [] _ tt (names_fit [] words tt)

-- ---- decisions

abbrev pub SomeFit : List Name → Type 0
SomeFit names = NamesFit names × (0 < length names)

behind_fit : (names : List Name) (parts : List Word) → NamesFit names → 0 < length names + length parts →
    IfSome (names_behind names parts) SomeFit
behind_fit names [] h some = (h, omega (arith, some))
behind_fit names (part ∷ parts) h some =
    some_bound SomeFit _ (name_of part) (name_fits part _ (λ name k. behind_fit (names ++ name ∷ []) parts (one_name_more names name h k)
    (omega (arith, length-append names (name ∷ [])))))

pub within_fit : (word : Word) → IfSome (names_within word) SomeFit
unfolding names_within
within_fit word = behind_fit [] _ tt (omega (arith, length-slice_split (λ (c : ℕ). c == 44) word))

names_alone_fit : (word : Word) → IfSome (names_within word) NamesFit
names_alone_fit word = some_weaker (names_within word) (within_fit word) (λ names h. h.0)

or_dash_fit : (word : Word) → IfSome (names_or_dash word) NamesFit
unfolding names_or_dash
or_dash_fit word = some_either NamesFit (bytes_eq word (codes "-")) _ _ tt (names_alone_fit word)

-- a decision behind the last one
record IsNext (last : ℕ) (d : Decision) : Type 0 where
  above : last < d.instance
  small : d.instance ≤ max_u32
  names : NamesFit d.names

each : {A : Type 0} {P : A → Type 0} (o : Option A) → ((x : A) → P x) → IfSome o P
each None f = tt
each (Some x) f = f x

decision_fits : (last : ℕ) (word : Word) → IfSome (decision_of last word) (IsNext last)
unfolding decision_of
decision_fits last word =
    some_bound (IsNext last) _ (parted 58 word) (each (parted 58 word)
    (λ parts. some_bound (IsNext last) _ (number_in (last + 1) max_u32 parts.0) (number_between (last + 1) max_u32 parts.0 _
    (λ i h. some_bound (IsNext last) _ (names_or_dash parts.1) (some_weaker (names_or_dash parts.1) (or_dash_fit parts.1)
    (λ names k. record { above = omega (arith, h.0); small = h.1; names = k }))))))

-- those of which more fit behind these, which end with the last
decisions_more : (decisions : List Decision) (last : ℕ) (words : List Word) →
    ((more : List Decision) → DecisionsFit last more → DecisionsFit 0 (decisions ++ more)) →
    IfOk (with_decisions decisions last words) (DecisionsFit 0)
decisions_more decisions last [] f = subst (DecisionsFit 0) (append-nil decisions) (f [] tt)
decisions_more decisions last (word ∷ words) f =
    bound (DecisionsFit 0) (ok_or (decision_of last word) _) _
    (found _ (decision_of last word) _ (some_weaker (decision_of last word) (decision_fits last word)
    (λ d h. decisions_more (decisions ++ d ∷ []) d.instance words
    (λ more k. subst (DecisionsFit 0) (sym (append_assoc decisions (d ∷ []) more)) (f (d ∷ more) (h.above, h.small, h.names, k))))))

pub decisions_fit : (words : List Word) → IfOk (decisions_of words) (DecisionsFit 0)
unfolding decisions_of
decisions_fit words = dash_or (DecisionsFit 0) _ [] _ tt (decisions_more [] 0 words (λ more h. h))

-- ---- tables

zeros_fit : TableFits zeros
zeros_fit = record { sixteen = refl; small = λ register. omega (arith, all_zero REGISTERS register) }

table_set : (values : List ℕ) (register v : ℕ) → TableFits values → register < REGISTERS → v ≤ max_u64 →
    TableFits (slice_set values register v)
table_set values register v h within k = record {
  sixteen = length-set values register v ∙ h.sixteen;
  small = λ q. elim (true_or_false (q == register)) [
    | inl is ↦
        let at : q ≡ register = eqb-true q register is in
        let same = get_or-set_same values register v 0 (omega (arith, within, h.sixteen)) in
        omega (arith, k, ap (λ i. get_or (slice_set values register v) i 0) at, same)
    | inr is ↦ omega (arith, h.small q, get_or-set_other values register q v 0 (eqb-false q register is))
  ];
}

register_fits : (values : List ℕ) (word : Word) → TableFits values → IfSome (with_register values word) TableFits
unfolding with_register
register_fits values word h =
    some_bound TableFits _ (parted 61 word) (each (parted 61 word)
    (λ parts. some_bound TableFits _ (number_in 0 15 parts.0) (number_between 0 15 parts.0 _
    (λ register l. some_bound TableFits _ (number_in 1 max_u64 parts.1) (number_between 1 max_u64 parts.1 _
    (λ v m. some_if TableFits (get_or values register 0 == 0) _
    (λ e. table_set values register v h (omega (arith, l.1)) m.1)))))))

registers_fit : (values : List ℕ) (words : List Word) → TableFits values → IfOk (with_registers values words) TableFits
registers_fit values [] h = h
registers_fit values (word ∷ words) h =
    bound TableFits (ok_or (with_register values word) _) _
    (found _ (with_register values word) _ (some_weaker (with_register values word) (register_fits values word h)
    (λ more k. registers_fit more words k)))

pub table_fits : (words : List Word) → IfOk (table_of words) TableFits
unfolding table_of
table_fits words = dash_or TableFits _ zeros _ zeros_fit (registers_fit zeros words zeros_fit)

-- ---- estimates

pub value_fits : (word : Word) → IfSome (value_of word) NamesFit
unfolding value_of
value_fits word =
    some_bound NamesFit _ (within_braces word) (each (within_braces word)
    (λ names. some_either NamesFit (bytes_eq names []) _ _ tt (names_alone_fit names)))

pub ts_fits : (words : List Word) → Gives (ts_of words) (λ n. n ≤ max_u32)
unfolding ts_of
ts_fits [] Q k = tt
ts_fits (word ∷ words) Q k = search (steps, alone_fits)

adopted_fits : (words : List Word) → IfOk (adopted_of words) EstimateFits
unfolding adopted_of
adopted_fits [] = tt
adopted_fits (word ∷ words) =
    let value = value_of (glued word words).0 in
    bound EstimateFits (ok_or value _) _
    (found _ value _ (some_weaker value (value_fits (glued word words).0)
    (λ names h. bound EstimateFits (ts_of (glued word words).1) _ (ts_fits (glued word words).1 _ (λ ts k. (h, k))))))

pub estimate_fits : (words : List Word) → IfOk (estimate_of words) (λ estimate. IfSome estimate EstimateFits)
unfolding estimate_of
estimate_fits words =
    dash_or (λ estimate. IfSome estimate EstimateFits) _ None _ tt (mapped _ _ (adopted_of words) (adopted_fits words))
