-- Facts of what a member delivered, and of its table.
use Rattle.std.proofs.Common.{◌≡◌, ◌≤◌, ◌<◌, ℕ, zero, suc, ◌+◌, ◌==◌, true, List, [], ◌∷◌, ◌++◌, length, map, take, get_or, refl, sym, ap}
use Rattle.std.proofs.Common.{◌∙◌, arith, inl, inr, eqb-true, ltb-true, ltb-false, length-set, Option, Some, None}
use Rattle.std.specs.Prelude.{nat_lt, slice_get, unwrap_or}
use Rattle.std.specs.List.{list_all, zip}
use Rattle.std.proofs.lemmas.Bool.Decides.{nat_tests}
use Rattle.std.proofs.lemmas.Bool.{eqb-false}
use Rattle.std.proofs.lemmas.List.{length-map, map-append, take_more, get_or_past}
use Rattle.std.proofs.lemmas.Option.{unwrap_or-slice_get}
use Rattle.std.proofs.lemmas.Slice.Eq.{bytes_eq-Decides}
use Rattle.ct_names.proofs.Lists.{true_or_false}
use Rattle.ct_names.specs.Group.{is_member}
use Rattle.ct_names.specs.Membership.{IsIn}
use Rattle.ct_names.specs.Message.{Message}
use Rattle.ct_names.specs.declared.command.Command.{Command}
use Rattle.ct_names.specs.declared.command.Command.TheVariants.{Set, Add, Copy}
use Rattle.ct_names.specs.declared.limit.TheConstants.{REGISTERS}
use Rattle.ct_model.specs.Rehearsal.{Rehearsal, state_of}
use Rattle.ct_model.specs.Run.{run}
use Rattle.ct_model.specs.Safe.{IsSafe}
use Rattle.ct_model.specs.State.{delivered}
use Rattle.ct_model.specs.declared.step.Step.{Step}
use Rattle.ct_model.proofs.Relay.Integrity.{knows-run}
use Rattle.ct_names.proofs.Values
use Rattle.ct_table.specs.Table.{applied, applied_all, table, zeros}
use Rattle.ct_world.specs.World.{member_of, of_member}
use Rattle.ct_text.specs.Lists.{first_registers, list_text, nonzero, register_text, register_texts, table_text}
use Rattle.ct_grammar.specs.Numbers.{max_u64}
use Rattle.ct_grammar.specs.Words.{Word}
use Rattle.ct_grammar.specs.declared.claim.Name.{Name}
use Rattle.ct_grammar.specs.declared.fact.Fact.TheVariants.{Delivered, Table}
use Rattle.ct_play.specs.Facts.{are_named, is_named, the_name}
use Rattle.ct_play.specs.Played.{Played}
use Rattle.ct_play.specs.Strangers as strangers
use Rattle.ct_listing.specs.Expecting.{IsThere}
use Rattle.ct_listing.specs.Leading.{one_line}
use Rattle.ct_print.specs.Facts.{fact_text}
use Rattle.ct_print.specs.Reports.{name_text}
use Rattle.ct_print.specs.Writable.{NameFits, NamesFit}
use Rattle.ct_listing.proofs.Pieces.{Pieces, joined_line, pair_piece}

list_line : (words : List Word) → Pieces words → one_line (list_text 32 words) ≡ true
list_line [] h = refl
list_line (word ∷ words) h = joined_line (word ∷ words) h

-- ---- messages and registers

name_pieces : (names : List Name) → Pieces (map name_text names)
unfolding name_text
name_pieces [] = tt
name_pieces (name ∷ names) = (pair_piece name.origin 46 name.number refl, name_pieces names)

pieces_append : (words others : List Word) → Pieces words → Pieces others → Pieces (words ++ others)
pieces_append [] others h k = k
pieces_append (word ∷ words) others h k = (h.0, pieces_append words others h.1 k)

register_pieces : (register : ℕ) (value : Option ℕ) → Pieces (register_texts register value)
unfolding register_text
register_pieces register None = tt
register_pieces register (Some value) = (pair_piece register 61 value refl, tt)

table_pieces : (values : List ℕ) (k : ℕ) → Pieces (first_registers values k)
table_pieces values zero = tt
table_pieces values (suc k) =
    pieces_append (first_registers values k) (register_texts k (nonzero (get_or values k 0))) (table_pieces values k)
    (register_pieces k (nonzero (get_or values k 0)))

-- ---- what is said of them

self_named : (m : Message) → is_named (the_name m) m ≡ true
self_named m = grind (arith, nat_tests)

each_named : (list : List Message) → list_all (λ pair. is_named pair.0 pair.1) (zip (map the_name list) list) ≡ true
each_named [] = refl
each_named (m ∷ list) = rw (self_named m) (each_named list)

all_named : (list : List Message) → are_named (map the_name list) list ≡ true
all_named list =
    let same : (length (map the_name list) == length list) ≡ true = grind (arith, nat_tests, length-map list the_name) in
    rw (same, each_named list) refl

-- the origins of what was delivered are members of the group
origins_known : (n : ℕ) (list : List Message) → ((m : Message) → IsIn m list → is_member n m.origin ≡ true) →
    strangers.origin n (map the_name list) ≡ None
origins_known n [] h = refl
origins_known n (m ∷ list) h = rw (h m (inl refl)) (origins_known n list (λ x i. h x (inr i)))

delivered_known : (w : Rehearsal) (p : ℕ) → run w.setting w.steps ≡ Some (state_of w) → IsSafe w.setting (state_of w) →
    is_member w.setting.members p ≡ true → strangers.origin w.setting.members (map the_name (delivered (member_of w p))) ≡ None
delivered_known w p runs safe member =
    origins_known w.setting.members (delivered (member_of w p)) (λ m i.
    (knows-run w.setting w.steps (state_of w) runs).origin m (Values.has-in (state_of w).submitted m
    (safe.submitted p m (grind (arith, nat_tests), grind (arith, nat_tests)) i)))

pub delivered_there : (s : Played) (p : ℕ) (r : Rehearsal) (steps : List Step) (names : List Name) → r ≡ s.rehearsal → steps ≡ r.steps →
    run r.setting steps ≡ Some (state_of r) → IsSafe r.setting (state_of r) → is_member s.rehearsal.setting.members p ≡ true →
    names ≡ map the_name (delivered (member_of s.rehearsal p)) → NamesFit names → IsThere s p (Delivered names)
unfolding fact_text
delivered_there s p r steps names here is runs safe member e fit = record {
  same = rw e (all_named (delivered (member_of s.rehearsal p)));
  known = rw e (delivered_known s.rehearsal p (rw here at (rw is at runs)) (rw here at safe) member);
  fits = fit;
  line = list_line (map name_text names) (name_pieces names);
}

-- ---- what calls tell

-- of a member of the group
pub of_the_group : {A : Type 0} (w : Rehearsal) (p : ℕ) (x y : A) → is_member w.setting.members p ≡ true → Some x ≡ of_member w p y → x ≡ y
of_the_group w p x y member e =
    let same : Some x ≡ Some y = rw member at e in
    cc

-- of one more message
pub one_more : (names new : List Name) (messages : List Message) (i a b : ℕ) (m : Message) → names ≡ map the_name (take i messages) →
    i < length messages → m ≡ get_or messages i m → a ≡ m.origin → b ≡ m.number → new ≡ names ++ record { origin = a; number = b } ∷ [] →
    new ≡ map the_name (take (i + 1) messages)
one_more names new messages i a b m h within is origin number e =
    e
    ∙ rw (origin, number, h) (sym (map-append the_name (take i messages) (m ∷ []))
    ∙ (ap (λ (x : Message). map the_name (take i messages ++ x ∷ [])) is
    ∙ ap (map the_name) (sym (take_more messages i m within))))

pub one_more_fits : (names : List Name) (name : Name) → NamesFit names → NameFits name → NamesFit (names ++ name ∷ [])
one_more_fits [] name h k = (k, tt)
one_more_fits (first ∷ names) name h k = (h.0, one_more_fits names name h.1 k)

-- of one more register
pub small_more : (values : List ℕ) (k v : ℕ) (o : Option ℕ) → ((q : ℕ) → q < k → get_or values q 0 ≤ max_u64) →
    o ≡ slice_get values k → v ≡ unwrap_or o 0 → v ≤ max_u64 → (q : ℕ) → q < k + 1 → get_or values q 0 ≤ max_u64
small_more values k v o h e f small q l =
    let same : v ≡ get_or values k 0 = f ∙ ap (λ o. unwrap_or o 0) e ∙ unwrap_or-slice_get values k 0 in
    elim (true_or_false (q == k)) [
      | inl is ↦ omega (arith, small, same, ap (λ i. get_or values i 0) (eqb-true q k is))
      | inr is ↦ h q (omega (arith, l, eqb-false q k is))
    ]

-- ---- tables

length-applied : (values : List ℕ) (c : Command) → length (applied values c) ≡ length values
length-applied values (Set register value) = length-set values register value
length-applied values (Add register amount) = length-set values register _
length-applied values (Copy from to) = length-set values to _

length-applied_all : (messages : List Message) (values : List ℕ) → length (applied_all values messages) ≡ length values
length-applied_all [] values = refl
length-applied_all (m ∷ messages) values = length-applied_all messages (applied values m.command) ∙ length-applied values m.command

pub table_there : (s : Played) (p : ℕ) (values : List ℕ) → values ≡ table (delivered (member_of s.rehearsal p)) →
    ((q : ℕ) → q < REGISTERS → get_or values q 0 ≤ max_u64) → IsThere s p (Table values)
unfolding fact_text table_text
table_there s p values e small = record {
  same = (bytes_eq-Decides (table (delivered (member_of s.rehearsal p))) values).1 (sym e);
  known = refl;
  fits = record {
    sixteen = sixteen;
    small = λ q. elim (true_or_false (nat_lt q REGISTERS)) [
      | inl is ↦ small q (ltb-true q REGISTERS is)
      | inr is ↦ omega (arith, get_or_past values q 0 (omega (arith, ltb-false q REGISTERS is, sixteen)))
    ];
  };
  line = list_line (first_registers values 16) (table_pieces values 16);
}
  where
    sixteen : length values ≡ REGISTERS
    sixteen = ap length e ∙ length-applied_all (delivered (member_of s.rehearsal p)) zeros
