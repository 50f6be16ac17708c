-- The numbers of a record that is read fit the fields that hold them.
use Rattle.ct_laws.proofs.Finding.{Each, each_one}
use Rattle.std.proofs.lemmas.Option.{cond_some}
use Rattle.std.proofs.Common.{◌≡◌, ℕ, ◌+◌, ◌≤◌, Bool, true, false, List, [], ◌∷◌, Option, Some, None, Result, Ok, Err, refl, subst}
use Rattle.std.proofs.Common.{arith}
use Rattle.std.proofs.lemmas.Bool.{and_parts, leb-true}
use Rattle.std.specs.Option.{option_map_or}
use Rattle.std.specs.Prelude.{◌==◌, ◌&&◌, if◌then◌else◌, codes, length, nat_le, nat_lt, ok_or, option_and_then}
use Rattle.serde_json.specs.Data.{Data}
use Rattle.serde_json.specs.Find.{as_number, as_object, as_str, as_u64, get}
use Rattle.ct_names.specs.declared.command.Command.{Command}
use Rattle.ct_names.specs.declared.limit.TheConstants.{MAX_BOUND, MAX_CELLS, MAX_MEMBERS}
use Rattle.ct_names.specs.Membership.{IsIn}
use Rattle.ct_model.specs.declared.step.Step.{Step}
use Rattle.ct_model.specs.Rehearsal.{Rehearsal}
use Rattle.ct_model.specs.StepText.{Entry, step_entry}
use Rattle.ct_model.specs.When.{when}
use Rattle.ct_model.proofs.Basics.Options.{made-then, some-same, when-is}
use Rattle.ct_records.specs.declared.read_fault.ReadFault.{ReadFault}
use Rattle.ct_records.specs.declared.read_fault.ReadFault.TheVariants.{NotJson, Shape, TooLong}
use Rattle.ct_records.specs.Fits.{AllFit, CommandFits, StepFits}
use Rattle.ct_records.specs.Script.{◌>>=◌, alone, bound_in, byte_of, command_of, command_parts, commanded_step, count_of, data_of, keys}
use Rattle.ct_records.specs.Script.{list_in, long_step, max_len, named, named_command, numbered_step, of_value, rehearsal_in, rest_fits}
use Rattle.ct_records.specs.Script.{script, short_step, since, step_in, step_of, step_parts, steps_of, value_of, whole_of, with_command}
use Rattle.ct_records.specs.Script.{with_number}
use Rattle.ct_records.proofs.Names.{command_is}
use Rattle.ct_laws.specs.Fitting.{IsFitting}

-- ---- what is there where a reader takes it

-- the value that a reader went on with
record Goes {A B : Type 0} (o : Option A) (f : A → Result B ReadFault) (y : B) : Type 0 where
  from : A
  is : o ≡ Some from
  gives : f from ≡ Ok y

goes : {A B : Type 0} (o : Option A) (fault : ReadFault) (f : A → Result B ReadFault) (y : B) → (ok_or o fault >>= f) ≡ Ok y → Goes o f y
goes None fault f y e = absurd (cc)
goes (Some x) fault f y e = record { from = x; is = refl; gives = e }

record Ends {A B : Type 0} (r : Result A ReadFault) (f : A → Result B ReadFault) (y : B) : Type 0 where
  from : A
  is : r ≡ Ok from
  gives : f from ≡ Ok y

ends : {A B : Type 0} (r : Result A ReadFault) (f : A → Result B ReadFault) (y : B) → (r >>= f) ≡ Ok y → Ends r f y
ends (Err fault) f y e = absurd (cc)
ends (Ok x) f y e = record { from = x; is = refl; gives = e }

ok_same : {A : Type 0} (x y : A) → (let r : Result A ReadFault = Ok x in r ≡ Ok y) → x ≡ y
ok_same x y e = cc

-- the branch that was taken
taken : {A : Type 0} (b : Bool) (r : Result A ReadFault) (fault : ReadFault) (y : A) → (if b then r else Err fault) ≡ Ok y → r ≡ Ok y
taken b r fault y e = grind arith

other : {A : Type 0} (b : Bool) (r : Result A ReadFault) (fault : ReadFault) (y : A) → (if b then Err fault else r) ≡ Ok y → r ≡ Ok y
other b r fault y e = grind arith

-- ---- numbers

whole_within : (low high : ℕ) (d : Data) (n : ℕ) → whole_of low high d ≡ Some n → (low ≤ n) × (n ≤ high)
unfolding whole_of
whole_within low high d n e =
    let number = made-then (λ x. if nat_le low x && nat_le x high then Some x else None) (option_and_then as_u64 (as_number d)) n e in
    let passed = cond_some (nat_le low number.from && nat_le number.from high) number.from n number.gives in
    let both = and_parts (nat_le low number.from) (nat_le number.from high) passed.0 in
    subst (λ x. (low ≤ x) × (x ≤ high)) passed.1 (leb-true low number.from both.0, leb-true number.from high both.1)

byte_low : (d : Data) (n : ℕ) → byte_of d ≡ Some n → n ≤ 255
byte_low d n e = (whole_within 0 255 d n e).1

-- ---- commands and steps

-- what a table gives by a name is in it
in_named : {A B : Type 0} (shown : A → Entry B) (name : List ℕ) (xs : List A) (x : A) → named shown name xs ≡ Some x → IsIn x xs
in_named shown name [] x e = absurd (cc)
in_named shown name (y ∷ xs) x e = grind (arith, in_named shown name xs)

command_list : (ds : List Data) (c : Command) → command_parts ds ≡ Some c → CommandFits c
command_list [] c e = absurd (cc)
command_list (name ∷ []) c e = absurd (cc)
command_list (name ∷ register ∷ []) c e = absurd (cc)
command_list (name ∷ register ∷ d ∷ []) c e =
    let s = made-then (λ s. option_and_then (λ r. option_and_then (named_command s r) (value_of d)) (byte_of register))
    (as_str name) c e in
    let r = made-then (λ r. option_and_then (named_command s.from r) (value_of d)) (byte_of register) c s.gives in
    let n = made-then (named_command s.from r.from) (value_of d) c r.gives in
    (command_is s.from r.from n.from c (byte_low register r.from r.is) n.gives).3
command_list (name ∷ register ∷ d ∷ more ∷ rest) c e = absurd (cc)

command_fits : (d : Data) (c : Command) → command_of d ≡ Some c → CommandFits c
unfolding command_of
command_fits d c e = let list = made-then command_parts (list_in d) c e in command_list list.from c list.gives

short_fits : (name : List ℕ) (p : ℕ) (s : Step) → p ≤ 255 → short_step name p ≡ Some s → StepFits s
unfolding short_step
short_fits name p s h e =
    let all : Each StepFits (alone p) = ((h, tt), ((h, tt), ((h, tt), ((h, tt), ((h, tt), ((h, tt), ((h, tt), ((h, tt), tt)))))))) in
    each_one StepFits (alone p) s all (in_named step_entry name (alone p) s e)

-- where the rest fits, the step does
abbrev FitsIf : Step → Type 0
FitsIf s = rest_fits (step_entry s).rest ≡ true → StepFits s

numbered_fits : (name : List ℕ) (p n : ℕ) (s : Step) → p ≤ 255 → numbered_step name p n ≡ Some s → StepFits s
unfolding numbered_step
numbered_fits name p n s h e =
    let made = made-then (λ s. if rest_fits (step_entry s).rest then Some s else None) (named step_entry name (with_number p n)) s e in
    let passed = cond_some (rest_fits (step_entry made.from).rest) made.from s made.gives in
    let serial : (nat_le n 4294967295 ≡ true) → (p ≤ 255) × (n ≤ 4294967295) = λ b. (h, leb-true n 4294967295 b) in
    let all : Each FitsIf (with_number p n) = (serial, ((λ b. (h, leb-true n 255 b)), (serial, (serial, (serial, tt))))) in
    subst StepFits passed.1
    (each_one FitsIf (with_number p n) made.from all (in_named step_entry name (with_number p n) made.from made.is) passed.0)

commanded_fits : (name : List ℕ) (p : ℕ) (c : Command) (s : Step) → p ≤ 255 → CommandFits c → commanded_step name p c ≡ Some s → StepFits s
unfolding commanded_step
commanded_fits name p c s h fits e =
    each_one StepFits (with_command p c) s ((h, fits), tt) (in_named step_entry name (with_command p c) s e)

long_fits : (name : List ℕ) (p : ℕ) (d : Data) (s : Step) → p ≤ 255 → long_step name p d ≡ Some s → StepFits s
unfolding long_step
long_fits name p d s h e = go (value_of d) e
  where
    go : (o : Option ℕ) → option_map_or (numbered_step name p) o (option_and_then (commanded_step name p) (command_of d)) ≡ Some s →
        StepFits s
    go (Some n) same = numbered_fits name p n s h same
    go None same =
        let c = made-then (commanded_step name p) (command_of d) s same in
        commanded_fits name p c.from s h (command_fits d c.from c.is) c.gives

step_list : (ds : List Data) (s : Step) → step_parts ds ≡ Some s → StepFits s
step_list [] s e = absurd (cc)
step_list (name ∷ []) s e = absurd (cc)
step_list (name ∷ p ∷ []) s e =
    let word = made-then (λ x. option_and_then (short_step x) (byte_of p)) (as_str name) s e in
    let q = made-then (short_step word.from) (byte_of p) s word.gives in
    short_fits word.from q.from s (byte_low p q.from q.is) q.gives
step_list (name ∷ p ∷ d ∷ []) s e =
    let word = made-then (λ x. option_and_then (λ q. long_step x q d) (byte_of p)) (as_str name) s e in
    let q = made-then (λ q. long_step word.from q d) (byte_of p) s word.gives in
    long_fits word.from q.from d s (byte_low p q.from q.is) q.gives
step_list (name ∷ p ∷ d ∷ more ∷ rest) s e = absurd (cc)

step_fits : (version : ℕ) (d : Data) (s : Step) → step_in version d ≡ Some s → StepFits s
unfolding step_in step_of
step_fits version d s e =
    let read = made-then (λ s. when (nat_le (since s) version) s) (step_of d) s e in
    let list = made-then step_parts (list_in d) read.from read.is in
    subst StepFits (when-is (nat_le (since read.from) version) read.from s read.gives).1 (step_list list.from read.from list.gives)

steps_fit : (version at : ℕ) (ds : List Data) (ss : List Step) → steps_of version at ds ≡ Ok ss → AllFit ss
unfolding steps_of
steps_fit version at [] ss e = subst AllFit (ok_same [] ss e) tt
steps_fit version at (d ∷ ds) ss e =
    let first = goes (step_in version d) (Shape at) _ ss e in
    let later = ends (steps_of version (at + 1) ds) (λ rest. Ok (first.from ∷ rest)) ss first.gives in
    subst AllFit (ok_same (first.from ∷ later.from) ss later.gives)
    (step_fits version d first.from first.is, steps_fit version (at + 1) ds later.from later.is)

-- ---- the whole

bound_low : (version : ℕ) (d : Data) (bound : ℕ) → bound_in version d ≡ Some bound → bound ≤ MAX_BOUND
unfolding bound_in
bound_low version d bound e = go (version == 3) e
  where
    go : (b : Bool) → (if b then option_and_then (whole_of 1 MAX_BOUND) (get (codes "batch") d) else Some MAX_BOUND) ≡ Some bound →
        bound ≤ MAX_BOUND
    go true same =
        let n = made-then (whole_of 1 MAX_BOUND) (get (codes "batch") d) bound same in (whole_within 1 MAX_BOUND n.from bound n.gives).1
    go false same = subst (λ n. n ≤ MAX_BOUND) (some-same MAX_BOUND bound same) (omega arith)

rehearsal_fits : (version : ℕ) (d : Data) (w : Rehearsal) → rehearsal_in version d ≡ Ok w → IsFitting w
unfolding rehearsal_in
rehearsal_fits version d w e =
    let n = goes (option_and_then (whole_of 1 MAX_MEMBERS) (get (codes "n") d)) (Shape 0) _ w e in
    let bound = goes (bound_in version d) (Shape 0) _ w n.gives in
    let cells = goes (option_and_then (whole_of 0 MAX_CELLS) (get (codes "cells") d)) (Shape 0) _ w bound.gives in
    let ds = goes (option_and_then list_in (get (codes "steps") d)) (Shape 0) _ w cells.gives in
    let ss = ends (steps_of version 1 ds.from) _ w ds.gives in
    let members = made-then (whole_of 1 MAX_MEMBERS) (get (codes "n") d) n.from n.is in
    let within = whole_within 1 MAX_MEMBERS members.from n.from members.gives in
    let room = made-then (whole_of 0 MAX_CELLS) (get (codes "cells") d) cells.from cells.is in
    subst IsFitting (ok_same _ w ss.gives) (record {
      some_members = within.0;
      few_members = within.1;
      few_bound = bound_low version d bound.from bound.is;
      few_cells = (whole_within 0 MAX_CELLS room.from cells.from room.gives).1;
      fit = steps_fit version 1 ds.from ss.from ss.is;
    })

value_fits : (d : Data) (w : Rehearsal) → of_value d ≡ Ok w → IsFitting w
unfolding of_value
value_fits d w e =
    let ms = goes (as_object d) (Shape 0) _ w e in
    let version = goes (option_and_then value_of (get (codes "version") d)) (Shape 0) _ w ms.gives in
    let known = taken (nat_le 1 version.from && nat_le version.from 3) _ _ w version.gives in
    rehearsal_fits version.from d w (taken (count_of ms.from == keys version.from) _ _ w known)

pub script_fits : (input : List ℕ) (w : Rehearsal) → script input ≡ Ok w → IsFitting w
unfolding script
script_fits input w e =
    let short = other (nat_lt max_len (length input)) (ok_or (data_of input) NotJson >>= of_value) TooLong w e in
    let d = goes (data_of input) NotJson of_value w short in
    value_fits d.from w d.gives
