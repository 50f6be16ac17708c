-- What is read can be written.
use Rattle.std.proofs.Common.{◌≡◌, ℕ, ◌+◌, ◌-◌, ◌*◌, ◌<◌, ◌≤◌, ◌==◌, ◌||◌, Bool, true, false, cond, List, [], ◌∷◌, length, refl}
use Rattle.std.proofs.Common.{arith, leb-true, eq-eqb}
use Rattle.std.specs.Prelude.{Option, Some, None, Result, Ok, Err, IfOk, IfSome, nat_le, option_map, option_and_then}
use Rattle.std.specs.Char.{is_ascii_digit}
use Rattle.std.specs.Option.{ok_or}
use Rattle.std.proofs.lemmas.List.Splits.{length-slice_split}
use Rattle.ct_names.specs.Group.{everyone, IsMember}
use Rattle.ct_names.specs.Membership.{IsIn}
use Rattle.ct_names.specs.MemberSet.{has_member, with_member}
use Rattle.ct_names.specs.declared.limit.TheConstants.{MAX_MEMBERS}
use Rattle.ct_names.proofs.Lists.{IsIn-filter}
use Rattle.ct_names.proofs.MemberSets.{filter-has_member, in-everyone}
use Rattle.ct_grammar.specs.declared.carried.Carried.{Carried}
use Rattle.ct_grammar.specs.Acts.{operands, named_command, command_first, short_act, lose_first, picked_act, long_act, act_first}
use Rattle.ct_grammar.specs.Misfits.{told}
use Rattle.ct_grammar.specs.Leading.{over, number_first, member_first, whole_first, set_first}
use Rattle.ct_grammar.specs.Numbers.{number_behind, number_of, number_in, parted, two_numbers, with_members, members_of, max_u8, max_u32}
use Rattle.ct_grammar.specs.Picks.{serial_of, message_first, place_first, carried_first, sent_pick, pick_first}
use Rattle.ct_grammar.specs.Unfits.{◌>>=◌, map_ok}
use Rattle.ct_grammar.specs.Who.{who_of}
use Rattle.ct_grammar.specs.Words.{Word}
use Rattle.ct_print.specs.Writable.{IsSomeSet, WhoFits, CommandFits, CarriedFits, PickFits, ActFits}

-- ---- tests, and what answers are

pub either : {A E : Type 0} (P : A → Type 0) (t : Bool) (a b : Result A E) → IfOk a P → IfOk b P → IfOk (cond t a b) P
either P true a b h k = h
either P false a b h k = k

pub some_either : {A : Type 0} (P : A → Type 0) (t : Bool) (a b : Option A) → IfSome a P → IfSome b P → IfSome (cond t a b) P
some_either P true a b h k = h
some_either P false a b h k = k

pub some_if : {A : Type 0} (P : A → Type 0) (t : Bool) (x : A) → (t ≡ true → P x) → IfSome (cond t (Some x) None) P
some_if P true x h = h refl
some_if P false x h = tt

pub some_mapped : {A B : Type 0} (P : B → Type 0) (f : A → B) (o : Option A) → IfSome o (λ x. P (f x)) → IfSome (option_map f o) P
some_mapped P f None h = tt
some_mapped P f (Some x) h = h

pub some_bound : {A B : Type 0} (P : B → Type 0) (f : A → Option B) (o : Option A) → IfSome o (λ x. IfSome (f x) P) →
    IfSome (option_and_then f o) P
some_bound P f None h = tt
some_bound P f (Some x) h = h

some_weaker : {A : Type 0} {P : A → Type 0} (o : Option A) (Q : A → Type 0) → ((x : A) → P x → Q x) → IfSome o P → IfSome o Q
some_weaker None Q f h = tt
some_weaker (Some x) Q f h = f x h

pub ok_weaker : {A E : Type 0} (P Q : A → Type 0) (r : Result A E) → IfOk r P → ((x : A) → P x → Q x) → IfOk r Q
ok_weaker P Q (Ok x) h f = f x h
ok_weaker P Q (Err e) h f = tt

-- what f makes of an answer, and what stands behind one
pub mapped : {A B E : Type 0} (P : B → Type 0) (f : A → B) (r : Result A E) → IfOk r (λ x. P (f x)) → IfOk (map_ok f r) P
mapped P f (Ok x) h = h
mapped P f (Err e) h = tt

pub bound : {A B E : Type 0} (P : B → Type 0) (r : Result A E) (f : A → Result B E) → IfOk r (λ x. IfOk (f x) P) → IfOk (r >>= f) P
bound P (Ok x) f h = h
bound P (Err e) f h = tt

pub found : {A E : Type 0} (P : A → Type 0) (o : Option A) (e : E) → IfSome o P → IfOk (ok_or o e) P
found P None e h = tt
found P (Some x) e h = h

pub told_fits : {A : Type 0} (P : A → Type 0) (words : List Word) (r : Result A _) → IfOk r P → IfOk (told words r) P
told_fits P words (Ok x) h = h
told_fits P words (Err unfit) h = tt

pub unless_over : (P : Unit {0} → Type 0) (what : _) (words : List Word) → P tt → IfOk (over what words) P
unfolding over
unless_over P what [] h = h
unless_over P what (word ∷ words) h = tt

-- what an answer is made of, backwards
pub ruleset steps = (either, some_either, some_mapped, some_bound, mapped, bound, found, told_fits, unless_over)

-- P holds of the answer, where there is one: so does all that follows from P. `Leads` is of an answer with the words behind it
abbrev pub May : {A : Type 0} → Option A → (A → Type 0) → Type 1
May {A = A} o P = (Q : A → Type 0) → ((x : A) → P x → Q x) → IfSome o Q

abbrev pub Gives : {A E : Type 0} → Result A E → (A → Type 0) → Type 1
Gives {A = A} r P = (Q : A → Type 0) → ((x : A) → P x → Q x) → IfOk r Q

abbrev pub Leads : {A E : Type 0} → Result (A × List Word) E → (A → Type 0) → Type 1
Leads {A = A} r P = (Q : A × List Word → Type 0) → ((x : A × List Word) → P x.0 → Q x) → IfOk r Q

-- ---- numbers

digits_within : (high n : ℕ) (word : Word) → May (number_behind high n word) (λ m. m ≤ high)
digits_within high n [] Q k = some_if Q (nat_le n high) n (λ e. k n (leb-true n high e))
digits_within high n (c ∷ cs) Q k = some_either Q (is_ascii_digit c) _ None (digits_within high (n * 10 + (c - 48)) cs Q k) tt

pub number_within : (high : ℕ) (word : Word) → May (number_of high word) (λ m. m ≤ high)
unfolding number_of
number_within high [] Q k = tt
number_within high (c ∷ cs) Q k = digits_within high 0 (c ∷ cs) Q k

pub number_between : (low high : ℕ) (word : Word) → May (number_in low high word) (λ m. (low ≤ m) × (m ≤ high))
unfolding number_in
number_between low high word Q k =
    some_bound Q _ (number_of high word)
    (number_within high word _ (λ m h. some_if Q (nat_le low m) m (λ e. k m (leb-true low m e, h))))

pub two_within : (at high higher : ℕ) (word : Word) → May (two_numbers at high higher word) (λ r. (r.0 ≤ high) × (r.1 ≤ higher))
unfolding two_numbers
two_within at high higher word Q k =
    some_bound Q _ (parted at word) (each (parted at word)
    (λ parts. some_bound Q _ (number_of high parts.0) (number_within high parts.0 _
    (λ m h. some_bound Q _ (number_of higher parts.1) (number_within higher parts.1 _ (λ n l. k (m, n) (h, l)))))))
  where
    each : {A : Type 0} {P : A → Type 0} (o : Option A) → ((x : A) → P x) → IfSome o P
    each None f = tt
    each (Some x) f = f x

-- ---- sets

in-some : (p : ℕ) (xs : List ℕ) → IsIn p xs → 0 < length xs
in-some p [] i = absurd i
in-some p (x ∷ xs) i = omega arith

one_more : (set : List ℕ) (p : ℕ) → IsMember MAX_MEMBERS p → IsSomeSet (with_member set p)
one_more set p h =
    let test : ((p == p) || has_member set p) ≡ true = rw (same p) refl in
    record {
      rising = filter-has_member (λ q. (q == p) || has_member set q);
      some = in-some p _ (IsIn-filter (λ q. (q == p) || has_member set q) p everyone test (in-everyone p h));
    }
  where
    same : (q : ℕ) → (q == q) ≡ true
    same q = eq-eqb q q refl

with_set_is : (set : List ℕ) (parts : List Word) → (length parts ≡ 0 → IsSomeSet set) → IfSome (with_members set parts) IsSomeSet
with_set_is set [] h = h refl
with_set_is set (part ∷ parts) h =
    some_bound IsSomeSet _ (number_in 1 MAX_MEMBERS part)
    (number_between 1 MAX_MEMBERS part _ (λ p k. with_set_is (with_member set p) parts (λ e. one_more set p k)))

pub members_are_set : (word : Word) → May (members_of word) IsSomeSet
unfolding members_of
members_are_set word Q k =
    some_weaker (members_of word) Q k (with_set_is [] _ (λ e. absurd (omega (arith, length-slice_split (λ (c : ℕ). c == 44) word))))

pub who_fits : (word : Word) → IfSome (who_of word) WhoFits
unfolding who_of
who_fits word = search (steps, members_are_set, number_within)

-- ---- first words

pub number_first_fits : (low high : ℕ) (what : _) (words : List Word) →
    Leads (number_first low high what words) (λ n. (low ≤ n) × (n ≤ high))
unfolding number_first
number_first_fits low high what [] Q k = tt
number_first_fits low high what (word ∷ words) Q k = search (steps, number_between)

pub member_first_fits : (what : _) (words : List Word) → Leads (member_first what words) (λ n. n ≤ max_u8)
unfolding member_first
member_first_fits what words Q k = number_first_fits 0 max_u8 what words Q (λ r h. k r h.1)

pub whole_first_fits : (what : _) (words : List Word) → Leads (whole_first what words) (λ n. n ≤ max_u32)
unfolding whole_first
whole_first_fits what words Q k = number_first_fits 0 max_u32 what words Q (λ r h. k r h.1)

pub set_first_fits : (words : List Word) → Leads (set_first words) IsSomeSet
unfolding set_first
set_first_fits [] Q k = tt
set_first_fits (word ∷ words) Q k = search (steps, members_are_set)

-- ---- commands

operands_fit : (high : ℕ) (what : _) (words : List Word) →
    Leads (operands high what words) (λ r. (r.0 ≤ max_u8) × (r.1 ≤ high))
unfolding operands
operands_fit high what words Q k =
    bound Q (member_first _ words) _ (member_first_fits _ words _ (λ r h. bound Q (number_first 0 high what r.1) _
    (number_first_fits 0 high what r.1 _ (λ n m. k ((r.0, n.0), n.1) (h, m.1)))))

pub command_fits : (what : _) (words : List Word) → Leads (command_first what words) CommandFits
unfolding command_first named_command
command_fits what [] Q k = tt
command_fits what (name ∷ words) Q k = search (steps, operands_fit) depth 8

-- ---- envelopes

message_fits : (words : List Word) → Leads (message_first words) CarriedFits
unfolding message_first
message_fits [] Q k = tt
message_fits (word ∷ words) Q k = search (steps, two_within)

place_fits : (words : List Word) → Leads (place_first words) (λ r. (r.0 ≤ max_u32) × (r.1 ≤ max_u32))
unfolding place_first
place_fits [] Q k = tt
place_fits (word ∷ words) Q k = search (steps, two_within)

carried_fits : (what : _) (kind : Word) (words : List Word) → Leads (carried_first what kind words) CarriedFits
unfolding carried_first
carried_fits what kind words Q k = search (steps, message_fits, place_fits) depth 12

sent_fits : (carried : Carried) (words : List Word) → CarriedFits carried → Leads (sent_pick carried words) PickFits
unfolding sent_pick
sent_fits carried [] h Q k = search
sent_fits carried (word ∷ words) h Q k = search (steps, member_first_fits)

serial_fits : (word : Word) → May (serial_of word) (λ n. n ≤ max_u32)
unfolding serial_of
serial_fits [] Q k = tt
serial_fits (c ∷ cs) Q k = search (steps, number_within)

pub pick_fits : (what : _) (words : List Word) → Leads (pick_first what words) PickFits
unfolding pick_first
pick_fits what [] Q k = tt
pick_fits what (word ∷ words) Q k = search (steps, serial_fits, carried_fits, sent_fits) depth 8

-- ---- acts

short_fits : (name : Word) → May (short_act name) ActFits
unfolding short_act
short_fits name Q k = search steps depth 14

lost_fits : (words : List Word) → Leads (lose_first words) ActFits
unfolding lose_first
lost_fits [] Q k = tt
lost_fits (word ∷ words) Q k = search (steps, set_first_fits, pick_fits)

picked_fits : (what : _) (name : Word) (words : List Word) → Leads (picked_act what name words) ActFits
unfolding picked_act
picked_fits what name words Q k = search (steps, pick_fits, short_fits) depth 12

pub act_fits : (what : _) (words : List Word) → Leads (act_first what words) ActFits
unfolding act_first long_act
act_fits what [] Q k = tt
act_fits what (name ∷ words) Q k = search (steps, command_fits, member_first_fits, lost_fits, picked_fits) depth 8
