-- Commands and steps by their names.
use Rattle.ct_records.proofs.Common.{◌≡◌, ℕ, ◌≤◌, Bool, true, false, List, [], ◌∷◌, ◌++◌, length, Option, Some, None, refl, sym, ap, arith}
use Rattle.ct_records.proofs.Common.{map, option_and_then, if◌then◌else◌, bytes_eq, leb-true, quoted, are_ascii, Command, Step, Submit}
use Rattle.ct_records.proofs.Common.{Number, Rest, nothing, command, amount, command_entry, step_entry, CommandFits}
use Rattle.std.proofs.lemmas.Slice.Eq.{bytes_eq-Decides}
use Rattle.json.proofs.OnLiterals.{json_on_literals}
use Rattle.ct_names.specs.declared.command.Command.TheVariants.{Set}
use Rattle.ct_model.specs.StepText.{number, Entry}
use Rattle.ct_records.specs.Names.{named, fits, rest_fits, commands, named_command, alone, with_number, with_command, short_step}
use Rattle.ct_records.specs.Names.{numbered_step, commanded_step}

-- a name of eight letters at most, none of which is escaped
pub record IsName (s : List ℕ) : Type 0 where
  pub plain : quoted s ≡ 34 ∷ (s ++ 34 ∷ [])
  pub ascii : are_ascii s ≡ true
  pub short : length s ≤ 8

pub step_name : (s : Step) → IsName (step_entry s).name
unfolding json_on_literals
step_name (Submit p c) = record { plain = refl; ascii = refl; short = omega arith }
step_name _ = record { plain = refl; ascii = refl; short = omega arith }

pub command_name : (c : Command) → IsName (command_entry c).name
unfolding json_on_literals
command_name (Set register n) = record { plain = refl; ascii = refl; short = omega arith }
command_name _ = record { plain = refl; ascii = refl; short = omega arith }

-- ---- a table of names

-- what a table gives by a name has that name, and a part that all its entries share
named_has : {A B C : Type 0} (shown : A → Entry B) (part : A → C) (y : C) (name : List ℕ) (xs : List A) (x : A) →
    map part xs ≡ map (λ _. y) xs → named shown name xs ≡ Some x → ((shown x).name ≡ name) × (part x ≡ y)
named_has shown part y name [] x all e = absurd cc
named_has {A} shown part y name (z ∷ zs) x all e = go (bytes_eq name (shown z).name) refl e (named_has shown part y name zs x (cc all))
  where
    go : (b : Bool) → bytes_eq name (shown z).name ≡ b → (if b then Some z else named shown name zs) ≡ Some x →
        (named shown name zs ≡ Some x → ((shown x).name ≡ name) × (part x ≡ y)) → ((shown x).name ≡ name) × (part x ≡ y)
    go true same is later =
        let here : z ≡ x = cc is in
        let shared : part z ≡ y = cc all in
        rw (← here) (sym ((bytes_eq-Decides name (shown z).name).0 same), shared)
    go false other is later = later is

-- the number that is tested is the one that passes
if_fits : {A : Type 0} (b : Bool) (x y : A) → (if b then Some x else None) ≡ Some y → (b ≡ true) × (x ≡ y)
if_fits true x y e = (refl, cc e)
if_fits false x y e = absurd cc

-- ---- what the name gives

-- a register and a number
abbrev register_and_number : Command → ℕ × ℕ
register_and_number c = ((command_entry c).first, amount (command_entry c).rest)

pub command_has : (name : List ℕ) (register n : ℕ) (c : Command) → named_command name register n ≡ Some c →
    ((command_entry c).name ≡ name) × ((command_entry c).first ≡ register) × (amount (command_entry c).rest ≡ n)
    × (fits (command_entry c).rest ≡ true)
unfolding named_command
command_has name register n c e = go (named command_entry name (commands register n)) refl e
  where
    go : (o : Option Command) → named command_entry name (commands register n) ≡ o →
        option_and_then (λ c. if fits (command_entry c).rest then Some c else None) o ≡ Some c →
        ((command_entry c).name ≡ name) × ((command_entry c).first ≡ register) × (amount (command_entry c).rest ≡ n)
        × (fits (command_entry c).rest ≡ true)
    go None found is = absurd cc
    go (Some d) found is =
        let both = if_fits (fits (command_entry d).rest) d c is in
        let has = named_has command_entry register_and_number (register, n) name (commands register n) d refl found in
        rw (← both.1) (has.0, ap (λ t. t.0) has.1, ap (λ t. t.1) has.1, both.0)

-- a member and what stands behind it
abbrev member_and_rest : Step → ℕ × Rest
member_and_rest s = ((step_entry s).first, (step_entry s).rest)

-- the step of a name, a member and nothing more
pub short_has : (name : List ℕ) (p : ℕ) (s : Step) → short_step name p ≡ Some s →
    ((step_entry s).name ≡ name) × ((step_entry s).first ≡ p) × ((step_entry s).rest ≡ nothing)
unfolding short_step
short_has name p s e =
    let has = named_has step_entry member_and_rest (p, nothing) name (alone p) s refl e in
    (has.0, ap (λ t. t.0) has.1, ap (λ t. t.1) has.1)

pub commanded_has : (name : List ℕ) (p : ℕ) (c : Command) (s : Step) → commanded_step name p c ≡ Some s →
    ((step_entry s).name ≡ name) × ((step_entry s).first ≡ p) × ((step_entry s).rest ≡ command c)
unfolding commanded_step
commanded_has name p c s e =
    let has = named_has step_entry member_and_rest (p, command c) name (with_command p c) s refl e in
    (has.0, ap (λ t. t.0) has.1, ap (λ t. t.1) has.1)

-- the number that the rest is
abbrev number_of : Rest → Option ℕ
number_of (number x) = Some (amount x)
number_of _ = None

-- a member and that number
abbrev member_and_number : Step → ℕ × Option ℕ
member_and_number s = ((step_entry s).first, number_of (step_entry s).rest)

is_numbered : (n : ℕ) (r : Rest) → number_of r ≡ Some n → (x : Number) × (r ≡ number x) × (amount x ≡ n)
is_numbered n (number x) e = (x, refl, cc e)
is_numbered n _ e = absurd cc

pub numbered_has : (name : List ℕ) (p n : ℕ) (s : Step) → numbered_step name p n ≡ Some s →
    ((step_entry s).name ≡ name) × ((step_entry s).first ≡ p) × ((x : Number) × ((step_entry s).rest ≡ number x) × (amount x ≡ n))
unfolding numbered_step
numbered_has name p n s e = go (named step_entry name (with_number p n)) refl e
  where
    go : (o : Option Step) → named step_entry name (with_number p n) ≡ o →
        option_and_then (λ s. if rest_fits (step_entry s).rest then Some s else None) o ≡ Some s →
        ((step_entry s).name ≡ name) × ((step_entry s).first ≡ p) × ((x : Number) × ((step_entry s).rest ≡ number x) × (amount x ≡ n))
    go None found is = absurd cc
    go (Some d) found is =
        let both = if_fits (rest_fits (step_entry d).rest) d s is in
        let has = named_has step_entry member_and_number (p, Some n) name (with_number p n) d refl found in
        rw (← both.1) (has.0, ap (λ t. t.0) has.1, is_numbered n (step_entry d).rest (ap (λ t. t.1) has.1))

-- ---- what has the name

-- the steps that have the same rest
abbrev pub alike : ℕ → Rest → List Step
alike p nothing = alone p
alike p (number x) = with_number p (amount x)
alike p (command c) = with_command p c

pub step_found : (s : Step) → named step_entry (step_entry s).name (alike (step_entry s).first (step_entry s).rest) ≡ Some s
unfolding json_on_literals
step_found (Submit p c) = refl
step_found _ = refl

pub command_found : (c : Command) →
    named command_entry (command_entry c).name (commands (command_entry c).first (amount (command_entry c).rest)) ≡ Some c
unfolding json_on_literals
command_found (Set register n) = refl
command_found _ = refl

pub command_is : (name : List ℕ) (register n : ℕ) (c : Command) → register ≤ 255 → named_command name register n ≡ Some c →
    ((command_entry c).name ≡ name) × ((command_entry c).first ≡ register) × (amount (command_entry c).rest ≡ n) × CommandFits c
command_is name register n c small e =
    let h = command_has name register n c e in
    (h.0, h.1, h.2, (rw h.1 small, leb-true _ _ h.3))
