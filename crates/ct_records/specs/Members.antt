-- The members of a record, and where its numbers stand in its text.
use Rattle.std.specs.Prelude.{◌≡◌, ◌⊎◌, ℕ, ◌<◌, ◌≤◌, true, List, ◌∷◌, ◌++◌, codes, Option, Some, None, option_map}
use Rattle.json.specs.Token as json
use Rattle.json.specs.Token.{begin_array, string}
use Rattle.json.specs.Json as tree
use Rattle.json.specs.Lex.{Lexeme, token, colon, Place, may_begin, punctuate, after_value}
use Rattle.json.specs.Tree.{json_tokens, members_tokens, depth, members_depth}
use Rattle.json.specs.Word.{ends_word}
use Rattle.serde_json.specs.Data.{Data, array, Members, no_members, member, put}
use Rattle.serde_json.specs.Read.{of_json, of_members}
use Rattle.serde_json.specs.Written.{outline}
use Rattle.ct_names.specs.declared.limit.TheConstants.{MAX_BOUND}
use Rattle.ct_model.specs.declared.step.Step.{Step}
use Rattle.ct_records.specs.Lexemes.{lexemes, Begins, IsPlain}
use Rattle.ct_records.specs.Values.{num, steps_data}
use Rattle.ct_records.specs.declared.numbers.Numbers.{Numbers}

-- the members, with one in front where there is a value
abbrev pub member_if : List ℕ → Option Data → Members → Members
member_if key None ms = ms
member_if key (Some d) ms = member key d ms

abbrev pub members_from : Option ℕ → Option ℕ → Option ℕ → Option (List Step) → Option ℕ → Members
members_from batch cells n steps version =
    member_if (codes "batch") (option_map num batch) (member_if (codes "cells") (option_map num cells)
    (member_if (codes "n") (option_map num n) (member_if (codes "steps") (option_map (λ ss. array (steps_data ss)) steps)
    (member_if (codes "version") (option_map num version) no_members))))

-- the value is put at the key
abbrev pub Adds : List ℕ → Data → Members → Members → Type 0
Adds key d old new = IsPlain key × (put key d old ≡ new)

-- a key with its value stands in front, and takes the members from old to new
pub record Takes (bytes : List ℕ) (old new : Members) (after : List ℕ) : Type 0 where
  pub key : List ℕ
  pub entry : Data
  pub tokens : (p : Place) → may_begin p ≡ true → ends_word after ≡ true →
      punctuate p (lexemes bytes) ≡ json.key key ∷ (json_tokens (outline entry) ++ punctuate after_value (lexemes after))
  pub converts : of_json (outline entry) ≡ Some entry
  pub shallow : depth (outline entry) ≤ 3
  pub puts : put key entry old ≡ new

-- all of the bytes, behind the bracket that opens an object, are these members
pub record Closes (bytes : List ℕ) (found : Members) : Type 0 where
  pub trees : tree.Members
  pub tokens : (p : Place) → may_begin p ≡ true → punctuate p (lexemes bytes) ≡ members_tokens trees
  pub converts : of_members trees no_members ≡ Some found
  pub shallow : members_depth trees ≤ 3

-- whatever follows, the members found so far stand before it
abbrev pub SoFar : List ℕ → Members → List ℕ → Type 0
SoFar start found now =
    (ms : tree.Members) (all : Members) → ((p : Place) → may_begin p ≡ true → punctuate p (lexemes now) ≡ members_tokens ms)
    → of_members ms found ≡ Some all → members_depth ms ≤ 3 → Closes start all

-- the members found so far stand before what follows, and there is one at least
pub record IsPast (start : List ℕ) (found : Members) (after : List ℕ) : Type 0 where
  pub last : List ℕ
  pub earlier : Members
  pub so_far : SoFar start earlier last
  pub takes : Takes last earlier found after

-- these numbers and steps
abbrev pub members_with : Numbers → Option (List Step) → Members
members_with numbers steps = members_from numbers.batch numbers.cells numbers.n steps numbers.version

-- the number is put at the key, whatever the steps are
abbrev pub AddsNumber : List ℕ → ℕ → Numbers → Numbers → Type 0
AddsNumber key n old new = (steps : Option (List Step)) → Adds key (num n) (members_with old steps) (members_with new steps)

-- the bytes begin with the numbers, each with a comma behind it; whatever follows, these are the members found so far
pub record IsFound (bytes : List ℕ) (numbers : Numbers) (rest : List ℕ) : Type 0 where
  pub text : List ℕ
  pub split : bytes ≡ text ++ rest
  pub so_far : (next : List ℕ) → SoFar (text ++ next) (members_with numbers None) next
  pub before : List Lexeme → List Lexeme
  pub lexed : (next : List ℕ) → lexemes (text ++ next) ≡ before (lexemes next)

-- the text is the key of the steps, the colon and the bracket that opens their list
abbrev pub IsListKey : List ℕ → Type 0
IsListKey text =
    (next : List ℕ) → lexemes (text ++ next) ≡ token (string (codes "steps")) ∷ colon ∷ token begin_array ∷ lexemes next

-- the bytes begin with the numbers, and then such a text
pub record IsUpToList (bytes : List ℕ) (numbers : Numbers) (rest : List ℕ) : Type 0 where
  pub text : List ℕ
  pub split : bytes ≡ text ++ rest
  pub list : List ℕ
  pub key : IsListKey list
  pub so_far : (next : List ℕ) → SoFar (text ++ next) (members_with numbers None) (list ++ next)
  pub before : List Lexeme → List Lexeme
  pub lexed : (next : List ℕ) → lexemes (text ++ next) ≡ before (lexemes next)

-- the text is a record's up to the bracket that opens the list of steps, with these numbers
pub record IsHead (text : List ℕ) (numbers : Numbers) : Type 0 where
  pub first : List ℕ
  pub opens : (next : List ℕ) → Begins (text ++ next) 123 (first ++ next)
  pub list : List ℕ
  pub key : IsListKey list
  pub so_far : (next : List ℕ) → SoFar (first ++ next) (members_with numbers None) (list ++ next)
  pub before : List Lexeme → List Lexeme
  pub lexed : (next : List ℕ) → lexemes (text ++ next) ≡ before (lexemes next)

-- the bytes begin with such a text
pub record IsUpToSteps (bytes : List ℕ) (numbers : Numbers) (rest : List ℕ) : Type 0 where
  pub text : List ℕ
  pub split : bytes ≡ text ++ rest
  pub head : IsHead text numbers

-- the numbers that stand before the steps are joined by those behind, and these are the last members
abbrev pub IsRest : Numbers → List ℕ → Numbers → Type 0
IsRest old after new = (start : List ℕ) (steps : List Step) → IsPast start (members_with old (Some steps)) after →
    Closes start (members_with new (Some steps))

-- what stands behind the last step, from the bracket on, makes these numbers of those before the first
pub record AreAll (numbers : Numbers) (bytes : List ℕ) (all : Numbers) : Type 0 where
  pub after : List ℕ
  pub begins : Begins bytes 93 after
  pub rest : IsRest numbers after all

-- the bound of a record of the version: named in version 3 alone, and else the largest
pub record IsBound (version : ℕ) (named : Option ℕ) (bound : ℕ) : Type 0 where
  pub first : 1 ≤ version
  pub last : version ≤ 3
  pub some : 1 ≤ bound
  pub few : bound ≤ MAX_BOUND
  pub is : ((version ≡ 3) × (named ≡ Some bound)) ⊎ ((version < 3) × (named ≡ None) × (bound ≡ MAX_BOUND))
