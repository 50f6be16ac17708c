-- The numbers of a line.
use Rattle.std.specs.Prelude.{◌≡◌, ◌<◌, length, ℕ, ◌+◌, ◌-◌, ◌*◌, ◌==◌, List, [], ◌∷◌, Option, Some, None, option_and_then, nat_le}
use Rattle.std.specs.Prelude.{Bool, is_some, take, drop, position, if◌then◌else◌}
use Rattle.std.specs.Char.{is_ascii_digit}
use Rattle.std.specs.List.{slice_split}
use Rattle.ct_names.specs.declared.limit.TheConstants.{MAX_MEMBERS}
use Rattle.ct_names.specs.MemberSet.{with_member}
use Rattle.ct_grammar.specs.Words.{Word}

infixl 10 ◌>>=◌
abbrev pub ◌>>=◌ : {A B : Type 0} → Option A → (A → Option B) → Option B
o >>= f = option_and_then f o

-- the largest numbers of the types
abbrev pub max_u8 : ℕ
max_u8 = 255

abbrev pub max_u32 : ℕ
max_u32 = 4294967295

abbrev pub max_u64 : ℕ
max_u64 = 18446744073709551615

-- the number that digits write behind those of n, where it is at most this high
abbrev pub number_behind : ℕ → ℕ → Word → Option ℕ
number_behind high n [] = if nat_le n high then Some n else None
number_behind high n (c ∷ cs) = if is_ascii_digit c then number_behind high (n * 10 + (c - 48)) cs else None

-- the number that the word writes, where it is decimal digits alone (zeros may stand first) and the number is at most this high
unfoldable pub number_of : ℕ → Word → Option ℕ
number_of high [] = None
number_of high (c ∷ cs) = number_behind high 0 (c ∷ cs)

-- the same, where the number is also at least this low
unfoldable pub number_in : ℕ → ℕ → Word → Option ℕ
number_in low high word = do
  n ← number_of high word
  if nat_le low n then Some n else None

-- what stands before the first such byte, and what stands behind it
unfoldable pub parted : ℕ → Word → Option (Word × Word)
parted at word = do
  i ← position (λ c. c == at) word
  Some (take i word, drop (i + 1) word)

-- the two are the first of all parts between such bytes, and the word of the others
pub record IsParted (at : ℕ) (word part behind : Word) : Type 0 where
  pub parts : slice_split (λ c. c == at) word ≡ part ∷ slice_split (λ c. c == at) behind
  pub shorter : length behind < length word

-- the numbers before and behind the first such byte, each with its limit
unfoldable pub two_numbers : ℕ → ℕ → ℕ → Word → Option (ℕ × ℕ)
two_numbers at high higher word = do
  parts ← parted at word
  m ← number_of high parts.0
  n ← number_of higher parts.1
  Some (m, n)

-- the set and the members that the parts name, 1 to 16
abbrev pub with_members : List ℕ → List Word → Option (List ℕ)
with_members set [] = Some set
with_members set (part ∷ parts) = do
  p ← number_in 1 MAX_MEMBERS part
  with_members (with_member set p) parts

-- the set of the members that stand between the commas
unfoldable pub members_of : Word → Option (List ℕ)
members_of word = with_members [] (slice_split (λ c. c == 44) word)

-- the word has a comma
abbrev pub has_comma : Word → Bool
has_comma word = is_some (position (λ c. c == 44) word)
