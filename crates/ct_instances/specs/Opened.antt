-- What is true of the open part and of the entries, whatever was done.
use Rattle.std.specs.Prelude.{◌≡◌, ℕ, ◌^◌, ◌<◌, IsTrue, List, nat_eq, is_some}
use Rattle.std.specs.Map.{lookup}
use Rattle.ct_rounds.specs.Part.{Part}
use Rattle.ct_instances.specs.declared.entry.Entry.{Entry}

-- the part is that of the member `me` of a group of n in the instance k, which has its entry
pub record IsPart (n me k : ℕ) (entries : List (ℕ × Entry)) (c : Part) : Type 0 where
  pub members_is : c.members ≡ n
  pub me_is : c.me ≡ me
  pub instance_is : c.instance ≡ k
  pub has_entry : IsTrue (is_some (lookup (nat_eq k) entries))

-- the number of each instance that has an entry fits
abbrev pub FitInstances : List (ℕ × Entry) → Type 0
FitInstances entries = (k : ℕ) → IsTrue (is_some (lookup (nat_eq k) entries)) → k < 2 ^ 32
