-- Files are read as logs.
use Rattle.std.specs.Prelude.{◌≡◌, ℕ, ◌+◌, List, [], ◌∷◌, ◌++◌, Option, Some, Result, Ok, Err, ⊤, map, slice_get, take, Bool, true, ◌&&◌}
use Rattle.ct_order.specs.declared.reading.Judged.{Judged}
use Rattle.ct_order.specs.declared.reading.LogEnd.{LogEnd}
use Rattle.ct_order.specs.declared.standing.Standing.{Standing}
use Rattle.ct_order.specs.declared.stop.Stop.{Stop}
use Rattle.ct_order.specs.declared.stop.Stop.TheVariants as stop
use Rattle.ct_order.specs.declared.table.Table.{Table}
use Rattle.ct_order.specs.Knowing.{KnowsTable}
use Rattle.ct_order.specs.Orders.{Said}
use Rattle.ct_order.specs.Scanning.{Fault, Scanned, Scanning, after_bytes, beginning}
use Rattle.ct_order.specs.Taking.{Stops, Takes}

-- the files of these names are known to have these texts
abbrev pub AreTexts : (List ℕ → Option (List ℕ)) → List (List ℕ) → List (List ℕ) → Type 0
AreTexts bytes names texts = map bytes names ≡ map (λ (text : List ℕ). Some text) texts

-- what is said by logs, and where each stands behind its lines
pub record Logs : Type 0 where
  pub said : List Said
  pub ends : List Standing

abbrev pub beside : Scanned → Result Logs Fault → Result Logs Fault
beside r (Err u) = Err u
beside r (Ok l) = Ok (record { said = r.said ++ l.said; ends = r.scan.standing ∷ l.ends })

abbrev pub then_logs : Result Scanned Fault → Result Logs Fault → Result Logs Fault
then_logs (Err u) rest = Err u
then_logs (Ok r) rest = beside r rest

-- what the lines of texts say, each a log of the place where it stands among them; the first has this place
abbrev pub after_texts : ℕ → List (List ℕ) → Result Logs Fault
after_texts log [] = Ok (record { said = []; ends = [] })
after_texts log (text ∷ texts) = then_logs (after_bytes log beginning text) (after_texts (log + 1) texts)

abbrev pub HasSaid : List (List ℕ) → List Said → List Standing → Type 0
HasSaid texts said ends = after_texts 0 texts ≡ Ok (record { said = said; ends = ends })

abbrev pub standings_of : List LogEnd → List Standing
standings_of ends = map (λ (end : LogEnd). end.standing) ends

-- each log says that it is whole
abbrev pub are_whole : List Standing → Bool
are_whole [] = true
are_whole (s ∷ ss) = s.is_whole && are_whole ss

-- all that the texts say is known
pub record IsReadFrom (texts : List (List ℕ)) (ends : List Standing) (t : Table) : Type 0 where
  pub said : List Said
  pub has_said : HasSaid texts said ends
  pub knows : KnowsTable t said

-- the text of one log was read, up to its end or up to where it stops
abbrev pub IsScanned : ℕ → Table → List ℕ → Table → Result Scanning Stop → Type 0
IsScanned log old text new (Ok scan) = Takes log beginning old text scan new
IsScanned log old text new (Err why) = Stops log beginning old text why

-- the same, and the log stands there then
pub record IsWhole (log : ℕ) (old : Table) (text : List ℕ) (end : LogEnd) (new : Table) : Type 0 where
  pub scan : Scanning
  pub takes : Takes log beginning old text scan new
  pub standing : end.standing ≡ scan.standing

abbrev pub EndsAs : ℕ → Table → List ℕ → Table → Result LogEnd Stop → Type 0
EndsAs log old text new (Ok end) = IsWhole log old text end new
EndsAs log old text new (Err why) = Stops log beginning old text why

-- the texts before it say what they say, and this one is not read on
pub record IsStopIn (texts : List (List ℕ)) (why : Stop) : Type 0 where
  pub at : ℕ
  pub text : List ℕ
  pub there : slice_get texts at ≡ Some text
  pub ends : List Standing
  pub table : Table
  pub before : IsReadFrom (take at texts) ends table
  pub stops : Stops at beginning table text why

abbrev pub IsHaltIn : List (List ℕ) → Stop → Type 0
IsHaltIn texts (stop.Line u) = IsStopIn texts (stop.Line u)
IsHaltIn texts (stop.Clash c) = IsStopIn texts (stop.Clash c)
IsHaltIn texts _ = ⊤

abbrev pub AreRead : List (List ℕ) → Result Judged Stop → Type 0
AreRead texts (Ok j) = IsReadFrom texts (standings_of j.ends.items) j.table
AreRead texts (Err why) = IsHaltIn texts why
