use Rattle.std.proofs.Common.{◌≡◌, ℕ, List, map, take, vec_len}
use Rattle.ct_order.specs.Reading.{AreTexts, IsReadFrom, standings_of}
use Rattle.ct_order.proofs.reading.read_by.Given as goal

abbrev pub invariant-loop-name : goal.invariant-loop-name
invariant-loop-name g l = record {
  count : vec_len l.ends ≡ l.name-index;
  read : (texts : List (List ℕ)) → AreTexts (g.F.Files.bytes l.files) (map (λ name. name.now) l.names) texts →
      IsReadFrom (take l.name-index texts) (standings_of l.ends.items) l.table;
}
