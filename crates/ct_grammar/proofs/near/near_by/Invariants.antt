use Rattle.std.proofs.Common.{◌≡◌, map, drop}
use Rattle.ct_grammar.specs.Near.{near_by}
use Rattle.ct_grammar.proofs.near.near_by.Given as goal

-- the first near one is among the names that are left
abbrev pub invariant-loop-name : goal.invariant-loop-name
invariant-loop-name l =
    near_by l.slip l.word (map (λ name. name.now) (drop l.name-index l.names))
    ≡ near_by l.slip l.word (map (λ name. name.now) l.names)
