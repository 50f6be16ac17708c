use Rattle.ct_play.specs.Indexing.{IsIndexOf}
use Rattle.ct_play.proofs.index.Index.note.Given as goal

abbrev pub invariant-loop : goal.invariant-loop
invariant-loop l = IsIndexOf l.world.rehearsal l.self
