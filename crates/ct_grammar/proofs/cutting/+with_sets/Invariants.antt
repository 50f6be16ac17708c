use Rattle.std.proofs.Common.{length}
use Rattle.ct_grammar.proofs.cutting.+with_sets.Given as goal

abbrev pub decreases-with_sets : goal.decreases-with_sets
decreases-with_sets l = length l.words.now
