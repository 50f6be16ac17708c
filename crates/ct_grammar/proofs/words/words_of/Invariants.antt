use Rattle.std.proofs.Common.{◌≡◌, ◌++◌, length, map}
use denote.Text.{Utf8}
use denote.Shadow.{shadow}
use Rattle.ct_grammar.specs.Words.{words_of}
use Rattle.ct_grammar.proofs.words.words_of.Given as goal

-- the words so far and those of the rest are the line's
abbrev pub invariant-loop-word : goal.invariant-loop-word
invariant-loop-word l = shadow (Utf8 l.rest) × (map (λ word. word.now) l.words.items ++ words_of l.rest ≡ words_of l.line)

abbrev pub decreases-loop-word : goal.decreases-loop-word
decreases-loop-word l = length l.rest
