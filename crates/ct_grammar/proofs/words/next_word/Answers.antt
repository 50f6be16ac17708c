use Rattle.std.proofs.Common.{◌≡◌, ◌<◌, ℕ, subst, arith}
use Rattle.std.specs.Str.{IsCharBoundary}
use Rattle.std.specs.List.{prefix_len, position_or_len}
use Rattle.std.proofs.lemmas.Bool.Decides.{nat_tests}
use Rattle.ct_grammar.specs.Words.{is_blank}
use Rattle.ct_grammar.proofs.FirstWord.{cut_behind_blanks, cut_before_blank, none_of, before_comment, one_more}
use Rattle.ct_grammar.proofs.words.next_word.Goals as goal

pub range_from-rest-requires : goal.range_from-rest-requires
range_from-rest-requires c =
    let n : prefix_len is_blank c.args.line.now ≡ c.blanks.result = cc in
    let P : ℕ → Type 0 = λ i. 0 < i → IsCharBoundary c.args.line.now i in
    subst P n (cut_behind_blanks c.args.line.now c.utf8.line)

pub split_at-requires : goal.split_at-requires
split_at-requires c =
    let n : position_or_len is_blank c.range_from-rest.result.now ≡ c.letters.result = cc in
    subst (λ (i : ℕ). IsCharBoundary c.range_from-rest.result.now i) n (cut_before_blank c.range_from-rest.result.now)

pub returns-then-is_empty-clause-words : goal.returns-then-is_empty-clause-words
returns-then-is_empty-clause-words c =
    none_of c.args.line.now c.range_from-rest.result.now c.split_at.result.0.now (cc) (cc) (grind (arith, nat_tests))

pub returns-then-begins_comment-clause-words : goal.returns-then-begins_comment-clause-words
returns-then-begins_comment-clause-words c =
    before_comment c.args.line.now c.range_from-rest.result.now c.split_at.result.0.now c.split_at.result.1.now (cc) (cc) (cc)
    (grind (arith, nat_tests)) (cc)

pub returns-clause-words : goal.returns-clause-words
returns-clause-words c =
    one_more c.args.line.now c.range_from-rest.result.now c.split_at.result.0.now c.split_at.result.1.now (cc) (cc) (cc)
    (grind (arith, nat_tests)) (cc)
