use Rattle.std.proofs.Common.{◌<◌, arith, length}
use Rattle.std.proofs.lemmas.List.Edits.{length-remove}
use Rattle.ct_shrink.proofs.Named.{without_content}
use Rattle.ct_shrink.proofs.candidates.next_candidate.Goals as goal

pub returns-clause-candidate : goal.returns-clause-candidate
returns-clause-candidate c =
    let lines = c.args.lines.now in
    let within : c.args.place < length lines = omega (arith, c.if-place-lines.false) in
    record {
      named = without_content lines c.in_ok-without.field-0.items c.args.place c.requires c.in_ok-without.ensures;
      fewer = rw c.in_ok-without.ensures (omega (arith, length-remove lines c.args.place within));
      within = λ none. within;
      without = λ none. c.in_ok-without.ensures;
    }
