use Rattle.ct_records.proofs.Lexemes.{if_some}
use Rattle.std.proofs.lemmas.Result.{IfOk-weaker}
use Rattle.ct_records.proofs.Started.{seen_first}
use Rattle.ct_records.proofs.running.run.Goals as goal

pub returns-clause-whole : goal.returns-clause-whole
returns-clause-whole g c =
    let left = g.R.Source.left c.args.reader.now in
    let start = c.in-Some.start in
    IfOk-weaker c.run_staged.result _ _
    (λ o h. if_some _ _ o (λ stage is. is left (seen_first left _ _ _ start.text.items _ _ _ c.requires.empty c.requires.none
    c.in_ok-read_up_to.ensures.read (rw c.in-Some.is at c.in-Ok.ensures.taken))) h) c.run_staged.ensures.whole

pub returns-clause-part : goal.returns-clause-part
returns-clause-part g c = λ none.
    let left = g.R.Source.left c.args.reader.now in
    let start = c.in-Some.start in
    c.run_staged.ensures.part none left (seen_first left _ _ _ start.text.items _ _ _ c.requires.empty c.requires.none
    c.in_ok-read_up_to.ensures.read (rw c.in-Some.is at c.in-Ok.ensures.taken))
