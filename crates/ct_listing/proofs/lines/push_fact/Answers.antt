use Rattle.std.proofs.Common.{◌∙◌, ◌++◌, List, ap, arith, string_bytes, subst}
use Rattle.ct_grammar.specs.declared.line.Line.TheVariants.{Play as Plays}
use Rattle.ct_grammar.specs.declared.play.Play.TheVariants.{Expect}
use Rattle.ct_grammar.specs.declared.term.Term.{Term}
use Rattle.ct_print.specs.Lines.{line_text}
use Rattle.ct_listing.specs.Expecting.{fact_goal}
use Rattle.ct_listing.specs.Leading.{AddsLine}
use Rattle.ct_listing.proofs.Growing.{fact_on}
use Rattle.ct_listing.proofs.lines.push_fact.Goals as goal

pub returns : goal.returns
returns c =
    fact_on (string_bytes c.args.text.now) (string_bytes c.push_told.new.text) c.args.stage.now c.args.member c.args.fact c.requires.leads
    (omega arith) c.requires.member c.requires.there
    (subst (λ (terms : List Term). AddsLine (string_bytes c.args.text.now) (string_bytes c.push_told.new.text)
    (line_text (Plays (Expect terms))))
    (c.in_ok-push.ensures.items ∙ ap (λ (terms : List Term). terms ++ fact_goal c.args.member c.args.fact) c.new-terms.ensures.items)
    c.in_ok-push_told.ensures)
