use Rattle.std.proofs.Common.{◌∙◌, ap, arith, false, get_or, List, Bool}
use Rattle.std.proofs.Math.ListN.{set}
use Rattle.ct_grammar.specs.declared.term.Term.{Term}
use Rattle.ct_play.specs.Goals.{next_look}
use Rattle.ct_play.proofs.Seeing.{looked_more}
use Rattle.ct_play.proofs.goals.look.Goals as goal

pub loop-i-preserved : goal.loop-i-preserved
loop-i-preserved c =
    let s = c.args.stage.now in
    let i = c.loop-i.i in
    let d = c.index-terms-i.result in
    ap (set c.loop-i.looks i)
    (c.next_look.ensures ∙ ap (λ (t : Term). next_look s t (get_or c.loop-i.looks i false)) c.index-terms-i.is)
    ∙ (ap (λ (l : List Bool). set l i (next_look s (get_or c.args.terms.now i d) (get_or l i false))) c.loop-i.invariant
    ∙ looked_more s i c.args.terms.now c.args.looks.now d false (omega (arith, c.loop-i-test.true)) c.requires)
