use Rattle.std.proofs.Common.{◌≡◌, ◌+◌, Ok, Err, take, drop, sym, ◌∙◌}
use Rattle.ct_grammar.specs.Goals.{goal_in, term_of, told_before_and}
use Rattle.ct_grammar.proofs.WordsCut.{read}
use Rattle.ct_grammar.proofs.TermsRead.{term_read, misfit_read}
use Rattle.ct_grammar.proofs.goals.push_terms.Goals as goal

pub returns-in-Err : goal.returns-in-Err
unfolding goal_in
returns-in-Err c =
    let part = read (take c.in-Some.i c.loop-i.rest.now) in
    let found : Err c.in-Err.misfit ≡ told_before_and part (term_of part) = sym c.in-Err.is ∙ c.in_ok-term.ensures in
    misfit_read (read c.loop-i.rest.now) part (read (drop (c.in-Some.i + 1) c.loop-i.rest.now)) c.loop-i.terms.items c.in-Err.misfit
    c.in-Some.ensures.first found
    ∙ c.loop-i.invariant

pub loop-i-preserved : goal.loop-i-preserved
loop-i-preserved c =
    let part = read (take c.in-Some.i c.loop-i.rest.now) in
    let found : Ok c.in-Ok.term ≡ told_before_and part (term_of part) = sym c.in-Ok.is ∙ c.in_ok-term.ensures in
    rw (c.in_ok-push-in-Ok.ensures.items, c.behind-rest.ensures)
    (term_read (read c.loop-i.rest.now) part (read (drop (c.in-Some.i + 1) c.loop-i.rest.now)) c.loop-i.terms.items c.in-Ok.term
    c.in-Some.ensures.first found
    ∙ c.loop-i.invariant)
