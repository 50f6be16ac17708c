use Rattle.std.proofs.Common.{◌∙◌, ◌≡◌, sym, ap, refl, arith}
use Rattle.std.specs.Prelude.{is_some}
use Rattle.std.specs.List.{list_any}
use Rattle.ct_names.specs.Group.{members}
use Rattle.ct_play.specs.Claims.{refuses_choice, refuses_heard}
use Rattle.ct_play.proofs.Looking.{list_any-find, member_found, member_passed}
use Rattle.ct_play.proofs.claims.refuses_choice.Goals as goal

pub loop-i-init : goal.loop-i-init
unfolding members
loop-i-init c = refl

pub returns-then-refuses_heard : goal.returns-then-refuses_heard
unfolding refuses_choice
returns-then-refuses_heard c =
    let test = refuses_heard c.args.world.now.rehearsal c.args.member c.args.reason in
    let found = member_found test c.loop-i.i c.n-i-end.result (omega (arith, c.loop-i-test.true)) c.loop-i.invariant
    (sym c.refuses_heard.ensures ∙ c.if-refuses_heard.true) in
    sym (ap (λ n. list_any test (members n)) (sym (c.n-i-end.ensures.value ∙ c.group.ensures))
    ∙ (list_any-find test (members c.n-i-end.result) ∙ ap is_some found))

pub loop-i-preserved : goal.loop-i-preserved
loop-i-preserved c =
    member_passed (refuses_heard c.args.world.now.rehearsal c.args.member c.args.reason) c.loop-i.i
    c.loop-i.invariant
    (sym c.refuses_heard.ensures ∙ c.if-refuses_heard.false)

pub returns : goal.returns
unfolding refuses_choice
returns c =
    let test = refuses_heard c.args.world.now.rehearsal c.args.member c.args.reason in
    let same : c.loop-i.i ≡ c.n-i-end.result = omega (arith, c.loop-i-test.false) in
    sym (ap (λ n. list_any test (members n)) (sym (same ∙ c.n-i-end.ensures.value ∙ c.group.ensures))
    ∙ (list_any-find test (members c.loop-i.i) ∙ ap is_some c.loop-i.invariant))
