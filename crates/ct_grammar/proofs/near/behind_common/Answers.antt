use Rattle.std.proofs.Common.{◌≡◌, ◌<◌, ◌-◌, ◌∙◌, length, get_or, drop, sym, arith}
use Rattle.std.proofs.lemmas.List.{length-drop, take_all}
use Rattle.ct_grammar.proofs.NearNames.{alike_no_more}
use Rattle.ct_grammar.proofs.near.behind_common.Goals as goal
use Rattle.ct_grammar.proofs.near.behind_common.Goals.{then-loop-i-test+then-i-name+else-word-i, then-loop-i-test+else-i-name}
use Rattle.ct_grammar.proofs.near.behind_common.Goals.{else-loop-i-test}

pub returns : goal.returns
returns c =
    let i = c.loop-i.i in
    let word = c.args.word.now in
    let name = c.args.name.now in
    let stop : i < length word → i < length name → get_or word i 0 ≡ get_or name i 0 → ⊥ =
    elim c.loop-i-test.branch [
      | then-loop-i-test+then-i-name+else-word-i w ↦ λ l m. w.if-word-i.false
      | then-loop-i-test+else-i-name w ↦ λ l m e. absurd (omega arith)
      | else-loop-i-test w ↦ λ l m e. absurd (omega arith)
    ] in
    rw (
      take_all (length word - i) (drop i word) (omega (arith, length-drop i word)),
      take_all (length name - i) (drop i name) (omega (arith, length-drop i name)),
    )
    (sym (alike_no_more word name i stop) ∙ c.loop-i.invariant.2)
