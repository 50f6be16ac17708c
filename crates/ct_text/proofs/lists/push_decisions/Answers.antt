use Rattle.std.proofs.Common.{◌≡◌, ◌+◌, arith}
use Rattle.std.specs.Prelude.{string_bytes}
use Rattle.ct_model.specs.Received.{decided}
use Rattle.ct_world.specs.Decided.{last_decided}
use Rattle.ct_world.specs.World.{member_of}
use Rattle.ct_text.proofs.Pieces.{written_none}
use Rattle.ct_text.proofs.Found.{told_of, decision_taken, decision_passed, decisions_written}
use Rattle.ct_text.proofs.lists.push_decisions.Goals as goal
use Rattle.ct_text.proofs.lists.push_decisions.Goals.{in-Some+in_ok-push_separator+in_ok-push_decision, in_default}

pub loop-i-init : goal.loop-i-init
loop-i-init c = written_none 32 (string_bytes c.args.text.now)

pub loop-i-preserved : goal.loop-i-preserved
loop-i-preserved c =
    let w = c.args.world.now.rehearsal in
    let got = (member_of w c.args.member).got in
    let k = c.loop-i.i + 1 in
    elim c.match-decided.branch [
      | in-Some+in_ok-push_separator+in_ok-push_decision x ↦
          rw (x.text-is, x.later-is) (decision_taken got c.loop-i.i x.in-Some.messages.now _ _ _ _ _ c.loop-i.invariant
          (told_of w c.args.member _ (decided got k) c.requires x.in-Some.ensures) x.in_ok-push_separator.ensures
          x.in_ok-push_decision.ensures)
      | in_default x ↦
          rw (x.text-is, x.later-is) (decision_passed got c.loop-i.i _ _ _ c.loop-i.invariant
          (told_of w c.args.member _ (decided got k) c.requires x.in_default.ensures))
    ]

pub returns : goal.returns
returns c =
    let w = c.args.world.now.rehearsal in
    let got = (member_of w c.args.member).got in
    let all : c.loop-i.i ≡ c.unwrap_or-last.result = omega arith in
    decisions_written c.push_dash.result got c.unwrap_or-last.result c.loop-i.i c.last_decided.result _ _ _ _ all c.unwrap_or-last.ensures
    (told_of w c.args.member _ (last_decided got) c.requires c.last_decided.ensures) c.loop-i.invariant c.push_dash.ensures
