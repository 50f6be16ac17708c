use Rattle.ct_json.proofs.Common.{◌≡◌, ℕ, ◌+◌, Option, ap, refl, ◌∙◌, codes, flat_map, string_bytes, unwrap_or, counting, decision_values}
use Rattle.json.proofs.OnLiterals.{json_on_literals}
use Rattle.ct_model.specs.Received.{decided}
use Rattle.ct_world.specs.Decided.{last_decided}
use Rattle.ct_world.specs.World.{member_of}
use Rattle.ct_text.proofs.Found.{told_of}
use Rattle.ct_json.specs.Json.{decisions_fields}
use Rattle.ct_json.proofs.Left.{counting_all, counting_next, counting_none, field_left, flat_end, flat_none, flat_one}
use Rattle.ct_json.proofs.report.push_decisions.Goals.{in-Some+in_ok-push_separator+in_ok-push_decision, in_default}
use Rattle.ct_json.proofs.report.push_decisions.Goals as goal

pub loop-i-init : goal.loop-i-init
unfolding decisions_fields json_on_literals
loop-i-init c =
    let w = c.args.world.now.rehearsal in
    let got = (member_of w c.args.member).got in
    let last = c.unwrap_or-last.result in
    let is : last ≡ unwrap_or (last_decided got) 0 =
    c.unwrap_or-last.ensures ∙ ap (λ (o : Option ℕ). unwrap_or o 0)
    (told_of w c.args.member _ (last_decided got) c.requires c.last_decided.ensures) in
    field_left (codes "decided") (codes ",\"decided\":[") _ (flat_map (decision_values got) (counting 1 (unwrap_or (last_decided got) 0)))
    (string_bytes c.args.text.now) _ refl c.in_ok-push_str.ensures.bytes
    (ap (flat_map (decision_values got)) (counting_all 1 last ∙ ap (counting 1) is))

pub loop-i-preserved : goal.loop-i-preserved
loop-i-preserved c =
    let w = c.args.world.now.rehearsal in
    let got = (member_of w c.args.member).got in
    let i = c.loop-i.i in
    let split = counting_next (i + 1) c.unwrap_or-last.result i c.loop-i-test.true in
    elim c.match-decided.branch [
      | in-Some+in_ok-push_separator+in_ok-push_decision x ↦
          rw (x.text-is, x.later-is) (flat_one _ _ (i + 1) split _ _ _ (decision_values got) _ _ _ c.loop-i.invariant
          (rw (← told_of w c.args.member _ (decided got (i + 1)) c.requires x.in-Some.ensures) refl) x.in_ok-push_separator.ensures
          x.in_ok-push_decision.ensures)
      | in_default x ↦
          rw (x.text-is, x.later-is) (flat_none _ _ (i + 1) split _ _ _ (decision_values got) c.loop-i.invariant
          (rw (← told_of w c.args.member _ (decided got (i + 1)) c.requires x.in_default.ensures) refl))
    ]

pub returns : goal.returns
returns c =
    flat_end c.push_str-2.result _ (counting_none (c.loop-i.i + 1) c.unwrap_or-last.result c.loop-i.i c.loop-i-test.false) _ _ _ _
    (decision_values (member_of c.args.world.now.rehearsal c.args.member).got) c.loop-i.invariant c.push_str-2.ensures.bytes
