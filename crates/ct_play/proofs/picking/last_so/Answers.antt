use Rattle.std.proofs.Common.{◌∙◌, ◌≡◌, ◌-◌, length, sym, true, false}
use Rattle.ct_model.specs.Rehearsal.{state_of}
use Rattle.ct_play.specs.Picking.{is_gone, last_so, was_sent}
use Rattle.ct_play.proofs.Lasts.{at_gone, gone_past, one_less, sent_past}
use Rattle.ct_play.proofs.picking.last_so.Goals as goal

pub loop-serial-init : goal.loop-serial-init
unfolding last_so
loop-serial-init c =
    let s = c.args.stage.now.rehearsal in
    let r = c.last_to-serial.result in
    let past = rw (c.sent.ensures.value, c.world.ensures) at c.last_to-serial.ensures in
    cc (
      gone_past s c.args.member c.args.carried c.args.from (length (state_of s).sent) r past,
      sent_past s c.args.member c.args.carried c.args.from (length (state_of s).sent) r past,
    )

pub returns-then-is_gone : goal.returns-then-is_gone
returns-then-is_gone c =
    let s = c.args.stage.now.rehearsal in
    let gone = is_gone s c.args.member c.args.carried c.args.from in
    let here : gone c.loop-serial.serial ≡ true = sym c.is_gone.ensures ∙ c.if-is_gone.true in
    sym (c.loop-serial.invariant ∙ at_gone gone c.loop-serial.serial _ c.loop-serial-test.true here)

pub loop-serial-preserved : goal.loop-serial-preserved
loop-serial-preserved c =
    let s = c.args.stage.now.rehearsal in
    let n = c.loop-serial.serial in
    let r = c.last_to-serial-in-loop-serial.result in
    let gone = is_gone s c.args.member c.args.carried c.args.from in
    let was = was_sent s c.args.member c.args.carried c.args.from in
    let here : gone n ≡ false = sym c.is_gone.ensures ∙ c.if-is_gone.false in
    let past = c.last_to-serial-in-loop-serial.ensures in
    let none_gone = gone_past s c.args.member c.args.carried c.args.from (n - 1) r past in
    let none_sent = sent_past s c.args.member c.args.carried c.args.from (n - 1) r past in
    rw (c.or-last.ensures, c.then_some.ensures, c.was_sent-sent.ensures, ← none_gone, ← none_sent)
    (c.loop-serial.invariant ∙ one_less gone was n c.loop-serial.last c.loop-serial-test.true here)
