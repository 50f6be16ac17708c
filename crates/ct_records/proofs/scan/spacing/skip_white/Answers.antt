use Rattle.ct_records.proofs.Common.{◌-◌, length, drop, arith, sym, length-drop, take_all}
use Rattle.ct_records.proofs.Fronts.{white_all, white_at, white_more, white_nothing}
use Rattle.ct_records.proofs.scan.spacing.skip_white.Goals as goal

pub loop-i-init : goal.loop-i-init
loop-i-init c = white_nothing

pub loop-i-preserved : goal.loop-i-preserved
loop-i-preserved c = white_more c.args.bytes.now c.loop-i.i 0 c.loop-i-test.true (sym c.if-not-is_space.ensures) c.loop-i.invariant

pub returns-then-not-is_space : goal.returns-then-not-is_space
returns-then-not-is_space c =
    let bytes = c.args.bytes.now in
    let i = c.loop-i.i in
    rw (take_all (length bytes - i) (drop i bytes) (omega (arith, length-drop i bytes))) (white_at bytes i c.loop-i.invariant)

pub returns : goal.returns
returns c = white_all c.args.bytes.now c.loop-i.i c.loop-i-test.false c.loop-i.invariant
