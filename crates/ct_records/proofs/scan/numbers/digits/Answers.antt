use Rattle.ct_records.proofs.Common.{◌≡◌, ◌+◌, ◌-◌, ◌<◌, ◌++◌, length, take, drop, ap, sym, ◌∙◌, arith, take-append-drop, take_all}
use Rattle.ct_records.proofs.Common.{length-drop, nat_tests}
use Rattle.ct_records.proofs.Lexemes.{digit_first, digit_joins}
use Rattle.ct_records.proofs.scan.numbers.digits.Goals as goal

pub loop-i-init : goal.loop-i-init
loop-i-init c =
    let small : c.digit.result < 10 = omega (arith, c.if-n-gt9.false, c.from-n.ensures) in
    rw c.from-n.ensures (record {
      text = digit_first c.args.bytes.now c.digit.result _ (grind (arith, nat_tests, c.if-is_empty.ensures)) small (c.digit.ensures small);
      some = grind (arith, c.if-n-eq0.false, c.from-n.ensures);
    })

pub loop-i-preserved : goal.loop-i-preserved
loop-i-preserved c =
    let v = c.loop-i.invariant in
    let small : c.digit-next.result < 10 = omega (arith, c.if-next-gt9.false) in
    rw c.from.ensures (record {
      text =
          digit_joins c.args.bytes.now c.loop-i.i c.loop-i.n c.digit-next.result _ (omega arith) v.text v.some small
          (c.digit-next.ensures small) (c.overflows.ensures c.if-overflows.false);
      some = omega (arith, v.some);
    })

pub returns-then-n-eq0-clause-text : goal.returns-then-n-eq0-clause-text
returns-then-n-eq0-clause-text c =
    let none : c.digit.result ≡ 0 = sym c.from-n.ensures ∙ c.if-n-eq0.true in
    let bytes = c.args.bytes.now in
    let first = digit_first bytes 0 _ (grind (arith, nat_tests, c.if-is_empty.ensures)) (omega arith)
    (c.digit.ensures (omega (arith, none)) ∙ ap (λ n. 48 + n) none) in
    let all : take (length bytes - 1) (drop 1 bytes) ≡ drop 1 bytes =
    take_all (length bytes - 1) (drop 1 bytes) (omega (arith, length-drop 1 bytes)) in
    rw all (sym (take-append-drop 1 bytes) ∙ ap (λ t. t ++ drop 1 bytes) first)
