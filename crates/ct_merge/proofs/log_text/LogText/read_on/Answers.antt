use Rattle.std.proofs.Common.{rules, ◌≡◌, ◌+◌, ◌<◌, Some, Ok, length, take, drop, length-drop, sym, ap, ◌∙◌, arith}
use Rattle.std.specs.List.{position}
use Rattle.ct_grammar.specs.Texts.{is_feed}
use Rattle.ct_grammar.proofs.LineFeeds.{within_text}
use Rattle.ct_merge.specs.Texts.{after_line, after_lines, whole_lines}
use Rattle.ct_merge.proofs.Reading.{line_on}
use Rattle.ct_merge.proofs.log_text.LogText.read_on.Goals as goal

pub loop-end-preserved : goal.loop-end-preserved
loop-end-preserved c =
    let i = c.in-Some.end in
    let rest = c.loop-end.rest.now in
    let p = c.args.member in
    let at : position is_feed rest ≡ Some i = search rules in
    let took : after_line p c.loop-end.self (take i rest) ≡ Ok c.take_line.new.self = search rules in
    let next : c.behind-rest.result.now ≡ drop (i + 1) rest = c.behind-rest.ensures in
    let within : i < length rest = within_text rest i at in
    record {
      so_far = c.loop-end.invariant.so_far ∙ line_on p c.loop-end.self rest c.take_line.new.self i at took
          ∙ ap (λ l. after_lines p c.take_line.new.self (whole_lines l)) (sym next);
      few = omega (arith, within, c.loop-end.invariant.few, c.in_ok-take_line.ensures.count, ap length next, length-drop (i + 1) rest);
    }
