use Rattle.std.proofs.Common.{rules, ◌≡◌, ◌+◌, ◌<◌, Some, Ok, length, take, drop, length-drop, sym, ap, ◌∙◌, arith}
use Rattle.std.specs.List.{position}
use Rattle.ct_grammar.specs.Texts.{is_feed, lines_of}
use Rattle.ct_grammar.proofs.LineFeeds.{within_text}
use Rattle.ct_judging.specs.Schedule.{after_line, after_lines}
use Rattle.ct_judge.specs.Schedule.{before_fault}
use Rattle.ct_judge.proofs.Lines.{before_on, line_on}
use Rattle.ct_judge.proofs.recording.tell_lines.Goals as goal

pub loop-end-preserved : goal.loop-end-preserved
loop-end-preserved c =
    let i = c.in-Some.end in
    let rest = c.loop-end.rest.now in
    let at : position is_feed rest ≡ Some i = search rules in
    let took : after_line c.loop-end.recorder (take i rest) ≡ Ok c.take.new.self = search rules in
    let next : c.behind-rest.result.now ≡ drop (i + 1) rest = c.behind-rest.ensures in
    let within : i < length rest = within_text rest i at in
    record {
      so_far = c.loop-end.invariant.so_far ∙ line_on c.loop-end.recorder rest c.take.new.self i at took
          ∙ ap (λ l. after_lines c.take.new.self (lines_of l)) (sym next);
      left = c.loop-end.invariant.left ∙ before_on c.loop-end.recorder rest c.take.new.self i at took
          ∙ ap (λ l. before_fault c.take.new.self (lines_of l)) (sym next);
      few = omega (arith, within, c.loop-end.invariant.few, c.in_ok-take.ensures.number, ap length next, length-drop (i + 1) rest);
    }
