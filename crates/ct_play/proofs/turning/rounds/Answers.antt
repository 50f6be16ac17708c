use Rattle.std.proofs.Common.{rules, ◌≡◌, Ok, false, arith, sym, ◌∙◌, ap, add-one, refl}
use Rattle.ct_play.specs.Turning.{after_round, after_rounds}
use Rattle.ct_play.proofs.Later.{later_on, later_same}
use Rattle.ct_play.proofs.Trying.{no_rounds, one_more, rest_on}
use Rattle.ct_play.proofs.turning.rounds.Goals as goal

pub loop-i-init : goal.loop-i-init
loop-i-init c = record {
  so_far = sym (no_rounds c.args.play.now c.args.members.now c.args.stage.now);
  later = later_same c.args.stage.now c.args.stage.now refl;
  seen = c.requires;
}

pub returns-then-not-branch-clause-ok : goal.returns-then-not-branch-clause-ok
returns-then-not-branch-clause-ok c =
    let rests : c.in_ok-moving_round.field-0 ≡ false = search rules in
    let same : c.moving_round.new.stage ≡ c.loop-i.stage = c.in_ok-moving_round.ensures.rests (ap Ok rests) in
    let fixed : c.loop-i.stage ≡ after_round c.args.play.now c.args.members.now c.loop-i.stage =
    sym same ∙ c.in_ok-moving_round.ensures.ok in
    same ∙ rest_on c.args.play.now c.args.members.now c.args.stage.now c.loop-i.stage c.loop-i.i c.args.count
    (omega (arith, c.loop-i-test.true)) c.loop-i.invariant.so_far fixed

pub loop-i-preserved : goal.loop-i-preserved
loop-i-preserved c = record {
  so_far =
      c.in_ok-moving_round.ensures.ok
      ∙ (ap (after_round c.args.play.now c.args.members.now) c.loop-i.invariant.so_far
      ∙ (sym (one_more c.args.play.now c.args.members.now c.args.stage.now c.loop-i.i)
      ∙ ap (after_rounds c.args.play.now c.args.members.now c.args.stage.now) (sym (add-one c.loop-i.i))));
  later = later_on c.args.stage.now c.loop-i.stage c.moving_round.new.stage c.loop-i.invariant.later c.in_ok-moving_round.ensures.later;
  seen = c.in_ok-moving_round.ensures.seen;
}

pub returns-in_err-moving_round-clause-later : goal.returns-in_err-moving_round-clause-later
returns-in_err-moving_round-clause-later c =
    later_on c.args.stage.now c.loop-i.stage c.moving_round.new.stage c.loop-i.invariant.later c.in_err-moving_round.ensures.later
