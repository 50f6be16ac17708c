use Rattle.std.proofs.Common.{◌≡◌, Ok, arith}
use Rattle.ct_model.specs.Lawful.{IsLawful}
use Rattle.ct_grammar.specs.declared.play.Play.TheVariants.{Turns}
use Rattle.ct_grammar.specs.declared.who.Who.TheVariants.{All}
use Rattle.ct_play.proofs.Results.{on_err}
use Rattle.ct_settled.specs.declared.completing.TheConstants.{ROUNDS}
use Rattle.ct_play.specs.Playing.{played}
use Rattle.ct_settled.specs.Completing.{crashed}
use Rattle.ct_settled.proofs.Ending.{ends}
use Rattle.ct_settled.proofs.Turned.{part_later}
use Rattle.ct_settled.proofs.completing.complete.Goals as goal

pub returns-in_err-play-clause-later : goal.returns-in_err-play-clause-later
returns-in_err-play-clause-later c =
    on_err c.from_residual.result
    (part_later All ROUNDS c.crashed-set.result c.args.stage.now c.play.new.stage c.in_err-play.ensures.part)

pub returns-clause-rests : goal.returns-clause-rests
returns-clause-rests c =
    let s = c.args.stage.now in
    let t = c.play.new.stage in
    let law : IsLawful s.rehearsal = rw c.world.ensures at c.record.ensures.lawful in
    let line : played s (Turns All ROUNDS (crashed s.rehearsal)) ≡ Ok t =
    rw (c.crashed-set.ensures, c.world-2.ensures) at c.in_ok-play.ensures.ok in
    ends s t ROUNDS (crashed s.rehearsal) (omega arith) law line
