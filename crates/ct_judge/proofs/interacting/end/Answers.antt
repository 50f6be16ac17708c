use Rattle.ct_judge.proofs.Hearing.{nothing_part, on_err}
use Rattle.ct_judge.proofs.interacting.end.Goals as goal

pub returns-in_err-answer-clause-part : goal.returns-in_err-answer-clause-part
returns-in_err-answer-clause-part g c = on_err c.from_residual.result (nothing_part (g.W.Sink.written c.args.writer.now) _)
