use Rattle.std.proofs.Common.{ap, Some, None, Err, ◌∙◌}
use Rattle.clap.specs.Words.{found_of}
use Rattle.ct_streams.proofs.Values.{found_value}
use Rattle.ct_streams.proofs.arguments.option_in.Goals as goal

pub returns-in-Some-clause-value : goal.returns-in-Some-clause-value
returns-in-Some-clause-value c =
    c.number_for.ensures.value
    ∙ found_value (found_of c.args.found.now) c.args.name.now c.args.low c.args.high (Some c.in-Some.text.now) c.in-Some.ensures

pub returns-in-None-clause-value : goal.returns-in-None-clause-value
returns-in-None-clause-value c =
    ap Err c.new.ensures ∙ found_value (found_of c.args.found.now) c.args.name.now c.args.low c.args.high None c.in-None.ensures
