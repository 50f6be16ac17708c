use Rattle.std.specs.Prelude.{◌≡◌, fold}
use Rattle.std.proofs.Common.{take}
use Rattle.clap.specs.Words.{app_of, with_rule}
use Rattle.ct_streams.specs.Arguments.{option_rule}
use Rattle.ct_program.proofs.words.with_options.Given as goal

abbrev pub invariant-loop-name : goal.invariant-loop-name
invariant-loop-name l =
    app_of l.command ≡ fold (λ app o. with_rule app (option_rule o.0.now o.1.now)) (app_of l.fn.command) (take l.name-index l.options)
