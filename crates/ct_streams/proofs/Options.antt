-- Commands as they are built.
use Rattle.std.proofs.Common.{◌≡◌, false, ap₂, ◌∙◌}
use Rattle.clap.specs.Words.{AddsArg, App, Rule, app_of, rule_of, with_rule}
use Rattle.clap.specs.declared.builder.arg.Arg.{Arg}
use Rattle.clap.specs.declared.builder.command.Command.{Command}

pub with_option : (old new : Command) (a : Arg) (app : App) (rule : Rule) → AddsArg old a new → a.global ≡ false → app_of old ≡ app →
    rule_of a ≡ rule → app_of new ≡ with_rule app rule
with_option old new a app rule adds local old_is rule_is = adds.shape local ∙ ap₂ with_rule old_is rule_is
