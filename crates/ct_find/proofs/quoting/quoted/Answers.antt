use Rattle.std.specs.Prelude.{string_bytes}
use Rattle.std.proofs.Common.{rules, ◌∙◌, ◌++◌, Some, None, ap, arith, sym}
use Rattle.std.proofs.lemmas.Str.Pattern.{split_once_first}
use Rattle.ct_find.proofs.Quotes.{quoted_more, quoted_same}
use Rattle.ct_find.proofs.quoting.quoted.Goals as goal

pub loop-before-preserved : goal.loop-before-preserved
loop-before-preserved c =
    let rest = c.loop-before.rest.now in
    let parts = split_once_first 39 rest (Some (c.in-Some.before, c.in-Some.behind)) c.in-Some.ensures.cases (omega arith) in (
      search rules,
      quoted_more c.args.text.now rest c.in-Some.before.now c.in-Some.behind.now (string_bytes c.loop-before.between)
          (string_bytes c.push_str.new.self) (string_bytes c.push_str-in-Some.new.self) parts.0 parts.1 parts.2
          c.in_ok-push_str.ensures.bytes c.in_ok-push_str-2.ensures.bytes c.loop-before.invariant.1,
    )

pub returns : goal.returns
returns c =
    let rest = c.loop-before.rest.now in
    let none = split_once_first 39 rest None c.in_default.ensures.cases (omega arith) in
    c.in_ok-push_str-3.ensures.bytes
    ∙ (ap (λ more. string_bytes c.loop-before.between ++ more) (sym (quoted_same rest none)) ∙ c.loop-before.invariant.1)
