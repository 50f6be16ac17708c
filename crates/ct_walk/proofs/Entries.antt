-- How many entries the scripts of a walk have.
use Rattle.std.proofs.Common.{◌≡◌, ◌+◌, ◌-◌, ◌≤◌, ℕ, arith}
use Rattle.std.specs.Prelude.{◌/◌}
use Rattle.ct_program.specs.declared.free_options.FreeOptions.{FreeOptions}
use Rattle.ct_program.specs.Planning.{first_count}
use Rattle.ct_walk.specs.Options.{IsInRange}
use Rattle.ct_walk.specs.declared.options.WalkOptions.{WalkOptions}

first-few : (o : FreeOptions) → o.submit ≤ 1000 → first_count o ≤ 1001
first-few o submit = grind arith

few-crashes : (o : WalkOptions) → IsInRange o → o.crashes ≤ 7
few-crashes o range =
    let members : o.run.members ≤ 16 = range.run.members.1 in
    let half : o.crashes ≤ (o.run.members - 1) / 2 = range.crashes in
    grind arith

pub few-entries : (o : WalkOptions) → IsInRange o → (a b c d e : ℕ) → a ≡ first_count o.run → b ≡ o.run.postpone → c ≡ o.run.lose →
    d ≡ o.run.repeat → e ≡ o.crashes → 0 + a + b + c + d + e ≤ 4008
few-entries o range a b c d e first second third fourth fifth =
    omega (
      arith,
      first-few o.run range.run.submit,
      range.run.postpone,
      range.run.lose,
      range.run.repeat,
      few-crashes o range,
      first,
      second,
      third,
      fourth,
      fifth,
    )
