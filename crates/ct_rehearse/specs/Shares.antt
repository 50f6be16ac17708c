-- What a share has.
use Rattle.std.specs.Prelude.{ℕ, ◌+◌}
use Rattle.ct_rehearse.specs.declared.share.TheConstants.{PARTS}

-- how many parts of the total, and how many steps that were counted on them
pub record Held : Type 0 where
  pub parts : ℕ
  pub steps : ℕ

-- the whole share
abbrev pub whole_share : ℕ → Held
whole_share steps = record { parts = PARTS; steps = steps }

-- so many steps more
abbrev pub risen_by : Held → ℕ → Held
risen_by share more = record { parts = share.parts; steps = share.steps + more }
