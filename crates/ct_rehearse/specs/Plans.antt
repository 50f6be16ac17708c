-- What a run is to make, and what it made.
use Rattle.std.specs.Prelude.{ℕ, ◌≡◌, ◌+◌, ◌*◌, ◌≤◌, Result, Ok, Err, vec_len, sum_by, All}
use Rattle.ct_rehearse.specs.declared.outcome.Turn.{Turn}
use Rattle.ct_rehearse.specs.declared.outcome.Turn.TheVariants.{Stepped, Resting, Refused}
use Rattle.ct_rehearse.specs.declared.plan.Plan.{Plan}
use Rattle.ct_rehearse.specs.declared.plan.TheConstants.{MAX_ENTRIES, MAX_SCRIPTS, MAX_TURNS}
use Rattle.ct_rehearse.specs.declared.made.Made.{Made}
use Rattle.ct_rehearse.specs.declared.run_fault.RunFault.{RunFault}
use Rattle.ct_rehearse.specs.declared.run_fault.RunFault.TheVariants.{Start}
use Rattle.ct_rehearse.specs.Shares.{Held}

-- how many turns were made
abbrev pub turns_made : Made → ℕ
turns_made made = made.steps + made.resting + made.refused

-- one turn more
abbrev pub made_after : Made → Turn → Made
made_after made (Stepped step effect) = record made { steps = made.steps + 1 }
made_after made Resting = record made { resting = made.resting + 1 }
made_after made (Refused refusal) = record made { refused = made.refused + 1 }

-- how many entries the scripts have together
abbrev pub entries : Plan → ℕ
entries plan = sum_by (λ script. vec_len script) plan.scripts.items

-- how many turns the plan asks of a group of n: those of the members, and an entry each of the scripts
abbrev pub turns_planned : ℕ → Plan → ℕ
turns_planned n plan = n * plan.turns + entries plan

-- how many workers make them: the members, and one for each script
abbrev pub workers : ℕ → Plan → ℕ
workers n plan = n + vec_len plan.scripts

-- the limits of a plan
pub record IsWithin (plan : Plan) : Type 0 where
  pub turns : plan.turns ≤ MAX_TURNS
  pub scripts : vec_len plan.scripts ≤ MAX_SCRIPTS
  pub entries : All (λ script. vec_len script ≤ MAX_ENTRIES) plan.scripts.items

-- the number rose, by at most so much
abbrev pub HasRisen : ℕ → ℕ → ℕ → Type 0
HasRisen old new most = (old ≤ new) × (new ≤ old + most)

-- what the workers came to, and the parts and steps that they hand back
abbrev pub HasRun : ℕ → Plan → Result Made RunFault → Held → Type 0
HasRun n plan (Ok made) pool = (turns_made made ≡ turns_planned n plan) × (pool.parts ≡ workers n plan) × (pool.steps ≡ made.steps)
HasRun n plan (Err fault) pool = (fault ≡ Start) × (pool.parts + 1 ≡ workers n plan) × (pool.steps ≤ turns_planned n plan)
