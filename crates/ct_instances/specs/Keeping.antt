-- What is kept of a member's instances, where values go by number, and the member's state.
use Rattle.std.specs.Prelude.{◌≡◌, ℕ, List, Some, option_map}
use Rattle.ct_names.specs.Value.{Value}
use Rattle.ct_model.specs.State.{Member}
use Rattle.ct_model.specs.Received.{decided, ballots}
use Rattle.ct_rounds.specs.Part.{Part}
use Rattle.ct_instances.specs.Kept.{Kept, ballots_of, decision_at}
use Rattle.ct_instances.specs.Named.{NamesStanding, NamesBallots, NamesDecision}

-- the part is that of member p of a group of n in the instance k
pub record IsPartOf (n p k : ℕ) (c : Part) : Type 0 where
  pub members_is : c.members ≡ n
  pub me_is : c.me ≡ p
  pub instance_is : c.instance ≡ k

-- the instances of member p of a group of n, whose state is m, with values by number
pub record KeepsInstances (n : ℕ) (values : List Value) (p : ℕ) (m : Member) (kept : Kept) : Type 0 where
  pub members : kept.members ≡ n
  pub me : kept.me ≡ p
  pub last : kept.last ≡ m.last
  pub part : (c : Part) → kept.part ≡ Some c → IsPartOf n p m.last c
  pub standing : NamesStanding values (option_map (λ c. c.standing) kept.part) m.current
  pub ballots : (k r : ℕ) → NamesBallots values (ballots_of kept k r) (ballots m.got k r)
  pub decisions : (k : ℕ) → NamesDecision values (decision_at kept k) (decided m.got k)
