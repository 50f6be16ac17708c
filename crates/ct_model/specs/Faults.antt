-- Why a step of a round is refused, in order, for a member of a group of n that has the instance open, over the ballots
-- t of its round and its standing c there.
use Rattle.std.specs.Prelude.{ℕ, Bool, false, not, List, [], ◌∷◌, ◌++◌, Option, is_some, is_none}
use Rattle.std.specs.Option.{option_map_or}
use Rattle.ct_names.specs.declared.refusal.Refusal.TheVariants.{WrongPhase, Decided, TooFew, NotLargest, NoProposal, HasProposal}
use Rattle.ct_names.specs.Group.{is_majority}
use Rattle.ct_model.specs.declared.moves.Move.{Move}
use Rattle.ct_model.specs.declared.moves.Move.TheVariants.{Enter, Choose, Adopt, Suspect, Conclude}
use Rattle.ct_model.specs.State.{Standing}
use Rattle.ct_model.specs.Received.{Ballots, heard, estimate_from, is_largest}
use Rattle.ct_model.specs.Phases.{is_rest, is_gather, is_wait, is_tally}
use Rattle.ct_model.specs.Test.{Test, at}

-- the set is smaller than a majority
abbrev pub lacks : ℕ → List ℕ → Bool
lacks n set = not (is_majority n set)

-- the member was heard, and nobody with a larger ts
abbrev pub has_largest : {V : Type 0} → Ballots V → ℕ → Bool
has_largest t from = option_map_or (λ e. is_largest t e.ts) (estimate_from t from) false

-- whether the instance is decided is tested by those who know the decisions
abbrev pub enter_faults : {V : Type 0} → Standing V → List Test
enter_faults c = at WrongPhase (not (is_rest c.phase)) ∷ []

abbrev pub choose_faults : {V : Type 0} → ℕ → Ballots V → Standing V → ℕ → List Test
choose_faults n t c from =
    at WrongPhase (not (is_gather c.phase)) ∷ at TooFew (lacks n (heard t)) ∷ at NotLargest (not (has_largest t from)) ∷ []

abbrev pub adopt_faults : {V : Type 0} → Ballots V → Standing V → List Test
adopt_faults t c = at WrongPhase (not (is_wait c.phase)) ∷ at NoProposal (is_none t.proposal) ∷ []

abbrev pub suspect_faults : {V : Type 0} → Ballots V → Standing V → List Test
suspect_faults t c = at WrongPhase (not (is_wait c.phase)) ∷ at HasProposal (is_some t.proposal) ∷ []

abbrev pub conclude_faults : {V : Type 0} → ℕ → Ballots V → Standing V → List Test
conclude_faults n t c = at WrongPhase (not (is_tally c.phase)) ∷ at TooFew (lacks n t.replied) ∷ []

-- the tests of a step of a round, in order, where this is the decision
abbrev pub faults_of : {V : Type 0} → ℕ → Option V → Ballots V → Standing V → Move → List Test
faults_of n decision t c Enter = enter_faults c ++ at Decided (is_some decision) ∷ []
faults_of n decision t c (Choose from) = choose_faults n t c from
faults_of n decision t c Adopt = adopt_faults t c
faults_of n decision t c Suspect = suspect_faults t c
faults_of n decision t c Conclude = conclude_faults n t c
