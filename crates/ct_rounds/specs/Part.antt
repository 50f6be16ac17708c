-- What contracts see of a member's part in an instance, and its steps there.
use Rattle.std.specs.Prelude.{◌≡◌, ℕ, List, Option, Some, None}
use Rattle.ct_model.specs.declared.moves.Move.{Move}
use Rattle.ct_model.specs.Moves.{turn_of}
use Rattle.ct_model.specs.declared.mail.Mail.{Mail}
use Rattle.ct_model.specs.State.{Standing, Turn}
use Rattle.ct_model.specs.Received.{Ballots}
use Rattle.ct_model.specs.Test.{Test}
use Rattle.ct_model.specs.Phases.{enter}
use Rattle.ct_model.specs.Faults.{enter_faults, faults_of}
use Rattle.ct_rounds.specs.Inbox.{Rounds, ballots_at}

-- the member `me` of a group, in an instance that it has open
pub record Part : Type 0 where
  pub members : ℕ
  pub me : ℕ
  pub instance : ℕ
  pub standing : Standing ℕ

-- what was got for the part's round
abbrev pub got : Rounds → Part → Ballots ℕ
got rounds c = ballots_at rounds c.standing.round

-- the row of a step. None: it isn't enabled. Whether the instance is decided is for others to know
abbrev pub row : Part → Rounds → Move → Option (Turn ℕ)
row c rounds action = turn_of c.members c.me c.instance None (got rounds c) c.standing action

-- that of Enter needs nothing that was got
abbrev pub enter_row : Part → Option (Turn ℕ)
enter_row c = enter c.members c.me c.instance None c.standing

-- the tests of a step, in order
abbrev pub tests : Part → Rounds → Move → List Test
tests c rounds action = faults_of c.members None (got rounds c) c.standing action

abbrev pub enter_tests : Part → List Test
enter_tests c = enter_faults c.standing

-- the row gives the new part's standing and this mail, and the rest of the part stays
pub record IsTurn (row : Option (Turn ℕ)) (old new : Part) (mail : Mail ℕ) : Type 0 where
  pub row_is : row ≡ Some (record { after = new.standing; mail = mail })
  pub rest_stays : new ≡ record old { standing = new.standing }
