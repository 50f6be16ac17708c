-- What lines leave that were broken off, as memory or the board was short.
use Rattle.std.specs.Prelude.{◌≡◌, ◌⊎◌, ℕ, ◌+◌, ◌*◌, ◌≤◌, List, Ok, get_or, length, take}
use Rattle.ct_grammar.specs.declared.act.Act.{Act}
use Rattle.ct_grammar.specs.declared.act.Act.TheVariants.{LoseFrom}
use Rattle.ct_grammar.specs.declared.play.Play.{Play}
use Rattle.ct_grammar.specs.declared.play.Play.TheVariants.{Act as ByAct, Stated, Turns, Settle, Until}
use Rattle.ct_grammar.specs.declared.statement.Statement.{Statement}
use Rattle.ct_grammar.specs.declared.who.Who.{Who}
use Rattle.ct_play.specs.Acting.{after_losses, after_step, done_by_each, go_on, step_of}
use Rattle.ct_play.specs.Picking.{waiting_from}
use Rattle.ct_play.specs.Played.{Played}
use Rattle.ct_play.specs.Stating.{done_so_by_each}
use Rattle.ct_play.specs.Turning.{after_round, after_rounds}
use Rattle.ct_play.specs.Who.{named}
use Rattle.ct_play.specs.declared.turning.TheConstants.{MOST_ROUNDS}

-- p lost the first of these
pub record IsLostOfFirst (p : ℕ) (s : Played) (ks : List ℕ) (t : Played) : Type 0 where
  pub losses : ℕ
  pub few : losses ≤ length ks
  pub is : after_losses p s (take losses ks) ≡ Ok t

-- p did the first steps of this; of an act of one step none
abbrev pub IsBegun : Played → ℕ → Act → Played → Type 0
IsBegun s p (LoseFrom set) t = IsLostOfFirst p s (waiting_from s.rehearsal p set) t
IsBegun s p _ t = t ≡ s

-- the first of these members did it, and the next one the first steps of it
pub record IsDoneByFirst (who : Who) (act : Act) (s : Played) (ps : List ℕ) (t : Played) : Type 0 where
  pub members : ℕ
  pub few : members ≤ length ps
  pub before : Played
  pub is : done_by_each who act s (take members ps) ≡ Ok before
  pub next : IsBegun before (get_or ps members 0) act t

-- the first of these members made a turn
pub record IsTurnedByFirst (play : Play) (ps : List ℕ) (s t : Played) : Type 0 where
  pub members : ℕ
  pub few : members ≤ length ps
  pub is : t ≡ after_round play (take members ps) s

-- p took the step of this, or none
abbrev pub IsTaken : Played → ℕ → Act → Played → Type 0
IsTaken s p act t = (t ≡ s) ⊎ (go_on (step_of s.rehearsal p act) (after_step s) ≡ Ok t)

-- the first of these members did it and it came to this, and the next one took its step at most
pub record IsSaidByFirst (who : Who) (act : Act) (said : Statement) (s : Played) (ps : List ℕ) (t : Played) : Type 0 where
  pub members : ℕ
  pub few : members ≤ length ps
  pub before : Played
  pub is : done_so_by_each who act said s (take members ps) ≡ Ok before
  pub next : IsTaken before (get_or ps members 0) act t

-- some rounds were made, and the first members made their turns of the next one; these are no more than those of n rounds
pub record IsTurnedPart (play : Play) (ps : List ℕ) (s : Played) (n : ℕ) (t : Played) : Type 0 where
  pub rounds : ℕ
  pub members : ℕ
  pub some : members ≤ length ps
  pub few : rounds * length ps + members ≤ n * length ps
  pub is : t ≡ after_round play (take members ps) (after_rounds play ps s rounds)

-- the record is the old one and the line's steps up to some of them; a line of one step leaves none
abbrev pub IsPartOf : Played → Play → Played → Type 0
IsPartOf s (ByAct who act) t = IsDoneByFirst who act s (named s.rehearsal.setting.members who) t
IsPartOf s (Stated who act said) t = IsSaidByFirst who act said s (named s.rehearsal.setting.members who) t
IsPartOf s (Turns who n set) t = IsTurnedPart (Turns who n set) (named s.rehearsal.setting.members who) s n t
IsPartOf s (Settle who set) t = IsTurnedPart (Settle who set) (named s.rehearsal.setting.members who) s MOST_ROUNDS t
IsPartOf s (Until who set goal) t = IsTurnedPart (Until who set goal) (named s.rehearsal.setting.members who) s MOST_ROUNDS t
IsPartOf s _ t = t ≡ s
