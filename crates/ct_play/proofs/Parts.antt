-- Lines that were broken off.
use Rattle.std.proofs.Common.{◌≡◌, ℕ, ◌+◌, ◌*◌, ◌<◌, ◌≤◌, List, length, take, Ok, arith, ap, subst, sym, ◌∙◌, refl, inl, inr}
use Rattle.std.specs.Prelude.{get_or}
use Rattle.ct_grammar.specs.declared.act.Act.{Act}
use Rattle.ct_grammar.specs.declared.act.Act.TheVariants as act
use Rattle.ct_grammar.specs.declared.play.Play.{Play}
use Rattle.ct_grammar.specs.declared.play.Play.TheVariants as play
use Rattle.ct_grammar.specs.declared.statement.Statement.{Statement}
use Rattle.ct_grammar.specs.declared.who.Who.{Who}
use Rattle.std.proofs.Math.Nat.{mul-le-mul_right}
use Rattle.std.proofs.lemmas.List.{take_all}
use Rattle.ct_play.proofs.Later.{back_again}
use Rattle.ct_play.proofs.Results.{on_err}
use Rattle.ct_play.proofs.Trying.{no_rounds}
use Rattle.ct_model.specs.declared.step.Step.{Step}
use Rattle.ct_play.specs.Acting.{after_step, go_on, step_of}
use Rattle.ct_play.specs.Parts.{IsBegun, IsDoneByFirst, IsLostOfFirst, IsPartOf, IsSaidByFirst, IsTaken, IsTurnedByFirst, IsTurnedPart}
use Rattle.ct_play.specs.Played.{IsLater, Played, first_part}
use Rattle.ct_play.specs.Turning.{after_round, after_rounds}
use Rattle.ct_play.specs.Who.{named}

-- ---- acts

pub none_lost : (p : ℕ) (s : Played) (ks : List ℕ) (t : Played) → t ≡ s → IsLostOfFirst p s ks t
none_lost p s ks t e = record { losses = 0; few = omega arith; is = ap Ok (sym e) }

pub not_begun : (s : Played) (p : ℕ) (a : Act) (t : Played) → t ≡ s → IsBegun s p a t
not_begun s p (act.Submit c) t e = e
not_begun s p (act.Receive pick) t e = e
not_begun s p act.Begin t e = e
not_begun s p act.Enter t e = e
not_begun s p (act.Choose from) t e = e
not_begun s p act.Adopt t e = e
not_begun s p act.Suspect t e = e
not_begun s p act.Conclude t e = e
not_begun s p act.Deliver t e = e
not_begun s p act.Follow t e = e
not_begun s p act.Crash t e = e
not_begun s p (act.Postpone pick) t e = e
not_begun s p (act.Lose pick) t e = e
not_begun s p (act.Repeat pick) t e = e
not_begun s p (act.LoseFrom set) t e = none_lost p s _ t e

pub none_done : (who : Who) (a : Act) (s : Played) (ps : List ℕ) (t : Played) → t ≡ s → IsDoneByFirst who a s ps t
none_done who a s ps t e = record { members = 0; few = omega arith; before = s; is = refl; next = not_begun s (get_or ps 0 0) a t e }

pub not_taken : (s : Played) (p : ℕ) (a : Act) (t : Played) → t ≡ s → IsTaken s p a t
not_taken s p a t e = inl e

pub step_taken : (s : Played) (p : ℕ) (a : Act) (step : Step) (t : Played) → step_of s.rehearsal p a ≡ Ok step → after_step s step ≡ Ok t →
    IsTaken s p a t
step_taken s p a step t of here = inr (ap (λ r. go_on r (after_step s)) of ∙ here)

pub none_said : (who : Who) (a : Act) (said : Statement) (s : Played) (ps : List ℕ) (t : Played) → t ≡ s → IsSaidByFirst who a said s ps t
none_said who a said s ps t e = record { members = 0; few = omega arith; before = s; is = refl; next = inl e }

-- what acts leave
pub ruleset done_parts = (none_done, on_err)

pub ruleset taken_parts = (not_taken, step_taken, on_err)

pub ruleset said_parts = (none_said, on_err)

-- ---- turns

pub none_turned : (p : Play) (ps : List ℕ) (s : Played) (n : ℕ) (t : Played) → t ≡ s → IsTurnedPart p ps s n t
none_turned p ps s n t e = record { rounds = 0; members = 0; some = omega arith; few = omega arith; is = e ∙ sym (no_rounds p ps s) }

-- all of so many rounds
pub all_turned : (p : Play) (ps : List ℕ) (s : Played) (n : ℕ) (t : Played) → t ≡ after_rounds p ps s n → IsTurnedPart p ps s n t
all_turned p ps s n t e = record { rounds = n; members = 0; some = omega arith; few = omega arith; is = e }

rows : (i n len m : ℕ) → i < n → m ≤ len → i * len + m ≤ n * len
rows i n len m lt le =
    let next : i + 1 ≤ n = omega arith in
    let all : (i + 1) * len ≤ n * len = mul-le-mul_right len next in
    let split : (i + 1) * len ≡ i * len + len = search arith in
    omega (arith, all, split, le)

-- some rounds, and a part of the next one
pub part_turned : (p : Play) (ps : List ℕ) (s u : Played) (i n : ℕ) (t : Played) → i < n → u ≡ after_rounds p ps s i →
    IsTurnedByFirst p ps u t → IsTurnedPart p ps s n t
part_turned p ps s u i n t lt e part = record {
  rounds = i;
  members = part.members;
  some = part.few;
  few = rows i n (length ps) part.members lt part.few;
  is = part.is ∙ ap (after_round p (take part.members ps)) e;
}

-- a round and all of the next one
pub last_turned : (p : Play) (ps : List ℕ) (s u : Played) (i n : ℕ) (t : Played) → i < n → u ≡ after_rounds p ps s i →
    t ≡ after_round p ps u → IsTurnedPart p ps s n t
last_turned p ps s u i n t lt e here =
    part_turned p ps s u i n t lt e (record {
      members = length ps;
      few = omega arith;
      is = here ∙ ap (λ l. after_round p l u) (sym (take_all (length ps) ps (omega arith)));
    })

-- of so many rounds, and so of more
pub part_longer : (p : Play) (ps : List ℕ) (s : Played) (n m : ℕ) (t : Played) → n ≤ m → IsTurnedPart p ps s n t → IsTurnedPart p ps s m t
part_longer p ps s n m t le part = record {
  rounds = part.rounds;
  members = part.members;
  some = part.some;
  few = omega (arith, part.few, mul-le-mul_right (length ps) le);
  is = part.is;
}

-- the members by another name
pub part_named : (p : Play) (ps qs : List ℕ) (s : Played) (n : ℕ) (t : Played) → qs ≡ ps → IsTurnedPart p qs s n t → IsTurnedPart p ps s n t
part_named p ps qs s n t e part = subst (λ l. IsTurnedPart p l s n t) e part

-- what turns leave
pub ruleset turned_parts = (none_turned, all_turned, part_turned, part_named, on_err)

pub ruleset rested_parts = (part_turned, last_turned, part_longer, on_err)

-- ---- any line

pub none_played : (s : Played) (p : Play) (t : Played) → t ≡ s → IsPartOf s p t
none_played s (play.Act who a) t e = none_done who a s (named s.rehearsal.setting.members who) t e
none_played s (play.Stated who a said) t e = none_said who a said s (named s.rehearsal.setting.members who) t e
none_played s (play.Turns who n set) t e = none_turned (play.Turns who n set) (named s.rehearsal.setting.members who) s n t e
none_played s (play.Settle who set) t e = none_turned (play.Settle who set) (named s.rehearsal.setting.members who) s _ t e
none_played s (play.Until who set goal) t e = none_turned (play.Until who set goal) (named s.rehearsal.setting.members who) s _ t e
none_played s (play.Cut sides) t e = e
none_played s play.Heal t e = e
none_played s (play.Expect goal) t e = e
none_played s (play.Ask question) t e = e

-- where it was taken back
pub back : (s mid t : Played) (p : Play) (count : ℕ) → count ≡ length s.rehearsal.steps → IsLater s mid →
    t ≡ first_part mid count → IsPartOf s p t
back s mid t p count n later e = none_played s p t (back_again s mid t count n later e)
