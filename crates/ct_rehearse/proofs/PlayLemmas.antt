-- What one more step of a list comes to.
use Rattle.std.proofs.Common.{◌≡◌, inl, inr, ℕ, ◌+◌, Bool, true, false, not, ◌&&◌, List, [], ◌∷◌, ◌++◌, length, Option, Some, None, refl}
use Rattle.std.proofs.Common.{sym, ◌∙◌, append_assoc, append-nil, add-zero, add_assoc, arith}
use Rattle.std.specs.Prelude.{is_none, unwrap_or, option_and_then, if◌then◌else◌}
use Rattle.std.proofs.lemmas.List.{length_push}
use Rattle.ct_names.specs.declared.refusal.Refusal.{Refusal}
use Rattle.ct_names.specs.declared.refusal.Refusal.TheVariants.{OutOfMemory}
use Rattle.ct_model.specs.declared.step.Step.{Step}
use Rattle.ct_model.specs.Setting.{Setting}
use Rattle.ct_model.specs.State.{State, Member, member}
use Rattle.ct_model.specs.Test.{Test, first_fault}
use Rattle.ct_model.specs.Actor.{actor}
use Rattle.ct_model.specs.Next.{next}
use Rattle.ct_model.specs.Rehearsal.{Rehearsal, extended, state_of, line_of}
use Rattle.ct_model.specs.Cause.{cause, limit, limits, or_else, presence, tests}
use Rattle.ct_model.specs.Passed.{extended_by, passed}
use Rattle.ct_model.proofs.Record.Passed.{passed-snoc}
use Rattle.ct_model.proofs.Basics.Tests.{true_not}
use Rattle.ct_world.specs.Posting.{IsRefusal}
use Rattle.ct_world.specs.World.{WorldView}
use Rattle.ct_rehearse.specs.Shares.{Held, risen_by}
use Rattle.ct_rehearse.specs.Turns.{Answers, world_after_turn, share_after_turn}
use Rattle.ct_rehearse.specs.Plays.{HasPlayed, allowed_unmarked, is_short, marked, played_after, prepared_after, tries}
use Rattle.ct_rehearse.specs.declared.plays.Played.{Played}
use Rattle.ct_rehearse.specs.declared.outcome.Turn.{Turn}
use Rattle.ct_rehearse.specs.declared.outcome.Turn.TheVariants.{Stepped, Resting, Refused}

-- no cause is want of memory, or the board's

is_cause : Option Refusal → Bool
is_cause None = true
is_cause (Some refusal) = not (is_short refusal)

are_causes : List Test → Bool
are_causes [] = true
are_causes (test ∷ rest) = not (is_short test.refusal) && are_causes rest

fault-cause : (list : List Test) → are_causes list ≡ true → is_cause (first_fault list) ≡ true
unfolding is_cause are_causes
fault-cause [] h = refl
fault-cause (test ∷ rest) h = grind (arith, fault-cause rest)

or_else-cause : (o rest : Option Refusal) → is_cause o ≡ true → is_cause rest ≡ true → is_cause (or_else o rest) ≡ true
or_else-cause o rest h k = grind arith

own-causes : (s : Setting) (g : State) (m : Member) (line : List ℕ) (step : Step) → are_causes (tests s g m line step) ≡ true
unfolding are_causes
own-causes s g m line step = grind arith

and_then-cause : (o : Option State) (f : State → Option Refusal) → ((g : State) → is_cause (f g) ≡ true) →
    is_cause (option_and_then f o) ≡ true
unfolding is_cause
and_then-cause None f h = refl
and_then-cause (Some g) f h = h g

limit-cause : (w : Rehearsal) (step : Step) → is_cause (limit w step) ≡ true
unfolding limit are_causes
limit-cause w step = and_then-cause (next w.setting (state_of w) step)
    (λ g. first_fault (limits w.cells (length w.steps + 1) g (actor step)))
    (λ g. fault-cause (limits w.cells (length w.steps + 1) g (actor step)) refl)

cause-cause : (w : Rehearsal) (step : Step) → is_cause (cause w step) ≡ true
unfolding cause are_causes
cause-cause w step =
    let p = actor step in
    or_else-cause _ _ (fault-cause (presence w.setting (state_of w) p) refl)
    (or_else-cause _ _ (fault-cause (tests w.setting (state_of w) (member (state_of w) p) (line_of w p) step)
    (own-causes w.setting (state_of w) (member (state_of w) p) (line_of w p) step)) (limit-cause w step))

not_short : (o : Option Refusal) (refusal : Refusal) → is_cause o ≡ true → refusal ≡ unwrap_or o OutOfMemory → is_none o ≡ is_short refusal
unfolding is_cause
not_short None refusal h e = rw e refl
not_short (Some first) refusal h e = rw e (sym (true_not (is_short first) h))

-- a refused step was short exactly where it has no cause
refused-short : (w : Rehearsal) (step : Step) (refusal : Refusal) → IsRefusal w step refusal → is_none (cause w step) ≡ is_short refusal
refused-short w step refusal (inl e) = not_short (cause w step) refusal (cause-cause w step) e
refused-short w step refusal (inr b) = rw (b.allowed, b.named) refl

-- one mark more

marked-snoc : (marks : List Bool) (steps : List Step) (mark : Bool) (step : Step) → length marks ≡ length steps →
    marked (marks ++ mark ∷ []) (steps ++ step ∷ []) ≡ marked marks steps ++ marked (mark ∷ []) (step ∷ [])
unfolding marked
marked-snoc [] [] mark step h = refl
marked-snoc [] (s ∷ steps) mark step h = cc
marked-snoc (b ∷ marks) [] mark step h = cc
marked-snoc (b ∷ marks) (s ∷ steps) mark step h = grind (arith, marked-snoc marks steps mark step (omega arith))

unmarked-snoc : (w : Rehearsal) (marks : List Bool) (steps : List Step) (mark : Bool) (step : Step) → length marks ≡ length steps →
    allowed_unmarked w (marks ++ mark ∷ []) (steps ++ step ∷ []) ≡ allowed_unmarked w marks steps
    + allowed_unmarked (extended_by w (marked marks steps)) (mark ∷ []) (step ∷ [])
unfolding marked allowed_unmarked
unmarked-snoc w [] [] mark step h = rw append-nil (omega arith)
unmarked-snoc w [] (s ∷ steps) mark step h = cc
unmarked-snoc w (b ∷ marks) [] mark step h = cc
unmarked-snoc w (true ∷ marks) (s ∷ steps) mark step h = rw (append_assoc w.steps (s ∷ []) (marked marks steps)) at
    (unmarked-snoc (extended w s) marks steps mark step (omega arith))
unmarked-snoc w (false ∷ marks) (s ∷ steps) mark step h = rw (unmarked-snoc w marks steps mark step (omega arith))
    (sym (add_assoc (if is_none (cause w s) then 1 else 0) (allowed_unmarked w marks steps)
    (allowed_unmarked (extended_by w (marked marks steps)) (mark ∷ []) (step ∷ []))))

-- the steps that joined the record, and those that didn't

has-stepped : (old : Rehearsal) (tried : List Step) (new : Rehearsal) (p : Played) (step : Step) → HasPlayed old tried new p →
    HasPlayed old (tried ++ step ∷ []) (extended new step) (record p { applied = p.applied + 1 })
unfolding marked allowed_unmarked
has-stepped old tried new p step h =
    let grown = marked-snoc h.marks tried true step h.each in
    record {
      marks = h.marks ++ true ∷ [];
      each = omega (arith, length_push h.marks true, length_push tried step, h.each);
      joined = rw (grown, h.joined) (rw append_assoc refl);
      applied = rw grown (omega (arith, length_push (marked h.marks tried) step, h.applied));
      short = unmarked-snoc old h.marks tried true step h.each ∙ rw add-zero h.short;
    }

has-left : (old : Rehearsal) (tried : List Step) (new : Rehearsal) (p q : Played) (step : Step) → q.applied ≡ p.applied →
    q.short ≡ p.short + (if is_none (cause new step) then 1 else 0) → HasPlayed old tried new p → HasPlayed old (tried ++ step ∷ []) new q
unfolding marked allowed_unmarked
has-left old tried new p q step applied short h =
    let kept = marked-snoc h.marks tried false step h.each in
    record {
      marks = h.marks ++ false ∷ [];
      each = omega (arith, length_push h.marks false, length_push tried step, h.each);
      joined = rw (kept, append-nil) h.joined;
      applied = rw (kept, append-nil) (h.applied ∙ sym applied);
      short = unmarked-snoc old h.marks tried false step h.each ∙ rw (← h.joined, h.short, add-zero) (sym short);
    }

passed-stepped : (old : Rehearsal) (tried : List Step) (new : Rehearsal) (step : Step) → cause new step ≡ None →
    new ≡ extended_by old (passed old tried) → extended new step ≡ extended_by old (passed old (tried ++ step ∷ []))
passed-stepped old tried new step free e = rw (passed-snoc old tried step, ← e, free) (rw e (rw append_assoc refl))

passed-left : (old : Rehearsal) (tried : List Step) (new : Rehearsal) (step : Step) → is_none (cause new step) ≡ false →
    new ≡ extended_by old (passed old tried) → new ≡ extended_by old (passed old (tried ++ step ∷ []))
passed-left old tried new step caused e = rw (passed-snoc old tried step, ← e, caused, append-nil) e

prepared-snoc : (old : Option Step) (tried : List Step) (step : Step) → prepared_after old (tried ++ step ∷ []) ≡ None
prepared-snoc old [] step = refl
prepared-snoc old (s ∷ tried) step = refl

-- what was tried so far, and what came of it
pub record IsPlayed (old : WorldView) (had : Held) (tried : List Step) (new : WorldView) (has : Held) (p : Played) : Type 0 where
  pub total : tries p ≡ length tried
  pub share : has ≡ risen_by had p.applied
  pub prepared : new.prepared ≡ prepared_after old.prepared tried
  pub all : p.short ≡ 0 → new.rehearsal ≡ extended_by old.rehearsal (passed old.rehearsal tried)
  pub some : HasPlayed old.rehearsal tried new.rehearsal p

-- nothing was tried yet
pub played-none : (old : WorldView) (had : Held) → IsPlayed old had [] old had (record { applied = 0; refused = 0; short = 0 })
unfolding marked allowed_unmarked passed
played-none old had = record {
  total = refl;
  share = rw add-zero refl;
  prepared = refl;
  all = λ _. rw append-nil refl;
  some = record { marks = []; each = refl; joined = rw append-nil refl; applied = refl; short = refl };
}

-- a step was done
played-stepped : (old : WorldView) (had : Held) (tried : List Step) (new : WorldView) (has : Held) (p : Played) (step : Step) →
    cause new.rehearsal step ≡ None → IsPlayed old had tried new has p
    → IsPlayed old had (tried ++ step ∷ []) (record { rehearsal = extended new.rehearsal step; prepared = None }) (risen_by has 1)
    (record p { applied = p.applied + 1 })
played-stepped old had tried new has p step free h = record {
  total = omega (arith, length_push tried step, h.total);
  share = rw h.share (rw add_assoc refl);
  prepared = sym (prepared-snoc old.prepared tried step);
  all = λ none. passed-stepped old.rehearsal tried new.rehearsal step free (h.all none);
  some = has-stepped old.rehearsal tried new.rehearsal p step h.some;
}

-- a step was refused
played-refused : (old : WorldView) (had : Held) (tried : List Step) (new : WorldView) (has : Held) (p : Played) (step : Step)
    (refusal : Refusal) → is_none (cause new.rehearsal step) ≡ is_short refusal → IsPlayed old had tried new has p
    → IsPlayed old had (tried ++ step ∷ []) (record new { prepared = None }) has (played_after p (Refused refusal))
played-refused old had tried new has p step refusal e h =
    let q : Played = played_after p (Refused refusal) in
    record {
      total = grind (arith, length_push tried step, h.total);
      share = grind (arith, h.share);
      prepared = sym (prepared-snoc old.prepared tried step);
      all = grind (arith, h.all, passed-left old.rehearsal tried new.rehearsal step);
      some = has-left old.rehearsal tried new.rehearsal p q step (grind arith) (grind arith) h.some;
    }

-- one more step was tried
pub played-turn : (cells : List ℕ) (old : WorldView) (had : Held) (tried : List Step) (mid : WorldView) (has : Held) (p : Played)
    (step : Step) (new : Rehearsal) (turn : Turn) → Answers cells mid.rehearsal step new turn → IsPlayed old had tried mid has p
    → IsPlayed old had (tried ++ step ∷ []) (world_after_turn mid turn) (share_after_turn has turn) (played_after p turn)
played-turn cells old had tried mid has p step new (Stepped done effect) a h = rw a.0 (played-stepped old had tried mid has p step a.1 h)
played-turn cells old had tried mid has p step new Resting a h = absurd a
played-turn cells old had tried mid has p step new (Refused refusal) a h =
    played-refused old had tried mid has p step refusal (refused-short mid.rehearsal step refusal a.0) h
