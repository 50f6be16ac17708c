-- Why the steps of a member that is up aren't enabled.
use Rattle.std.proofs.Common.{◌≡◌, ℕ, ◌+◌, true, false, Some, None, arith}
use Rattle.ct_names.specs.Group.{is_majority}
use Rattle.ct_names.specs.Value.{Value}
use Rattle.std.proofs.lemmas.Bool.Decides.{nat_tests}
use Rattle.ct_model.specs.declared.step.Step.{Step}
use Rattle.ct_model.specs.declared.step.Step.TheVariants.{Begin, Enter, Choose, Adopt, Conclude, Deliver, Follow}
use Rattle.ct_model.specs.Actor.{actor}
use Rattle.ct_model.specs.AtValue.{Standing}
use Rattle.ct_model.specs.Setting.{Setting}
use Rattle.ct_model.specs.State.{State, Member, member}
use Rattle.ct_model.specs.Received.{Heard, heard, estimate_from, is_largest, decided}
use Rattle.ct_model.specs.Phases.{is_rest, is_gather, is_wait, is_tally, enter, choose, adopt, conclude}
use Rattle.ct_model.specs.Next.{row, next, proposed, is_empty, own_ballots}
use Rattle.ct_model.proofs.Basics.Options.{none-from}
use Rattle.ct_rest.specs.Rest.{IsUp, IsBlocked}

-- a step of one that is up isn't enabled as its row isn't there
no_row : (s : Setting) (g : State) (step : Step) → IsUp s g (actor step) → next s g step ≡ None →
    row s g (actor step) (member g (actor step)) step ≡ None
unfolding next
no_row s g step is e = grind (arith, nat_tests, none-from)

module _ (s : Setting) (g : State) (p : ℕ) (is : IsUp s g p) (blocked : IsBlocked s g p) where
  abbrev m : Member
  m = member g p

  pub nothing_new : m.current ≡ None → is_empty (proposed s m) ≡ true
  nothing_new idle = grind (arith, no_row s g (Begin p) is blocked.begin)

  pub undecided_next : m.current ≡ None → decided m.got (m.last + 1) ≡ None
  undecided_next idle = grind (arith, no_row s g (Follow p) is blocked.follow)

  module _ (c : Standing) (at : m.current ≡ Some c) where
    pub undecided : decided m.got m.last ≡ None
    undecided = grind (arith, no_row s g (Deliver p) is blocked.deliver)

    pub no_rest : is_rest c.phase ≡ false
    unfolding enter
    no_rest = grind (arith, undecided, no_row s g (Enter p) is blocked.enter)

    pub no_proposal : is_wait c.phase ≡ true → (own_ballots m c).proposal ≡ None
    unfolding adopt
    no_proposal waits = grind (arith, no_row s g (Adopt p) is blocked.adopt)

    pub no_choice : is_gather c.phase ≡ true → is_majority s.members (heard (own_ballots m c)) ≡ true → (from : ℕ) (e : Heard Value) →
        estimate_from (own_ballots m c) from ≡ Some e → is_largest (own_ballots m c) e.ts ≡ true → ⊥
    unfolding choose
    no_choice gathers some from e has largest = grind (arith, no_row s g (Choose p from) is (blocked.choose from))

    pub few_replies : is_tally c.phase ≡ true → is_majority s.members (own_ballots m c).replied ≡ true → ⊥
    unfolding conclude
    few_replies tallies some = grind (arith, no_row s g (Conclude p) is blocked.conclude)
