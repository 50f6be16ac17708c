-- What is shown is so, when it has to be and of those of whom it has to be.
use Rattle.std.proofs.Common.{◌≡◌, inl, inr, ◌≤◌, ℕ, zero, suc, Bool, true, false, not, ◌&&◌, List, [], ◌∷◌}
use Rattle.std.proofs.Common.{length, take, refl, ap, sym, ◌∙◌, subst, arith, Option, Some, None, is_some, is_none, option_map, find}
use Rattle.std.proofs.Common.{option_and_then}
use Rattle.std.proofs.Math.Nat.{eq-or-lt_of_le}
use Rattle.std.proofs.lemmas.Bool.Decides.{nat_tests}
use Rattle.std.specs.List.{list_all}
use Rattle.std.specs.Prelude.{if◌then◌else◌, filter_map}
use Rattle.ct_names.specs.Group.{IsMember, everyone, is_member, members}
use Rattle.ct_names.specs.Membership.{IsIn}
use Rattle.ct_names.specs.Value.{Value}
use Rattle.ct_names.specs.declared.refusal.Refusal.{Refusal}
use Rattle.ct_names.proofs.Groups.{in-counting}
use Rattle.ct_names.proofs.Lists.{IsIn-filter, IsIn-filter_from, IsIn-filter_passes, both, both-left, both-right, contrary}
use Rattle.ct_names.proofs.Lists.{found-list_any, from_filter_map, list_any-found, not-false, not-true, passes-list_all}
use Rattle.ct_model.specs.AtValue.{Standing}
use Rattle.ct_model.specs.Cause.{cause}
use Rattle.ct_model.specs.Lawful.{IsLawful}
use Rattle.ct_model.specs.Next.{own_ballots}
use Rattle.ct_model.specs.Received.{Heard as HeardOf, ballots, decided, estimate_from, estimate_of as estimate_in, heard_from}
use Rattle.ct_model.specs.Rehearsal.{Rehearsal, empty, extended, state_of}
use Rattle.ct_model.specs.State.{delivered, is_crashed}
use Rattle.ct_model.specs.declared.step.Step.{Step}
use Rattle.ct_model.specs.declared.step.Step.TheVariants.{Choose}
use Rattle.ct_model.proofs.Basics.Tests.{not_true, or_cases, or_left, or_right}
use Rattle.ct_model.proofs.Consensus.Readings.{estimate_from-in}
use Rattle.ct_model.proofs.Record.Allowed.{allowed-lawful, cause-allowed}
use Rattle.ct_model.proofs.Record.Start.{lawful-first}
use Rattle.ct_choices.specs.Choices.{has_crashed}
use Rattle.ct_world.specs.Standing.{heard_by}
use Rattle.ct_world.specs.World.{if_member, member_of}
use Rattle.ct_grammar.specs.declared.claim.Claim.{Claim}
use Rattle.ct_grammar.specs.declared.claim.Claim.TheVariants as claim
use Rattle.ct_grammar.specs.declared.claim.Extent.{Extent}
use Rattle.ct_grammar.specs.declared.goal.Goal.{Goal}
use Rattle.ct_grammar.specs.declared.reason.Reason.{Reason}
use Rattle.ct_grammar.specs.declared.reason.Reason.TheVariants.{Rules}
use Rattle.ct_grammar.specs.declared.term.Term.{Term}
use Rattle.ct_grammar.specs.declared.term.When.{When}
use Rattle.ct_grammar.specs.declared.term.When.TheVariants.{Now, Ever, Never}
use Rattle.ct_grammar.specs.declared.term.Whom.{Whom}
use Rattle.ct_grammar.specs.declared.term.Whom.TheVariants as whom
use Rattle.ct_play.specs.Facts.{is_reason}
use Rattle.ct_play.specs.Claims.{is_enough, is_refused_so, is_true_of, last_step, refuses_choice, refuses_heard, says}
use Rattle.ct_play.specs.Goals.{holds_at, holds_for, is_met, meant, shows, unshown, was_seen}
use Rattle.ct_play.specs.Played.{Played, first_part}
use Rattle.ct_laws.specs.Expectations.{HasEstimate}
use Rattle.ct_laws.specs.Facts.{Stands}
use Rattle.ct_laws.specs.Places.{AreAllowed, EachIsAllowed, behind}
use Rattle.ct_laws.specs.Showing.{AreMet, Claims, IsEnough, IsOf, IsWhen, RefusesHeard}
use Rattle.ct_laws.proofs.Deeds.{both_behind, nothing_behind}
use Rattle.ct_laws.proofs.Expecting.Members.{holds_so, is_of_group, of_group_so, own_member, so_holds}
use Rattle.ct_laws.proofs.Expecting.Steps.{before_so, chooses_so, concludes_so, follows_so, so_before, so_chooses, so_concludes, so_follows}
use Rattle.ct_laws.proofs.Expecting.Steps.{none_of, so_suspects, suspects_so}
use Rattle.ct_laws.proofs.Finding.{none_found, none_passes}
use Rattle.ct_laws.proofs.MemberFacts.{got_heard, heard_got as heard_is_got, is_there, of_group}
use Rattle.ct_laws.proofs.Expecting.Values.{reason_same, same_reason}
use Rattle.ct_laws.proofs.Values.Bounded.{in_group as in_members}

-- ---- beginnings of a record

lawful_behind : (steps : List Step) (w : Rehearsal) → IsLawful w → AreAllowed w steps → IsLawful (behind w steps)
lawful_behind [] w law h = subst IsLawful (sym (nothing_behind w)) law
lawful_behind (step ∷ steps) w law h =
    subst IsLawful (both_behind w (step ∷ []) steps)
    (lawful_behind steps (extended w step) (allowed-lawful w step law (cause-allowed w step law h.0)) h.1)

allowed_front : (n : ℕ) (steps : List Step) (w : Rehearsal) → AreAllowed w steps → AreAllowed w (take n steps)
allowed_front zero steps w h = tt
allowed_front (suc n) [] w h = tt
allowed_front (suc n) (step ∷ steps) w h = (h.0, allowed_front n steps (extended w step) h.1)

lawful_whole : (w : Rehearsal) → EachIsAllowed w → IsLawful w
lawful_whole w h = lawful_behind w.steps (empty w.setting w.cells) (lawful-first w.setting w.cells) h

lawful_part : (s : Played) (n : ℕ) → EachIsAllowed s.rehearsal → IsLawful (first_part s n).rehearsal
lawful_part s n h =
    let w = s.rehearsal in
    lawful_behind (take n w.steps) (empty w.setting w.cells) (lawful-first w.setting w.cells)
    (allowed_front n w.steps (empty w.setting w.cells) h)

-- ---- claims

enough_so : (extent : Extent) (count : ℕ) → is_enough extent count ≡ true → IsEnough extent count
enough_so extent count h = grind (arith, nat_tests)

so_enough : (extent : Extent) (count : ℕ) → IsEnough extent count → is_enough extent count ≡ true
so_enough extent count h = grind (arith, nat_tests)

got_by : (o : Option Value) → is_some o ≡ true → (v : Value) × (o ≡ Some v)
got_by None h = absurd (cc h)
got_by (Some v) h = (v, refl)

refused_by : (w : Rehearsal) (p q : ℕ) (reason : Reason) (o : Option Refusal) → cause w (Choose p q) ≡ o → is_refused_so reason o ≡ true →
    (refusal : Refusal) × (reason ≡ Rules refusal) × (cause w (Choose p q) ≡ Some refusal)
refused_by w p q reason None is h = absurd (cc h)
refused_by w p q reason (Some refusal) is h = (refusal, sym (same_reason (Rules refusal) reason h), is)

abbrev held : HeardOf Value → Value × ℕ
held e = (e.value, e.ts)

-- the estimate that p has of q for its round
abbrev ballot : Rehearsal → ℕ → ℕ → Standing → Option (Value × ℕ)
ballot w p q c = option_map held (estimate_from (own_ballots (member_of w p) c) q)

among_everyone : (w : Rehearsal) (p q : ℕ) (c : Standing) (e : HeardOf Value) → IsIn e (own_ballots (member_of w p) c).estimates →
    e.member ≡ q → IsIn q everyone
unfolding ballots
among_everyone w p q c e h is =
    let m = member_of w p in
    let t = from_filter_map (heard_from m.got m.last c.round) e everyone h in
    let own = own_member t.source (filter_map (estimate_in m.last c.round) m.got) e t.gives in
    subst (λ x. IsIn x everyone) (sym own ∙ is) t.is_in

-- who was heard
record IsHeard (w : Rehearsal) (p q : ℕ) : Type 0 where
  pub one : IsIn q everyone
  pub is : Stands w p (λ c. HasEstimate w p c.round q)

ballot_got : (w : Rehearsal) (p q : ℕ) (c : Standing) (o : Option (HeardOf Value)) → (member_of w p).current ≡ Some c →
    estimate_from (own_ballots (member_of w p) c) q ≡ o → is_some (option_map held o) ≡ true → IsHeard w p q
ballot_got w p q c None at is h = absurd (cc h)
ballot_got w p q c (Some e) at is h =
    let list = own_ballots (member_of w p) c in
    record {
      one = among_everyone w p q c e (estimate_from-in list q e is) (own_member q list.estimates e is);
      is = (c, at, (e.value, e.ts, heard_is_got w p q c e is));
    }

heard_got : (w : Rehearsal) (p q : ℕ) (o : Option Standing) → (member_of w p).current ≡ o →
    is_some (option_and_then (ballot w p q) o) ≡ true → IsHeard w p q
heard_got w p q None at h = absurd (cc h)
heard_got w p q (Some c) at h = ballot_got w p q c (estimate_from (own_ballots (member_of w p) c) q) at refl h

got_ballot : (w : Rehearsal) (p q : ℕ) → IsIn q everyone → Stands w p (λ c. HasEstimate w p c.round q) →
    is_some (option_and_then (ballot w p q) (member_of w p).current) ≡ true
got_ballot w p q one h =
    let m = member_of w p in
    let e = got_heard m.got m.last h.0.round q h.2.0 h.2.1 one h.2.2 in
    ap (λ o. is_some (option_and_then (ballot w p q) o)) h.1
    ∙ ap (λ (o : Option (HeardOf Value)). is_some (option_map held o)) e.1

members_in : (n p : ℕ) → IsMember n p → IsIn p (members n)
unfolding members
members_in n p h = in-counting 1 n p h.0 (omega (arith, h.1))

module _ (s : Played) (p : ℕ) (member : IsMember s.rehearsal.setting.members p) where
  heard_if : (q : ℕ) → is_some (if_member s.rehearsal p (heard_by (member_of s.rehearsal p) q))
      ≡ is_some (option_and_then (ballot s.rehearsal p q) (member_of s.rehearsal p).current)
  heard_if q = ap (λ (o : Option (Value × ℕ)). is_some o) (of_group s.rehearsal p (heard_by (member_of s.rehearsal p) q) member)

  choice_so : (reason : Reason) → refuses_choice s.rehearsal p reason ≡ true → (q : ℕ) × RefusesHeard s.rehearsal p reason q
  unfolding refuses_choice
  choice_so reason h =
      let w = s.rehearsal in
      let f = found-list_any (refuses_heard w p reason) (members w.setting.members) h in
      let q = f.item in
      let hears = is_some (if_member w p (heard_by (member_of w p) q)) in
      let refuses = is_refused_so reason (cause w (Choose p q)) in
      let heard = heard_got w p q (member_of w p).current refl (sym (heard_if q) ∙ both-left hears refuses f.passes) in
      let refused = refused_by w p q reason (cause w (Choose p q)) refl (both-right hears refuses f.passes) in (
        q,
        record {
          member = in_members w.setting.members q f.is_in;
          one = heard.one;
          heard = heard.is;
          refusal = refused.0;
          by = refused.1;
          cause = refused.2;
        },
      )

  so_choice : (reason : Reason) (q : ℕ) → RefusesHeard s.rehearsal p reason q → refuses_choice s.rehearsal p reason ≡ true
  unfolding refuses_choice
  so_choice reason q h =
      let w = s.rehearsal in
      let hears = is_some (if_member w p (heard_by (member_of w p) q)) in
      let refuses = is_refused_so reason (cause w (Choose p q)) in
      let refused : refuses ≡ true =
      ap (is_refused_so reason) h.cause ∙ ap (is_reason (Some (Rules h.refusal))) h.by ∙ reason_same (Rules h.refusal) in
      list_any-found (refuses_heard w p reason) q (members w.setting.members) (members_in w.setting.members q h.member)
      (both hears refuses (heard_if q ∙ got_ballot w p q h.one h.heard) refused)

  says_so : (c : Claim) → IsLawful s.rehearsal → says s p c ≡ true → Claims s p c
  says_so (claim.Fact fact) law h = (holds_so s p fact h).1
  says_so (claim.Amount what extent) law h = enough_so extent _ h
  says_so (claim.Got k) law h = got_by (decided (member_of s.rehearsal p).got k) h
  says_so (claim.RefusesChoice reason) law h = choice_so reason h
  says_so (claim.Before one other) law h = before_so (delivered (member_of s.rehearsal p)) one other h
  says_so claim.SuspectsUp law h = suspects_so s.rehearsal p member (last_step s.rehearsal) refl h
  says_so (claim.Follows k) law h = follows_so s.rehearsal p k (last_step s.rehearsal) refl h
  says_so claim.ChoosesUnseen law h = chooses_so s.rehearsal p member (last_step s.rehearsal) refl h
  says_so claim.ConcludesAgain law h = concludes_so s.rehearsal p member (last_step s.rehearsal) refl h
  says_so claim.Settled law h = h
  says_so claim.Stuck law h = h

  so_says : (c : Claim) → Claims s p c → says s p c ≡ true
  so_says (claim.Fact fact) h = so_holds s p fact member h
  so_says (claim.Amount what extent) h = so_enough extent _ h
  so_says (claim.Got k) h = ap (λ (o : Option Value). is_some o) h.1
  so_says (claim.RefusesChoice reason) h = so_choice reason h.0 h.1
  so_says (claim.Before one other) h = so_before (delivered (member_of s.rehearsal p)) one other h
  so_says claim.SuspectsUp h = so_suspects s.rehearsal p member h.0 h.1
  so_says (claim.Follows k) h = so_follows s.rehearsal p k h.0 h.1
  so_says claim.ChoosesUnseen h = so_chooses s.rehearsal p member h.0 h.1 h.2
  so_says claim.ConcludesAgain h = so_concludes s.rehearsal p member h.0 h.1
  so_says claim.Settled h = h
  so_says claim.Stuck h = h

true_so : (s : Played) (p : ℕ) (c : Claim) → IsLawful s.rehearsal → is_true_of s p c ≡ true →
    IsMember s.rehearsal.setting.members p × Claims s p c
unfolding is_true_of
true_so s p c law h =
    let f = of_group_so (is_member s.rehearsal.setting.members p) (says s p c) h in
    let member = is_of_group s.rehearsal.setting.members p f.0 in
    (member, says_so s p member c law f.1)

so_true : (s : Played) (p : ℕ) (c : Claim) → IsMember s.rehearsal.setting.members p → Claims s p c → is_true_of s p c ≡ true
unfolding is_true_of
so_true s p c member h =
    ap (λ b. if b then says s p c else false) (is_there s.rehearsal.setting.members p member) ∙ so_says s p member c h

-- ---- of whom

all_none : (s : Played) (c : Claim) (ps : List ℕ) → is_none (find (λ p. not (is_true_of s p c)) ps) ≡ true → (p : ℕ) → IsIn p ps →
    is_true_of s p c ≡ true
all_none s c ps h p at =
    not-false (is_true_of s p c) (none_passes (λ p. not (is_true_of s p c)) ps (grind arith) p at)

none_all : (s : Played) (c : Claim) (ps : List ℕ) → ((p : ℕ) → IsIn p ps → is_true_of s p c ≡ true) →
    is_none (find (λ p. not (is_true_of s p c)) ps) ≡ true
none_all s c ps h =
    ap (λ (o : Option ℕ). is_none o) (none_found (λ p. not (is_true_of s p c)) ps (λ p at. ap not (h p at)))

-- it is up
is_up : (w : Rehearsal) (p : ℕ) → IsMember w.setting.members p → is_crashed (state_of w) p ≡ false → not (has_crashed w p) ≡ true
is_up w p member up = ap (λ b. not (is_member w.setting.members p && b)) up ∙ none_of (is_member w.setting.members p)

up_is : (w : Rehearsal) (p : ℕ) → IsMember w.setting.members p → not (has_crashed w p) ≡ true → is_crashed (state_of w) p ≡ false
up_is w p member h =
    not-true (is_crashed (state_of w) p)
    (sym (ap (λ b. not (b && is_crashed (state_of w) p)) (is_there w.setting.members p member)) ∙ h)

of_so : (s : Played) (whom : Whom) (c : Claim) → IsLawful s.rehearsal → holds_for s whom c ≡ true → IsOf s whom c
unfolding holds_for unshown
of_so s (whom.One p) c law h = true_so s p c law (all_none s c (p ∷ []) h p (inl refl))
of_so s (whom.Some set) c law h = λ p at. true_so s p c law (all_none s c set h p at)
of_so s whom.All c law h = λ p member.
    (true_so s p c law (all_none s c (members s.rehearsal.setting.members) h p (members_in s.rehearsal.setting.members p member))).1
of_so s whom.Any c law h =
    let f = found-list_any (λ p. is_true_of s p c) (members s.rehearsal.setting.members) h in
    let so = true_so s f.item c law f.passes in
    (f.item, so.0, so.1)
of_so s whom.Up c law h = λ p member up.
    let w = s.rehearsal in
    let at = IsIn-filter (λ p. not (has_crashed w p)) p (members w.setting.members) (is_up w p member up)
    (members_in w.setting.members p member) in
    (true_so s p c law (all_none s c (meant w whom.Up) h p at)).1

one_in : (p q : ℕ) → IsIn q (p ∷ []) → q ≡ p
one_in p q (inl same) = same
one_in p q (inr never) = absurd never

so_of : (s : Played) (whom : Whom) (c : Claim) → IsOf s whom c → holds_for s whom c ≡ true
unfolding holds_for unshown
so_of s (whom.One p) c h =
    none_all s c (p ∷ []) (λ q at. ap (λ x. is_true_of s x c) (one_in p q at) ∙ so_true s p c h.0 h.1)
so_of s (whom.Some set) c h = none_all s c set (λ p at. let so = h p at in so_true s p c so.0 so.1)
so_of s whom.All c h =
    let n = s.rehearsal.setting.members in
    none_all s c (members n) (λ p at. let member = in_members n p at in so_true s p c member (h p member))
so_of s whom.Any c h =
    let n = s.rehearsal.setting.members in
    list_any-found (λ p. is_true_of s p c) h.0 (members n) (members_in n h.0 h.1) (so_true s h.0 c h.1 h.2)
so_of s whom.Up c h =
    let w = s.rehearsal in
    let n = w.setting.members in
    let test : ℕ → Bool = λ p. not (has_crashed w p) in
    none_all s c (meant w whom.Up) (λ p at.
    let member = in_members n p (IsIn-filter_from test p (members n) at) in
    so_true s p c member (h p member (up_is w p member (IsIn-filter_passes test p (members n) at))))

-- ---- when

-- a beginning of up to n steps at which it holds
record IsSeen (s : Played) (term : Term) (n : ℕ) : Type 0 where
  pub steps : ℕ
  pub few : steps ≤ n
  pub holds : holds_at (first_part s steps) term ≡ true

seen : (s : Played) (term : Term) (n : ℕ) → was_seen s term n ≡ true → IsSeen s term n
unfolding was_seen
seen s term zero h = record { steps = 0; few = omega arith; holds = h }
seen s term (suc n) h = elim (or_cases (was_seen s term n) (holds_at (first_part s (suc n)) term) h) [
  | inl before ↦ let f = seen s term n before in record { steps = f.steps; few = omega (arith, f.few); holds = f.holds }
  | inr here ↦ record { steps = suc n; few = omega arith; holds = here }
]

was : (s : Played) (term : Term) (n k : ℕ) → k ≤ n → holds_at (first_part s k) term ≡ true → was_seen s term n ≡ true
unfolding was_seen
was s term zero k h holds = let none : k ≡ 0 = omega arith in subst (λ i. holds_at (first_part s i) term ≡ true) none holds
was s term (suc n) k h holds = elim (eq-or-lt_of_le h) [
  | inl same ↦ or_right (was_seen s term n) (holds_at (first_part s (suc n)) term)
      (sym (ap (λ i. holds_at (first_part s i) term) same) ∙ holds)
  | inr less ↦ or_left (was_seen s term n) (holds_at (first_part s (suc n)) term) (was s term n k (omega (arith, less)) holds)
]

ever_so : (s : Played) (term : Term) → EachIsAllowed s.rehearsal → IsSeen s term (length s.rehearsal.steps) → IsWhen Ever s term
ever_so s term whole f = (f.steps, f.few, of_so (first_part s f.steps) term.whom term.claim (lawful_part s f.steps whole) f.holds)

term_so : (s : Played) (when : When) (whom : Whom) (c : Claim) → EachIsAllowed s.rehearsal →
    is_met s (record { when = when; whom = whom; claim = c }) ≡ true → IsWhen when s (record { when = when; whom = whom; claim = c })
term_so s Now whom c whole h = of_so s whom c (lawful_whole s.rehearsal whole) h
term_so s Ever whom c whole h =
    let term : Term = record { when = Ever; whom = whom; claim = c } in
    ever_so s term whole (seen s term (length s.rehearsal.steps) h)
term_so s Never whom c whole h = λ n few at.
    let term : Term = record { when = Never; whom = whom; claim = c } in
    contrary (was_seen s term (length s.rehearsal.steps))
    (was s term (length s.rehearsal.steps) n few (so_of (first_part s n) whom c at))
    (not-true (was_seen s term (length s.rehearsal.steps)) h)

so_term : (s : Played) (when : When) (whom : Whom) (c : Claim) → EachIsAllowed s.rehearsal →
    IsWhen when s (record { when = when; whom = whom; claim = c }) → is_met s (record { when = when; whom = whom; claim = c }) ≡ true
so_term s Now whom c whole h = so_of s whom c h
so_term s Ever whom c whole h =
    let term : Term = record { when = Ever; whom = whom; claim = c } in
    was s term (length s.rehearsal.steps) h.0 h.1 (so_of (first_part s h.0) whom c h.2)
so_term s Never whom c whole h =
    let term : Term = record { when = Never; whom = whom; claim = c } in
    ap not (not_true (was_seen s term (length s.rehearsal.steps)) (λ is.
    let f = ever_so s term whole (seen s term (length s.rehearsal.steps) is) in
    h f.0 f.1 f.2))

-- ---- goals

pub shows_so : (goal : Goal) (s : Played) → EachIsAllowed s.rehearsal → shows goal s ≡ true → AreMet s goal
unfolding shows
shows_so goal s whole h = λ term at.
    term_so s term.when term.whom term.claim whole (passes-list_all (is_met s) term goal h at)

each_met : (s : Played) (goal : List Term) → ((term : Term) → IsIn term goal → is_met s term ≡ true) → list_all (is_met s) goal ≡ true
each_met s [] h = refl
each_met s (term ∷ goal) h =
    both (is_met s term) (list_all (is_met s) goal) (h term (inl refl)) (each_met s goal (λ t at. h t (inr at)))

pub so_shows : (goal : Goal) (s : Played) → EachIsAllowed s.rehearsal → AreMet s goal → shows goal s ≡ true
unfolding shows
so_shows goal s whole h =
    each_met s goal (λ term at. so_term s term.when term.whom term.claim whole (h term at))

pub ruleset of_facts_and_goals = (holds_so, so_holds, shows_so, so_shows)
