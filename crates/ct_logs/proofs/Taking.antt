-- Texts that are taken one by one.
use Rattle.std.proofs.Common.{◌≡◌, ℕ, ◌+◌, ◌≤◌, ◌<◌, true, List, Option, Some, None, length, refl, inl, inr, sym, ap, subst, ◌∙◌}
use Rattle.std.proofs.Common.{arith, ◌==◌}
use Rattle.std.specs.Prelude.{◌≢◌, slice_get}
use Rattle.std.proofs.lemmas.Bool.{cases_eq, cases_lt}
use Rattle.std.proofs.lemmas.Bool.Decides.{nat_tests}
use Rattle.std.proofs.lemmas.Option.{option_and_then_some, slice_get_within}
use Rattle.ct_names.specs.Group.{is_member}
use Rattle.ct_names.proofs.Groups.{member_from_one, member_to_n}
use Rattle.ct_model.specs.When.{when}
use Rattle.ct_world.specs.declared.setup.Setup.{Setup}
use Rattle.ct_merge.specs.declared.numbers.Numbers.{Numbers}
use Rattle.ct_logs.specs.Groups.{AllGive, IsGroupOf, IsLogIn}
use Rattle.ct_logs.specs.Owners.{IsSaid, Said, said_in}
use Rattle.ct_logs.specs.Sets.{CanTake, HasTaken, IsBare, IsFiled, IsFrom, IsGivenIn, IsTakenAt}
use Rattle.ct_logs.specs.Sets.{LogsSoFar, Takes, joined, slot}
use Rattle.ct_logs.specs.declared.group_numbers.GroupNumbers.{GroupNumbers}

-- ---- what a text says

pub said_within : (texts : List (List ℕ)) (i : ℕ) (said : Said) → IsSaid texts i said → i < length texts
said_within texts i said is = option_and_then_some (said_in i) (slice_get texts i) said is (λ text at e. slice_get_within texts i text at)

pub one_said : (texts : List (List ℕ)) (i : ℕ) (said other : Said) → IsSaid texts i said → IsSaid texts i other → said ≡ other
one_said texts i said other a b =
    let e : Some said ≡ Some other = sym a ∙ b in
    cc

-- ---- members

pub is_member_at : (n p : ℕ) → 1 ≤ p → p ≤ n → is_member n p ≡ true
is_member_at n p a b = grind (arith, nat_tests)

-- ---- numbers that are given

-- what becomes of a number
data Joined (old given new : Option ℕ) : Type 0 where
  none_more : given ≡ None → new ≡ old → Joined old given new
  first : (n : ℕ) → given ≡ Some n → new ≡ Some n → old ≡ None → Joined old given new
  again : (n : ℕ) → given ≡ Some n → new ≡ Some n → old ≡ Some n → Joined old given new

joined_test : (m n : ℕ) (new : Option ℕ) → when (m == n) (Some n) ≡ Some new → (m ≡ n) × (new ≡ Some n)
joined_test m n new h = elim (cases_eq m n) [
  | inl same ↦ (same, grind (arith, nat_tests))
  | inr other ↦ absurd (grind (arith, nat_tests))
]

joined_is : (old given new : Option ℕ) → joined old given ≡ Some new → Joined old given new
joined_is old None new h = none_more refl (cc)
joined_is None (Some n) new h = first n refl (cc) refl
joined_is (Some m) (Some n) new h =
    let t = joined_test m n new h in
    again n refl t.1 (ap Some t.0)

can_join : (old given : Option ℕ) → ((m n : ℕ) → old ≡ Some m → given ≡ Some n → m ≡ n) → (new : Option ℕ) × (joined old given ≡ Some new)
can_join old None same = (old, refl)
can_join None (Some n) same = (Some n, refl)
can_join (Some m) (Some n) same =
    let e : m ≡ n = same m n refl refl in
    (Some n, grind (arith, nat_tests))

module _ (texts : List (List ℕ)) (k : ℕ) (d : Said) (is : IsSaid texts k d) (number : Numbers → Option ℕ) (old new : Option ℕ)
    (before : IsGivenIn texts k number old) where
  given_each : Joined old (number d.log.numbers) new → (i : ℕ) (said : Said) (n : ℕ) → i < k + 1 → IsSaid texts i said →
      number said.log.numbers ≡ Some n → new ≡ Some n
  given_each (none_more g e) i said n lt at gives = elim (cases_eq i k) [
    | inl here ↦
        let same : said ≡ d = one_said texts k said d (subst (λ j. IsSaid texts j said) here at) is in
        let no : None ≡ Some n = sym g ∙ ap (λ (x : Said). number x.log.numbers) (sym same) ∙ gives in
        absurd (cc)
    | inr other ↦ e ∙ before.each i said n (omega arith) at gives
  ]
  given_each (first m g e o) i said n lt at gives = elim (cases_eq i k) [
    | inl here ↦
        let same : said ≡ d = one_said texts k said d (subst (λ j. IsSaid texts j said) here at) is in
        e ∙ sym g ∙ ap (λ (x : Said). number x.log.numbers) (sym same) ∙ gives
    | inr other ↦
        let no : None ≡ Some n = sym o ∙ before.each i said n (omega arith) at gives in
        absurd (cc)
  ]
  given_each (again m g e o) i said n lt at gives = elim (cases_eq i k) [
    | inl here ↦
        let same : said ≡ d = one_said texts k said d (subst (λ j. IsSaid texts j said) here at) is in
        e ∙ sym g ∙ ap (λ (x : Said). number x.log.numbers) (sym same) ∙ gives
    | inr other ↦ e ∙ sym o ∙ before.each i said n (omega arith) at gives
  ]

  given_some : Joined old (number d.log.numbers) new → (n : ℕ) → new ≡ Some n →
      (i : ℕ) × (said : Said) × (i < k + 1) × IsSaid texts i said × (number said.log.numbers ≡ Some n)
  given_some (none_more g e) n h =
      let w = before.some n (sym e ∙ h) in
      let lt : w.0 < k + 1 = omega (arith, w.2) in
      (w.0, w.1, lt, w.3, w.4)
  given_some (first m g e o) n h =
      let lt : k < k + 1 = omega arith in
      (k, d, lt, is, g ∙ sym e ∙ h)
  given_some (again m g e o) n h =
      let lt : k < k + 1 = omega arith in
      (k, d, lt, is, g ∙ sym e ∙ h)

  given_more : joined old (number d.log.numbers) ≡ Some new → IsGivenIn texts (k + 1) number new
  given_more h =
      let j = joined_is old (number d.log.numbers) new h in
      record { each = given_each j; some = given_some j }

given_none : (texts : List (List ℕ)) (number : Numbers → Option ℕ) (given : Option ℕ) → given ≡ None → IsGivenIn texts 0 number given
given_none texts number given e = record {
  each = λ i said n lt is gives. absurd (omega (arith, lt));
  some = λ n h. let no : None ≡ Some n = sym e ∙ h in absurd (cc);
}

-- ---- no text

pub taken_none : (texts : List (List ℕ)) (s : LogsSoFar) → s.numbers ≡ record { members = None; cells = None; batch = None } →
    s.last ≡ 1 → ((p i : ℕ) → IsFiled s p i → ⊥) → ((p : ℕ) → IsBare s p) → HasTaken texts 0 s
taken_none texts s numbers last files bare = record {
  few = omega arith;
  each = λ i lt. absurd (omega (arith, lt));
  files = λ p i from filed. absurd (files p i filed);
  others = λ p from none. bare p;
  members = given_none texts _ _ (ap (λ (n : GroupNumbers). n.members) numbers);
  cells = given_none texts _ _ (ap (λ (n : GroupNumbers). n.cells) numbers);
  batch = given_none texts _ _ (ap (λ (n : GroupNumbers). n.batch) numbers);
  some = omega (arith, last);
  last = record { within = λ i said lt is. absurd (omega (arith, lt)); is = λ ne. absurd (ne last) };
}

-- ---- one text more

module _ (texts : List (List ℕ)) (k : ℕ) (old new : LogsSoFar) (d : Said) (is : IsSaid texts k d) (before : HasTaken texts k old)
    (took : Takes old k d new) where
  other_member : (i : ℕ) → i < k → (t : IsTakenAt texts old i) → t.said.member ≢ d.member
  other_member i lt t same =
      let e : i ≡ k = took.claims.open_to.free i (subst (λ p. slot old.files p ≡ Some (Some i)) same t.filed) in
      omega (arith, e, lt)

  kept : (i : ℕ) → i < k → IsTakenAt texts new i
  kept i lt =
      let t : IsTakenAt texts old i = before.each i lt in
      let ne : t.said.member ≢ d.member = other_member i lt t in
      record {
        said = t.said;
        is = t.is;
        some = t.some;
        most = t.most;
        filed = took.claims.others t.said.member t.some ne ∙ t.filed;
        lines = took.other_lines t.said.member t.some ne ∙ t.lines;
        expected = took.other_expected t.said.member t.some ne ∙ t.expected;
      }

  taken_here : IsTakenAt texts new k
  taken_here = record {
    said = d;
    is = is;
    some = took.claims.open_to.some;
    most = took.claims.open_to.most;
    filed = took.claims.filed;
    lines = took.lines;
    expected = took.expected;
  }

  each_more : (i : ℕ) → i < k + 1 → IsTakenAt texts new i
  each_more i lt = elim (cases_eq i k) [
    | inl here ↦ subst (λ j. IsTakenAt texts new j) (sym here) taken_here
    | inr other ↦ kept i (omega arith)
  ]

  files_more : (p i : ℕ) → 1 ≤ p → IsFiled new p i → IsFrom texts (k + 1) p i
  files_more p i from filed = elim (cases_eq p d.member) [
    | inl same ↦
        let at : slot new.files d.member ≡ Some (Some i) = subst (λ q. slot new.files q ≡ Some (Some i)) same filed in
        let e : Some (Some k) ≡ Some (Some i) = sym took.claims.filed ∙ at in
        let here : k ≡ i = cc in
        record { within = omega arith; said = d; is = subst (λ j. IsSaid texts j d) here is; member = sym same }
    | inr other ↦
        let f = before.files p i from (sym (took.claims.others p from other) ∙ filed) in
        record { within = omega (arith, f.within); said = f.said; is = f.is; member = f.member }
  ]

  others_more : (p : ℕ) → 1 ≤ p → ((i : ℕ) → IsFiled new p i → ⊥) → IsBare new p
  others_more p from none = elim (cases_eq p d.member) [
    | inl same ↦ absurd (none k (subst (λ q. slot new.files q ≡ Some (Some k)) (sym same) took.claims.filed))
    | inr other ↦
        let b = before.others p from (λ i f. none i (took.claims.others p from other ∙ f)) in
        record { lines = took.other_lines p from other ∙ b.lines; expected = took.other_expected p from other ∙ b.expected }
  ]

  last_within : (i : ℕ) (said : Said) → i < k + 1 → IsSaid texts i said → said.member ≤ new.last
  last_within i said lt at = elim (cases_eq i k) [
    | inl here ↦
        let same : said ≡ d = one_said texts k said d (subst (λ j. IsSaid texts j said) here at) is in
        omega (arith, took.claims.last, ap (λ (x : Said). x.member) same)
    | inr other ↦ omega (arith, took.claims.last, before.last.within i said (omega arith) at)
  ]

  last_is : new.last ≢ 1 → (i : ℕ) × (said : Said) × (i < k + 1) × IsSaid texts i said × (said.member ≡ new.last)
  last_is ne = elim (cases_lt old.last d.member) [
    | inl more ↦
        let lt : k < k + 1 = omega arith in
        let e : d.member ≡ new.last = omega (arith, took.claims.last) in
        (k, d, lt, is, e)
    | inr less ↦
        let same : old.last ≡ new.last = omega (arith, took.claims.last) in
        let w = before.last.is (λ one. ne (sym same ∙ one)) in
        let lt : w.0 < k + 1 = omega (arith, w.2) in
        (w.0, w.1, lt, w.3, w.4 ∙ same)
  ]

  pub taken_more : HasTaken texts (k + 1) new
  taken_more = record {
    few = omega (arith, took.few);
    each = each_more;
    files = files_more;
    others = others_more;
    members = given_more texts k d is _ _ _ before.members took.numbers.members;
    cells = given_more texts k d is _ _ _ before.cells took.numbers.cells;
    batch = given_more texts k d is _ _ _ before.batch took.numbers.batch;
    some = omega (arith, before.some, took.claims.last);
    last = record { within = last_within; is = last_is };
  }

-- a text of a group can be taken
module _ (texts : List (List ℕ)) (k : ℕ) (s : LogsSoFar) (setup : Setup) (before : HasTaken texts k s) (group : IsGroupOf texts setup)
  where
    same_number : (number : Numbers → Option ℕ) (given : Option ℕ) (n : ℕ) → IsGivenIn texts k number given →
        AllGive texts number n → (said : Said) → IsSaid texts k said → (a b : ℕ) → given ≡ Some a → number said.log.numbers ≡ Some b → a ≡ b
    same_number number given n so_far all said at a b is gives =
        let w = so_far.some a is in
        sym (all w.0 w.1 a w.3 w.4) ∙ all k said b at gives

    pub can_take : (lt : k < length texts) → (said : Said) × IsSaid texts k said × CanTake s k said
    can_take lt =
        let l : IsLogIn texts setup.group k = group.each k lt in
        let members = can_join s.numbers.members l.said.log.numbers.members
        (same_number (λ given. given.members) s.numbers.members setup.group before.members group.members l.said l.is) in
        let cells = can_join s.numbers.cells l.said.log.numbers.cells
        (same_number (λ given. given.cells) s.numbers.cells setup.cells before.cells group.cells.all l.said l.is) in
        let batch = can_join s.numbers.batch l.said.log.numbers.batch
        (same_number (λ given. given.batch) s.numbers.batch setup.bound before.batch group.batch.all l.said l.is) in (
          l.said,
          l.is,
          record {
            few = omega (arith, group.few);
            open_to = record {
              some = member_from_one setup.group l.said.member l.member;
              most = omega (arith, member_to_n setup.group l.said.member l.member, group.most);
              free = λ other filed.
                  let f = before.files l.said.member other (member_from_one setup.group l.said.member l.member) filed in
                  group.once other k f.said l.said f.is l.is f.member;
            };
            numbers = record { members = members.0; cells = cells.0; batch = batch.0 };
            joined = record { members = members.1; cells = cells.1; batch = batch.1 };
          },
        )
