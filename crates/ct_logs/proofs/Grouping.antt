-- The group of texts that were taken.
use Rattle.std.proofs.Common.{◌≡◌, ℕ, ◌≤◌, true, List, Option, Some, None, length, refl, inl, inr, sym, ap, subst, ◌∙◌}
use Rattle.std.proofs.Common.{arith}
use Rattle.std.specs.Prelude.{map, unwrap_or}
use Rattle.std.proofs.lemmas.Bool.{cases_eq}
use Rattle.ct_names.specs.Group.{is_member}
use Rattle.ct_names.proofs.Groups.{member_from_one, member_to_n}
use Rattle.ct_world.specs.declared.setup.Setup.{Setup}
use Rattle.ct_merge.specs.Proposers.{line_in}
use Rattle.ct_merge.specs.declared.numbers.Numbers.{Numbers}
use Rattle.ct_logs.specs.Groups.{AreLogsIn, HasNothing, HasSaid, IsGroupOf, IsLast, IsNumber, Logs, NoneGives}
use Rattle.ct_logs.specs.Owners.{IsSaid, Said}
use Rattle.ct_logs.specs.Sets.{AreLogsOf, HasTaken, IsGivenIn, IsSetupOf, LogsSoFar, slot}
use Rattle.ct_logs.proofs.Taking.{is_member_at, one_said, said_within}

none_or : (o : Option ℕ) → ((m : ℕ) → o ≡ Some m → ⊥) → o ≡ None
none_or None h = refl
none_or (Some m) h = absurd (h m refl)

module _ (texts : List (List ℕ)) (number : Numbers → Option ℕ) (given : Option ℕ) (whole : IsGivenIn texts (length texts) number given)
  where
    -- none of the texts gives what was not given
    none_gives : given ≡ None → NoneGives texts number
    none_gives e i said is = none_or (number said.log.numbers) (λ m gives.
        let no : None ≡ Some m = sym e ∙ whole.each i said m (said_within texts i said is) is gives in
        absurd (cc))

    -- and what none gives was not
    not_given : NoneGives texts number → given ≡ None
    not_given none = none_or given (λ m e.
        let w = whole.some m e in
        let no : None ≡ Some m = sym (none w.0 w.1 w.3) ∙ w.4 in
        absurd (cc))

    all_give : (n usual : ℕ) → n ≡ unwrap_or given usual → (i : ℕ) (said : Said) (m : ℕ) → IsSaid texts i said →
        number said.log.numbers ≡ Some m → n ≡ m
    all_give n usual is i said m at gives = is ∙ ap (λ o. unwrap_or o usual) (whole.each i said m (said_within texts i said at) at gives)

    number_of : (n usual : ℕ) → n ≡ unwrap_or given usual → IsNumber texts number n usual
    number_of n usual is = record { all = all_give n usual is; none = λ none. is ∙ ap (λ o. unwrap_or o usual) (not_given none) }

number_back : (texts : List (List ℕ)) (number : Numbers → Option ℕ) (given : Option ℕ) → IsGivenIn texts (length texts) number given →
    (n usual : ℕ) → IsNumber texts number n usual → n ≡ unwrap_or given usual
number_back texts number None whole n usual is = is.none (none_gives texts number None whole refl)
number_back texts number (Some m) whole n usual is =
    let w = whole.some m refl in
    is.all w.0 w.1 m w.3 w.4

module _ (texts : List (List ℕ)) (s : LogsSoFar) (setup : Setup) (all : HasTaken texts (length texts) s) where
  -- ---- the set's group is the texts'

  module _ (is : IsSetupOf s setup) where
    one_each : (i j : ℕ) (said other : Said) → IsSaid texts i said → IsSaid texts j other → said.member ≡ other.member → i ≡ j
    one_each i j said other at there same =
        let t = all.each i (said_within texts i said at) in
        let u = all.each j (said_within texts j other there) in
        let a : t.said ≡ said = one_said texts i t.said said t.is at in
        let b : u.said ≡ other = one_said texts j u.said other u.is there in
        let member : t.said.member ≡ u.said.member = ap (λ (x : Said). x.member) a ∙ same ∙ ap (λ (x : Said). x.member) (sym b) in
        let e : Some (Some i) ≡ Some (Some j) = sym t.filed ∙ ap (slot s.files) member ∙ u.filed in
        cc

    last_of : NoneGives texts (λ given. given.members) → IsLast texts setup.group
    last_of none =
        let e : s.numbers.members ≡ None = not_given texts (λ given. given.members) s.numbers.members all.members none in
        let same : setup.group ≡ s.last = is.members ∙ ap (λ o. unwrap_or o s.last) e in
        record {
          within = λ i said at. omega (arith, same, all.last.within i said (said_within texts i said at) at);
          is = λ ne.
              let w = all.last.is (λ one. ne (same ∙ one)) in
              (w.0, w.1, w.3, w.4 ∙ sym same);
        }

    pub group_of : IsGroupOf texts setup
    group_of = record {
      few = all.few;
      some = is.some;
      most = is.most;
      each = λ i lt.
          let t = all.each i lt in
          record {
            said = t.said;
            is = t.is;
            member = is_member_at setup.group t.said.member t.some (omega (arith, all.last.within i t.said lt t.is, is.last));
          };
      once = one_each;
      members = all_give texts (λ given. given.members) s.numbers.members all.members setup.group s.last is.members;
      last = last_of;
      cells = number_of texts (λ given. given.cells) s.numbers.cells all.cells setup.cells _ is.cells;
      batch = number_of texts (λ given. given.batch) s.numbers.batch all.batch setup.bound _ is.batch;
    }

  -- ---- and the texts' group the set's

  module _ (group : IsGroupOf texts setup) where
    -- the last member that has a log is one of the group's
    last_to : s.last ≤ setup.group
    last_to = elim (cases_eq s.last 1) [
      | inl one ↦ omega (arith, one, group.some)
      | inr other ↦
          let w = all.last.is other in
          let l = group.each w.0 w.2 in
          let same : l.said ≡ w.1 = one_said texts w.0 l.said w.1 l.is w.3 in
          member_to_n setup.group s.last
          (subst (λ p. is_member setup.group p ≡ true) (ap (λ (x : Said). x.member) same ∙ w.4) l.member)
    ]

    -- where no number of members is given, it is the last one
    group_is_last : s.numbers.members ≡ None → setup.group ≡ s.last
    group_is_last e =
        let last = group.last (none_gives texts (λ given. given.members) s.numbers.members all.members e) in
        elim (cases_eq setup.group 1) [
          | inl one ↦ omega (arith, one, all.some, last_to)
          | inr other ↦
              let w = last.is other in
              let within : w.1.member ≤ s.last = all.last.within w.0 w.1 (said_within texts w.0 w.1 w.2) w.2 in
              omega (arith, within, w.3, last_to)
        ]

    members_back : (o : Option ℕ) → s.numbers.members ≡ o → setup.group ≡ unwrap_or o s.last
    members_back None e = group_is_last e
    members_back (Some m) e =
        let w = all.members.some m e in
        group.members w.0 w.1 m w.3 w.4

    pub setup_back : IsSetupOf s setup
    setup_back = record {
      some = group.some;
      most = group.most;
      members = members_back s.numbers.members refl;
      cells = number_back texts (λ given. given.cells) s.numbers.cells all.cells setup.cells _ group.cells;
      batch = number_back texts (λ given. given.batch) s.numbers.batch all.batch setup.bound _ group.batch;
      last = last_to;
    }

-- ---- its logs

module _ (texts : List (List ℕ)) (s : LogsSoFar) (logs : Logs) (all : HasTaken texts (length texts) s) (are : AreLogsOf s logs) where
  has_said : (i : ℕ) (said : Said) → IsSaid texts i said → HasSaid logs said
  has_said i said at =
      let t = all.each i (said_within texts i said at) in
      let to : t.said.member ≤ logs.setup.group =
      omega (arith, all.last.within i t.said (said_within texts i said at) t.is, are.setup.last) in
      let member : is_member logs.setup.group t.said.member ≡ true = is_member_at logs.setup.group t.said.member t.some to in
      subst (λ d. HasSaid logs d) (one_said texts i t.said said t.is at) (record {
        lines = are.lines t.said.member member ∙ ap (map (line_in logs.setup.group)) t.lines;
        expected = are.expected t.said.member member ∙ t.expected;
      })

  has_nothing : (p : ℕ) → is_member logs.setup.group p ≡ true →
      ((i : ℕ) (said : Said) → IsSaid texts i said → said.member ≡ p → ⊥) → HasNothing logs p
  has_nothing p member none =
      let from : 1 ≤ p = member_from_one logs.setup.group p member in
      let bare = all.others p from (λ i filed. let f = all.files p i from filed in none i f.said f.is f.member) in
      record {
        lines = are.lines p member ∙ ap (map (line_in logs.setup.group)) bare.lines;
        expected = are.expected p member ∙ bare.expected;
      }

  pub logs_of : AreLogsIn texts logs
  logs_of = record { group = group_of texts s logs.setup all are.setup; each = has_said; others = has_nothing }
