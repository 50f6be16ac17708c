-- Logs that wait for what never comes, or in a circle, have no merge, whatever lines they go on with.
use Rattle.ct_merge.proofs.Common.{◌≡◌, ℕ, zero, suc, ◌+◌, ◌≤◌, ◌⊎◌, ◌==◌, Bool, true, false, List, [], ◌∷◌, length, inl, inr, refl, sym}
use Rattle.ct_merge.proofs.Common.{ap, ◌∙◌, subst, arith, if◌then◌else◌, list_any, Vec, counting, is_member, IsIn, Setting, member_is}
use Rattle.ct_merge.proofs.Common.{number_same, same_number, never, waits, IsTakenFrom, Taken, IsRun, IsCulprit, IsLed, IsStand, IsWait}
use Rattle.ct_merge.proofs.Common.{Receives, NeverMerges, is_ended, is_limit, is_wait, LogLine, Culprit, Why, Circle, Ended, Fault, Never}
use Rattle.ct_names.specs.Membership.{IsWithoutRepeats}
use Rattle.ct_names.proofs.Groups.{in-counting, in_or_out, length-counting, no_longer}
use Rattle.ct_names.proofs.Lists.{found-list_any, list_any-found}
use Rattle.ct_merge.proofs.Coming.{never_comes}
use Rattle.ct_merge.proofs.Failing.{fault_none}
use Rattle.ct_merge.proofs.Held.{AreHeld, held_none, not_there, one_held}

module _ (logs : List (Vec LogLine)) (t : Taken) where
  -- ---- what never comes

  pub never_none : IsRun t.rehearsal → IsTakenFrom logs t → (p q : ℕ) → is_member t.rehearsal.setting.members p ≡ true →
      IsStand logs t p (Never q) → NeverMerges t.rehearsal.setting logs
  never_none run taken p q isp stand =
      let f : Receives t.rehearsal p stand.line q false = stand.reason in
      one_held logs t run taken p isp (record {
        line = stand.line;
        next = stand.next;
        barred = never f.name f.act (not_there t.rehearsal p f.name f.unsent) (never_comes t.rehearsal run p f.name f.may);
      })

  -- ---- circles

  -- each of these waits for the next one, and p for the first
  abbrev AreLinked : ℕ → List ℕ → Type 0
  AreLinked p [] = Unit {0}
  AreLinked p (q ∷ qs) = IsWait logs t p q × AreLinked q qs

  -- those up to q
  abbrev up_to : ℕ → List ℕ → List ℕ
  up_to q [] = []
  up_to q (x ∷ xs) = if x == q then x ∷ [] else x ∷ up_to q xs

  -- x waits for one of these
  record IsOneOf (x : ℕ) (xs : List ℕ) : Type 0 where
    pub other : ℕ
    pub wait : IsWait logs t x other
    pub is_in : IsIn other xs

  first_in : (q x : ℕ) (xs : List ℕ) → IsIn x (up_to q (x ∷ xs))
  first_in q x xs = by_test (x == q)
    where
      by_test : (b : Bool) → IsIn x (if b then x ∷ [] else x ∷ up_to q xs)
      by_test true = inl refl
      by_test false = inl refl

  -- of a chain up to q each but q waits for one in it
  linked_up_to : (q p : ℕ) (xs : List ℕ) → IsIn q xs → AreLinked p xs → (x : ℕ) → IsIn x (up_to q xs) →
      (x ≡ q) ⊎ IsOneOf x (up_to q xs)
  linked_up_to q p [] there linked x inside = absurd there
  linked_up_to q p (y ∷ ys) there linked x inside =
      by_test (y == q) refl (λ still z h. linked_up_to q y ys still linked.1 z h) inside
    where
      other : (y == q) ≡ false → y ≡ q → ⊥
      other is e = let yes = number_same y q e in cc

      over : (x : ℕ) → IsOneOf x (up_to q ys) → IsOneOf x (y ∷ up_to q ys)
      over x f = record { other = f.other; wait = f.wait; is_in = inr f.is_in }

      rest : (y ≡ q → ⊥) → IsIn q ys
      rest ne = elim there [ inl e ↦ absurd (ne (sym e)) | inr h ↦ h ]

      head_waits : (zs : List ℕ) → zs ≡ ys → IsIn q zs → IsOneOf y (up_to q ys)
      head_waits [] e h = absurd h
      head_waits (z ∷ zs) e h =
          let wait : IsWait logs t y z × AreLinked z zs = subst (λ l. AreLinked y l) (sym e) linked.1 in
          record { other = z; wait = wait.0; is_in = subst (λ l. IsIn z (up_to q l)) e (first_in q z zs) }

      by_test : (b : Bool) → (y == q) ≡ b →
          (IsIn q ys → (z : ℕ) → IsIn z (up_to q ys) → (z ≡ q) ⊎ IsOneOf z (up_to q ys)) →
          IsIn x (if b then y ∷ [] else y ∷ up_to q ys) → (x ≡ q) ⊎ IsOneOf x (if b then y ∷ [] else y ∷ up_to q ys)
      by_test true is on (inl e) = inl (e ∙ same_number y q is)
      by_test true is on (inr h) = absurd h
      by_test false is on (inl e) = inr (subst (λ z. IsOneOf z (y ∷ up_to q ys)) (sym e) (over y (head_waits ys refl (rest (other is)))))
      by_test false is on (inr h) = elim (on (rest (other is)) x h) [
        | inl e ↦ inl e
        | inr f ↦ inr (over x f)
      ]

  -- of these each waits for one of them
  closed : (zs : List ℕ) → ((x : ℕ) → IsIn x zs → IsOneOf x zs) → AreHeld logs t (λ z. list_any (λ y. y == z) zs)
  closed zs each p stay isp =
      let found = found-list_any (λ y. y == p) zs stay in
      let there : IsIn p zs = subst (λ z. IsIn z zs) (same_number found.item p found.passes) found.is_in in
      let f = each p there in
      let wait : IsWait logs t p f.other = f.wait in
      let r : Receives t.rehearsal p wait.line f.other true = wait.receives in
      record {
        line = wait.line;
        next = wait.next;
        barred =
            waits r.name r.act (not_there t.rehearsal p r.name r.unsent)
            (list_any-found (λ y. y == (r.name).from) f.other zs f.is_in (number_same f.other (r.name).from (sym r.from)));
      }

  module _ (run : IsRun t.rehearsal) (taken : IsTakenFrom logs t) where
    -- a chain of members that is longer than the group has a circle
    chain_none : (n p : ℕ) (xs : List ℕ) → IsLed logs t n p → AreLinked p xs → IsWithoutRepeats (p ∷ xs) →
        ((x : ℕ) → IsIn x (p ∷ xs) → is_member t.rehearsal.setting.members x ≡ true) →
        t.rehearsal.setting.members ≤ n + length xs → NeverMerges t.rehearsal.setting logs
    chain_none zero p xs led linked once members few =
        let inside : (x : ℕ) → IsIn x (p ∷ xs) → IsIn x (counting 1 t.rehearsal.setting.members) = λ x there.
        let is = member_is t.rehearsal.setting.members x (members x there) in
        in-counting 1 t.rehearsal.setting.members x is.0 (omega (arith, is.1))
        in
        let low : length (p ∷ xs) ≤ length (counting 1 t.rehearsal.setting.members) =
        no_longer (p ∷ xs) (counting 1 t.rehearsal.setting.members) once inside in
        let count = length-counting 1 t.rehearsal.setting.members in
        absurd (omega (arith, low, count, few))
    chain_none (suc n) p xs led linked once members few = elim (in_or_out led.0 (p ∷ xs)) [
      | inl there ↦
          let q : ℕ = led.0 in
          let zs : List ℕ = up_to q (p ∷ xs) in
          held_none logs t run taken (λ z. list_any (λ y. y == z) zs)
          (closed zs (λ x inside. elim (linked_up_to q q (p ∷ xs) there (led.2, linked) x inside) [
            | inl e ↦ subst (λ z. IsOneOf z zs) (sym e) (record { other = p; wait = led.2; is_in = first_in q p xs })
            | inr f ↦ f
          ])) p (list_any-found (λ y. y == p) p zs (first_in q p xs) (number_same p p refl)) (members p (inl refl))
      | inr out ↦
          chain_none n led.0 (p ∷ xs) led.3 (led.2, linked) (out, once)
          (λ x there. elim there [
            | inl e ↦ subst (λ z. is_member t.rehearsal.setting.members z ≡ true) (sym e) led.1
            | inr h ↦ members x h
          ]) (omega (arith, few))
    ]

    pub circle_none : (p : ℕ) → is_member t.rehearsal.setting.members p ≡ true → IsLed logs t t.rehearsal.setting.members p →
        NeverMerges t.rehearsal.setting logs
    circle_none p isp led =
        chain_none t.rehearsal.setting.members p [] led tt ((λ h. h), tt)
        (λ x there. elim there [
          | inl e ↦ subst (λ z. is_member t.rehearsal.setting.members z ≡ true) (sym e) isp
          | inr h ↦ absurd h
        ]) (omega arith)

-- ---- what is refused

-- where a line is not taken, for no limit and not as a log ends before, no logs that begin with these have a merge
pub refused_none : (s : Setting) (cells : ℕ) (logs : List (Vec LogLine)) (culprit : Culprit) → IsCulprit s cells logs culprit →
    is_ended culprit.why ≡ false → is_limit culprit.why ≡ false → NeverMerges s logs
refused_none s cells logs culprit c on own = by_why culprit.why refl on
  where
    by_why : (why : Why) → culprit.why ≡ why → is_ended why ≡ false → NeverMerges s logs
    by_why (Fault f) is on = fault_none s cells logs culprit c (ap is_wait is) own
    by_why (Never q) is on =
        subst (λ z. NeverMerges z logs) c.group
        (never_none logs c.so_far c.lawful.runs c.taken culprit.member q c.is.in_group
        (subst (IsStand logs c.so_far culprit.member) is c.is.stand))
    by_why (Ended q) is on = absurd (cc)
    by_why Circle is on =
        let stand : IsStand logs c.so_far culprit.member Circle = subst (IsStand logs c.so_far culprit.member) is c.is.stand in
        subst (λ z. NeverMerges z logs) c.group
        (circle_none logs c.so_far c.lawful.runs c.taken culprit.member c.is.in_group stand.reason)
