-- Logs of which none goes on, or with lines that are never taken, have no merge.
use Rattle.ct_merge.proofs.Common.{◌≡◌, ℕ, ◌<◌, true, List, Some, length, take, refl, sym, ap, ◌∙◌, subst, arith, ◌==◌, Bool, is_some}
use Rattle.ct_merge.proofs.Common.{slice_get, Vec, length-take-le, IsMember, is_member, Rehearsal, Setting, member_is, IsBarred, IsThere}
use Rattle.ct_merge.proofs.Common.{waits, IsTold, log_of, own, IsTakenFrom, IsTakenTo, Taken, count_of, IsBegun, IsRun, AllWait, HasNoMerge}
use Rattle.ct_merge.proofs.Common.{IsUnsent, SomeWaits, AllBegin, NeverMerges, FullName, LogLine, some-same, number_same, same_number}
use Rattle.ct_merge.proofs.Common.{get-front, IsNext}
use Rattle.ct_merge.proofs.Beyond.{no_merge, there_named, there_wire}
use Rattle.ct_merge.proofs.Begun.{is_member_of, zip_length}
use Rattle.ct_merge.proofs.Advancing.{taken_longer}
use Rattle.ct_merge.proofs.Moments.{get_below}

-- what was not sent is not there
pub not_there : (w : Rehearsal) (p : ℕ) (name : FullName) → IsUnsent w p name → IsThere w p name → ⊥
not_there w p name unsent f =
    unsent f.serial (ap is_some (there_wire w p name.from f.serial f.wire f.from))
    (there_named w p name.from f.serial f.wire name f.from f.carried refl)

-- as many own steps as lines were taken
pub as_many : (logs : List (Vec LogLine)) (t : Taken) (p : ℕ) → IsTakenFrom logs t →
    is_member t.rehearsal.setting.members p ≡ true → length (own t.rehearsal p) ≡ count_of t.counts p
as_many logs t p taken isp =
    let f : IsTakenTo t.rehearsal p (log_of logs p) (count_of t.counts p) = taken p isp in
    zip_length IsTold (own t.rehearsal p) (take (count_of t.counts p) (log_of logs p)) f.is
    ∙ length-take-le (count_of t.counts p) (log_of logs p) f.within

pub taken_begun : (logs : List (Vec LogLine)) (t : Taken) → IsTakenFrom logs t → IsBegun t.rehearsal logs
taken_begun logs t taken p isp = (count_of t.counts p, taken p isp)

pub waiting_none : (logs : List (Vec LogLine)) (t : Taken) → IsRun t.rehearsal → IsTakenFrom logs t → AllWait logs t → SomeWaits logs t →
    HasNoMerge t.rehearsal.setting logs
waiting_none logs t u taken all some w r group merge =
    let p : ℕ = some.member in
    let count = as_many logs t p taken some.in_group in
    let more : count_of t.counts p < length (log_of logs p) = some.more in
    no_merge logs t.rehearsal w (λ q. true) u r (sym group) (taken_begun logs t taken)
    (λ q stay isq line next. barred q isq line next) p refl
    (subst (λ (s : Setting). IsMember s.members p) (sym group) (member_is t.rehearsal.setting.members p some.in_group))
    (omega arith) merge
  where
    barred : (q : ℕ) → IsMember t.rehearsal.setting.members q → (line : LogLine) →
        slice_get (log_of logs q) (length (own t.rehearsal q)) ≡ Some line → IsBarred t.rehearsal (λ q. true) q line
    barred q isq line next =
        let test = is_member_of t.rehearsal.setting.members q isq in
        let f = all q test line (ap (λ i. slice_get (log_of logs q) i) (sym (as_many logs t q taken test)) ∙ next) in
        waits f.name f.act (not_there t.rehearsal q f.name f.unsent) refl

-- what was taken of logs was taken of those that begin with them
taken_more : (logs more : List (Vec LogLine)) (t : Taken) → AllBegin logs more → IsTakenFrom logs t → IsTakenFrom more t
taken_more logs more t begins taken p isp =
    taken_longer t.rehearsal p (log_of logs p) (log_of more p) (begins p).0 (count_of t.counts p) (sym (begins p).1) (taken p isp)

module _ (logs : List (Vec LogLine)) (t : Taken) where
  -- p's log isn't over, and its next line is barred if these members don't go on
  pub record IsHeld (stays : ℕ → Bool) (p : ℕ) : Type 0 where
    pub line : LogLine
    pub next : IsNext logs t p line
    pub barred : IsBarred t.rehearsal stays p line

  abbrev pub AreHeld : (ℕ → Bool) → Type 0
  AreHeld stays = (p : ℕ) → stays p ≡ true → is_member t.rehearsal.setting.members p ≡ true → IsHeld stays p

  -- where members hold one another so, no logs that begin with these have a merge
  pub held_none : IsRun t.rehearsal → IsTakenFrom logs t → (stays : ℕ → Bool) → AreHeld stays → (p : ℕ) → stays p ≡ true →
      is_member t.rehearsal.setting.members p ≡ true → NeverMerges t.rehearsal.setting logs
  held_none run taken stays held p stay isp more begins w r group merge =
      no_merge more t.rehearsal w stays run r (sym group) (taken_begun more t longer) barred p stay
      (subst (λ (s : Setting). IsMember s.members p) (sym group) (member_is t.rehearsal.setting.members p isp)) below merge
    where
      longer : IsTakenFrom more t
      longer = taken_more logs more t begins taken

      there : (q : ℕ) (f : IsHeld stays q) → slice_get (log_of more q) (count_of t.counts q) ≡ Some f.line
      there q f =
          subst (λ l. slice_get l (count_of t.counts q) ≡ Some f.line) (begins q).1
          (get-front (log_of logs q) (begins q).0 (count_of t.counts q) f.line f.next)

      below : length (own t.rehearsal p) < length (log_of more p)
      below =
          let low : count_of t.counts p < length (log_of more p) =
          get_below (log_of more p) (count_of t.counts p) (held p stay isp).line (there p (held p stay isp)) in
          let count : length (own t.rehearsal p) ≡ count_of t.counts p = as_many more t p longer isp in
          omega arith

      barred : (q : ℕ) → stays q ≡ true → IsMember t.rehearsal.setting.members q → (line : LogLine) →
          slice_get (log_of more q) (length (own t.rehearsal q)) ≡ Some line → IsBarred t.rehearsal stays q line
      barred q stay isq line next =
          let test = is_member_of t.rehearsal.setting.members q isq in
          let f = held q stay test in
          let same : f.line ≡ line =
          some-same f.line line
          (sym (there q f) ∙ (ap (λ i. slice_get (log_of more q) i) (sym (as_many more t q longer test)) ∙ next)) in
          subst (λ l. IsBarred t.rehearsal stays q l) same f.barred

  -- one of them by itself
  pub one_held : IsRun t.rehearsal → IsTakenFrom logs t → (p : ℕ) → is_member t.rehearsal.setting.members p ≡ true →
      IsHeld (λ z. z == p) p → NeverMerges t.rehearsal.setting logs
  one_held run taken p isp held =
      held_none run taken (λ z. z == p) (λ z is_p isz. subst (IsHeld (λ z. z == p)) (sym (same_number z p is_p)) held) p
      (number_same p p refl) isp
