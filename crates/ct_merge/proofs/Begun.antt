-- Runs of first lines of logs.
use Rattle.ct_merge.proofs.Common.{◌≡◌, ℕ, zero, suc, true, List, [], ◌∷◌, Option, Some, None, length, take, refl, sym, ap, ◌∙◌, subst}
use Rattle.ct_merge.proofs.Common.{arith, slice_get, option_map, Vec, AllZip, nat_tests, take_all, IsMember, is_member, Wire, wire_to}
use Rattle.ct_merge.proofs.Common.{Rehearsal, state_of, Setting, is_sent, some-none, some-same, IsSame, IsLike, IsLog, IsMerge, IsTold}
use Rattle.ct_merge.proofs.Common.{Moment, log_of, own, full_name, IsBegun, IsRun, FullName, LogAct, LogLine}
use Rattle.ct_merge.proofs.SentOnce.{one_receipt}
use Rattle.ct_merge.proofs.Sameness.{Acts, AreSame, like_there, same_deeds}
use Rattle.ct_merge.proofs.Telling.{IsReceipt, wire_named}

-- ---- names

-- a serial is sent to a member with some wire
sent_wire : (w : Rehearsal) (p k : ℕ) → is_sent w p k ≡ true → (o : Option Wire) → wire_to (state_of w) p k ≡ o →
    (x : Wire) × (o ≡ Some x)
sent_wire w p k sent None e = absurd (cc)
sent_wire w p k sent (Some x) e = (x, refl)

pub receipt_of : (w : Rehearsal) (p k : ℕ) (name : FullName) → is_sent w p k ≡ true → full_name w k ≡ Some name → IsReceipt w p k name
receipt_of w p k name sent full =
    let x = sent_wire w p k sent (wire_to (state_of w) p k) refl in
    wire_named w p k name x.0 full x.1

-- two envelopes to one member have two full names
pub one_name : (w : Rehearsal) → IsRun w → (p j k : ℕ) (name : FullName) → is_sent w p j ≡ true → is_sent w p k ≡ true →
    full_name w j ≡ Some name → full_name w k ≡ Some name → j ≡ k
one_name w r p j k name sent_j sent_k full_j full_k =
    one_receipt w r p j k name (receipt_of w p j name sent_j full_j) (receipt_of w p k name sent_k full_k)

-- ---- lines

-- what the lines of logs tell
abbrev pub acts_in : List (Vec LogLine) → ℕ → ℕ → Option LogAct
acts_in logs p i = option_map (λ (line : LogLine). line.act) (slice_get (log_of logs p) i)

zip_get : {A B : Type 0} (P : A → B → Type 0) (xs : List A) (ys : List B) (i : ℕ) (x : A) → AllZip P xs ys → slice_get xs i ≡ Some x →
    (y : B) × (slice_get ys i ≡ Some y) × P x y
zip_get P [] ys i x h e = some-none x e
zip_get P (z ∷ xs) [] i x h e = absurd h
zip_get P (z ∷ xs) (y ∷ ys) zero x h e = (y, refl, subst (λ a. P a y) (some-same z x e) h.0)
zip_get P (z ∷ xs) (y ∷ ys) (suc i) x h e = zip_get P xs ys i x h.1 e

pub zip_length : {A B : Type 0} (P : A → B → Type 0) (xs : List A) (ys : List B) → AllZip P xs ys → length xs ≡ length ys
zip_length P [] [] h = refl
zip_length P [] (y ∷ ys) h = absurd h
zip_length P (x ∷ xs) [] h = absurd h
zip_length P (x ∷ xs) (y ∷ ys) h = ap suc (zip_length P xs ys h.1)

take_get : {A : Type 0} (n : ℕ) (xs : List A) (i : ℕ) (x : A) → slice_get (take n xs) i ≡ Some x → slice_get xs i ≡ Some x
take_get zero xs i x e = some-none x e
take_get (suc n) [] i x e = some-none x e
take_get (suc n) (y ∷ xs) zero x e = e
take_get (suc n) (y ∷ xs) (suc i) x e = take_get n xs i x e

pub is_member_of : (n p : ℕ) → IsMember n p → is_member n p ≡ true
is_member_of n p h = grind (arith, nat_tests)

-- the line of its place tells of each own step
unfoldable pub IsByLines : List (Vec LogLine) → Rehearsal → Type 0
IsByLines logs w = (p i : ℕ) (m : Moment) → IsMember w.setting.members p → slice_get (own w p) i ≡ Some m →
    (line : LogLine) × (slice_get (log_of logs p) i ≡ Some line) × IsTold m line

pub by_lines : (logs : List (Vec LogLine)) (w : Rehearsal) → IsBegun w logs → IsByLines logs w
unfolding IsByLines
by_lines logs w begun p i m isp there =
    let b = begun p (is_member_of w.setting.members p isp) in
    let f = zip_get IsTold (own w p) (take b.0 (log_of logs p)) i m (b.1).is there in
    (f.0, take_get b.0 (log_of logs p) i f.0 f.1, f.2)

pub acts_by : (logs : List (Vec LogLine)) (w : Rehearsal) → IsByLines logs w → Acts (acts_in logs) w
unfolding Acts IsByLines
acts_by logs w lines p i m isp there =
    let f = lines p i m isp there in
    ((f.0).act, ap (option_map (λ (line : LogLine). line.act)) f.1, (f.2).act)

acts_begun : (w : Rehearsal) (logs : List (Vec LogLine)) → IsBegun w logs → Acts (acts_in logs) w
acts_begun w logs begun = acts_by logs w (by_lines logs w begun)

pub merge_begun : (w : Rehearsal) (logs : List (Vec LogLine)) → IsMerge w logs → IsBegun w logs
merge_begun w logs merge p isp = (
  length (log_of logs p),
  record {
    within = omega arith;
    is = subst (λ l. IsLog w p l) (sym (take_all (length (log_of logs p)) (log_of logs p) (omega arith))) (merge p isp);
  },
)

-- ---- what is the same

-- a line that stands in two runs leaves its member the same, and sends the same
pub same_steps : (logs : List (Vec LogLine)) (w v : Rehearsal) → IsRun w → IsRun v → v.setting ≡ w.setting → IsBegun w logs →
    IsBegun v logs → (p i : ℕ) (m n : Moment) → IsMember w.setting.members p → slice_get (own w p) i ≡ Some m →
    slice_get (own v p) i ≡ Some n → IsSame p m n
unfolding AreSame
same_steps logs w v r u group a b p i m n isp =
    same_deeds (acts_in logs) w v r u group (acts_begun w logs a) (acts_begun v logs b) p isp i m n

-- members stand the same behind all lines
pub same_ends : (logs : List (Vec LogLine)) (w v : Rehearsal) → IsRun w → IsRun v → v.setting ≡ w.setting → IsMerge w logs →
    IsMerge v logs → (p : ℕ) → IsMember w.setting.members p → IsLike p (state_of w) (state_of v)
same_ends logs w v r u group a b p isp =
    let isv : IsMember v.setting.members p = subst (λ (s : Setting). IsMember s.members p) (sym group) isp in
    like_there w v p r u isp isv
    (same_deeds (acts_in logs) w v r u group (acts_begun w logs (merge_begun w logs a)) (acts_begun v logs (merge_begun v logs b)) p isp)
    (zip_length IsTold (own w p) (log_of logs p) (a p (is_member_of w.setting.members p isp))
    ∙ sym (zip_length IsTold (own v p) (log_of logs p) (b p (is_member_of v.setting.members p isv))))
