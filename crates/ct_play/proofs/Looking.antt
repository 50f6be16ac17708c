-- Members that terms are about, one more at a time.
use Rattle.std.proofs.Common.{◌≡◌, ℕ, zero, suc, ◌+◌, ◌-◌, ◌<◌, Bool, true, false, not, List, [], ◌∷◌}
use Rattle.std.proofs.Common.{Option, Some, None, ap, sym, ◌∙◌, refl, arith}
use Rattle.std.specs.Prelude.{◌&&◌, find, filter, is_none, is_some, if◌then◌else◌}
use Rattle.std.specs.List.{list_any}
use Rattle.std.specs.Option.{option_or}
use Rattle.std.proofs.lemmas.List.Folds.{find-append}
use Rattle.ct_names.specs.Group.{everyone, members}
use Rattle.ct_names.specs.MemberSet.{has_member}
use Rattle.ct_grammar.specs.declared.claim.Claim.{Claim}
use Rattle.ct_grammar.specs.declared.term.Whom.{Whom}
use Rattle.ct_grammar.specs.declared.term.Whom.TheVariants as whom
use Rattle.ct_choices.specs.Choices.{has_crashed}
use Rattle.ct_play.specs.Claims.{is_true_of}
use Rattle.ct_play.specs.Goals.{holds_for, is_such, unshown}
use Rattle.ct_play.specs.Played.{Played}
use Rattle.ct_play.proofs.Counting.{members_more}

-- ---- the first that passes a test

find_one : (test : ℕ → Bool) (x : ℕ) (b : Bool) → test x ≡ b → find test (x ∷ []) ≡ elim b [ true ↦ Some x | false ↦ None ]
find_one test x true e = rw e refl
find_one test x false e = rw e refl

-- none up to here
pub member_passed : (test : ℕ → Bool) (i : ℕ) → find test (members i) ≡ None → test (i + 1) ≡ false → find test (members (i + 1)) ≡ None
member_passed test i before h =
    ap (find test) (members_more i)
    ∙ (find-append test (members i) ((i + 1) ∷ [])
    ∙ (ap (λ o. option_or o (find test ((i + 1) ∷ []))) before ∙ find_one test (i + 1) false h))

found_among : (test : ℕ → Bool) (i d n : ℕ) → n ≡ i + 1 + d → find test (members i) ≡ None → test (i + 1) ≡ true →
    find test (members n) ≡ Some (i + 1)
found_among test i zero n e before h =
    let same : n ≡ i + 1 = omega arith in
    ap (λ k. find test (members k)) same
    ∙ (ap (find test) (members_more i)
    ∙ (find-append test (members i) ((i + 1) ∷ [])
    ∙ (ap (λ o. option_or o (find test ((i + 1) ∷ []))) before ∙ find_one test (i + 1) true h)))
found_among test i (suc d) zero e before h = absurd (omega arith)
found_among test i (suc d) (suc m) e before h =
    let same : suc m ≡ m + 1 = omega arith in
    ap (λ k. find test (members k)) same
    ∙ (ap (find test) (members_more m)
    ∙ (find-append test (members m) ((m + 1) ∷ [])
    ∙ ap (λ o. option_or o (find test ((m + 1) ∷ []))) (found_among test i d m (omega arith) before h)))

-- the first one is here
pub member_found : (test : ℕ → Bool) (i n : ℕ) → i < n → find test (members i) ≡ None → test (i + 1) ≡ true →
    find test (members n) ≡ Some (i + 1)
member_found test i n lt before h = found_among test i (n - (i + 1)) n (omega arith) before h

-- one passes a test where the first that does is there
any_found : (test : ℕ → Bool) (x : ℕ) (xs : List ℕ) (b : Bool) → test x ≡ b → list_any test xs ≡ is_some (find test xs) →
    list_any test (x ∷ xs) ≡ is_some (find test (x ∷ xs))
any_found test x xs true e rest = rw e refl
any_found test x xs false e rest = rw e rest

pub list_any-find : (test : ℕ → Bool) (xs : List ℕ) → list_any test xs ≡ is_some (find test xs)
list_any-find test [] = refl
list_any-find test (x ∷ xs) = any_found test x xs (test x) refl (list_any-find test xs)

-- ---- among some

filtered : (among test : ℕ → Bool) (x : ℕ) (xs : List ℕ) (b : Bool) → among x ≡ b →
    find (λ p. among p && test p) xs ≡ find test (filter among xs) →
    find (λ p. among p && test p) (x ∷ xs) ≡ find test (filter among (x ∷ xs))
filtered among test x xs true e rest = rw e (ap (λ o. if test x then Some x else o) rest)
filtered among test x xs false e rest = rw e rest

pub find-filter : (among test : ℕ → Bool) (xs : List ℕ) → find (λ p. among p && test p) xs ≡ find test (filter among xs)
find-filter among test [] = refl
find-filter among test (x ∷ xs) = filtered among test x xs (among x) refl (find-filter among test xs)

-- of the members of a set
pub unshown_of_set : (s : Played) (who : Whom) (set : List ℕ) (claim : Claim) → who ≡ whom.Some set →
    set ≡ filter (has_member set) everyone →
    find (is_such s who claim false) everyone ≡ unshown s who claim
unfolding is_such unshown
unshown_of_set s who set claim e members =
    ap (λ (w : Whom). find (is_such s w claim false) everyone) e
    ∙ (find-filter (has_member set) (λ p. not (is_true_of s p claim)) everyone
    ∙ (ap (find (λ p. not (is_true_of s p claim))) (sym members) ∙ ap (λ (w : Whom). unshown s w claim) (sym e)))

unshown_of_members : (s : Played) (who : Whom) (claim : Claim) → ((p : ℕ) → who ≡ whom.One p → ⊥) →
    ((set : List ℕ) → who ≡ whom.Some set → ⊥) →
    find (is_such s who claim false) (members s.rehearsal.setting.members) ≡ unshown s who claim
unfolding is_such unshown
unshown_of_members s (whom.One p) claim one some = absurd (one p refl)
unshown_of_members s (whom.Some set) claim one some = absurd (some set refl)
unshown_of_members s whom.All claim one some = refl
unshown_of_members s whom.Any claim one some = refl
unshown_of_members s whom.Up claim one some =
    find-filter (λ p. not (has_crashed s.rehearsal p)) (λ p. not (is_true_of s p claim)) (members s.rehearsal.setting.members)

-- of the members of the group
pub unshown_of_group : (s : Played) (who : Whom) (claim : Claim) (n : ℕ) → n ≡ s.rehearsal.setting.members →
    ((p : ℕ) → who ≡ whom.One p → ⊥) → ((set : List ℕ) → who ≡ whom.Some set → ⊥) →
    find (is_such s who claim false) (members n) ≡ unshown s who claim
unshown_of_group s who claim n e one some =
    ap (λ k. find (is_such s who claim false) (members k)) e ∙ unshown_of_members s who claim one some

-- of one of any
pub shown_of_any : (s : Played) (claim : Claim) (n : ℕ) → n ≡ s.rehearsal.setting.members →
    is_some (find (is_such s whom.Any claim true) (members n)) ≡ holds_for s whom.Any claim
unfolding is_such holds_for
shown_of_any s claim n e =
    ap (λ k. is_some (find (λ p. is_true_of s p claim) (members k))) e
    ∙ sym (list_any-find (λ p. is_true_of s p claim) (members s.rehearsal.setting.members))

-- there is none
pub is_none-not : {X : Type 0} (o : Option X) (none : Bool) → is_some o ≡ not none → none ≡ is_none o
is_none-not None true e = refl
is_none-not None false e = absurd (cc)
is_none-not (Some x) true e = absurd (cc)
is_none-not (Some x) false e = refl

-- of any other
pub holds_unless_any : (s : Played) (who : Whom) (claim : Claim) → (who ≡ whom.Any → ⊥) →
    is_none (unshown s who claim) ≡ holds_for s who claim
unfolding holds_for
holds_unless_any s (whom.One p) claim any = refl
holds_unless_any s (whom.Some set) claim any = refl
holds_unless_any s whom.All claim any = refl
holds_unless_any s whom.Any claim any = absurd (any refl)
holds_unless_any s whom.Up claim any = refl
