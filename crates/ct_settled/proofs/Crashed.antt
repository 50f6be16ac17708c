-- The members that crashed, one more at a time.
use Rattle.std.proofs.Common.{◌≡◌, ℕ, ◌+◌, true, false, List, [], ◌∷◌, filter, ◌&&◌, nat_le, refl, ◌∙◌, arith}
use Rattle.std.specs.Prelude.{◌==◌, ◌||◌}
use Rattle.std.proofs.lemmas.Bool.Decides.{nat_tests}
use Rattle.ct_names.specs.Group.{everyone}
use Rattle.ct_names.specs.MemberSet.{with_member}
use Rattle.ct_names.proofs.MemberSets.{everyone-in, filter-agree, with_member-filter}
use Rattle.ct_model.specs.Rehearsal.{Rehearsal}
use Rattle.ct_choices.specs.Choices.{has_crashed}
use Rattle.ct_settled.specs.Completing.{crashed}

none_of : (xs : List ℕ) → filter (λ x. false) xs ≡ []
none_of [] = refl
none_of (x ∷ xs) = none_of xs

-- those up to i
abbrev pub crashed_to : Rehearsal → ℕ → List ℕ
crashed_to w i = filter (λ p. has_crashed w p && nat_le p i) everyone

module _ (w : Rehearsal) where
  pub none_crashed : crashed_to w 0 ≡ []
  none_crashed =
      filter-agree (λ p. has_crashed w p && nat_le p 0) (λ p. false) everyone
      (λ p h. let low = (everyone-in p h).0 in grind (arith, nat_tests))
      ∙ none_of everyone

  pub one_crashed : (i : ℕ) → has_crashed w (i + 1) ≡ true → with_member (crashed_to w i) (i + 1) ≡ crashed_to w (i + 1)
  one_crashed i here =
      with_member-filter (λ p. has_crashed w p && nat_le p i) (i + 1)
      ∙ filter-agree (λ p. (p == i + 1) || (has_crashed w p && nat_le p i)) (λ p. has_crashed w p && nat_le p (i + 1)) everyone
      (λ p h. grind (arith, nat_tests))

  pub none_more : (i : ℕ) → has_crashed w (i + 1) ≡ false → crashed_to w i ≡ crashed_to w (i + 1)
  none_more i here =
      filter-agree (λ p. has_crashed w p && nat_le p i) (λ p. has_crashed w p && nat_le p (i + 1)) everyone
      (λ p h. grind (arith, nat_tests))

  pub all_crashed : crashed_to w w.setting.members ≡ crashed w
  unfolding crashed
  all_crashed =
      filter-agree (λ p. has_crashed w p && nat_le p w.setting.members) (has_crashed w) everyone (λ p h. grind (arith, nat_tests))
