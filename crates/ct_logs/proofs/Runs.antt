-- Runs of worlds, as replays take them.
use Rattle.std.proofs.Common.{◌≡◌, ℕ, ◌-◌, true, List, [], take, Option, Some, None, inl, inr, ap, subst, sym, ◌∙◌}
use Rattle.std.specs.Prelude.{All, IfSome, slice_get}
use Rattle.std.specs.Option.{option_map_or}
use Rattle.std.proofs.lemmas.List.Elements.{All-get_or}
use Rattle.std.proofs.lemmas.Option.{slice_get_cases}
use Rattle.ct_names.specs.Group.{is_member}
use Rattle.ct_model.specs.Lawful.{IsLawful}
use Rattle.ct_model.specs.Rehearsal.{Rehearsal}
use Rattle.ct_model.specs.Setting.{Setting}
use Rattle.ct_model.specs.declared.step.Step.{Step}
use Rattle.ct_world.specs.Setup.{record_of, setting_of}
use Rattle.ct_world.specs.declared.setup.Setup.{Setup}
use Rattle.ct_merge.specs.Expected.{AllHold, Expecting, IsUnmet, expected_of}
use Rattle.ct_merge.specs.declared.expectation.Expectation.{Expectation}
use Rattle.ct_merge.specs.declared.testing.Unmet.{Unmet}
use Rattle.ct_logs.specs.Judging.{AreMet, IsUnmetRun}

record_is : (setup : Setup) (steps : List Step) (w : Rehearsal) → setting_of setup ≡ w.setting → setup.cells ≡ w.cells →
    steps ≡ w.steps → record_of setup steps ≡ w
record_is setup steps w setting cells same =
    ap (λ (s : Setting). record { setting = s; cells = setup.cells; steps = steps }) setting
    ∙ ap (λ (n : ℕ). record { setting = w.setting; cells = n; steps = steps }) cells
    ∙ ap (λ (l : List Step). record { setting = w.setting; cells = w.cells; steps = l }) same

-- what is unmet in the record of a world is so of what its set expects
pub unmet_in : (setup : Setup) (steps : List Step) (w : Rehearsal) (listed expected : List Expecting) (n : ℕ) (o : Option Unmet)
    (unmet : Unmet) → setting_of setup ≡ w.setting → setup.cells ≡ w.cells → steps ≡ w.steps → listed ≡ take n expected →
    n ≡ w.setting.members → IsLawful w → IfSome o (IsUnmet (record_of setup steps) listed) → o ≡ Some unmet → IsUnmetRun w expected
unmet_in setup steps w listed expected n o unmet setting cells same list count law h is =
    let told : IsUnmet (record_of setup steps) listed unmet =
    subst (λ (o : Option Unmet). IfSome o (IsUnmet (record_of setup steps) listed)) is h in
    let run : IsUnmet w listed unmet =
    subst (λ (v : Rehearsal). IsUnmet v listed unmet) (record_is setup steps w setting cells same) told in
    let all : listed ≡ take w.setting.members expected = list ∙ ap (λ m. take m expected) count in
    record { lawful = law; unmet = unmet; is = subst (λ (l : List Expecting). IsUnmet w l unmet) all run }

-- ---- what is met

no_list : (expected : List Expecting) → All (λ (x : Expecting). x.list ≡ []) expected → (p : ℕ) → expected_of expected p ≡ []
no_list expected none p = elim (slice_get_cases expected (p - 1)).1 as (λ _. expected_of expected p ≡ []) [
  | inl is ↦
      ap (λ o. option_map_or (λ (x : Expecting). x.list) o []) is.2
      ∙ subst (λ (x : Expecting). x.list ≡ []) is.3 (All-get_or (λ (x : Expecting). x.list ≡ []) expected (p - 1) is.0 is.1 none)
  | inr past ↦ ap (λ o. option_map_or (λ (x : Expecting). x.list) o []) past.1
]

none_holds : (w : Rehearsal) (p : ℕ) (list : List Expectation) → list ≡ [] → AllHold w p list
none_holds w p list none i e at =
    let no : None ≡ Some e = sym (ap (λ (l : List Expectation). slice_get l i) none) ∙ at in
    absurd (cc)

module _ (w : Rehearsal) (listed expected : List Expecting) (n : ℕ) (list : listed ≡ take n expected) (count : n ≡ w.setting.members) where
  all_listed : listed ≡ take w.setting.members expected
  all_listed = list ∙ ap (λ m. take m expected) count

  -- where nothing is expected, all is met
  pub met_none : All (λ (x : Expecting). x.list ≡ []) listed → AreMet w (take w.setting.members expected)
  met_none none p member = none_holds w p _ (ap (λ l. expected_of l p) (sym all_listed) ∙ no_list listed none p)

  -- what is met in the record of a world is so of what its set expects
  pub met_in : (setup : Setup) (steps : List Step) → setting_of setup ≡ w.setting → setup.cells ≡ w.cells → steps ≡ w.steps →
      ((p : ℕ) → is_member setup.group p ≡ true → AllHold (record_of setup steps) p (expected_of listed p)) →
      AreMet w (take w.setting.members expected)
  met_in setup steps setting cells same holds p member =
      let group : setup.group ≡ w.setting.members = ap (λ (s : Setting). s.members) setting in
      let there = holds p (subst (λ m. is_member m p ≡ true) (sym group) member) in
      subst (λ (l : List Expecting). AllHold w p (expected_of l p)) all_listed
      (subst (λ (v : Rehearsal). AllHold v p (expected_of listed p)) (record_is setup steps w setting cells same) there)
