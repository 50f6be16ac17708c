-- The value of what is written says what the record says.
use Rattle.ct_records.proofs.Common.{◌≡◌, ℕ, ◌+◌, ◌*◌, ◌≤◌, Bool, true, false, List, [], ◌∷◌, length, codes, decimal, Some, None, Ok, refl}
use Rattle.ct_records.proofs.Common.{sym, ap, ◌∙◌, arith, le-leb, ◌==◌, All, All-head, All-tail, number, unsigned, Command, MAX_BOUND, Step}
use Rattle.ct_records.proofs.Common.{Follow, Rehearsal, Rest, nothing, command, amount, command_entry, step_entry, CommandFits, RestFits}
use Rattle.ct_records.proofs.Common.{StepFits, AllFit, IsStorable, since, list_of, script, entry_data, command_data, rest_data, step_data}
use Rattle.ct_records.proofs.Common.{steps_data, record_data}
use Rattle.ct_model.specs.StepText.{largest}
use Rattle.ct_records.specs.Text.{record_text}
use Rattle.ct_records.specs.Script.{whole_of, named_command, command_of, named, short_step, numbered_step, commanded_step, long_step}
use Rattle.ct_records.specs.Script.{step_of, step_in, bound_in, steps_of, rehearsal_in, of_value, rest_fits}
use Rattle.ct_records.proofs.Lengths.{Text}
use Rattle.ct_records.proofs.Names.{alike, step_found, command_found}
use Rattle.ct_records.proofs.Stored.{whole_text, record_reads, amount_fits, steps_width}
use Rattle.ct_records.proofs.Whole.{script_read}
use Rattle.ct_model.specs.StepText as steps
use Rattle.ct_records.proofs.Lengths as lengths

-- ---- the text is short

whole_width : (w : Rehearsal) → IsStorable w → Text (whole_text w) (9 + (20 + (9 + (20 + (5 + (3 + (10 + (55 * length w.steps + 14))))))))
whole_width w h =
    let literal = lengths.plain in
    lengths.then (codes "{\"batch\":") _ 9 _ (literal (codes "{\"batch\":") refl)
    (lengths.then (decimal w.setting.bound) _ 20 _ (lengths.value w.setting.bound (omega (arith, h.few_bound)))
    (lengths.then (codes ",\"cells\":") _ 9 _ (literal (codes ",\"cells\":") refl)
    (lengths.then (decimal w.cells) _ 20 _ (lengths.value w.cells (omega (arith, h.few_cells)))
    (lengths.then (codes ",\"n\":") _ 5 _ (literal (codes ",\"n\":") refl)
    (lengths.then (decimal w.setting.members) _ 3 _ (lengths.byte w.setting.members (omega (arith, h.few_members)))
    (lengths.then (codes ",\"steps\":[") _ 10 _ (literal (codes ",\"steps\":[") refl)
    (lengths.then _ _ (55 * length w.steps) 14 (steps_width w.steps h.fit) (literal (codes "],\"version\":3}") refl))))))))

-- ---- the value says what the record says

whole_is : (low high n : ℕ) → low ≤ n → n ≤ high → whole_of low high (number (unsigned n)) ≡ Some n
unfolding whole_of
whole_is low high n le ge = rw (le-leb low n le, le-leb n high ge) refl

byte_is : (n : ℕ) → n ≤ 255 → whole_of 0 255 (number (unsigned n)) ≡ Some n
byte_is n h = whole_is 0 255 n (omega arith) h

value_is : (n : ℕ) → n ≤ 18446744073709551615 → whole_of 0 18446744073709551615 (number (unsigned n)) ≡ Some n
value_is n h = whole_is 0 18446744073709551615 n (omega arith) h

none_is : (c : Command) → whole_of 0 18446744073709551615 (command_data c) ≡ None
unfolding whole_of
none_is c = refl

command_is : (c : Command) → CommandFits c → command_of (command_data c) ≡ Some c
unfolding command_of named_command
command_is c h =
    let x = (command_entry c).rest in
    rw (
      byte_is (command_entry c).first h.0,
      value_is (amount x) (amount_fits x h.1),
      command_found c,
      le-leb (amount x) (largest x) h.1,
    ) refl

rest_is : (r : Rest) → RestFits r → rest_fits r ≡ true
rest_is (steps.number x) h = le-leb (amount x) (largest x) h
rest_is _ h = refl

-- an array of the name, the number and the rest is read as the one step of that name
entry_is : (name : List ℕ) (first : ℕ) (r : Rest) (s : Step) → first ≤ 255 → RestFits r → rest_fits (step_entry s).rest ≡ true
    → named step_entry name (alike first r) ≡ Some s → step_of (entry_data name first (rest_data r)) ≡ Some s
unfolding step_of short_step numbered_step commanded_step long_step
entry_is name first nothing s h fit all found = rw (byte_is first h, found) refl
entry_is name first (steps.number x) s h fit all found = rw (byte_is first h, value_is (amount x) (amount_fits x fit), found, all) refl
entry_is name first (command c) s h fit all found = rw (byte_is first h, none_is c, command_is c fit, found) refl

step_is : (s : Step) → StepFits s → step_of (step_data s) ≡ Some s
step_is s h =
    entry_is (step_entry s).name (step_entry s).first (step_entry s).rest s h.0 h.1 (rest_is (step_entry s).rest h.1) (step_found s)

-- a record of a known version, which has its steps; the bound is named in version 3 alone, and else the largest
pub record IsOf (named : Bool) (version : ℕ) (w : Rehearsal) : Type 0 where
  pub first : 1 ≤ version
  pub last : version ≤ 3
  pub names : (version == 3) ≡ named
  pub bound : named ≡ false → w.setting.bound ≡ MAX_BOUND
  pub known : All (λ s. since s ≤ version) w.steps

known_is : (version : ℕ) (s : Step) → StepFits s → since s ≤ version → step_in version (step_data s) ≡ Some s
unfolding step_in
known_is version s h le = rw (step_is s h, le-leb (since s) version le) refl

steps_are : (version at : ℕ) (ss : List Step) → AllFit ss → All (λ s. since s ≤ version) ss →
    steps_of version at (list_of (steps_data ss)) ≡ Ok ss
unfolding steps_of
steps_are version at [] h known = refl
steps_are version at (s ∷ ss) h known =
    rw (
      known_is version s h.0 (All-head (λ s. since s ≤ version) s ss known),
      steps_are version (at + 1) ss h.1 (All-tail (λ s. since s ≤ version) s ss known),
    ) refl

pub record_is : (named : Bool) (version : ℕ) (w : Rehearsal) → IsOf named version w → IsStorable w →
    of_value (record_data named version w) ≡ Ok w
unfolding of_value rehearsal_in bound_in
record_is true version w is h =
    let members = whole_is 1 16 w.setting.members h.some_members h.few_members in
    let bound = whole_is 1 MAX_BOUND w.setting.bound h.some_bound h.few_bound in
    let cells = whole_is 0 1024 w.cells (omega arith) h.few_cells in
    let steps = steps_are version 1 w.steps h.fit is.known in
    let value = value_is version (omega (arith, is.last)) in
    rw (value, le-leb 1 version is.first, le-leb version 3 is.last, is.names, members, bound, cells, steps) refl
record_is false version w is h =
    let members = whole_is 1 16 w.setting.members h.some_members h.few_members in
    let cells = whole_is 0 1024 w.cells (omega arith) h.few_cells in
    let steps = steps_are version 1 w.steps h.fit is.known in
    let value = value_is version (omega (arith, is.last)) in
    let says : ℕ → Rehearsal =
    λ b. record { setting = record { members = w.setting.members; bound = b }; cells = w.cells; steps = w.steps } in
    let is_largest : of_value (record_data false version w) ≡ Ok (says MAX_BOUND) =
    rw (value, le-leb 1 version is.first, le-leb version 3 is.last, is.names, members, cells, steps) refl in
    is_largest ∙ ap (λ b. Ok (says b)) (sym (is.bound refl))

-- ---- the whole

-- every step is one of version 3
pub is_known : (s : Step) → since s ≤ 3
is_known (Follow p) = omega arith
is_known _ = omega arith

record_whole : (w : Rehearsal) → record_text w ≡ whole_text w
unfolding record_text
record_whole w = refl

pub round_trip : (w : Rehearsal) → IsStorable w → script (record_text w) ≡ Ok w
round_trip w h =
    let width = whole_width w h in
    ap script (record_whole w)
    ∙ script_read (whole_text w) (record_data true 3 w) (omega (arith, width.short, h.few_steps)) width.utf8 (record_reads w h)
    ∙ record_is true 3 w (record {
      first = omega arith;
      last = omega arith;
      names = refl;
      bound = λ e. absurd cc;
      known = λ k d lt. is_known _;
    }) h
