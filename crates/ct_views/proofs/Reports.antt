-- The names of the reports beside records.
use Rattle.std.proofs.Common.{◌≡◌, ◌≢◌, ◌∙◌, ℕ, ◌-◌, Bool, true, false, List, ◌++◌, length, take, ap, refl, sym, codes}
use Rattle.std.specs.Str.{bytes_eq}
use Rattle.std.proofs.lemmas.List.{take-append-drop}
use Rattle.std.proofs.lemmas.Slice.Eq.{bytes_eq-Decides}
use Rattle.ct_views.specs.Checking.{is_json, report_name}

-- a name that doesn't end with `.json`
other_end : (name : List ℕ) → ((front : List ℕ) → name ≢ front ++ codes ".json") → is_json name ≡ false
other_end name other = go (is_json name) refl
  where
    go : (b : Bool) → is_json name ≡ b → is_json name ≡ false
    go false h = h
    go true h =
        let k = length name - 5 in
        absurd (other (take k name) (sym (take-append-drop k name) ∙ ap (λ l. take k name ++ l) ((bytes_eq-Decides _ _).0 h)))

pub other_name : (name : List ℕ) → ((front : List ℕ) → name ≢ front ++ codes ".json") → name ++ codes ".report" ≡ report_name name
unfolding report_name
other_name name other = rw (other_end name other) refl
