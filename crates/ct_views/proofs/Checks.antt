-- Files that are checked one after the other.
use Rattle.std.proofs.Common.{◌≡◌, ◌∙◌, ℕ, suc, ◌+◌, ◌<◌, List, get_or, map, [], ◌∷◌, ◌++◌, length, take, Option}
use Rattle.std.proofs.Common.{Result, Ok, Err, ap, refl, subst, sym, append_assoc, append-nil, arith, zero-add}
use Rattle.std.specs.Prelude.{Bool, fold, max, OnErr}
use Rattle.std.specs.Io.KnownBytes.{Appends}
use Rattle.std.proofs.KnownBytes.{Appends-nil, Appends-trans}
use Rattle.std.proofs.lemmas.List.{map_more, take-map}
use Rattle.ct_streams.specs.Streams.{WritesPart}
use Rattle.ct_views.specs.declared.check_options.CheckOptions.{CheckOptions}
use Rattle.ct_views.specs.declared.checked.Checked.{Checked}
use Rattle.ct_views.specs.Checking.{AreChecked, Checks, ChecksOne, ChecksOnePart, ChecksPart, IsChecked, Known, line_of, lines_of}
use Rattle.ct_views.specs.Checking.{status_of}

-- ---- what is written, in pieces

take_past : (n : ℕ) (xs ys : List ℕ) → xs ++ take n ys ≡ take (length xs + n) (xs ++ ys)
take_past n [] ys = ap (λ k. take k ys) (sym (zero-add n))
take_past n (x ∷ xs) ys =
    let next : suc (length xs + n) ≡ suc (length xs) + n = omega arith in
    ap (λ l. x ∷ l) (take_past n xs ys) ∙ ap (λ k. take k (x ∷ xs ++ ys)) next

part_more : (old mid new : Option (List ℕ)) (bs cs : List ℕ) → Appends old mid bs → WritesPart mid new cs →
    WritesPart old new (bs ++ cs)
part_more old mid new bs cs a b =
    (length bs + b.0, subst (Appends old new) (take_past b.0 bs cs) (Appends-trans old mid new bs (take b.0 cs) a b.1))

-- ---- one more file

abbrev worse : ℕ → Checked → ℕ
worse worst checked = max worst (status_of checked)

module _ (bytes : Known) where
  each_more : (expects : Bool) (names : List (List ℕ)) (outcomes : List Checked) (name : List ℕ) (checked : Checked) →
      AreChecked bytes expects names outcomes → IsChecked bytes expects name checked →
      AreChecked bytes expects (names ++ name ∷ []) (outcomes ++ checked ∷ [])
  each_more expects [] [] name checked all one = (one, tt)
  each_more expects [] (o ∷ outcomes) name checked all one = absurd all
  each_more expects (n ∷ names) [] name checked all one = absurd all
  each_more expects (n ∷ names) (o ∷ outcomes) name checked all one = (all.0, each_more expects names outcomes name checked all.1 one)

  lines_more : (expects quiet : Bool) (names : List (List ℕ)) (outcomes : List Checked) (name : List ℕ) (checked : Checked) →
      AreChecked bytes expects names outcomes →
      lines_of quiet names outcomes ++ line_of quiet name checked ≡ lines_of quiet (names ++ name ∷ []) (outcomes ++ checked ∷ [])
  lines_more expects quiet [] [] name checked all = sym (append-nil (line_of quiet name checked))
  lines_more expects quiet [] (o ∷ outcomes) name checked all = absurd all
  lines_more expects quiet (n ∷ names) [] name checked all = absurd all
  lines_more expects quiet (n ∷ names) (o ∷ outcomes) name checked all =
      append_assoc (line_of quiet n o) (lines_of quiet names outcomes) (line_of quiet name checked)
      ∙ ap (λ l. line_of quiet n o ++ l) (lines_more expects quiet names outcomes name checked all.1)

  worst_from : (from : ℕ) (outcomes : List Checked) (checked : Checked) →
      worse (fold worse from outcomes) checked ≡ fold worse from (outcomes ++ checked ∷ [])
  worst_from from [] checked = refl
  worst_from from (o ∷ outcomes) checked = worst_from (worse from o) outcomes checked

  -- before the first file
  pub checks_none : (options : CheckOptions) (old : Option (List ℕ)) → Checks bytes options [] old old 0
  checks_none options old = record { outcomes = []; each = tt; lines = Appends-nil old; worst = refl }

  module _ (options : CheckOptions) (names : List (List ℕ)) (name : List ℕ) (old mid new : Option (List ℕ)) (worst : ℕ)
      (before : Checks bytes options names old mid worst) where
    pub checks_more : (status worst' : ℕ) → ChecksOne bytes options name mid new status → worst' ≡ max worst status →
        Checks bytes options (names ++ name ∷ []) old new worst'
    checks_more status worst' one is = record {
      outcomes = before.outcomes ++ one.0 ∷ [];
      each = each_more options.expects names before.outcomes name one.0 before.each one.1;
      lines = subst (Appends old new) (lines_more options.expects options.quiet names before.outcomes name one.0 before.each)
          (Appends-trans old mid new _ _ before.lines one.3);
      worst = is ∙ ap (λ s. max worst s) one.2 ∙ ap (λ w. max w (status_of one.0)) before.worst
          ∙ worst_from 0 before.outcomes one.0;
    }

    -- the lines of the last one are not all written
    pub checks_part : (all : List (List ℕ)) (count : ℕ) → names ++ name ∷ [] ≡ take count all →
        ChecksOnePart bytes options name mid new → ChecksPart bytes options all old new
    checks_part all count first one =
        let outcomes = before.outcomes ++ one.0 ∷ [] in record {
          count = count;
          outcomes = outcomes;
          each = subst (λ ns. AreChecked bytes options.expects ns outcomes) first
              (each_more options.expects names before.outcomes name one.0 before.each one.1);
          lines = subst (λ ns. WritesPart old new (lines_of options.quiet ns outcomes)) first
              (subst (WritesPart old new) (lines_more options.expects options.quiet names before.outcomes name one.0 before.each)
              (part_more old mid new _ _ before.lines one.2));
        }

-- the same of the files of a list
module _ {X : Type 0} (bytes : Known) (options : CheckOptions) (f : X → List ℕ) (xs : List X) (i : ℕ) (d : X) (lt : i < length xs)
    (old mid new : Option (List ℕ)) (worst : ℕ) (before : Checks bytes options (map f (take i xs)) old mid worst) where
  pub checks_next : (status worst' : ℕ) → ChecksOne bytes options (f (get_or xs i d)) mid new status → worst' ≡ max worst status →
      Checks bytes options (map f (take (i + 1) xs)) old new worst'
  checks_next status worst' one is =
      subst (λ ns. Checks bytes options ns old new worst') (sym (map_more f xs i d lt))
      (checks_more bytes options (map f (take i xs)) (f (get_or xs i d)) old mid new worst before status worst' one is)

  pub checks_stop : ChecksOnePart bytes options (f (get_or xs i d)) mid new → ChecksPart bytes options (map f xs) old new
  checks_stop one =
      checks_part bytes options (map f (take i xs)) (f (get_or xs i d)) old mid new worst before (map f xs) (i + 1)
      (sym (take-map f (i + 1) xs ∙ map_more f xs i d lt)) one

pub on_err : {T E : Type 0} (r : Result T E) (P : Type 0) → P → OnErr r P
on_err (Ok x) P p = tt
on_err (Err e) P p = p
