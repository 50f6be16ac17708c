-- Texts of files.
use Rattle.std.proofs.Common.{◌≡◌, ℕ, ◌+◌, ◌<◌, ◌≤◌, List, [], ◌∷◌, ◌++◌, get_or, length, map, take, Option, Some, None}
use Rattle.std.proofs.Common.{arith, ap, sym, subst, ◌∙◌}
use Rattle.std.specs.Prelude.{IfSome}
use Rattle.std.specs.Global.{Vec}
use Rattle.std.proofs.lemmas.List.{length-take, map_more, map_push, take_all}
use Rattle.std.proofs.lemmas.List.Elements.{AllZip-push}
use Rattle.std.proofs.lemmas.Option.{slice_get-get_or, slice_get-map}
use Rattle.std.specs.Option.{option_map}
use Rattle.ct_judge.specs.declared.recording.TheConstants.{MAX_LEN}
use Rattle.ct_streams.specs.Streams.{read_part}
use Rattle.ct_logs.specs.Files.{AreTextsIn, IsTextIn, IsTooLong, Known, texts_of}

part_whole : (all : List ℕ) → length (read_part all) ≤ MAX_LEN → read_part all ≡ all
unfolding read_part
part_whole all few = take_all 67108865 all (omega (arith, few, length-take 67108865 all))

part_more : (all : List ℕ) → MAX_LEN < length (read_part all) → MAX_LEN < length all
unfolding read_part
part_more all more = omega (arith, more, length-take 67108865 all)

-- what was read of a file is all that it has, where that isn't too long
pub read_whole : (known left : Option (List ℕ)) (bytes : List ℕ) → IfSome known (λ all. left ≡ Some all) →
    IfSome left (λ all. bytes ≡ read_part all) → length bytes ≤ MAX_LEN → IfSome known (λ all. bytes ≡ all)
read_whole None left bytes is read few = tt
read_whole (Some all) left bytes is read few =
    let e : bytes ≡ read_part all = subst (λ (o : Option (List ℕ)). IfSome o (λ all. bytes ≡ read_part all)) is read in
    e ∙ part_whole all (subst (λ (b : List ℕ). length b ≤ MAX_LEN) e few)

pub read_long : (known left : Option (List ℕ)) (bytes : List ℕ) → IfSome known (λ all. left ≡ Some all) →
    IfSome left (λ all. bytes ≡ read_part all) → MAX_LEN < length bytes → IfSome known (λ all. MAX_LEN < length all)
read_long None left bytes is read more = tt
read_long (Some all) left bytes is read more =
    let e : bytes ≡ read_part all = subst (λ (o : Option (List ℕ)). IfSome o (λ all. bytes ≡ read_part all)) is read in
    part_more all (subst (λ (b : List ℕ). MAX_LEN < length b) e more)

module _ {X : Type 0} (bytes : Known) (f : X → List ℕ) (names : List X) (i : ℕ) (d : X) (lt : i < length names) where
  pub texts_more : (texts new : List (Vec ℕ)) (text : Vec ℕ) → AreTextsIn bytes (map f (take i names)) (texts_of texts) →
      IsTextIn bytes (f (get_or names i d)) text.items → new ≡ texts ++ text ∷ [] →
      AreTextsIn bytes (map f (take (i + 1) names)) (texts_of new)
  texts_more texts new text all here is =
      let pushed : texts_of new ≡ texts_of texts ++ text.items ∷ [] = ap texts_of is ∙ map_push (λ (v : Vec ℕ). v.items) texts text in
      subst (λ l. AreTextsIn bytes l (texts_of new)) (sym (map_more f names i d lt))
      (subst (λ l. AreTextsIn bytes (map f (take i names) ++ f (get_or names i d) ∷ []) l) (sym pushed)
      (AllZip-push (IsTextIn bytes) (map f (take i names)) (texts_of texts) (f (get_or names i d)) text.items all here))

  pub too_long_at : IfSome (bytes (f (get_or names i d))) (λ all. MAX_LEN < length all) → IsTooLong bytes (map f names)
  too_long_at long = record {
    place = i;
    name = f (get_or names i d);
    there = slice_get-map f names i ∙ ap (option_map f) (slice_get-get_or names i d lt);
    long = long;
  }
