-- Files read as logs.
use Rattle.std.proofs.Common.{◌≡◌, ℕ, ◌+◌, ◌<◌, List, [], ◌∷◌, ◌++◌, length, map, take, get_or, Option, Some, None, slice_get}
use Rattle.std.proofs.Common.{refl, sym, ap, ◌∙◌, subst, arith, append_assoc, option_map, min, Ok, ◌⊎◌, inl, inr}
use Rattle.std.specs.Io.KnownBytes.{Consumes, IsAtEnd}
use Rattle.std.proofs.lemmas.List.{append-nil, length-map, length-take, map_push, take_more}
use Rattle.std.proofs.lemmas.Option.{same_Some, slice_get-get_or, slice_get-map}
use Rattle.ct_order.specs.declared.reading.LogEnd.{LogEnd}
use Rattle.ct_order.specs.declared.standing.Standing.{Standing}
use Rattle.ct_order.specs.declared.stop.Stop.{Stop}
use Rattle.ct_order.specs.declared.stop.Stop.TheVariants as stop
use Rattle.ct_order.specs.declared.table.Table.{Table}
use Rattle.ct_order.specs.Reading.{AreTexts, HasSaid, IsHaltIn, IsReadFrom, IsStopIn, IsWhole, standings_of}
use Rattle.ct_order.specs.Scanning.{Scanning, after_bytes, beginning}
use Rattle.ct_order.specs.Taking.{Stops, Takes}
use Rattle.ct_order.proofs.Logs.{logs_push}
use Rattle.ct_order.proofs.Scanned.{takes_none, takes_more, stops_more, stops_rest}

-- ---- one reader

-- some first bytes of the text were read, and so many are left
pub record IsReadOn (log : ℕ) (old : Table) (text : List ℕ) (left : Option (List ℕ)) (scan : Scanning) (new : Table) : Type 0 where
  pub done : List ℕ
  pub rest : List ℕ
  pub is_left : left ≡ Some rest
  pub split : text ≡ done ++ rest
  pub takes : Takes log beginning old done scan new

pub reads_none : (log : ℕ) (old : Table) (text : List ℕ) (left : Option (List ℕ)) → left ≡ Some text →
    IsReadOn log old text left beginning old
reads_none log old text left is =
    record { done = []; rest = text; is_left = is; split = refl; takes = takes_none log beginning old }

-- what a read gives of what is left
record Part (rest bs : List ℕ) (new : Option (List ℕ)) : Type 0 where
  later : List ℕ
  is_left : new ≡ Some later
  split : rest ≡ bs ++ later

part_of : (rest bs : List ℕ) (new : Option (List ℕ)) → Consumes (Some rest) new bs → Part rest bs new
part_of rest bs None c = absurd c
part_of rest bs (Some ys) c = record { later = ys; is_left = refl; split = c }

at_end : (ys : List ℕ) (left : Option (List ℕ)) → left ≡ Some ys → IsAtEnd left → ys ≡ []
at_end ys left is e = subst (λ (o : Option (List ℕ)). IsAtEnd o) is e

module _ (log : ℕ) (old : Table) (text : List ℕ) (left next : Option (List ℕ)) (scan : Scanning) (mid : Table) (n : ℕ) (buffer : List ℕ)
    (a : IsReadOn log old text left scan mid)
    (c : Consumes left next (take n buffer) × (n ≡ 0 → 0 < length buffer → IsAtEnd next)) where
  part : Part a.rest (take n buffer) next
  part = part_of a.rest (take n buffer) next (subst (λ (o : Option (List ℕ)). Consumes o next (take n buffer)) a.is_left c.0)

  split : text ≡ (a.done ++ take n buffer) ++ part.later
  split = a.split ∙ (ap (λ l. a.done ++ l) part.split ∙ sym (append_assoc a.done (take n buffer) part.later))

  pub reads_on : (t : Scanning) (new : Table) → Takes log scan mid (take n buffer) t new → IsReadOn log old text next t new
  reads_on t new b = record {
    done = a.done ++ take n buffer;
    rest = part.later;
    is_left = part.is_left;
    split = split;
    takes = takes_more log beginning old a.done scan mid a.takes (take n buffer) t new b;
  }

  pub reads_end : n ≡ 0 → 0 < length buffer → Takes log beginning old text scan mid
  reads_end zero room =
      let nothing : part.later ≡ [] = at_end part.later next part.is_left (c.1 zero room) in
      let all : text ≡ a.done =
      a.split ∙ (ap (λ l. a.done ++ l) (part.split ∙ (ap (λ m. take m buffer ++ part.later) zero ∙ nothing)) ∙ append-nil a.done) in
      subst (λ (l : List ℕ). Takes log beginning old l scan mid) (sym all) a.takes

  pub reads_stop : (why : Stop) → Stops log scan mid (take n buffer) why → Stops log beginning old text why
  reads_stop why b =
      subst (λ (l : List ℕ). Stops log beginning old l why) (sym split)
      (stops_rest log beginning old (a.done ++ take n buffer) part.later why
      (stops_more log beginning old a.done scan mid a.takes (take n buffer) why b))

-- ---- the files

module _ {X : Type 0} (bytes : List ℕ → Option (List ℕ)) (f : X → List ℕ) (names : List X) (texts : List (List ℕ))
    (are : AreTexts bytes (map f names) texts) where
  pub as_many : length texts ≡ length names
  as_many =
      sym (length-map texts (λ (text : List ℕ). Some text)) ∙ (sym (ap length are)
      ∙ (length-map (map f names) bytes ∙ length-map names f))

  pub text_at : (i : ℕ) (d : X) → i < length names → bytes (f (get_or names i d)) ≡ Some (get_or texts i [])
  text_at i d lt =
      let few : i < length texts = subst (λ n. i < n) (sym as_many) lt in
      let left : slice_get (map bytes (map f names)) i ≡ Some (bytes (f (get_or names i d))) =
      slice_get-map bytes (map f names) i
      ∙ ap (option_map bytes) (slice_get-map f names i ∙ ap (option_map f) (slice_get-get_or names i d lt)) in
      let right : slice_get (map (λ (text : List ℕ). Some text) texts) i ≡ Some (Some (get_or texts i [])) =
      slice_get-map (λ (text : List ℕ). Some text) texts i
      ∙ ap (option_map (λ (text : List ℕ). Some text)) (slice_get-get_or texts i [] few) in
      same_Some (bytes (f (get_or names i d))) (Some (get_or texts i [])) (sym left ∙ (ap (λ l. slice_get l i) are ∙ right))

  pub file_more : (i log : ℕ) (d : X) → i < length names → log ≡ i → (ends : List LogEnd) (old : Table) (end : LogEnd) (new : Table) →
      IsReadFrom (take i texts) (standings_of ends) old →
      ((text : List ℕ) → bytes (f (get_or names i d)) ≡ Some text → IsWhole log old text end new) →
      IsReadFrom (take (i + 1) texts) (standings_of (ends ++ end ∷ [])) new
  file_more i log d lt at ends old end new before here =
      let text : List ℕ = get_or texts i [] in
      let few : i < length texts = subst (λ n. i < n) (sym as_many) lt in
      let e = here text (text_at i d lt) in
      let place : log ≡ length (take i texts) = at ∙ sym (length-take i texts ∙ (let m : min i (length texts) ≡ i = omega arith in m)) in
      record {
        said = before.said ++ e.takes.said;
        has_said = subst (λ (l : List (List ℕ)). HasSaid l (before.said ++ e.takes.said) (standings_of (ends ++ end ∷ [])))
            (sym (take_more texts i [] few))
            (subst (λ (l : List Standing). HasSaid (take i texts ++ text ∷ []) (before.said ++ e.takes.said) l)
            (sym (map_push (λ (x : LogEnd). x.standing) ends end ∙ ap (λ (s : Standing). standings_of ends ++ s ∷ []) e.standing))
            (logs_push (take i texts) text (record { said = before.said; ends = standings_of ends })
            (record { scan = e.scan; said = e.takes.said }) before.has_said
            (subst (λ n. after_bytes n beginning text ≡ Ok (record { scan = e.scan; said = e.takes.said })) place e.takes.is)));
        knows = e.takes.learns before.said before.knows;
      }

  module _ (i log : ℕ) (d : X) (lt : i < length names) (at : log ≡ i) (ends : List LogEnd) (old : Table) (why : Stop)
      (before : IsReadFrom (take i texts) (standings_of ends) old)
      (here : (text : List ℕ) → bytes (f (get_or names i d)) ≡ Some text → Stops log beginning old text why) where
    stop_in : IsStopIn texts why
    stop_in = record {
      at = i;
      text = get_or texts i [];
      there = slice_get-get_or texts i [] (subst (λ n. i < n) (sym as_many) lt);
      ends = standings_of ends;
      table = old;
      before = before;
      stops = subst (λ n. Stops n beginning old (get_or texts i []) why) at (here (get_or texts i []) (text_at i d lt));
    }

    pub file_halts : IsHaltIn texts why
    file_halts = halts why stop_in
      where
        halts : (w : Stop) → IsStopIn texts w → IsHaltIn texts w
        halts (stop.Line u) h = h
        halts (stop.Clash c) h = h
        halts (stop.File place fault) h = tt
        halts stop.Memory h = tt

pub still_halts : (texts : List (List ℕ)) (first why : Stop) → (why ≡ first) ⊎ (why ≡ stop.Memory) → IsHaltIn texts first →
    IsHaltIn texts why
still_halts texts first why (inl e) h = subst (λ (s : Stop). IsHaltIn texts s) (sym e) h
still_halts texts first why (inr e) h = subst (λ (s : Stop). IsHaltIn texts s) (sym e) tt
