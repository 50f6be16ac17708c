-- What is told of texts is so.
use Rattle.std.proofs.Common.{◌≡◌, ℕ, zero, suc, ◌+◌, ◌<◌, inl, Bool, List, sym, [], ◌∷◌, ◌++◌, ◌&&◌, ◌∙◌, ap, refl, arith}
use Rattle.std.proofs.Common.{length, map, take, get_or, Result, Ok, Err, OnOk}
use Rattle.std.specs.List.{list_all}
use Rattle.ct_order.specs.Knowing.{AreSent, IsUnsentAt}
use Rattle.ct_order.specs.declared.order_fault.OrderFault.{OrderFault}
use Rattle.ct_order.specs.declared.order_fault.OrderFault.TheVariants as fault
use Rattle.ct_order.specs.declared.place.Delivery.{Delivery}
use Rattle.ct_order.specs.declared.reading.LogEnd.{LogEnd}
use Rattle.ct_order.specs.declared.standing.Standing.{Standing}
use Rattle.ct_order.specs.declared.stop.Conflict.{Conflict}
use Rattle.ct_order.specs.declared.stop.Stop.TheVariants as stop
use Rattle.ct_order.specs.declared.stop.Unread.{Unread}
use Rattle.ct_order.specs.declared.table.Table.{Table}
use Rattle.ct_order.specs.declared.wrong.Wrong.TheVariants.{NoLog, Refused}
use Rattle.ct_order.specs.Ending.{AreAtomic, AreNames, AreNoLogs, Contradict, IsOfLines, IsOfNames, IsWrong}
use Rattle.ct_order.specs.Ending.{LackBroadcast, input_count, input_in}
use Rattle.ct_order.specs.Reading.{IsHaltIn, IsReadFrom, are_whole, standings_of}
use Rattle.ct_order.specs.Taking.{fault_of, said_of}
use Rattle.ct_order.proofs.Judging.{all_broadcast, has_order, is_unsent_at}
use Rattle.ct_order.proofs.Logs.{are_logs, no_contradiction}

module _ (texts : List (List ℕ)) where
  pub no_logs : (u : Unread) → IsHaltIn texts (stop.Line u) → IsWrong texts NoLog
  no_logs u h =
      let n : AreNoLogs texts = record { at = h.at; text = h.text; there = h.there; fault = fault_of u; reads = h.stops } in
      (n, λ a. are_logs texts a n)

  pub contradicts : (c : Conflict) → IsHaltIn texts (stop.Clash c) → IsWrong texts Refused
  contradicts c h =
      let e = h.stops in
      let n : Contradict texts = record {
        at = h.at;
        text = h.text;
        there = h.there;
        said = h.before.said;
        ends = h.ends;
        before = h.before.has_said;
        count = e.count;
        scan = e.conflict.scan;
        new = e.conflict.said;
        this = said_of c;
        reads = e.conflict.is;
        clash = c.clash;
        clashes = e.conflict.clashes h.before.said h.before.knows;
      } in
      (inl n, λ a. no_contradiction texts a n)

  module _ (ends : List Standing) (t : Table) (i : IsReadFrom texts ends t) where
    pub atomic : AreSent t → AreAtomic texts
    atomic sent = (i.said, ends, i.has_said, (has_order _ i.said i.knows, all_broadcast t i.said i.knows sent))

    pub lacks : (d : Delivery) → IsUnsentAt t d → (whole : Bool) → whole ≡ are_whole ends → LackBroadcast texts whole
    lacks d u whole is = record {
      said = i.said;
      ends = ends;
      has_said = i.has_said;
      order = has_order _ i.said i.knows;
      delivery = d;
      unsent = is_unsent_at t i.said i.knows d u;
      are_whole = sym is;
    }

pub whole_is : (ends : List LogEnd) → list_all (λ (end : LogEnd). end.standing.is_whole) ends ≡ are_whole (standings_of ends)
whole_is [] = refl
whole_is (e ∷ es) = ap (λ b. e.standing.is_whole && b) (whole_is es)

-- ---- names

more : (xs : List (List ℕ)) (x : List ℕ) → input_count (xs ++ x ∷ []) ≡ input_count xs + input_in x
more [] x = omega arith
more (y ∷ ys) x = let m = more ys x in omega (arith, m)

pub input_more : {X : Type 0} (f : X → List ℕ) (xs : List X) (i : ℕ) (d : X) → i < length xs →
    input_count (take (i + 1) (map f xs)) ≡ input_count (take i (map f xs)) + input_in (f (get_or xs i d))
input_more f xs i d lt =
    ap input_count (take_map_more f xs i d lt) ∙ more (take i (map f xs)) (f (get_or xs i d))
  where
    take_map_more : {X : Type 0} (f : X → List ℕ) (xs : List X) (i : ℕ) (d : X) → i < length xs →
        take (i + 1) (map f xs) ≡ take i (map f xs) ++ f (get_or xs i d) ∷ []
    take_map_more f [] i d lt = absurd (omega arith)
    take_map_more f (x ∷ xs) zero d lt = refl
    take_map_more f (x ∷ xs) (suc i) d lt =
        ap (λ n. take n (f x ∷ map f xs)) (let m : suc i + 1 ≡ suc (i + 1) = omega arith in m)
        ∙ ap (λ l. f x ∷ l) (take_map_more f xs i d (let m = lt in omega arith))

-- ---- results

pub on_ok : {A E : Type 0} (r : Result A E) (T : Type 0) → T → OnOk r T
on_ok (Ok a) T t = t
on_ok (Err e) T t = tt

pub of_lines : (names : List (List ℕ)) (f : OrderFault) → IsOfLines f → IsOfNames names f → AreNames names
of_lines names (fault.Wrong wrong text json) is h = h
of_lines names fault.Logs is h = absurd is
of_lines names fault.Twice is h = absurd is
of_lines names (fault.File why text) is h = absurd is
of_lines names (fault.Changed text) is h = absurd is
of_lines names fault.Write is h = absurd is
of_lines names fault.Memory is h = absurd is
