-- The seat of the least of the members that delivered most batches.
use Rattle.std.proofs.Common.{◌≡◌, ℕ, ◌+◌, ◌-◌, ◌<◌, ◌≤◌, true, List, [], ◌∷◌, ◌++◌, length, map, get_or, take, refl, ap, sym, ◌∙◌, subst}
use Rattle.std.proofs.Common.{arith}
use Rattle.std.specs.Prelude.{nat_lt, if◌then◌else◌}
use Rattle.std.proofs.lemmas.Bool.Decides.{nat_tests}
use Rattle.std.proofs.lemmas.List.{length-map, map_more, take_all, get_or-map, get_or_read, same_lists}
use Rattle.ct_names.specs.declared.limit.TheConstants.{MAX_CELLS}
use Rattle.ct_names.specs.Group.{is_member}
use Rattle.ct_names.specs.Message.{Message}
use Rattle.ct_model.specs.State.{Member, member, new_member}
use Rattle.ct_names.specs.Batch.{Batch}
use Rattle.ct_model.specs.Rehearsal.{Rehearsal, state_of}
use Rattle.ct_model.specs.Cause.{order, longest}
use Rattle.ct_world.specs.declared.seat.Seat.{Seat}
use Rattle.ct_world.specs.Kept.{Fields, IsWorld, no_seat}

-- the longest of lists with one more at the end
longest-push : {A : Type 0} (lists : List (List A)) (best last : List A) →
    longest best (lists ++ last ∷ []) ≡ (if nat_lt (length (longest best lists)) (length last) then last else longest best lists)
longest-push [] best last = refl
longest-push (list ∷ lists) best last = grind (arith, longest-push lists list last, longest-push lists best last)

longest-one : {A : Type 0} (list : List A) → longest [] (list ∷ []) ≡ list
longest-one [] = refl
longest-one (x ∷ list) = grind arith

-- the longest of the images is the image of the longest
longest-map : {A B : Type 0} (f : A → B) (lists : List (List A)) (best : List A) →
    longest (map f best) (map (map f) lists) ≡ map f (longest best lists)
longest-map f [] best = refl
longest-map f (list ∷ lists) best =
    grind (arith, length-map best f, length-map list f, longest-map f lists list, longest-map f lists best)

abbrev pub batches_at : List Seat → ℕ → List (List Message)
batches_at seats i = (get_or seats i no_seat).caster.batches

-- the batches of each seat
abbrev all_batches : List Seat → List (List (List Message))
all_batches seats = map (λ s. s.caster.batches) seats

-- the seat at a place has the longest list of batches among the first seats, and is the first that has
pub record IsForemost (seats : List Seat) (i best : ℕ) : Type 0 where
  pub before : best < i
  pub is : longest [] (all_batches (take i seats)) ≡ batches_at seats best

pub foremost-first : (seats : List Seat) → 0 < length seats → IsForemost seats 1 0
foremost-first [] h = absurd (omega arith)
foremost-first (s ∷ seats) h = record { before = omega arith; is = longest-one s.caster.batches }

module _ (seats : List Seat) (i best : ℕ) (foremost : IsForemost seats i best) (within : i < length seats) where
  one_more : longest [] (all_batches (take (i + 1) seats)) ≡ (if nat_lt (length (batches_at seats best)) (length (batches_at seats i))
      then batches_at seats i else batches_at seats best)
  one_more =
      ap (longest []) (map_more (λ (s : Seat). s.caster.batches) seats i no_seat within)
      ∙ longest-push (all_batches (take i seats)) [] (batches_at seats i)
      ∙ ap (λ list. if nat_lt (length list) (length (batches_at seats i)) then batches_at seats i else list) foremost.is

  pub foremost-more : length (batches_at seats best) < length (batches_at seats i) → IsForemost seats (i + 1) i
  foremost-more more = record { before = omega arith; is = grind (arith, nat_tests, one_more) }

  pub foremost-same : length (batches_at seats i) ≤ length (batches_at seats best) → IsForemost seats (i + 1) best
  foremost-same few = record { before = omega (arith, foremost.before); is = grind (arith, nat_tests, one_more) }

-- the batches of a seat that is read
pub batches_read : (seats : List Seat) (i : ℕ) (s : Seat) → i < length seats → s ≡ get_or seats i s →
    length s.caster.batches ≡ length (batches_at seats i)
batches_read seats i s within is = ap (λ (x : Seat). length x.caster.batches) (get_or_read seats i s within is no_seat)

abbrev messages : List Batch → List (List Message)
messages batches = map (λ b. b.messages) batches

module _ (w : Rehearsal) (f : Fields) (world : IsWorld w f) where
  place_is : (k : ℕ) → k < w.setting.members → batches_at f.seats k ≡ messages (get_or (state_of w).members k new_member).batches
  unfolding member
  place_is k h =
      let same : k + 1 - 1 ≡ k = omega arith in
      let group : is_member w.setting.members (k + 1) ≡ true = grind (arith, nat_tests) in
      subst (λ j. batches_at f.seats j ≡ messages (get_or (state_of w).members j new_member).batches) same
      (world.seat (k + 1) group).batches

  batches_are : all_batches f.seats ≡ map messages (map (λ (m : Member). m.batches) (state_of w).members)
  batches_are =
      let seated : length f.seats ≡ w.setting.members = world.seated in
      let size : length (state_of w).members ≡ w.setting.members = world.lawful.size in
      same_lists (all_batches f.seats) (map messages (map (λ (m : Member). m.batches) (state_of w).members)) (simp length-map (omega arith))
      (λ k d h.
      let within : k < length f.seats = simp length-map at h in
      get_or-map (λ (s : Seat). s.caster.batches) f.seats k no_seat d (omega arith)
      ∙ place_is k (omega arith)
      ∙ ap messages (sym (get_or-map (λ (m : Member). m.batches) (state_of w).members k new_member [] (omega arith)))
      ∙ sym (get_or-map messages (map (λ (m : Member). m.batches) (state_of w).members) k [] d (simp length-map (omega arith))))

  module _ (best : ℕ) (foremost : IsForemost f.seats w.setting.members best) where
    -- its batches are the order
    pub foremost-order : batches_at f.seats best ≡ messages (order (state_of w))
    unfolding order
    foremost-order =
        let seated : length f.seats ≡ w.setting.members = world.seated in
        sym foremost.is
        ∙ ap (λ seats. longest [] (all_batches seats)) (take_all w.setting.members f.seats (omega arith))
        ∙ ap (longest []) batches_are
        ∙ longest-map (λ (b : Batch). b.messages) (map (λ (m : Member). m.batches) (state_of w).members) []

    pub foremost-few : length (batches_at f.seats best) ≤ MAX_CELLS
    foremost-few =
        grind (arith, nat_tests, batches_at f.seats best, foremost-order, length-map (order (state_of w)) (λ (b : Batch). b.messages))
