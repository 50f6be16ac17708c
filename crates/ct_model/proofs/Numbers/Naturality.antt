-- Another type of values changes nothing that is read off the wires, and no step of a round.
use Rattle.std.proofs.Common.{◌≡◌, ℕ, Bool, ◌==◌, nat_le, List, [], ◌∷◌, map, find, option_map, refl, sym, arith}
use Rattle.std.proofs.lemmas.List.Folds.{list_all-map}
use Rattle.std.proofs.lemmas.Simd.{map-map}
use Rattle.ct_names.specs.Group.{members}
use Rattle.ct_model.specs.Wire.{Mail, envelopes}
use Rattle.ct_model.specs.declared.mail.Mail.TheVariants.{All}
use Rattle.ct_model.specs.Received.{Heard, Ballots, heard, estimate_from, is_largest}
use Rattle.ct_model.specs.Mapped.{envelope_map, mail_map, heard_map, ballots_map}

find-map : {A B : Type 0} (f : A → B) (t : B → Bool) (xs : List A) → find t (map f xs) ≡ option_map f (find (λ x. t (f x)) xs)
find-map f t [] = refl
find-map f t (x ∷ xs) = grind (arith, find-map f t xs)

module _ {V U : Type 0} (f : V → U) where
  module _ (t : Ballots V) where
    pub heard-map : heard (ballots_map f t) ≡ heard t
    heard-map = map-map (λ (e : Heard U). e.member) (heard_map f) t.estimates

    pub estimate_from-map : (p : ℕ) → estimate_from (ballots_map f t) p ≡ option_map (heard_map f) (estimate_from t p)
    estimate_from-map p = find-map (heard_map f) (λ e. e.member == p) t.estimates

    pub is_largest-map : (ts : ℕ) → is_largest (ballots_map f t) ts ≡ is_largest t ts
    is_largest-map ts = list_all-map (λ e. nat_le e.ts ts) (heard_map f) t.estimates

  pub envelopes-map : (n : ℕ) (m : Mail V) → envelopes n (mail_map f m) ≡ map (envelope_map f) (envelopes n m)
  envelopes-map n (All w) = sym (map-map (envelope_map f) (λ to. record { to = to; wire = w }) (members n))
  envelopes-map n _ = refl
