-- Envelopes in few bytes: what they stand for as more wires are listed, and one of them to each member.
use Rattle.std.proofs.lemmas.Bool.Decides.{nat_tests}
use Rattle.std.specs.Prelude.{if◌then◌else◌, nat_lt}
use Rattle.std.proofs.Common.{◌≡◌, ℕ, zero, suc, ◌+◌, ◌-◌, ◌<◌, ◌≤◌, true, List, [], ◌∷◌, ◌++◌, map, refl, ap, ◌∙◌, add-one, arith}
use Rattle.std.proofs.lemmas.List.{map-append}
use Rattle.ct_names.specs.Group.{members, counting}
use Rattle.ct_model.specs.declared.wire.Wire.{Wire}
use Rattle.ct_model.specs.declared.envelope.Envelope.{Envelope}
use Rattle.ct_model.specs.declared.mail.Mail.TheVariants.{All}
use Rattle.ct_model.specs.Wire.{envelopes}
use Rattle.ct_network.specs.declared.short.Short.{Short}
use Rattle.ct_network.specs.declared.packed.Packed.{Packed}
use Rattle.ct_network.specs.Packed.{wire_of, envelope_of, is_readable, are_readable, copies}

-- what room for a mail says of the list of envelopes
pub room_for : (n capacity had places more : ℕ) → more ≤ (if nat_lt n capacity then places - had else 0) → 0 < more → had + more ≤ places
room_for n capacity had places more h some = grind (arith, nat_tests)

-- what is readable with a list is so with a longer one
longer : (n m : ℕ) (wire : Short) → n ≤ m → is_readable n wire ≡ true → is_readable m wire ≡ true
longer n m wire more h = grind (arith, nat_tests)

-- more envelopes come after those that are there
pub readable-append : (n m : ℕ) (list more : List Packed) → n ≤ m → are_readable n list ≡ true → are_readable m more ≡ true →
    are_readable m (list ++ more) ≡ true
readable-append n m [] more longer_by h also = also
readable-append n m (p ∷ list) more longer_by h also =
    grind (arith, longer n m p.wire, readable-append n m list more)

-- more wires are listed after those that are there
module _ (old new : List (Wire ℕ)) (n : ℕ) (others : (wire : Short) → is_readable n wire ≡ true → wire_of new wire ≡ wire_of old wire) where
  same : (list : List Packed) → are_readable n list ≡ true → map (envelope_of new) list ≡ map (envelope_of old) list
  same [] h = refl
  same (p ∷ list) h = grind (arith, others p.wire, same list)

  pub envelopes-append : (list more : List Packed) (es : List (Envelope ℕ)) → are_readable n list ≡ true → map (envelope_of new) more ≡ es →
      map (envelope_of new) (list ++ more) ≡ map (envelope_of old) list ++ es
  envelopes-append list more es h e = map-append (envelope_of new) list more ∙ grind (arith, same list h, e)

module _ (wire : Short) where
  abbrev copy : ℕ → Packed
  copy to = record { to = to; wire = wire }

  from : (first n last : ℕ) → last ≡ first + n →
      map copy (counting first (suc n)) ≡ map copy (counting first n) ++ copy last ∷ []
  from first zero last e = let is : first ≡ last = omega arith in ap (λ q. copy q ∷ []) is
  from first (suc n) last e = ap (λ r. copy first ∷ r) (from (first + 1) n last (omega arith))

  pub copies-none : copies 0 wire ≡ []
  unfolding members
  copies-none = refl

  -- the last of the envelopes to all goes to the last member
  pub copies-more : (n : ℕ) → copies (n + 1) wire ≡ copies n wire ++ record { to = n + 1; wire = wire } ∷ []
  unfolding members
  copies-more n = rw add-one (from 1 n (suc n) (omega arith))

  all_readable : (m : ℕ) (tos : List ℕ) → is_readable m wire ≡ true → are_readable m (map copy tos) ≡ true
  all_readable m [] h = refl
  all_readable m (to ∷ tos) h = grind (arith, all_readable m tos)

  pub readable-copies : (m n : ℕ) → is_readable m wire ≡ true → are_readable m (copies n wire) ≡ true
  readable-copies m n h = all_readable m (members n) h

  letters : (wires : List (Wire ℕ)) (w : Wire ℕ) (tos : List ℕ) → wire_of wires wire ≡ w →
      map (envelope_of wires) (map copy tos) ≡ map (λ (to : ℕ). record { to = to; wire = w }) tos
  letters wires w [] e = refl
  letters wires w (to ∷ tos) e = cc (letters wires w tos e)

  pub envelopes-copies : (wires : List (Wire ℕ)) (w : Wire ℕ) (n : ℕ) → wire_of wires wire ≡ w →
      map (envelope_of wires) (copies n wire) ≡ envelopes n (All w)
  envelopes-copies wires w n e = letters wires w (members n) e
