-- Which member's step sent an envelope.
use Rattle.std.proofs.Common.{◌≡◌, ℕ, suc, zero, ◌+◌, ◌≤◌, ◌<◌, List, [], ◌∷◌, ◌++◌, Some, refl, sym, ap, ◌∙◌, inl, inr, arith, length}
use Rattle.std.proofs.Common.{replicate}
use Rattle.std.specs.Prelude.{slice_get}
use Rattle.ct_names.specs.Group.{members, IsMember}
use Rattle.ct_names.specs.Membership.{IsIn}
use Rattle.ct_names.proofs.Groups.{in-counting}
use Rattle.ct_names.proofs.Lists
use Rattle.ct_model.specs.AtValue.{Wire, Envelope}
use Rattle.ct_model.specs.Wire.{envelopes}
use Rattle.ct_model.specs.declared.mail.Mail.TheVariants.{All}
use Rattle.ct_model.specs.State.{at_serial}
use Rattle.ct_model.proofs.Basics.Options.{some-none}

-- places in a list that grows

pub get-front : {A : Type 0} (xs ys : List A) (i : ℕ) (x : A) → slice_get xs i ≡ Some x → slice_get (xs ++ ys) i ≡ Some x
get-front [] ys i x e = some-none x e
get-front (y ∷ xs) ys zero x e = e
get-front (y ∷ xs) ys (suc i) x e = get-front xs ys i x e

pub at-front : {A : Type 0} (xs ys : List A) (k : ℕ) (x : A) → at_serial xs k ≡ Some x → at_serial (xs ++ ys) k ≡ Some x
at-front xs ys zero x e = some-none x e
at-front xs ys (suc i) x e = get-front xs ys i x e

get-back : {A : Type 0} (xs ys : List A) (i : ℕ) → slice_get (xs ++ ys) (i + length xs) ≡ slice_get ys i
get-back [] ys i = ap (λ z. slice_get ys z) (let e : i + 0 ≡ i = omega arith in e)
get-back (x ∷ xs) ys i = grind (arith, get-back xs ys i)

record IsPlaced {A : Type 0} (x : A) (xs : List A) : Type 0 where
  pub place : ℕ
  pub is : slice_get xs place ≡ Some x
  pub below : place < length xs

placed : {A : Type 0} (x : A) (xs : List A) → IsIn x xs → IsPlaced x xs
placed x [] h = absurd h
placed x (y ∷ xs) (inl e) = record { place = 0; is = ap Some (sym e); below = omega arith }
placed x (y ∷ xs) (inr h) =
    let r = placed x xs h in
    let b : r.place < length xs = r.below in
    record { place = suc r.place; is = r.is; below = omega arith }

get-replicate : {A : Type 0} (k i : ℕ) (x : A) → i < k → slice_get (replicate k x) i ≡ Some x
get-replicate zero i x h = absurd (omega arith)
get-replicate (suc k) zero x h = refl
get-replicate (suc k) (suc i) x h = get-replicate k i x (omega arith)

-- a step of x sent the envelope
pub record IsPosted (from : List ℕ) (sent : List Envelope) (x : ℕ) (e : Envelope) : Type 0 where
  pub serial : ℕ
  pub sender : at_serial from serial ≡ Some x
  pub envelope : at_serial sent serial ≡ Some e

pub posted-old : (from more : List ℕ) (sent new : List Envelope) (x : ℕ) (e : Envelope) → IsPosted from sent x e →
    IsPosted (from ++ more) (sent ++ new) x e
posted-old from more sent new x e f = grind (arith, at-front)

pub posted-new : (from : List ℕ) (sent new : List Envelope) (x : ℕ) (e : Envelope) → length from ≡ length sent → IsIn e new →
    IsPosted (from ++ replicate (length new) x) (sent ++ new) x e
posted-new from sent new x e len h =
    let r = placed e new h in
    let same : r.place + length sent ≡ r.place + length from = omega arith in
    record {
      serial = suc (r.place + length sent);
      sender =
          ap (λ z. slice_get (from ++ replicate (length new) x) z) same ∙ get-back from (replicate (length new) x) r.place
          ∙ get-replicate (length new) r.place x r.below;
      envelope = get-back sent new r.place ∙ r.is;
    }

in-members : (n q : ℕ) → IsMember n q → IsIn q (members n)
unfolding members
in-members n q is = let low : 1 ≤ q = is.0 in let high : q ≤ n = is.1 in in-counting 1 n q is.0 (omega arith)

-- the envelope of a wire to q
abbrev pub letter : ℕ → Wire → Envelope
letter q w = record { to = q; wire = w }

pub in-all : (n q : ℕ) (w : Wire) → IsMember n q → IsIn (letter q w) (envelopes n (All w))
in-all n q w is = Lists.IsIn-map (λ to. letter to w) q (members n) (in-members n q is)
