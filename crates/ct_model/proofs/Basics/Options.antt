-- What follows where an optional value is there.
use Rattle.std.proofs.Common.{arith, ◌≡◌, Bool, true, false, Option, Some, None, option_map, option_and_then, refl}
use Rattle.std.specs.Prelude.{is_none, is_some}
use Rattle.ct_model.specs.When.{when}

pub some-same : {A : Type 0} (x y : A) → Some x ≡ Some y → x ≡ y
some-same x y e = cc

pub some-none : {A B : Type 0} (x : A) → None ≡ Some x → B
some-none x e = cc

pub none-is : {A : Type 0} (o : Option A) → is_none o ≡ true → o ≡ None
none-is o e = grind arith

pub none-from : {A : Type 0} (o : Option A) → ((x : A) → o ≡ Some x → ⊥) → o ≡ None
none-from None h = refl
none-from (Some x) h = absurd (h x refl)

pub some-of : {A : Type 0} (o : Option A) → is_none o ≡ false → (x : A) × (o ≡ Some x)
some-of None e = absurd (cc)
some-of (Some x) e = (x, refl)

pub when-some : {A : Type 0} (b : Bool) (x : A) → is_some (when b x) ≡ true → b ≡ true
when-some b x e = grind arith

pub when-is : {A : Type 0} (b : Bool) (x y : A) → when b x ≡ Some y → (b ≡ true) × (x ≡ y)
when-is b x y e = grind arith

pub record Made {A B : Type 0} (f : A → B) (o : Option A) (y : B) : Type 0 where
  pub from : A
  pub is : o ≡ Some from
  pub gives : f from ≡ y

pub made-map : {A B : Type 0} (f : A → B) (o : Option A) (y : B) → option_map f o ≡ Some y → Made f o y
made-map f None y e = some-none y e
made-map f (Some x) y e = record { from = x; is = refl; gives = some-same (f x) y e }

pub made-then : {A B : Type 0} (f : A → Option B) (o : Option A) (y : B) → option_and_then f o ≡ Some y → Made f o (Some y)
made-then f None y e = some-none y e
made-then f (Some x) y e = record { from = x; is = refl; gives = e }
