-- Writing the texts of a list while they are found, with a byte between each two.
use Rattle.std.proofs.Common.{◌≡◌, ℕ, Bool, true, false, cond, List, [], ◌∷◌, ◌++◌, Result, Ok, Err, refl, sym, ap, ◌∙◌, append_assoc}
use Rattle.std.proofs.Common.{append-nil}
use Rattle.std.specs.Prelude.{OnOk}
use Rattle.std.specs.List.{join_with_byte}
use Rattle.ct_text.specs.Lists.{list_text}

abbrev pub is_any : {A : Type 0} → List A → Bool
is_any [] = false
is_any (x ∷ xs) = true

-- after `old` these texts were written, and whether there are any is known
pub record HasWritten (byte : ℕ) (texts : List (List ℕ)) (old new : List ℕ) (later : Bool) : Type 0 where
  pub text : new ≡ old ++ join_with_byte byte texts
  pub any : later ≡ is_any texts

pub written_none : (byte : ℕ) (old : List ℕ) → HasWritten byte [] old old false
written_none byte old = record { text = sym (append-nil old); any = refl }

join-push : (byte : ℕ) (texts : List (List ℕ)) (last : List ℕ) →
    join_with_byte byte (texts ++ last ∷ []) ≡ join_with_byte byte texts ++ (cond (is_any texts) (byte ∷ []) [] ++ last)
join-push byte (t ∷ u ∷ texts) last = ap (λ s. t ++ (byte ∷ s)) (join-push byte (u ∷ texts) last) ∙ simp append_assoc
join-push byte _ last = refl

any-push : {A : Type 0} (xs : List A) (x : A) → true ≡ is_any (xs ++ x ∷ [])
any-push [] x = refl
any-push (y ∷ xs) x = refl

-- one more text
pub written_more : (byte : ℕ) (texts : List (List ℕ)) (last old mid new end : List ℕ) (later : Bool) → HasWritten byte texts old new later →
    mid ≡ new ++ cond later (byte ∷ []) [] → end ≡ mid ++ last → HasWritten byte (texts ++ last ∷ []) old end true
written_more byte texts last old mid new end later h first second = record {
  text = rw (second, first, h.text, h.any, join-push byte texts last) (simp append_assoc);
  any = any-push texts last;
}

dashed : (byte : ℕ) (texts : List (List ℕ)) (old new end : List ℕ) (later : Bool) → HasWritten byte texts old new later →
    end ≡ new ++ cond later [] (45 ∷ []) → end ≡ old ++ list_text byte texts
dashed byte [] old new end later h last = rw (last, h.text, h.any) (simp append-nil)
dashed byte (t ∷ texts) old new end later h last = rw (last, h.text, h.any) (simp append-nil)

-- and a dash where there were none
pub written_all : {T E : Type 0} (r : Result T E) (byte : ℕ) (texts : List (List ℕ)) (old new end : List ℕ) (later : Bool) →
    HasWritten byte texts old new later → OnOk r (end ≡ new ++ cond later [] (45 ∷ [])) → OnOk r (end ≡ old ++ list_text byte texts)
written_all (Ok x) byte texts old new end later h last = dashed byte texts old new end later h last
written_all (Err e) byte texts old new end later h last = tt
