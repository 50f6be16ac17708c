-- A box and its parts: one layout, and the same is owned. Assumes `Logic`.
--     Apart             the parts' row
--     tokens, outlived  at each call: the tokens of the two parameters' lifetimes, and that these are in the parameters' own
--     pair_out          a pair of a pointer and an allocator by value: the allocator is left, and the machine value is known
--     apart_in          what lies there, the right to free it and the allocator make the parts
use Rattle.ct_embed.proofs.Common.{refl, List, [], ◌∷◌, ◌++◌, Ura, bare, Val, vstruct, of_list, id⊢, Lft, Share, ftrue, flft, fact, Logic}
use Rattle.ct_embed.proofs.Common.{Ptr, RawPtr, block_ptr, ptr_val, Tuple, token, Fits, handle_tells, Bx, X, R, P, τ, word, handle, box_in}
use mathlib.Core.Path.{◌≡◌, ◌∙◌}
use Prim.Native.Nat.{ℕ}
use base.Fraction.{full_share}
use contract.BorrowLft.{◌⊑◌}
use types.Kit.{Item, Goal, Seq, Step, step, ‵, raw, ◌⊛◌, ◌$◌, move, drop, use1, fsplit, fpick, feq_l}
use denote.RattleType.{RattleType}
use denote.Memory.{part_at}
use Rattle.ct_embed.specs.contracts.parts.Parts as parts

abbrev pub tokens : {M : Type 1} (𝓤 : Ura M) → Lft → Lft → Share → Share → Item 𝓤
tokens 𝓤 κ κ' q q' = ‵ (flft κ q) ⊛ ‵ (flft κ' q') ⊛ ‵ ftrue

module _ (E : Bx) where
  abbrev pub Apart : RattleType
  Apart = parts.the_row (R E) (P E) E.al.g

  abbrev pub outlived : {M : Type 1} (𝓤 : Ura M) → Lft → Lft → Item 𝓤
  outlived 𝓤 κ κ' = raw (fact 𝓤 (κ ⊑ E.row.lives)) ⊛ raw (fact 𝓤 (κ' ⊑ E.al.row.lives)) ⊛ ‵ ftrue

  module _ {M : Type 1} {𝓤 : Ura M} {𝓛 : Logic 𝓤} {K : Type 0} {Γ : List (Item 𝓤)} {G : Goal 𝓤 𝓛.H} where
    pub pair_out : K → (p : Ptr) (a : E.al.row.Denot) (us : List Val)
        → ((hv : Val) → us ≡ vstruct (of_list (ptr_val p ∷ hv ∷ [])) ∷ [] → Fits E.al hv → Seq K 𝓛 (‵ (handle E a hv) ∷ Γ) G)
        → Seq K 𝓛 (‵ ((Tuple (RawPtr ∷ P E ∷ [])).own_val (p, a) us) ∷ Γ) G
    pair_out t p a us next =
        fpick t (λ vss. fsplit t $ feq_l t (λ whole. fsplit t $ feq_l t (λ first. fsplit t $
        handle_tells E.al t a vss.1.0 (λ hv second fits.
        move t (1 ∷ []) $ drop t $
        next hv (whole ∙ (λ i. vstruct (of_list (first i ++ (second i ++ []))) ∷ [])) fits))))

    pub apart_in : K → (hv : Val) (b o : ℕ) (a : E.al.row.Denot) (x : X E)
        → Step K 𝓛 (‵ (Apart.own_val (record { ptr = block_ptr b o; alloc = a; value = x }) (word E hv b o ∷ [])) ∷ Γ) G
        (‵ (part_at (R E) full_share x b o) ∷ ‵ (token E.al a (bare (τ E)) (block_ptr b o)) ∷ ‵ (handle E a hv) ∷ Γ) G
    apart_in t hv b o a x = step (λ s.
        box_in E t (record { ptr = block_ptr b o; alloc = a; value = x }) b o x refl refl $
        use1 𝓛 (‵ (Apart.own_val (record { ptr = block_ptr b o; alloc = a; value = x }) (word E hv b o ∷ []))) (id⊢ 𝓤 _) $ s)
