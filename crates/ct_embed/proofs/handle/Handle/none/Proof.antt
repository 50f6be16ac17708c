-- A handle that holds nothing owns nothing.
use Rattle.ct_embed.proofs.Common.{refl, sym, subst, List, [], ◌∷◌, ◌++◌, T, lit<, Val, SProp, ent, ftrue, fsep, WpFn, tables, agg, no_more}
use Rattle.ct_embed.proofs.Common.{and_then, lit, returns, enter, alloc_all, pass_all, free_all, look_at, get, sets, yes, plain, nothing}
use Rattle.ct_embed.proofs.Common.{says, Stays, stay_dropped, walk_of, ends_at, Goes-blank, handle_tells, proved_at, RawPtr, null_ptr}
use Rattle.ct_embed.proofs.Common.{ptr_val, vstruct, vcons, vnil, has_ty, WT, α}
use types.Kit.{Item, ⋆, ‵, raw, ◌⊛◌, ◌$◌, ◌∵◌, !, qed, by, move, keep, join, split, fsplit, fjoin, fpack, feq_i, suffices, done}
use denote.RattleType.{Valss}
use denote.Param.{layout}
use denote.Struct.Struct.{within}
use denote.Struct.Owning.{shape}
use Rattle.std_alloc.proofs.ResultValues.{and_tt}
use Rattle.ct_embed.proofs.AtHeap.{the_heap}
use Rattle.ct_embed.proofs.handle.Handle.none.Statement.{statement}
use Rattle.std.specs.contracts.alloc.Global as heap
use Rattle.ct_embed.specs.Content.{nothing as holds_nothing}
use Rattle.ct_embed.specs.contracts.handle.Handle as handles
use Rattle.ct_embed.specs.contracts.handle.Handle.none as f
use Rattle.ct_embed.proofs.handle.Handle.none.Code as code

pub none_spec : {M : Type 1} → statement M
none_spec 𝓤 𝓛 𝓜 𝓡 wired =
    let 𝓣 = tables 𝓤 𝓛.H 𝓜 𝓡 𝓡.env in let c = f.clauses 𝓛 𝓜.mem 𝓡.returns in let fn = code.function in
    let stayed : Stays f.ended.signature.params f.ended.kept = (stay_dropped (plain (λ _. heap.the_row)) yes, tt) in
    proved_at 𝓛 f.ended stayed c 𝓜 𝓡 (Goes-blank 𝓛 0 (plain (λ _. heap.the_row)) yes (λ κs x w. tt), tt)
    f.Key.name fn (code.unfolded 𝓤 𝓛.H 𝓜 𝓡 wired) (λ z are.
    let a = z.0.3.0 in let Post : Val → SProp 𝓤 = (walk_of 𝓛 f.ended stayed c).post z in
    qed 𝓛 ((‵ ftrue ⊛ ‵ (fsep (heap.the_row.own_val a z.0.4.0) ftrue)) ∷ raw ((c z.0.0 z.0.3).requires z.1) ∷ []) ∵
    split ! $ move ! (1 ∷ []) $ fsplit ! $ handle_tells the_heap ! a z.0.4.0 (λ hv is fits.
    let w = vstruct (vcons (ptr_val null_ptr) (vcons hv vnil)) in
    let typed : T (has_ty (layout handles.the_row) w) × WT w =
    (and_tt (has_ty (α the_heap) hv) fits.0, (record { fits = lit< tt }, (fits.1, tt))) in
    -- [the allocator]
    let Γ : List (Item 𝓤) = ‵ (heap.the_row.own_val a (hv ∷ [])) ∷ [] in keep ! (0 ∷ []) $
    by ! (subst (λ (ws : List Val). ent 𝓤 (⋆ 𝓛 Γ) (WpFn 𝓤 𝓛.H 𝓣.C 𝓣.Λ fn (ws ++ []) Post)) (sym is)
    (qed 𝓛 Γ ∵ enter ! 𝓣.C 𝓣.Λ fn (hv ∷ []) Post $ alloc_all ! (λ ls. pass_all ! refl (fits, tt) $
    sets ! (agg ! (and_then ! (lit ! tt) (and_then ! (get ! refl) (no_more !)))) refl typed $
    returns ! (look_at ! 0 refl) $ free_all ! refl $
    nothing ! $ nothing ! $ move ! (2 ∷ 0 ∷ []) $ fjoin ! $
    feq_i ! (List Val) (ptr_val null_ptr ∷ []) (ptr_val null_ptr ∷ []) refl $ fjoin ! $
    feq_i ! (List Val) (w ∷ []) (w ∷ []) refl $ fjoin ! $
    fpack ! (Valss (RawPtr ∷ heap.the_field.row ∷ []))
    (within (shape handles.the_type) (null_ptr, (heap.the_field.into a, tt)) (w ∷ [])) (ptr_val null_ptr ∷ [], (hv ∷ [], tt)) $
    fjoin ! $
    suffices ! _ (ends_at 𝓛 f.ended stayed c z w (record { at = null_ptr; alloc = a; content = holds_nothing }) (_, tt) (tt, tt)) $
    says ! refl $ nothing ! $ nothing ! $ fjoin ! $ join ! $ nothing ! $ join ! $ done !)))))
