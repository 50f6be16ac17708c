-- A handle takes the parts of a box over and gives them up, whatever the kind of what is in the box. Assumes `Logic`.
--     holds, gives     that the functions do so
use Rattle.ct_embed.proofs.Common.{◌≡◌, refl, sym, subst, true, List, [], ◌∷◌, ◌++◌, Ura, Val, SProp, ent, ftrue, fsep, WpFn, Logic, fact}
use Rattle.ct_embed.proofs.Common.{tables, whole, sub, agg, stop, fld, no_more, and_then, of_opd, returns, enter, alloc_all, pass_all}
use Rattle.ct_embed.proofs.Common.{free_all, look_at, get, get_in, sets, yes, plain, heard, nothing, says, Ended, Clauses, Stays}
use Rattle.ct_embed.proofs.Common.{stay_dropped, walk_of, ends_at, Goes-blank, proved_at, Bx, D, B, α, word, box_typed, box_out, box_in}
use mir.Syntax.{Fn, Ty, Sym, Callee, place, field, copy, assign, rv_opd, aggregate, seq, return, local, value_local, ty_ptr, ty_struct}
use mir.Syntax.{tnil, tcons}
use base.Logic.{emp}
use base.Fml.{Fml}
use prog.Model.{Model}
use prog.Wp.{Closed}
use contract.Running.{Running, MachineTables}
use types.Logic.{sem}
use types.Kit.{Item, ⋆, ‵, raw, ◌⊛◌, ◌$◌, ◌∵◌, !, qed, by, move, keep, join, split, rewrite, fsplit, fjoin, suffices, done}
use denote.RattleType.{RattleType}
use denote.Triple.Clauses.{closing}
use denote.Triple.Spec.{Meets}
use Rattle.std.specs.Prelude.{is_some}
use Rattle.ct_embed.proofs.AtHeap.{the_heap, boxed, parted, Kind}
use Rattle.ct_embed.specs.Content.{Content}
use Rattle.ct_embed.specs.contracts.handle.Handle.{the_row as handle}

abbrev pair : Sym → Ty
pair name = ty_struct name (tcons ty_ptr (tcons (α the_heap) tnil))

-- a struct of a pointer and an allocator becomes another one
abbrev pub moved : Sym → Sym → Fn
moved from into = record {
  lifetimes = 0;
  outlives = [];
  ty_params = [];
  givens = 0;
  params = 1;
  locals =
      local (pair into) value_local ∷ local (pair from) value_local ∷
      local ty_ptr value_local ∷ local (α the_heap) value_local ∷ local ty_ptr value_local ∷ [];
  body =
      seq (assign (place 2 []) (rv_opd (copy (place 1 (field 0 ∷ [])))))
      (seq (assign (place 3 []) (rv_opd (copy (place 1 (field 1 ∷ [])))))
      (seq (assign (place 4 []) (rv_opd (copy (place 2 []))))
      (seq (assign (place 0 []) (aggregate (copy (place 4 []) ∷ copy (place 3 []) ∷ []))) return)));
}

abbrev ended : RattleType → RattleType → Ended
ended from into = record {
  signature = record { lifetimes = 0; outlives = []; params = plain (λ κs. from) ∷ []; result = plain (λ κs. into) };
  kept = (yes, tt);
}

abbrev stayed : (from into : RattleType) → Stays (ended from into).signature.params (ended from into).kept
stayed from into = (stay_dropped (plain (λ _. from)) yes, tt)

module _ (K : Kind) where
  abbrev E : Bx
  E = boxed K.row K.laws

  abbrev apart : RattleType
  apart = parted K.row

  module _ {M : Type 1} (𝓤 : Ura M) (𝓛 : Logic 𝓤) (𝓜 : Model 𝓤 𝓛.H) (𝓡 : Running 𝓤 𝓛.H 𝓜) where
    abbrev 𝓣 : MachineTables 𝓤 𝓛.H 𝓜
    𝓣 = tables 𝓤 𝓛.H 𝓜 𝓡 𝓡.env

    -- the code returns the word that it is given
    moves : (from into : Sym) (d : D E) (vs : List Val) (Post : Val → SProp 𝓤) →
        ((v : Val) → ent 𝓤 (sem 𝓛 ((B E).own_val d (v ∷ []))) (Post v)) →
        ent 𝓤 (sem 𝓛 ((B E).own_val d vs)) (WpFn 𝓤 𝓛.H 𝓣.C 𝓣.Λ (moved from into) (vs ++ []) Post)
    moves from into d vs Post then =
        qed 𝓛 (‵ ((B E).own_val d vs) ∷ []) ∵ box_out E ! d vs (λ b o hv at is fits. box_in E ! d b o d.value at refl $
        let w = word E hv b o in let typed = box_typed E hv b o fits in let Γ : List (Item 𝓤) = ‵ ((B E).own_val d (w ∷ [])) ∷ [] in
        by ! (subst (λ (ws : List Val). ent 𝓤 (⋆ 𝓛 Γ) (WpFn 𝓤 𝓛.H 𝓣.C 𝓣.Λ (moved from into) (ws ++ []) Post)) (sym is)
        (qed 𝓛 Γ ∵ enter ! 𝓣.C 𝓣.Λ (moved from into) (w ∷ []) Post $ alloc_all ! (λ ls. pass_all ! refl (typed, tt) $
        sets ! (of_opd ! (get_in ! (fld ! refl (stop !)) (sub ! 0 refl (whole !)))) refl (tt, tt) $
        sets ! (of_opd ! (get_in ! (fld ! refl (stop !)) (sub ! 1 refl (whole !)))) refl fits $
        sets ! (of_opd ! (get ! refl)) refl (tt, tt) $
        sets ! (agg ! (and_then ! (get ! refl) (and_then ! (get ! refl) (no_more !)))) refl typed $
        returns ! (look_at ! 0 refl) $ free_all ! refl $ by ! (then w)))))

    abbrev taken : Clauses 𝓤 (ended apart handle)
    taken κs a = record {
      ghost = Unit {0};
      requires = λ _. emp 𝓤;
      ensures = λ _ r e. fact 𝓤 (r.content ≡ K.content a.0.value);
    }

    pub holds : (name : Callee) (from into : Sym) → Closed 𝓤 𝓛.H 𝓣.C 𝓣.Λ name (moved from into) →
        Meets 𝓛 (ended apart handle).signature (𝓣.C name) (closing 𝓛 (ended apart handle) taken)
    holds name from into closed =
        let En = ended apart handle in let kept = stayed apart handle in
        proved_at 𝓛 En kept taken 𝓜 𝓡 (Goes-blank 𝓛 0 (plain (λ _. apart)) yes (λ κs x w. tt), tt) name (moved from into) closed (λ z are.
        let v = z.0.3.0 in let d : D E = record { ptr = v.ptr; alloc = v.alloc; value = v.value } in
        let held : handle.Denot = record { at = v.ptr; alloc = v.alloc; content = K.content v.value } in
        qed 𝓛 ((‵ ftrue ⊛ ‵ (fsep (apart.own_val v z.0.4.0) ftrue)) ∷ raw (emp 𝓤) ∷ []) ∵
        split ! $ move ! (1 ∷ []) $ fsplit ! $ keep ! (0 ∷ []) $ rewrite ! 0 (λ (F : Fml). ‵ F) (K.owns d z.0.4.0).0 refl $
        by ! (moves from into d z.0.4.0 ((walk_of 𝓛 En kept taken).post z) (λ w.
        qed 𝓛 (‵ ((B E).own_val d (w ∷ [])) ∷ []) ∵ rewrite ! 0 (λ (F : Fml). ‵ F) (sym (K.owns d (w ∷ [])).1) refl $
        suffices ! _ (ends_at 𝓛 En kept taken z w held (_, tt) (tt, tt)) $
        says ! refl $ nothing ! $ nothing ! $ fjoin ! $ join ! $ nothing ! $ join ! $ done !)))

    abbrev given : Clauses 𝓤 (ended handle apart)
    given κs a = record {
      ghost = Unit {0};
      requires = λ _. fact 𝓤 (is_some (K.of a.0.content) ≡ true);
      ensures = λ _ r e. fact 𝓤 (a.0.content ≡ K.content r.value);
    }

    pub gives : (name : Callee) (from into : Sym) → Closed 𝓤 𝓛.H 𝓣.C 𝓣.Λ name (moved from into) →
        Meets 𝓛 (ended handle apart).signature (𝓣.C name) (closing 𝓛 (ended handle apart) given)
    gives name from into closed =
        let En = ended handle apart in let kept = stayed handle apart in
        proved_at 𝓛 En kept given 𝓜 𝓡 (Goes-blank 𝓛 0 (plain (λ _. handle)) yes (λ κs x w. tt), tt) name (moved from into) closed (λ z are.
        let v = z.0.3.0 in
        qed 𝓛 ((‵ ftrue ⊛ ‵ (fsep (handle.own_val v z.0.4.0) ftrue)) ∷ raw (fact 𝓤 (is_some (K.of v.content) ≡ true)) ∷ []) ∵
        move ! (1 ∷ []) $ heard ! (is_some (K.of v.content) ≡ true) (λ some. split ! $ move ! (1 ∷ []) $ fsplit ! $ keep ! (0 ∷ []) $
        let x = K.is v.content some in let d : D E = record { ptr = v.at; alloc = v.alloc; value = x.0 } in
        let parts : apart.Denot = record { ptr = v.at; alloc = v.alloc; value = x.0 } in
        rewrite ! 0 (λ (c : Content). ‵ (handle.own_val (record v { content = c }) z.0.4.0)) x.1 refl $
        rewrite ! 0 (λ (F : Fml). ‵ F) (K.owns d z.0.4.0).1 refl $
        by ! (moves from into d z.0.4.0 ((walk_of 𝓛 En kept given).post z) (λ w.
        qed 𝓛 (‵ ((B E).own_val d (w ∷ [])) ∷ []) ∵ rewrite ! 0 (λ (F : Fml). ‵ F) (sym (K.owns d (w ∷ [])).0) refl $
        suffices ! _ (ends_at 𝓛 En kept given z w parts (_, tt) (tt, tt)) $
        says ! x.1 $ nothing ! $ nothing ! $ fjoin ! $ join ! $ nothing ! $ join ! $ done !))))
