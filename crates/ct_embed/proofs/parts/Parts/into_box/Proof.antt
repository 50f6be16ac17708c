-- The parts are put together: what they own is what `from_raw` asks for.
use Rattle.ct_embed.proofs.Common.{refl, sym, subst, List, [], ◌∷◌, ◌++◌, T, Ura, inst_fn, Val, vptr, has_ty, WT, SProp, ent, id⊢, ftrue}
use Rattle.ct_embed.proofs.Common.{fsep, Memory, Routine, WpFn, Tables, Logic, Fun, fact, tables, fm_of, WpFn-mono, whole, sub, stop, fld}
use Rattle.ct_embed.proofs.Common.{no_more, and_then, of_opd, returns, enter, first, blocks, exec, alloc_all, pass_all, free_all, look_at}
use Rattle.ct_embed.proofs.Common.{get, get_in, sets, lands_last, env, no, block_ptr, plain, heard, nothing, only, Ended, Clauses}
use Rattle.ct_embed.proofs.Common.{triple_of, Triple, Contract, entered, says, Stays, stay_dropped, walk_of, ends_at, walk_Meets, token}
use Rattle.ct_embed.proofs.Common.{Goes-blank, box_owns, Bx, D, R, P, B, args, box_ty, word, box_typed, box_out, box_in}
use mathlib.Core.Path.{◌≡◌, ap}
use mir.Syntax.{Fn, Body, place, copy, assign, rv_opd, seq, return}
use contract.Running.{tables_of}
use types.Kit.{Item, ⋆, at_ret, ‵, raw, ◌⊛◌, some, later, ◌$◌, ◌∵◌, !, qed, by, move, drop, use1, join, split, split3, pick, rewrite}
use types.Kit.{fsplit, fjoin, feq_i, suffices, await, done}
use denote.Triple.Call.{calls_at_last}
use Rattle.std_alloc.proofs.boxed.Box.from_raw.Met.{met}
use Rattle.ct_embed.proofs.Apart.{Apart, tokens, outlived}
use Rattle.ct_embed.proofs.parts.Parts.into_box.Statement.{statement}
use Rattle.std_alloc.specs.contracts.boxed.Box.from_raw as callee
use Rattle.std_alloc.proofs.boxed.Box.from_raw.Symbol as symbol
use Rattle.ct_embed.specs.contracts.parts.Parts.into_box as f
use Rattle.ct_embed.proofs.parts.Parts.into_box.Code as code

-- behind the `unsafe` block
abbrev behind : Body
behind = seq (assign (place 0 []) (rv_opd (copy (place 4 [])))) return

module _ (E : Bx) where
  abbrev body : Fn
  body = inst_fn (args E) code.function

  abbrev ended : Ended
  ended = f.ended E.row E.al.row E.al.g E.al.d E.al.drops

  abbrev stayed : Stays ended.signature.params ended.kept
  stayed = (stay_dropped (plain (λ _. Apart E)) no, tt)

  module _ {M : Type 1} {𝓤 : Ura M} (𝓛 : Logic 𝓤) (mem : Memory → SProp 𝓤) (returns_as : Routine → Fun 𝓤) (𝓣 : Tables 𝓤 𝓛.H) where
    abbrev told : Clauses 𝓤 ended
    told = f.clauses E.row E.al.row E.al.g E.al.d E.al.drops 𝓛 mem returns_as

    abbrev Call : Contract 𝓤
    Call = triple_of 𝓛 (callee.signature E.row E.al.row E.al.g E.al.d E.al.drops)
        (callee.spec E.row E.al.row E.al.g E.al.d E.al.drops 𝓛 mem returns_as)

    walk : Triple 𝓤 (𝓣.C (symbol.name (args E))) Call → (z : (walk_of 𝓛 ended stayed told).Ghost) →
        ent 𝓤 ((walk_of 𝓛 ended stayed told).pre z) (WpFn 𝓤 𝓛.H 𝓣.C 𝓣.Λ body (z.0.4.0 ++ []) ((walk_of 𝓛 ended stayed told).post z))
    walk meets z =
        let κ = z.0.0.0 in let κ' = z.0.0.1.0 in let a = z.0.3.0.alloc in let x = z.0.3.0.value in
        let d : D E = record { ptr = z.0.3.0.ptr; alloc = a; value = x } in
        let Post = (walk_of 𝓛 ended stayed told).post z in
        let held : Item 𝓤 = tokens 𝓤 κ κ' z.0.1.0 z.0.1.1.0 in
        qed 𝓛 ((held ⊛ ‵ (fsep ((B E).own_val d z.0.4.0) ftrue)) ∷ outlived E 𝓤 κ κ' ∷ []) ∵
        split ! $ move ! (1 ∷ []) $ fsplit ! $
        box_out E ! d z.0.4.0 (λ b o hv at is fits. fjoin ! $
        let w = word E hv b o in
        let y : Call.Ghost = ((z.0.0, z.0.1, tt, (a, (block_ptr b o, tt)), (hv ∷ [], (vptr b o ∷ [], tt))), x) in
        -- [what lies there and the right to free it; the allocator; nothing; the tokens; what the lifetimes are in]
        let Γ : List (Item 𝓤) = ‵ (box_owns (token E.al a) (R E) (block_ptr b o) x) ∷ ‵ ((P E).own_val a (hv ∷ [])) ∷
        ‵ ftrue ∷ held ∷ outlived E 𝓤 κ κ' ∷ [] in
        by ! (subst (λ (ws : List Val). ent 𝓤 (⋆ 𝓛 Γ) (WpFn 𝓤 𝓛.H 𝓣.C 𝓣.Λ body (ws ++ []) Post)) (sym is)
        (qed 𝓛 Γ ∵ enter ! 𝓣.C 𝓣.Λ body (w ∷ []) _ $ alloc_all ! (λ ls. pass_all ! refl (box_typed E hv b o fits, tt) $
        sets ! (of_opd ! (get_in ! (fld ! refl (stop !)) (sub ! 0 refl (whole !)))) refl (tt, tt) $
        sets ! (of_opd ! (get_in ! (fld ! refl (stop !)) (sub ! 1 refl (whole !)))) refl fits $
        first ! $ blocks ! $ sets ! (of_opd ! (get ! refl)) refl fits $
        move ! (4 ∷ []) $ split3 ! $ move ! (2 ∷ []) $ drop ! $ move ! (1 ∷ 2 ∷ []) $ join ! $ move ! (1 ∷ 0 ∷ []) $ join ! $
        move ! (2 ∷ []) $ feq_i ! (List Val) (vptr b o ∷ []) (vptr b o ∷ []) refl $ fjoin ! $ move ! (2 ∷ 0 ∷ []) $ fjoin ! $
        move ! (2 ∷ 0 ∷ []) $ join ! $ join ! $ use1 𝓛 (raw (Call.pre y)) (id⊢ 𝓤 _) $
        calls_at_last ! (fm_of 𝓤 𝓛.H 𝓛.laws 𝓣) Call meets y (and_then ! (get ! refl) (and_then ! (get ! refl) (no_more !))) (λ v.
        use1 𝓛 (later (some (λ (r : D E). (held ⊛ ‵ ((B E).own_val r (v ∷ []))) ⊛ some (λ (_ : Unit {0} × (Unit {0} × Unit {0})).
        ‵ (fsep ftrue (fsep ftrue ftrue)) ⊛ (raw (fact 𝓤 (r.value ≡ x)) ⊛ raw (fact 𝓤 (r.alloc ≡ a))))))) (id⊢ 𝓤 _) $
        await ! tt $ pick ! (λ r. split ! $ move ! (1 ∷ []) $ pick ! (λ _. split3 ! $ drop ! $ heard ! (r.value ≡ x) (λ same. drop ! $
        -- [the tokens with the box that came back]
        split ! $ move ! (1 ∷ []) $ box_out E ! r (v ∷ []) (λ b₁ o₁ hv₁ at₁ is₁ fits₁. box_in E ! r b₁ o₁ r.value at₁ refl $
        rewrite ! 0 (λ (ws : List Val). ‵ ((B E).own_val r ws)) (sym is₁) refl $
        let typed : T (has_ty (box_ty E) v) × WT v =
        subst (λ (s : Val). T (has_ty (box_ty E) s) × WT s) (sym (ap only is₁)) (box_typed E hv₁ b₁ o₁ fits₁) in
        lands_last ! refl typed $ exec ! 𝓣.C 𝓣.Λ (env body.locals ls) behind (at_ret (env body.locals ls) Post) $
        sets ! (of_opd ! (get ! refl)) refl typed $ returns ! (look_at ! 0 refl) $ free_all ! refl $
        suffices ! _ (ends_at 𝓛 ended stayed told z v r ((tt, (tt, tt)), tt) (tt, tt)) $ says ! same $
        nothing ! $ nothing ! $ fjoin ! $ join ! $ move ! (1 ∷ 0 ∷ []) $ join ! $ done !)))))))))

pub into_box_spec : {M : Type 1} → statement M
unfolding tables_of
into_box_spec 𝓤 𝓛 𝓜 𝓡 wired T A T-laws A-laws g d drops allocator dropped =
    let E : Bx = record { row = T; laws = T-laws; al = record { row = A; laws = A-laws; g = g; d = d; drops = drops } } in
    let 𝓣 : Tables 𝓤 𝓛.H = tables_of 𝓤 𝓛.H 𝓜 (tables 𝓤 𝓛.H 𝓜 𝓡 𝓡.env) in
    entered 𝓤 𝓛.H (triple_of 𝓛 (ended E).signature (f.spec T A g d drops 𝓛 𝓜.mem 𝓡.returns)) 𝓣.C 𝓣.Λ
    (f.Key.name (args E)) (body E)
    (code.unfolded 𝓤 𝓛.H 𝓜 𝓡 wired (T, (A, tt)) d drops)
    (walk_Meets 𝓛 (ended E) (stayed E) (Goes-blank 𝓛 2 (plain (λ _. Apart E)) no (λ κs x w. tt), tt) (told E 𝓛 𝓜.mem 𝓡.returns 𝓣)
    (WpFn 𝓤 𝓛.H 𝓣.C 𝓣.Λ (body E)) (WpFn-mono 𝓤 𝓛.H 𝓛.laws 𝓣 (body E))
    (walk E 𝓛 𝓜.mem 𝓡.returns 𝓣
    (met 𝓤 𝓛 𝓜 𝓡 (code.calls-std_alloc::boxed::Box::from_raw 𝓡.env wired) T A T-laws A-laws g d drops allocator dropped)))
