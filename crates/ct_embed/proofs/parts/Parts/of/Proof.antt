-- A box is taken apart: the parts own the allocator, what lies at the pointer, and the right to free it.
use Rattle.ct_embed.proofs.Common.{refl, sym, subst, List, [], ◌∷◌, ◌++◌, Ura, inst_fn, bare, Val, vstruct, of_list, SProp, ent, id⊢, never}
use Rattle.ct_embed.proofs.Common.{fst∗, ftrue, fsep, Memory, Routine, WpFn, Tables, Logic, Fun, fact, tables, fm_of, WpFn-mono, whole, sub}
use Rattle.ct_embed.proofs.Common.{agg, stop, fld, no_more, and_then, of_opd, returns, enter, alloc_all, pass_all, free_all, look_at, get}
use Rattle.ct_embed.proofs.Common.{get_in, sets, lands_as, no, Ptr, RawPtr, block_ptr, null_ptr, ptr_val, in_a_block, plain, heard, nothing}
use Rattle.ct_embed.proofs.Common.{only, Tuple, Ended, Clauses, triple_of, Triple, Contract, entered, says, Stays, stay_dropped, walk_of}
use Rattle.ct_embed.proofs.Common.{ends_at, walk_Meets, token, Goes-blank, box_owns, Bx, τ, R, P, B, word, box_typed, box_out, box_in}
use mathlib.Core.Path.{◌≡◌, ap, ◌∙◌}
use mir.Syntax.{Fn, Args, Dict, a_type, dcons, dnil}
use types.Logic.{sem}
use contract.Running.{tables_of}
use types.Kit.{Item, ⋆, ‵, raw, ◌⊛◌, some, later, ◌$◌, ◌∵◌, !, qed, by, move, drop, use1, join, split, split3, pick, rewrite, fsplit, fjoin}
use types.Kit.{suffices, await, done}
use denote.Param.{bounded}
use denote.Triple.Call.{calls_at}
use Rattle.std_alloc.proofs.boxed.Box.into_raw_with_allocator.Met.{met}
use Rattle.ct_embed.proofs.Apart.{tokens, outlived, pair_out, apart_in}
use Rattle.ct_embed.proofs.parts.Parts.of.Statement.{statement}
use Rattle.std_alloc.specs.contracts.boxed.Box.into_raw_with_allocator as callee
use Rattle.std_alloc.proofs.boxed.Box.into_raw_with_allocator.Symbol as symbol
use Rattle.ct_embed.specs.contracts.parts.Parts.of as f
use Rattle.ct_embed.proofs.parts.Parts.of.Code as code

module _ (E : Bx) (dx : Dict) where
  abbrev given : Args
  given = bounded (a_type ∷ a_type ∷ []) (E.row, (E.al.row, tt)) (dcons E.al.d (dcons E.al.drops (dcons dx dnil)))

  abbrev body : Fn
  body = inst_fn given code.function

  abbrev ended : Ended
  ended = f.ended E.row E.al.row E.al.g E.al.d E.al.drops dx

  abbrev stayed : Stays ended.signature.params ended.kept
  stayed = (stay_dropped (plain (λ _. B E)) no, tt)

  module _ {M : Type 1} {𝓤 : Ura M} (𝓛 : Logic 𝓤) (mem : Memory → SProp 𝓤) (returns_as : Routine → Fun 𝓤) (𝓣 : Tables 𝓤 𝓛.H) where
    abbrev told : Clauses 𝓤 ended
    told = f.clauses E.row E.al.row E.al.g E.al.d E.al.drops dx 𝓛 mem returns_as

    abbrev Call : Contract 𝓤
    Call = triple_of 𝓛 (callee.signature E.row E.al.row E.al.g E.al.d E.al.drops dx)
        (callee.spec E.row E.al.row E.al.g E.al.d E.al.drops dx 𝓛 mem returns_as)

    walk : Triple 𝓤 (𝓣.C (symbol.name given)) Call → (z : (walk_of 𝓛 ended stayed told).Ghost) →
        ent 𝓤 ((walk_of 𝓛 ended stayed told).pre z) (WpFn 𝓤 𝓛.H 𝓣.C 𝓣.Λ body (z.0.4.0 ++ []) ((walk_of 𝓛 ended stayed told).post z))
    walk meets z =
        let κ = z.0.0.0 in let κ' = z.0.0.1.0 in let d = z.0.3.0 in let a = d.alloc in
        let Post = (walk_of 𝓛 ended stayed told).post z in
        let held : Item 𝓤 = tokens 𝓤 κ κ' z.0.1.0 z.0.1.1.0 in
        qed 𝓛 ((held ⊛ ‵ (fsep ((B E).own_val d z.0.4.0) ftrue)) ∷ outlived E 𝓤 κ κ' ∷ []) ∵
        split ! $ move ! (1 ∷ []) $ fsplit ! $
        box_out E ! d z.0.4.0 (λ b o hv at is fits. box_in E ! d b o d.value at refl $
        let w = word E hv b o in
        let y : Call.Ghost = ((z.0.0, z.0.1, tt, (d, tt), (w ∷ [], tt)), tt) in
        -- [the box; nothing; the tokens; what the lifetimes are in]
        let Γ : List (Item 𝓤) = ‵ ((B E).own_val d (w ∷ [])) ∷ ‵ ftrue ∷ held ∷ outlived E 𝓤 κ κ' ∷ [] in
        by ! (subst (λ (ws : List Val). ent 𝓤 (⋆ 𝓛 Γ) (WpFn 𝓤 𝓛.H 𝓣.C 𝓣.Λ body (ws ++ []) Post)) (sym is)
        (qed 𝓛 Γ ∵ enter ! 𝓣.C 𝓣.Λ body (w ∷ []) _ $ alloc_all ! (λ ls. pass_all ! refl (box_typed E hv b o fits, tt) $
        sets ! (of_opd ! (get ! refl)) refl (box_typed E hv b o fits) $
        fjoin ! $ move ! (1 ∷ 0 ∷ []) $ join ! $ join ! $ use1 𝓛 (raw (Call.pre y)) (id⊢ 𝓤 _) $
        calls_at ! (fm_of 𝓤 𝓛.H 𝓛.laws 𝓣) Call meets y (and_then ! (get ! refl) (no_more !)) (λ v.
        use1 𝓛 (later (some (λ (r : Ptr × E.al.row.Denot). (held ⊛ ‵ ((Tuple (RawPtr ∷ P E ∷ [])).own_val r (v ∷ []))) ⊛
        some (λ (_ : (Unit {0} × (Unit {0} × Unit {0})) × Unit {0}). ‵ (fsep (fsep ftrue (fsep ftrue ftrue)) ftrue) ⊛
        (raw (fact 𝓤 (r.1 ≡ a)) ⊛ ‵ (box_owns (token E.al a) (R E) r.0 d.value)))))) (id⊢ 𝓤 _) $
        await ! tt $ pick ! (λ r. split ! $ move ! (1 ∷ []) $ pick ! (λ _. split3 ! $ drop ! $ heard ! (r.1 ≡ a) (λ same.
        -- [what lies there and the right to free it; the tokens with the pair]
        in_a_block ! r.0 (λ p. box_owns (token E.al a) (R E) p d.value)
        (fst∗ 𝓤 (never 𝓤) (sem 𝓛 (token E.al a (bare (τ E)) null_ptr))) (λ b₁ o₁ at₁.
        move ! (1 ∷ []) $ split ! $ move ! (1 ∷ []) $ pair_out E ! r.0 r.1 (v ∷ []) (λ hv₁ is₁ fits₁.
        rewrite ! 0 (λ (s : E.al.row.Denot). ‵ ((P E).own_val s (hv₁ ∷ []))) same refl $
        let w₁ = word E hv₁ b₁ o₁ in let typed = box_typed E hv₁ b₁ o₁ fits₁ in
        lands_as ! (ap only (is₁ ∙ ap (λ (p : Ptr). vstruct (of_list (ptr_val p ∷ hv₁ ∷ [])) ∷ []) at₁)) refl typed $
        sets ! (of_opd ! (get_in ! (fld ! refl (stop !)) (sub ! 0 refl (whole !)))) refl (tt, tt) $
        sets ! (of_opd ! (get_in ! (fld ! refl (stop !)) (sub ! 1 refl (whole !)))) refl fits₁ $
        sets ! (of_opd ! (get ! refl)) refl fits₁ $
        sets ! (agg ! (and_then ! (get ! refl) (and_then ! (get ! refl) (no_more !)))) refl typed $
        returns ! (look_at ! 0 refl) $ free_all ! refl $
        -- [the allocator; the tokens; what lies there and the right to free it]
        move ! (2 ∷ []) $ fsplit ! $ move ! (0 ∷ 1 ∷ 2 ∷ []) $ apart_in E ! hv₁ b₁ o₁ a d.value $
        suffices ! _ (ends_at 𝓛 ended stayed told z w₁
        (record { ptr = block_ptr b₁ o₁; alloc = a; value = d.value }) ((tt, (tt, tt)), tt) (tt, tt)) $ says ! refl $
        nothing ! $ nothing ! $ fjoin ! $ join ! $ move ! (1 ∷ 0 ∷ []) $ join ! $ done !))))))))))

pub of_spec : {M : Type 1} → statement M
unfolding tables_of
of_spec 𝓤 𝓛 𝓜 𝓡 wired T A T-laws A-laws g d drops dx allocator dropped glue =
    let E : Bx = record { row = T; laws = T-laws; al = record { row = A; laws = A-laws; g = g; d = d; drops = drops } } in
    let 𝓣 : Tables 𝓤 𝓛.H = tables_of 𝓤 𝓛.H 𝓜 (tables 𝓤 𝓛.H 𝓜 𝓡 𝓡.env) in
    entered 𝓤 𝓛.H (triple_of 𝓛 (ended E dx).signature (f.spec T A g d drops dx 𝓛 𝓜.mem 𝓡.returns)) 𝓣.C 𝓣.Λ
    (f.Key.name (given E dx)) (body E dx)
    (code.unfolded 𝓤 𝓛.H 𝓜 𝓡 wired (T, (A, tt)) d drops dx)
    (walk_Meets 𝓛 (ended E dx) (stayed E dx) (Goes-blank 𝓛 2 (plain (λ _. B E)) no (λ κs x w. tt), tt) (told E dx 𝓛 𝓜.mem 𝓡.returns 𝓣)
    (WpFn 𝓤 𝓛.H 𝓣.C 𝓣.Λ (body E dx)) (WpFn-mono 𝓤 𝓛.H 𝓛.laws 𝓣 (body E dx))
    (walk E dx 𝓛 𝓜.mem 𝓡.returns 𝓣
    (met 𝓤 𝓛 𝓜 𝓡 (code.calls-std_alloc::boxed::Box::into_raw_with_allocator 𝓡.env wired)
    T A T-laws A-laws g d drops dx allocator dropped glue)))
