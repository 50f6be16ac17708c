-- An option that asks for another one, or may not stand beside one.
use Rattle.std.specs.Borrow.{Bor}
use Rattle.std.specs.Prelude.{◌≡◌, ◌&&◌, ◌++◌, ◌∷◌, [], ℕ, List, Bool, false}
use Rattle.std.proofs.Common.{◌∙◌, ap, arith, length-append}
use Rattle.std.proofs.lemmas.Bool.Decides.{nat_tests}
use Rattle.clap.specs.Words.{AddsConflicts, AddsRequirements, rule_of}
use Rattle.clap.specs.Walk.{is_empty}
use Rattle.clap.specs.declared.builder.arg.Arg.{Arg}
use Rattle.clap.specs.declared.builder.arg.ArgPredicate.{ArgPredicate}

one_more : {X : Type 0} (xs ys : List X) (x : X) → ys ≡ xs ++ x ∷ [] → is_empty ys ≡ false
one_more xs ys x e = grind (arith, length-append, nat_tests)

second : (a b c : Bool) → b ≡ false → (a && (b && c)) ≡ false
second a b c e = grind arith

third : (a b c d : Bool) → c ≡ false → (a && (b && (c && d))) ≡ false
third a b c d e = grind arith

pub asks_rule : (old new : Arg) (need : ArgPredicate × Bor (List ℕ)) → AddsRequirements old new (need ∷ []) →
    rule_of new ≡ record (rule_of old) { is_free = false }
asks_rule old new need adds =
    ap rule_of adds.0 ∙ ap (λ free. record (rule_of old) { is_free = free }) (third _ _ _ _ (one_more _ _ need adds.1))

pub bars_rule : (old new : Arg) (id : Bor (List ℕ)) → AddsConflicts old new (id ∷ []) →
    rule_of new ≡ record (rule_of old) { is_free = false }
bars_rule old new id adds =
    ap rule_of adds.0 ∙ ap (λ free. record (rule_of old) { is_free = free }) (second _ _ _ (one_more _ _ id adds.1))
