-- A member's own steps, one after another.
use Rattle.std.proofs.Common.{◌≡◌, ℕ, Option, None, arith}
use Rattle.std.specs.Option.{option_or}
use Rattle.ct_model.specs.Rehearsal.{Rehearsal}
use Rattle.ct_model.specs.declared.step.Step.TheVariants.{Adopt, Begin, Conclude, Deliver, Enter, Follow}
use Rattle.ct_settled.specs.Hindrance.{acts, choices, told}

-- seven of them, read from the left and from the right
in_turn : {A : Type 0} (a b c d e f g : Option A) →
    option_or (option_or (option_or (option_or (option_or (option_or a b) c) d) e) f) g
    ≡ option_or (option_or a (option_or b (option_or c None))) (option_or d (option_or e (option_or f (option_or g None))))
in_turn a b c d e f g = grind arith

pub acts_is : (w : Rehearsal) (p : ℕ) →
    option_or (option_or (option_or (option_or (option_or (option_or (told w (Deliver p)) (told w (Follow p))) (told w (Begin p)))
    (choices w p w.setting.members)) (told w (Adopt p))) (told w (Conclude p))) (told w (Enter p)) ≡ acts w p
unfolding acts
acts_is w p = in_turn (told w (Deliver p)) (told w (Follow p)) (told w (Begin p)) (choices w p w.setting.members) (told w (Adopt p))
    (told w (Conclude p)) (told w (Enter p))
