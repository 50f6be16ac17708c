-- What stands in the way, as JSON.
use Rattle.std.specs.Prelude.{ℕ, List, [], ◌∷◌, ◌++◌, codes, decimal, string_bytes}
use Rattle.std.specs.List.{concat}
use Rattle.ct_names.specs.RefusalText.{limit_text}
use Rattle.ct_model.specs.StepText.{step_text}
use Rattle.ct_settled.specs.declared.hindrance.Hindrance.{Hindrance}
use Rattle.ct_settled.specs.declared.hindrance.Hindrance.TheVariants.{Waits, May, Full, Awaits, Few, Lost}
use Rattle.ct_judging.specs.Wording.{behind}
use Rattle.ct_complete.specs.declared.obstacle.Obstacle.{Obstacle}

unfoldable pub hindrance_json : Hindrance → List ℕ
hindrance_json (Waits p k) =
    concat (codes "{\"kind\":\"waits\",\"member\":" ∷ decimal p ∷ codes ",\"serial\":" ∷ decimal k ∷ codes "}" ∷ [])
hindrance_json (May step) = concat (codes "{\"kind\":\"may\",\"step\":" ∷ step_text step ∷ codes "}" ∷ [])
hindrance_json (Full step limit) =
    concat (codes "{\"kind\":\"full\",\"step\":" ∷ step_text step ∷ codes ",\"limit\":\"" ∷ limit_text limit ∷ codes "\"}" ∷ [])
hindrance_json (Awaits p q) =
    concat (codes "{\"kind\":\"awaits\",\"member\":" ∷ decimal p ∷ codes ",\"coordinator\":" ∷ decimal q ∷ codes "}" ∷ [])
hindrance_json Few = codes "{\"kind\":\"few\"}"
hindrance_json (Lost p k) =
    concat (codes "{\"kind\":\"lost\",\"member\":" ∷ decimal p ∷ codes ",\"serial\":" ∷ decimal k ∷ codes "}" ∷ [])

-- the object begins with what stands in the way
unfoldable pub hindrance_part : Hindrance → List ℕ
hindrance_part h = behind (codes "{\"hindrance\":") (hindrance_json h)

-- and ends with its text, and a line feed
unfoldable pub text_part : List ℕ → List ℕ
text_part text = concat (codes ",\"text\":\"" ∷ text ∷ codes "\"}\n" ∷ [])

abbrev pub obstacle_json : Obstacle → List ℕ
obstacle_json o = hindrance_part o.hindrance ++ text_part (string_bytes o.text)
