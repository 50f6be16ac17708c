-- Facts on tests of two values.
use Rattle.std.proofs.Common.{◌≡◌, ℕ, true, refl}
use Rattle.std.specs.Prelude.{◌==◌}
pub use Rattle.std.proofs.lemmas.Bool.{or_left, or_right, or_cases, and_from as and_both, false_from_ne_true as not_true}
pub use Rattle.std.proofs.lemmas.Bool.{not-true as true_not, not-false as false_not}
pub use Rattle.std.proofs.lemmas.Bool.{eqb-true as same_number, eq-eqb as number_same, ne_eqb as number_other}
pub use Rattle.std.proofs.Math.Bool.{or-false as or_false, or-true as or_true, and-true as and_true, and-false as and_false}
pub use Rattle.ct_names.proofs.Distinct.{eq-symm as swapped}
pub use Rattle.ct_names.proofs.Lists.{both-left as and_left, both-right as and_right}

pub self_number : (a : ℕ) → (a == a) ≡ true
self_number a = number_same a a refl
