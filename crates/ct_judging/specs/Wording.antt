-- Words, and what stands behind them.
use Rattle.std.specs.Prelude.{ℕ, List, ◌++◌, decimal}

-- the words, and a number
unfoldable pub numbered : List ℕ → ℕ → List ℕ
numbered words n = words ++ decimal n

-- the words, a number, other words, and a number
unfoldable pub numbered_twice : List ℕ → ℕ → List ℕ → ℕ → List ℕ
numbered_twice words n then m = numbered words n ++ numbered then m

-- the words, and a text
unfoldable pub behind : List ℕ → List ℕ → List ℕ
behind words text = words ++ text
