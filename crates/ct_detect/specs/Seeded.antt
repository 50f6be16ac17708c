-- A module that suspects by the words of a generator.
use Rattle.std.specs.Prelude.{ℕ, Bool, Option}
use Rattle.rand_core.specs.Pcg32Seed.{pcg32_seed}
use Rattle.rand_pcg.specs.Lcg.{Lcg}
use Rattle.rand_pcg.specs.Pcg.{pcg32, pcg32_of_seed}
use Rattle.ct_detect.specs.declared.ask.Ask.{Ask}

-- the generator, which gives the words to come, how many of 256 words say yes, and the last ask with its answer
pub record SeededState : Type 0 where
  pub words : Lcg
  pub rate : ℕ
  pub last : Option (Ask × Bool)

-- the Pcg32 of a 64-bit seed, whose words of PCG32 fill the 16 bytes that the generator starts from
unfoldable pub words_of_seed : ℕ → Lcg
words_of_seed seed = pcg32_of_seed (pcg32_seed 16 seed)

-- the generator's next 32-bit word
unfoldable pub next_word : Lcg → ℕ
next_word words = (pcg32 words).0

-- the generator after its next word
unfoldable pub after_word : Lcg → Lcg
after_word words = (pcg32 words).1
