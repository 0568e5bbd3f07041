-- What a host in C is given.
use Rattle.std.specs.Prelude.{ℕ, ◌+◌, ◌*◌, ◌^◌, List}
use Rattle.words.specs.Bits.{low}
use Rattle.common.specs.Answers.{number_of}
use Rattle.common.specs.Rules.{Rules}
use Rattle.common.specs.SetUp.{set_up_of}
use Rattle.lists.specs.Run.{run_words_of}

-- The number of set-up's refusal, or 0, in the upper half; below it the number of calls made, of which the lower half fits.
unfoldable pub result_word : Rules → ℕ → ℕ → ℕ → List ℕ → List ℕ → List ℕ → List ℕ → ℕ
result_word R n v fresh words t l places =
    number_of (set_up_of R n v fresh t l).answer * 2 ^ 32 + low 32 (run_words_of R n v fresh words t l places).made
