-- The cases of a sizing's answer, and that its numbers are small.
use Prim.Native.Nat.{ℕ, ◌*◌, ◌≤◌, min}
use native.Mathlib.Nat.{mul-le-mul}
use native.Mathlib.Omega.{arith}
use mathlib.Core.Path.{◌≡◌, sym, subst}
use mathlib.Core.Bool.{Bool}
use Rattle.figures.specs.Sizing.{Sizing}
use Rattle.figures.specs.Meaning.{Says}
use Rattle.figures.proofs.Meaning.{says}
use Rattle.figures.specs.Sizing.{size_of}

-- an answer that is the definition's says what that means
pub as_meant : (counted : Bool) (n writes reads : ℕ) {r : Sizing} → r ≡ size_of counted n writes reads → Says counted n writes reads r
as_meant counted n writes reads e = subst (Says counted n writes reads) (sym e) (says counted n writes reads)

-- the words of up to 2,000 operations, each of few
pub few_words : {x y k w : ℕ} → x ≡ y → y ≤ k → w ≤ 2000 → x * w ≤ k * 2000
few_words e h g = mul-le-mul (omega arith) g

pub few_reads : {reads k : ℕ} (m : ℕ) → reads ≤ 2000 → k ≡ min reads m → k ≤ 2000
few_reads m h e = omega arith
