-- A choice of writes, tried on a log: whether the log is regular by it, and whether it inverts two reads. These are tests for sessions;
-- that they say what Regular says is proved (proofs/Chosen).
use Rattle.std.specs.Prelude.{ℕ, Bool, true, not, ◌&&◌, ◌||◌, List, [], ◌∷◌, eqb, ltb}
use Rattle.words.specs.Choice.{pick}
use Rattle.history.specs.WellFormed.{all}
use Rattle.history.specs.History.{History}
use Rattle.history.specs.Sweep.{is_read}

-- the write that a list of reads, each with its write, has for r; the start if it has none
unfoldable pub chosen : List (ℕ × ℕ) → ℕ → ℕ
chosen [] r = 0
chosen (x ∷ rest) r = pick (eqb x.0 r) x.1 (chosen rest r)

abbrev pub precedes : History → ℕ → ℕ → Bool
precedes h a b = ltb (h.end a) b

abbrev pub concurrent : History → ℕ → ℕ → Bool
concurrent h a b = not (precedes h a b) && not (precedes h b a)

unfoldable pub last_before : History → ℕ → ℕ → Bool
last_before h w r =
    precedes h w r && all (λ v. pick (eqb (h.kind v) 1) (pick (precedes h v r) (eqb v w || precedes h v w) true) true) h.len

-- f has for each read a write that it may stand for
unfoldable pub reads_from : History → (ℕ → ℕ) → Bool
reads_from h f = all (λ r. pick (is_read h r) (eqb (h.kind (f r)) 1 && h.suits (h.end r) (f r)) true) h.len

unfoldable pub regular : History → (ℕ → ℕ) → Bool
regular h f = reads_from h f && all (λ r. pick (is_read h r) (concurrent h (f r) r || last_before h (f r) r) true) h.len

abbrev inverted : History → (ℕ → ℕ) → ℕ → ℕ → Bool
inverted h f r s = precedes h r s && precedes h (f s) (f r)

-- no two reads are inverted
unfoldable pub uninverted : History → (ℕ → ℕ) → Bool
uninverted h f = all (λ r. pick (is_read h r) (all (λ s. pick (is_read h s) (not (inverted h f r s)) true) h.len) true) h.len
