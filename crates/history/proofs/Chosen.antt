-- The tests of a choice of writes say what they are named for.
use Prim.Native.Nat.{ℕ, zero, suc, ◌<◌}
use native.Mathlib.Omega.{arith}
use native.Mathlib.Decide.{dec_lt}
use mathlib.Core.Path.{◌≡◌}
use mathlib.Core.Logic.{◌⊎◌, inl, inr}
use mathlib.Core.Bool.{Bool, true}
use lib.Dec.{T}
use Rattle.words.specs.Choice.{pick}
use Rattle.words.proofs.Laws.Choice.{and_T}
use Rattle.history.specs.WellFormed.{all}
use Rattle.history.specs.History.{History, Read, Precedes}
use Rattle.history.specs.ReadsFrom.{AnyWrite, ReadsFrom}
use Rattle.history.specs.Regular.{Concurrent, LastBefore, Regular, Inverted}
use Rattle.history.specs.Sweep.{is_read}
use Rattle.history.specs.Chosen.{concurrent, last_before, reads_from, regular, uninverted}
use Rattle.history.proofs.Tests.{Tests, both, either, negated, implied, itself, equal, less, restated}
use Rattle.history.proofs.Placement.{Laws}
use Rattle.history.proofs.Operations.{all_at}
use Rattle.history.proofs.Built.{read→, →read}
use Rattle.history.proofs.Regular.{read_real}

all_of : (f : ℕ → Bool) (n : ℕ) → ((k : ℕ) → 0 < k → k < n → T (f k)) → T (all f n)
unfolding all
all_of f zero g = tt
all_of f (suc zero) g = tt
all_of f (suc (suc n)) g = and_T (all f (suc n)) _ (all_of f (suc n) (λ k a b. g k a (omega arith))) (g (suc n) (omega arith) (omega arith))

every : (f : ℕ → Bool) {P : ℕ → Type 0} (n : ℕ) → ((k : ℕ) → k < n → Tests (f k) (P k)) → Tests (all f n) ((k : ℕ) → 0 < k → k < n → P k)
every f n p = record {
  only_if = λ t k a b. (p k b).only_if (all_at f n k t a b);
  if = λ g. all_of f n (λ k a b. (p k b).if (g k a b));
}

module _ (h : History) (L : Laws h) where
  -- a test of every read
  of_reads : (f : ℕ → Bool) {P : ℕ → Type 0} → ((r : ℕ) → Tests (f r) (P r))
      → Tests (all (λ r. pick (is_read h r) (f r) true) h.len) ((r : ℕ) → Read h h.len r → P r)
  of_reads f p =
      restated (every _ h.len (λ r a. implied (is r a) (p r)))
      (λ g r x. g r (read_real h L r x) x.under x)
      (λ g r _ _ x. g r x)
    where
      is : (r : ℕ) → r < h.len → Tests (is_read h r) (Read h h.len r)
      is r a = record { only_if = read→ h h.len r a; if = →read h h.len r }

  tests_concurrent : (a b : ℕ) → Tests (concurrent h a b) (Concurrent h a b)
  tests_concurrent a b =
      restated (both (negated (less _ _)) (negated (less _ _)))
      (λ x. record { not_before = x.0; not_after = x.1 })
      (λ x. (x.not_before, x.not_after))

  -- The start precedes every other write, so that it need not be looked at.
  tests_last : (w r : ℕ) → Tests (last_before h w r) (LastBefore h w r)
  unfolding last_before
  tests_last w r =
      restated
      (both (less _ _) (every _ {P = λ v. AnyWrite h v → Precedes h v r → (v ≡ w) ⊎ Precedes h v w} h.len
      (λ v _. implied (equal _ _) (implied (less _ _) (either (equal _ _) (less _ _))))))
      (λ x. record { before = x.0; last = λ v e a. elim (dec_lt 0 v) [ yes p ↦ x.1 v p (L.write v e) e a | no p ↦ start v (omega arith) ] })
      (λ x. (x.before, λ v _ _ e a. x.last v e a))
    where
      start : (v : ℕ) → v ≡ 0 → (v ≡ w) ⊎ Precedes h v w
      start v e = elim (dec_lt 0 w) [ yes p ↦ inr (rw (e, L.start_end) p) | no p ↦ inl (omega arith) ]

  module _ (f : ℕ → ℕ) where
    pub tests_reads_from : Tests (reads_from h f) (ReadsFrom h f)
    unfolding reads_from
    tests_reads_from =
        restated (of_reads _ (λ r. both (equal _ _) (itself _)))
        (λ g. record { written = λ r x. (g r x).0; suits = λ r x. (g r x).1 })
        (λ R r x. (R.written r x, R.suits r x))

    pub tests_regular : Tests (regular h f) (Regular h f)
    unfolding regular
    tests_regular =
        restated (both tests_reads_from (of_reads _ (λ r. either (tests_concurrent _ _) (tests_last _ _))))
        (λ x. record { from = x.0; near = x.1 })
        (λ R. (R.from, R.near))

    pub tests_uninverted : Tests (uninverted h f) ((r s : ℕ) → Read h h.len r → Read h h.len s → ¬ Inverted h f r s)
    unfolding uninverted
    tests_uninverted =
        restated (of_reads _ (λ r. of_reads _ (λ s. negated (both (less _ _) (less _ _)))))
        (λ g r s x y i. g r x s y (i.reads, i.writes))
        (λ g r x s y i. g r s x y (record { reads = i.0; writes = i.1 }))
