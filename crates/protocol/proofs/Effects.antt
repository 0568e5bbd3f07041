-- A sub-step moves one word.
use Prim.Native.Nat.{ℕ, ◌+◌, ◌-◌, ◌*◌, ◌≤◌, ◌<◌}
use mathlib.Core.Path.{◌≡◌, refl, sym, ap}
use mathlib.Core.List.{List}
use mathlib.Core.Bool.{false}
use native.Mathlib.Omega.{arith}
use lib.Dec.{ltb, eqb}
use borrow.Author.Tests.{ltb-true, ltb-false, eqb-false}
use Rattle.words.specs.Index.{index, Pair, other}
use Rattle.words.proofs.Laws.Index.{other_valid}
use Rattle.common.specs.declared.Writer.{Writer}
use Rattle.common.specs.declared.Reader.{Reader}
use Rattle.common.specs.Rules.{WriteStep, ReadStep}
use Rattle.common.specs.Effects.{OneWord, reads, stores}
use Rattle.common.proofs.Effects.{word_by}
use Rattle.protocol.specs.Write.{write_step}
use Rattle.protocol.specs.Read.{moved_on, looks_first, looks_again, looks_at_other, looks_third, attempt_step, result_step, since, read_step}

-- A sub-step of the open write moves one word.
pub write_word : (n : ℕ) (w : Writer) → 1 ≤ n → w.moved < 2 * n → OneWord (index n) (Pair n) 0 (λ t. (write_step n w t).writer) (λ t. (write_step n w t).table)
unfolding write_step
write_word n w nl h =
    word_by (index n) (Pair n) 0 (λ (q : WriteStep). q.writer) (λ (q : WriteStep). q.table) (ltb w.moved n) _ _
    (λ e.
    let l = ltb-true w.moved n e in
    reads (w.moved + 1) (omega arith) (λ _. refl)
    (λ t t' q. cc))
    (λ e. let l = ltb-false w.moved n e in stores (w.moved - n + 1) _ (omega arith) (λ _. refl) (λ _ _. refl))

-- A sub-step of a reader's open read moves one word.
module _ (n p : ℕ) (nl : 1 ≤ n) (p1 : 1 ≤ p) (pn : p ≤ n) (r : Reader) where
  abbrev of : (List ℕ → ReadStep) → Type 0
  of f = OneWord (index n) (Pair n) p (λ t. (f t).reader) (λ t. (f t).table)

  from_other : (k : ℕ) → k + 1 < n → Pair n (other p k) p
  from_other k h = let o = other_valid n p k p1 pn h in record { from = o.1; dest = pn; apart = λ e. o.2 (sym e) }

  to_other : (k : ℕ) → k + 1 < n → Pair n p (other p k)
  to_other k h = let o = other_valid n p k p1 pn h in record { from = pn; dest = o.1; apart = o.2 }

  attempt_word : (l : ℕ) → l < n + 3 → of (attempt_step n p l r)
  unfolding attempt_step
  attempt_word l h =
      word_by (index n) (Pair n) p (λ (q : ReadStep). q.reader) (λ (q : ReadStep). q.table) (eqb l 0) _ _
      (λ _. reads 0 (omega arith) (λ _. refl) (λ t t' q. ap (looks_first (moved_on r)) q)) λ n0.
      word_by (index n) (Pair n) p (λ (q : ReadStep). q.reader) (λ (q : ReadStep). q.table) (eqb l 1) _ _
      (λ _. stores 0 _ (omega arith) (λ _. refl) (λ _ _. refl)) λ n1.
      word_by (index n) (Pair n) p (λ (q : ReadStep). q.reader) (λ (q : ReadStep). q.table) (eqb l 2) _ _
      (λ _. reads 0 (omega arith) (λ _. refl) (λ t t' q. ap (looks_again (moved_on r)) q)) λ n2.
      word_by (index n) (Pair n) p (λ (q : ReadStep). q.reader) (λ (q : ReadStep). q.table) (ltb l (n + 2)) _ _
      (λ e. reads (other p (l - 3)) (from_other (l - 3) (within n0 n1 n2 (ltb-true l (n + 2) e))) (λ _. refl) (λ t t' q. ap (looks_at_other (moved_on r)) q))
      (λ _. reads 0 (omega arith) (λ _. refl) (λ t t' q. ap (looks_third (moved_on r)) q))
    where
      within : eqb l 0 ≡ false → eqb l 1 ≡ false → eqb l 2 ≡ false → l < n + 2 → l - 3 + 1 < n
      within n0 n1 n2 g = omega (arith, eqb-false l 0 n0, eqb-false l 1 n1, eqb-false l 2 n2)

  result_word_lem : (k : ℕ) → of (result_step n p k r)
  unfolding result_step
  result_word_lem k =
      word_by (index n) (Pair n) p (λ (q : ReadStep). q.reader) (λ (q : ReadStep). q.table) (ltb (k + 1) n) _ _
      (λ e. stores (other p k) _ (to_other k (ltb-true (k + 1) n e)) (λ _. refl) (λ _ _. refl))
      (λ _. stores 0 _ (omega arith) (λ _. refl) (λ _ _. refl))

  pub read_word : of (read_step n p r)
  unfolding read_step
  read_word =
      word_by (index n) (Pair n) p (λ (q : ReadStep). q.reader) (λ (q : ReadStep). q.table) (ltb (since n r) (n + 3)) _ _
      (λ e. attempt_word (since n r) (ltb-true (since n r) (n + 3) e)) (λ _. result_word_lem (since n r - (n + 3)))
