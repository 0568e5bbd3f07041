-- A sub-step moves one word.
use Prim.Native.Nat.{ℕ, ◌+◌, ◌-◌, ◌*◌, ◌≤◌, ◌<◌}
use mathlib.Core.Path.{refl, sym}
use native.Mathlib.Omega.{arith}
use lib.Dec.{ltb}
use borrow.Author.Tests.{ltb-true, ltb-false}
use Rattle.words.specs.Index.{other}
use Rattle.words.proofs.Laws.Index.{other_valid}
use Rattle.common.specs.declared.Writer.{Writer}
use Rattle.common.specs.declared.Reader.{Reader}
use Rattle.common.specs.Rules.{ReadStep}
use Rattle.common.specs.Effects.{OneWord, reads, stores}
use Rattle.common.proofs.Effects.{word_by}
use Rattle.counted.specs.Table.{index, Link}
use Rattle.counted.specs.Steps.{write_step, read_step}

-- of the open write
pub write_word : (n : ℕ) (w : Writer) → w.moved < n → OneWord (index n) (Link n) 0 (λ t. (write_step n w t).writer) (λ t. (write_step n w t).table)
unfolding write_step
write_word n w h = stores (w.moved + 1) _ (omega arith) (λ _. refl) (λ _ _. refl)

-- of a reader's open read
module _ (n p : ℕ) (p1 : 1 ≤ p) (pn : p ≤ n) (r : Reader) (low : r.moved < 2 * n - 1) where
  pub read_word : OneWord (index n) (Link n) p (λ t. (read_step n p r t).reader) (λ t. (read_step n p r t).table)
  unfolding read_step
  read_word =
      word_by (index n) (Link n) p (λ (q : ReadStep). q.reader) (λ (q : ReadStep). q.table) (ltb (r.moved + 1) n) _ _
      (λ e.
      let o = other_valid n p r.moved p1 pn (ltb-true _ _ e) in
      reads (other p r.moved) (record { from = o.1; dest_low = p1; dest = pn; apart = λ q. o.2 (sym q) }) (λ _. refl)
      (λ t t' q. cc)) λ e.
      word_by (index n) (Link n) p (λ (q : ReadStep). q.reader) (λ (q : ReadStep). q.table) (ltb r.moved n) _ _
      (λ _. reads 0 (omega arith) (λ _. refl) (λ t t' q. cc))
      (λ g.
      let o = other_valid n p (r.moved - n) p1 pn (omega (arith, ltb-false r.moved n g)) in
      stores (other p (r.moved - n)) _ (record { from = pn; dest_low = o.0; dest = o.1; apart = o.2 }) (λ _. refl) (λ _ _. refl))
