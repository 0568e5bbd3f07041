-- The definitions' cases, as the code takes them.
use Prim.Native.Nat.{ℕ, ◌+◌, ◌-◌, ◌≤◌, ◌<◌}
use mathlib.Core.Path.{◌≡◌, refl, ap}
use mathlib.Core.Logic.{◌≢◌}
use mathlib.Core.List.{List}
use mathlib.Core.Bool.{Bool, true, false}
use native.Mathlib.Omega.{arith}
use borrow.Author.Tests.{lt-ltb, le-ltb, eq-eqb, ne_eqb}
use Rattle.words.specs.Index.{other}
use Rattle.common.specs.declared.Reader.{Reader}
use Rattle.protocol.specs.Table.{store, plain}
use Rattle.protocol.specs.Read.{stamp_in, looks_first, moved_on, looks_again, looks_at_other, looks_third, read_ends, announcing, showing, word_at, attempt_step, result_step, since, read_step}
use Rattle.common.specs.declared.Writer.{Writer}
use Rattle.protocol.specs.Write.{writer_reads, ticket_of, write_step}
use Rattle.words.specs.Choice.{pick}
use Rattle.steps.specs.Contract.{ReadOk, stored_writer, write_stepped, read_stepped}

-- The sub-steps of an attempt.
module _ (n p l : ℕ) (r : Reader) (t : List ℕ) where
  pub try_first : l ≡ 0 → read_stepped (looks_first (moved_on r) (word_at n t 0 p)) t ≡ attempt_step n p l r t
  unfolding attempt_step
  try_first e = rw (eq-eqb l 0 e)

  pub try_announce : l ≢ 0 → l ≡ 1 → read_stepped (moved_on r) (store n t p 0 (announcing r.stamp r.look)) ≡ attempt_step n p l r t
  unfolding attempt_step
  try_announce n0 e = rw (ne_eqb l 0 n0, eq-eqb l 1 e)

  pub try_again : l ≢ 0 → l ≢ 1 → l ≡ 2 → read_stepped (looks_again (moved_on r) (word_at n t 0 p)) t ≡ attempt_step n p l r t
  unfolding attempt_step
  try_again n0 n1 e = rw (ne_eqb l 0 n0, ne_eqb l 1 n1, eq-eqb l 2 e)

  pub try_other : l ≢ 0 → l ≢ 1 → l ≢ 2 → l < n + 2
      → read_stepped (looks_at_other (moved_on r) (word_at n t (other p (l - 3)) p)) t ≡ attempt_step n p l r t
  unfolding attempt_step
  try_other n0 n1 n2 h = rw (ne_eqb l 0 n0, ne_eqb l 1 n1, ne_eqb l 2 n2, lt-ltb l (n + 2) h)

  pub try_third : l ≢ 0 → l ≢ 1 → l ≢ 2 → n + 2 ≤ l → read_stepped (looks_third (moved_on r) (word_at n t 0 p)) t ≡ attempt_step n p l r t
  unfolding attempt_step
  try_third n0 n1 n2 h = rw (ne_eqb l 0 n0, ne_eqb l 1 n1, ne_eqb l 2 n2, le-ltb l (n + 2) h)

-- The stores of a result.
module _ (n p k : ℕ) (r : Reader) (t : List ℕ) where
  pub put_other : k + 1 < n → read_stepped (moved_on r) (store n t p (other p k) (showing r.result)) ≡ result_step n p k r t
  unfolding result_step
  put_other h = rw (lt-ltb (k + 1) n h)

  pub put_last : n ≤ k + 1 → read_stepped (read_ends (moved_on r)) (store n t p 0 (plain 0 (stamp_in r.result))) ≡ result_step n p k r t
  unfolding result_step
  put_last h = rw (le-ltb (k + 1) n h)

-- A write's sub-step.
module _ (n : ℕ) (w : Writer) (t : List ℕ) where
  pub write_reads : w.moved < n → write_stepped (writer_reads n w t) t ≡ write_step n w t
  unfolding write_step
  write_reads h = rw (lt-ltb w.moved n h)

  pub write_stores : n ≤ w.moved
      → write_stepped (stored_writer n w) (store n t 0 (w.moved - n + 1) (plain w.value (record { cur = ticket_of n w; prev = w.stamp.cur })))
      ≡ write_step n w t
  unfolding write_step
  write_stores h = rw (le-ltb w.moved n h)

-- A read's sub-step.
module _ (n p : ℕ) (r : Reader) (t : List ℕ) where
  pub read_tries : since n r < n + 3 → attempt_step n p (since n r) r t ≡ read_step n p r t
  unfolding read_step
  read_tries h = rw (lt-ltb (since n r) (n + 3) h)

  pub read_puts : n + 3 ≤ since n r → result_step n p (since n r - (n + 3)) r t ≡ read_step n p r t
  unfolding read_step
  read_puts h = rw (le-ltb (since n r) (n + 3) h)

  -- there are at most n stores
  pub stores_left : ReadOk n p r → 1 ≤ n → n + 3 ≤ since n r → since n r - (n + 3) < n
  stores_left k nl = go r.second refl
    where
      go : (b : Bool) → r.second ≡ b → n + 3 ≤ since n r → since n r - (n + 3) < n
      go true e h = omega (arith, k.in_second e, ap (λ (b : Bool). r.moved - pick b (n + 3) 0) e)
      go false e h = omega (arith, k.in_first e, ap (λ (b : Bool). r.moved - pick b (n + 3) 0) e)
