-- The counted register's cases, as the code takes them.
use Prim.Native.Nat.{ℕ, ◌+◌, ◌-◌, ◌≤◌, ◌<◌}
use mathlib.Core.Path.{◌≡◌, sym}
use mathlib.Core.Bool.{true, false}
use mathlib.Core.List.{List}
use borrow.Author.Tests.{lt-ltb, le-ltb}
use Rattle.words.specs.Index.{other}
use Rattle.words.proofs.Laws.Index.{other_valid}
use Rattle.common.specs.declared.Reader.{Reader}
use Rattle.common.specs.declared.Writer.{Writer}
use Rattle.counted.specs.Cell.{unpack_cell}
use Rattle.counted.specs.Table.{Link, word_at, store}
use Rattle.counted.specs.Steps.{larger, read_on, read_step, write_step}
use Rattle.steps.specs.Contract.{CountedReadOk, write_stepped, read_stepped}

-- Who has a cell to whom.
module _ (n p : ℕ) (r : Reader) (k : CountedReadOk n p r) (m : ℕ) (h : m + 1 < n) where
  pub to_other : Link n p (other p m)
  to_other =
      let o = other_valid n p m k.p_low k.p_high h in
      record { from = k.p_high; dest_low = o.0; dest = o.1; apart = o.2 }

  pub from_other : Link n (other p m) p
  from_other =
      let o = other_valid n p m k.p_low k.p_high h in
      record { from = o.1; dest_low = k.p_low; dest = k.p_high; apart = λ e. o.2 (sym e) }

-- A write's sub-step goes on, or ends it.
module _ (n : ℕ) (w : Writer) (t : List ℕ) where
  abbrev stored : List ℕ
  stored = store n t 0 (w.moved + 1) (record { value = w.value; stamp = w.count + 1 })

  pub write_goes : w.moved + 1 < n
      → write_stepped (record {
        active = true;
        moved = w.moved + 1;
        value = w.value;
        excluded = w.excluded;
        ticket = w.ticket;
        stamp = w.stamp;
        count = w.count;
      }) stored
      ≡ write_step n w t
  unfolding write_step
  write_goes h = rw (lt-ltb (w.moved + 1) n h)

  pub write_ends : n ≤ w.moved + 1
      → write_stepped (record {
        active = false;
        moved = w.moved + 1;
        value = w.value;
        excluded = w.excluded;
        ticket = w.ticket;
        stamp = w.stamp;
        count = w.count + 1;
      }) stored
      ≡ write_step n w t
  unfolding write_step
  write_ends h = rw (le-ltb (w.moved + 1) n h)

-- A read's sub-step.
module _ (n p : ℕ) (r : Reader) (t : List ℕ) where
  pub read_looks : r.moved + 1 < n → read_stepped (read_on n r (larger r.result (word_at n t (other p r.moved) p))) t ≡ read_step n p r t
  unfolding read_step
  read_looks h = rw (lt-ltb (r.moved + 1) n h)

  module _ (g : n ≤ r.moved + 1) where
    pub read_last : r.moved < n → read_stepped (read_on n r (larger (word_at n t 0 p) r.result)) t ≡ read_step n p r t
    unfolding read_step
    read_last h = rw (le-ltb (r.moved + 1) n g, lt-ltb r.moved n h)

    pub read_stores : n ≤ r.moved
        → read_stepped (read_on n r r.result) (store n t p (other p (r.moved - n)) (unpack_cell r.result)) ≡ read_step n p r t
    unfolding read_step
    read_stores h = rw (le-ltb (r.moved + 1) n g, le-ltb r.moved n h)
