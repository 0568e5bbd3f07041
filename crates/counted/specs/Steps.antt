-- Sub-steps of the counted register's operations.
use Rattle.std.specs.Prelude.{ℕ, ◌+◌, ◌-◌, ◌*◌, List, ltb}
use Rattle.words.specs.Choice.{pick}
use Rattle.words.specs.Index.{other}
use Rattle.common.specs.declared.Writer.{Writer}
use Rattle.common.specs.declared.Reader.{Reader}
use Rattle.common.specs.Rules.{WriteStep, ReadStep}
use Rattle.counted.specs.Cell.{unpack_cell}
use Rattle.counted.specs.Table.{word_at, store}

-- "A write .. takes n sub-steps", "A read .. takes 2n−1 sub-steps"
abbrev pub write_steps : ℕ → ℕ
write_steps n = n

abbrev pub read_steps : ℕ → ℕ
read_steps n = 2 * n - 1

-- "A write adds 1 to the stamp": each of its sub-steps stores to the next reader
unfoldable pub write_step : ℕ → Writer → List ℕ → WriteStep
write_step n w t = record {
  writer = record w {
    active = ltb (w.moved + 1) (write_steps n);
    moved = w.moved + 1;
    count = pick (ltb (w.moved + 1) (write_steps n)) w.count (w.count + 1);
  };
  table = store n t 0 (w.moved + 1) (record { value = w.value; stamp = w.count + 1 });
}

abbrev pub stamp_in : ℕ → ℕ
stamp_in w = (unpack_cell w).stamp

-- the word with the larger stamp; the first, if they are equal
unfoldable pub larger : ℕ → ℕ → ℕ
larger a b = pick (ltb (stamp_in a) (stamp_in b)) b a

-- a word more moved, and the result so far
abbrev pub read_on : ℕ → Reader → ℕ → Reader
read_on n r result = record r { active = ltb (r.moved + 1) (read_steps n); moved = r.moved + 1; result = result }

-- "A read looks at the other readers in rising order, then at the writer, takes the largest stamp (the writer's if equal, else the lowest
-- reader), stores it to the others"
unfoldable pub read_step : ℕ → ℕ → Reader → List ℕ → ReadStep
read_step n p r t =
    pick (ltb (r.moved + 1) n) (record { reader = read_on n r (larger r.result (word_at n t (other p r.moved) p)); table = t })
    (pick (ltb r.moved n) (record { reader = read_on n r (larger (word_at n t 0 p) r.result); table = t })
    (record { reader = read_on n r r.result; table = store n t p (other p (r.moved - n)) (unpack_cell r.result) }))
