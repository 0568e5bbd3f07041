-- A reader's record is the digest of the cells that the book has of its read; each turn keeps it so.
use Prim.Native.Nat.{ℕ, ◌+◌, ◌-◌, ◌≤◌, ◌<◌}
use mathlib.Core.Path.{◌≡◌, refl}
use mathlib.Core.List.{List, []}
use mathlib.Core.Bool.{Bool, true, false}
use native.Mathlib.Omega.{arith}
use lib.ListN.{length}
use lib.Dec.{ltb}
use Rattle.words.specs.declared.stamp.Stamp.{Stamp}
use Rattle.words.specs.declared.cell.Cell.{Cell}
use Rattle.words.specs.Choice.{pick}
use Rattle.words.specs.Cell.{unpack_cell}
use Rattle.common.specs.declared.Reader.{Reader}
use Rattle.common.specs.State.{retires, value_in}
use Rattle.common.specs.Book.{idle, open_with}
use Rattle.protocol.specs.Read.{stamp_in}
use Rattle.protocol.specs.Reference.{Operation, nth, alike, first_with, Result, result_of, failed}
use Rattle.protocol.proofs.Seen.{failed_early}

-- the value and stamp in a word
abbrev pub result_in : ℕ → Result
result_in w = record { value = value_in w; stamp = stamp_in w }

-- the cells that an attempt has read after l sub-steps: all but the second read one
abbrev pub reads : ℕ → ℕ
reads l = pick (ltb l 2) l (l - 1)

-- within the attempt whose cells begin at place a, after l sub-steps
pub record Trying (r : Reader) (cells : List Cell) (l a : ℕ) : Type 0 where
  pub length_is : length cells ≡ a + reads l
  pub look_is : 1 ≤ l → unpack_cell r.look ≡ nth cells a
  pub agree_is : 3 ≤ l → r.agree ≡ alike (nth cells a) (nth cells (a + 1))
  pub found_is : 1 ≤ l → (d : ℕ)
      → unpack_cell (pick r.found r.result d) ≡ first_with cells (nth cells a).stamp.cur (unpack_cell d) (a + 2) (l - 3)

pub record RRel (n : ℕ) (r : Reader) (m : ℕ) (cells : List Cell) : Type 0 where
  pub late : Bool
  pub l : ℕ
  pub active_is : r.active ≡ true
  pub moved_is : r.moved ≡ m
  pub second_is : r.second ≡ late
  pub failed_is : failed n m cells ≡ late
  pub at : m ≡ l + pick late (n + 3) 0
  pub trying : l < n + 3 → Trying r cells l (pick late (n + 2) 0)
  pub storing : n + 3 ≤ l → result_in r.result ≡ result_of n cells (pick late (n + 2) 0)

abbrev pub ReaderRel : ℕ → Reader → Operation → Type 0
ReaderRel n r idle = r.active ≡ false
ReaderRel n r (open_with v m cells) = RRel n r m cells

-- a reader stands for a stamp and an operation of the book
pub record RIs (n : ℕ) (r : Reader) (st : Stamp) (q : Operation) : Type 0 where
  pub stamp_is : r.stamp ≡ st
  pub op : ReaderRel n r q

-- A read that has just begun.
pub rel_opened : (n : ℕ) (r : Reader) → r.active ≡ true → r.moved ≡ 0 → r.second ≡ false → RRel n r 0 []
rel_opened n r e1 e2 e3 = record {
  late = false;
  l = 0;
  active_is = e1;
  moved_is = e2;
  second_is = e3;
  failed_is = failed_early n 0 [] (omega arith);
  at = refl;
  trying = λ _. record {
    length_is = refl;
    look_is = λ q. absurd (omega arith);
    agree_is = λ q. absurd (omega arith);
    found_is = λ q. absurd (omega arith);
  };
  storing = λ q. absurd (omega arith);
}

-- A reader that is retired stands for what it stood for.
pub rel_retired : (n : ℕ) (r : Reader) (q : Operation) → ReaderRel n r q → ReaderRel n (retires r) q
rel_retired n r idle k = k
rel_retired n r (open_with v m cells) k = record {
  late = k.late;
  l = k.l;
  active_is = k.active_is;
  moved_is = k.moved_is;
  second_is = k.second_is;
  failed_is = k.failed_is;
  at = k.at;
  trying = λ h. let y = k.trying h in record { length_is = y.length_is; look_is = y.look_is; agree_is = y.agree_is; found_is = y.found_is };
  storing = k.storing;
}
