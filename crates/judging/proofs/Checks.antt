-- The locals of the loop that tests the rows.
use Prim.Native.Nat.{ℕ, ◌≤◌, ◌<◌, ◌+◌}
use native.Mathlib.Omega.{arith}
use mathlib.Core.Path.{◌≡◌, refl, sym}
use mathlib.Core.Bool.{true, false}
use mathlib.Core.List.{List}
use lib.Dec.{T}
use lib.ListN.{length, get_or, set, replicate}
use Rattle.history.specs.Rows.{processor_of, processor_at}
use Rattle.history.specs.WellFormed.{head_ok, fields_ok, alternates, open_at, row_ok, all, well_formed}
use Rattle.judging.specs.Rowwise.{processors, open_after, opens_to}
use Rattle.judging.proofs.Steps.{opens_suc, opens_one, opens_at, proc_small, all_one, all_suc, formed_row, formed_all, row_fields, row_turn, row_good}

-- the rows before k are right, where there are n readers and the array bs
pub record Checked (log : List ℕ) (n k : ℕ) (bs : List ℕ) : Type 0 where
  pub from : 1 ≤ k
  pub upto : k ≤ length log
  pub head : T (head_ok (get_or log 0 0))
  pub readers : n ≡ processor_at log 0
  pub rows : T (all (row_ok log) k)
  pub begins : bs ≡ opens_to log k

module _ (log : List ℕ) where
  pub checked_start : 1 ≤ length log → head_ok (get_or log 0 0) ≡ true → Checked log (processor_of (get_or log 0 0)) 1 (replicate processors 0)
  unfolding processor_at
  checked_start a e = record {
    from = omega arith;
    upto = a;
    head = rw e tt;
    readers = refl;
    rows = all_one log;
    begins = sym (opens_one log);
  }

  module _ (n k : ℕ) (bs : List ℕ) (C : Checked log n k bs) where
    pub checked_all : length log ≤ k → true ≡ well_formed log
    checked_all a =
        let e : k ≡ length log = omega (arith, C.upto) in
        formed_all log (omega (arith, C.from)) C.head (rw (← e) C.rows)

    module _ (inside : k < length log) where
      pub wrong_fields : fields_ok (get_or log k 0) n ≡ false → false ≡ well_formed log
      wrong_fields f = formed_row log k C.from inside (row_fields log k (rw C.readers at f))

      module _ {p : ℕ} (f : fields_ok (get_or log k 0) n ≡ true) (e : p ≡ processor_of (get_or log k 0)) where
        right : fields_ok (get_or log k 0) (processor_at log 0) ≡ true
        right = rw C.readers at f

        pub checked_in : p < processors
        checked_in = rw e (proc_small log (get_or log k 0) C.head (rw right tt))

        open_is : get_or bs p 0 ≡ open_at log (processor_at log k) k
        unfolding processor_at
        open_is = rw (C.begins, opens_at log p k checked_in C.from, e)

        pub wrong_turn : alternates (get_or log k 0) (get_or bs p 0) ≡ false → false ≡ well_formed log
        wrong_turn t = formed_row log k C.from inside (row_turn log k right (rw open_is at t))

        pub checked_next : {b : ℕ} → alternates (get_or log k 0) (get_or bs p 0) ≡ true → b ≡ open_after (get_or log k 0) k
            → Checked log n (k + 1) (set bs p b)
        checked_next t h = record {
          from = omega arith;
          upto = omega arith;
          head = C.head;
          readers = C.readers;
          rows = all_suc log k C.from C.rows (row_good log k right (rw open_is at t));
          begins = rw (h, e, C.begins) (sym (opens_suc log k C.from));
        }
