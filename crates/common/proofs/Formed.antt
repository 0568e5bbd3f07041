-- The book's rows are well formed, whatever the values.
use Prim.Native.Nat.{ℕ, ◌^◌, ◌≤◌, ◌<◌}
use mathlib.Core.Path.{◌≡◌, refl, ap}
use mathlib.Core.Bool.{true, false, ◌||◌}
use mathlib.Core.List.{List, [], ◌∷◌}
use native.Mathlib.Omega.{arith}
use lib.Dec.{T, eqb}
use Rattle.words.specs.Row.{row_of}
use Rattle.words.proofs.Laws.Choice.{pick_ind, le_ind, eq_ind}
use Rattle.history.specs.Rows.{value_of}
use Rattle.history.specs.WellFormed.{fields, well_formed}
use Rattle.history.proofs.Packed.{row_value}
use Rattle.history.proofs.Formed.{Formed, add_row, turn_formed, reader_T, start_formed}
use Rattle.common.specs.Calls.{Call, write, read, step, retire}
use Rattle.common.specs.Book.{Operation, idle, open_with, is_open, Model, Turn, Telling, Told, begun, of_processor, begins, begins_write, entered, moves_write, moves_read, told, fresh_model, kept}
use Rattle.common.proofs.Asked.{of_processor_lem}

module _ {Stamp Cell : Type 0} (B : Telling Stamp Cell) (n : ℕ) (few : n ≤ 16) (len : ℕ)
    (write_value : (t : List ℕ) (st : Stamp) (v m : ℕ) (cells : List Cell) → (B.write_turn n t st v m cells).value ≡ 0) where
  abbrev F : Model Stamp Cell → Type 0
  F b = Formed (Operation Cell) is_open n b.rows b.op

  module _ (b : Model Stamp Cell) (f : F b) where
    abbrev Fine : Told Stamp Cell → Type 0
    Fine x = F x.model

    -- Questions 6 and 7, and then x: what is known of an idle processor.
    begins_fine : (p : ℕ) (x : Told Stamp Cell) → (is_open (b.op p) ≡ false → Fine x) → Fine (begins n len b p x)
    unfolding begins
    begins_fine p x h = pick_ind Fine (is_open (b.op p)) _ _ (λ _. f) (λ e. le_ind Fine _ len _ _ (λ _. h e) (λ _. f))

    begun_fine : (p kind v : ℕ) → kind < 6 → p < 2 ^ 8 → T (fields kind p 0 (value_of (row_of kind p v)) n) → (eqb kind 1 || eqb kind 3) ≡ true
        → is_open (b.op p) ≡ false → Fine (begun b p kind v)
    begun_fine p kind v kl pl fit g e = add_row (Operation Cell) is_open n b.rows b.op f kind p v (open_with v 0 []) kl pl fit g e

    asked : (least p : ℕ) (x : Told Stamp Cell) → (least ≤ p → p ≤ n → b.retired p ≡ false → Fine x) → Fine (of_processor n b least p x)
    asked = of_processor_lem Fine n b f f

    turn_fine : (p kind : ℕ) (x : Turn Stamp Cell) → kind < 6 → p < 2 ^ 8 → is_open (b.op p) ≡ true → (eqb kind 1 || eqb kind 3) ≡ false
        → T (fields kind p 0 (value_of (row_of kind p x.value)) n) → F (entered b p kind x)
    turn_fine p kind x = turn_formed (Operation Cell) is_open n b.rows b.op f p kind x.value x.op

    told_formed : (x : Call) → Fine (told B n len b x)
    unfolding told fields
    told_formed (write v) =
        begins_fine 0 (begins_write B b v)
        (λ e. pick_ind Fine (B.spent (b.stamp 0)) _ _ (λ _. f) (λ _. begun_fine 0 1 v (omega arith) (omega arith) tt refl e))
    told_formed (read p) =
        asked 1 p _ λ p1 pn _.
        begins_fine p (begun b p 3 0) (begun_fine p 3 0 (omega arith) (omega arith) (rw (row_value 3 p 0 (omega arith)) (reader_T p n p1 pn)) refl)
    told_formed (step p) = asked 0 p _ λ _ pn _. eq_ind Fine p 0 _ _ (λ _. at_writer_lem (b.op 0) refl) (λ ne. at_reader (omega arith) pn (b.op p) refl)
      where
        at_writer_lem : (q : Operation Cell) → b.op 0 ≡ q → Fine (moves_write B n b q)
        at_writer_lem idle e = f
        at_writer_lem (open_with v m cells) e =
            turn_fine 0 2 (B.write_turn n b.table (b.stamp 0) v m cells) (omega arith) (omega arith) (ap is_open e) refl
            (rw (write_value b.table (b.stamp 0) v m cells, row_value 2 0 0 (omega arith)) tt)

        at_reader : 1 ≤ p → p ≤ n → (q : Operation Cell) → b.op p ≡ q → Fine (moves_read B n b p q)
        at_reader p1 pn idle e = f
        at_reader p1 pn (open_with v m cells) e =
            turn_fine p 4 (B.read_turn n p b.table (b.stamp p) m cells) (omega arith) (omega arith) (ap is_open e) refl (reader_T p n p1 pn)
    told_formed (retire p) = asked 1 p _ λ _ _ _. f

  kept_formed : (cs : List Call) (b : Model Stamp Cell) → F b → F (kept B n len b cs).model
  unfolding kept
  kept_formed [] b f = f
  kept_formed (x ∷ cs) b f = kept_formed cs (told B n len b x).model (told_formed b f x)

  pub rows_formed : (v fresh : ℕ) (cs : List Call) → 1 ≤ n → T (well_formed (kept B n len (fresh_model B n v fresh) cs).model.rows)
  rows_formed v fresh cs pos = (kept_formed cs (fresh_model B n v fresh) (start_formed (Operation Cell) is_open n v pos few _ (λ _. refl))).ok
