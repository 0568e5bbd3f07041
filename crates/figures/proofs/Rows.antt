-- Rows used and open operations: two more for each begin, so that question 7's answer goes by the number of begins alone.
use Rattle.std.specs.Prelude.{Ok}
use Prim.Native.Nat.{ℕ, zero, suc, ◌+◌, ◌*◌, ◌≤◌, ◌<◌}
use mathlib.Core.Path.{◌≡◌, refl, ap}
use mathlib.Core.Bool.{Bool, true, false, not, ◌&&◌}
use mathlib.Core.List.{List, [], ◌∷◌, ◌++◌}
use native.Mathlib.Omega.{arith}
use lib.ListN.{length, length-append}
use Rattle.words.specs.Choice.{pick}
use Rattle.words.specs.Counting.{one, count}
use Rattle.words.specs.Row.{row_of}
use Rattle.words.specs.Update.{upd}
use Rattle.words.proofs.Laws.Counting.{count_same, count_one, count_nowhere}
use Rattle.words.proofs.Laws.Update.{upd_same, upd_other, upd_first}
use Rattle.common.specs.Calls.{is_write, is_read, is_retirement}
use Rattle.common.specs.declared.calls.Call.{Call}
use Rattle.common.specs.declared.calls.Call.TheVariants.{Write as write, Read as read, Step as step}
use Rattle.common.specs.Answers.{number_of}
use Rattle.common.specs.declared.Done.TheVariants.{Moved}
use Rattle.common.specs.Book.{Operation, open_with, is_open, Model, Turn, Telling, Told, begun, entered, told, kept, fresh_model}
use Rattle.figures.specs.Counts.{NoRetirement, write_begun, read_begun, writes_in, reads_in}
use Rattle.figures.proofs.Lists.{list_ind}
use Rattle.figures.proofs.Cases.{size, no_begin, cases}

-- the open operations, with one of them replaced
module _ {Cell : Type 0} (n : ℕ) where
  abbrev opens : (ℕ → Bool) → (ℕ → Operation Cell) → ℕ
  opens gone op = one (is_open (op 0)) + count n (λ i. not (gone (suc i)) && is_open (op (suc i)))

  opens_upd : (gone : ℕ → Bool) (op : ℕ → Operation Cell) (p : ℕ) (o : Operation Cell) → p ≤ n → (1 ≤ p → gone p ≡ false)
      → opens gone (upd op p o) + one (is_open (op p)) ≡ opens gone op + one (is_open o)
  opens_upd gone op zero o h free =
      omega (arith, ap (λ (q : Operation Cell). one (is_open q)) (upd_same op 0 o), count_same n _ _ (λ i _. ap (λ (q : Operation Cell). not (gone (suc i)) && is_open q) (upd_first op o i)))
  opens_upd gone op (suc i) o h free =
      omega (
        arith,
        ap (λ (q : Operation Cell). one (is_open q)) (upd_other op (suc i) o 0 (omega arith)),
        count_one n (λ j. not (gone (suc j)) && is_open (upd op (suc i) o (suc j))) (λ j. not (gone (suc j)) && is_open (op (suc j))) i h
            (λ j ne. ap (λ (q : Operation Cell). not (gone (suc j)) && is_open q) (upd_other op (suc i) o (suc j) (omega arith))),
        counts (upd op (suc i) o (suc i)),
        counts (op (suc i)),
        ap (λ (q : Operation Cell). one (is_open q)) (upd_same op (suc i) o),
      )
    where
      counts : (q : Operation Cell) → one (not (gone (suc i)) && is_open q) ≡ one (is_open q)
      counts q = ap (λ (z : Bool). one (not z && is_open q)) (free (omega arith))

module _ {Stamp Cell : Type 0} (B : Telling Stamp Cell) (n len : ℕ) where
  -- A call: what it begins takes two, and question 7 goes by them.
  pub record Fair (b : Model Stamp Cell) (c : Call) (x : Told Stamp Cell) : Type 0 where
    pub size_is : size B n len x.model ≡ size B n len b + 2 * (one (write_begun c x.answer) + one (read_begun c x.answer))
    pub full : number_of x.answer ≡ 7 → len < size B n len b + 2

  module _ (b : Model Stamp Cell) where
    begun_fair : (c : Call) (p kind v : ℕ) → one (is_write c && true) + one (is_read c && true) ≡ 1 → p ≤ n → (1 ≤ p → b.retired p ≡ false) → is_open (b.op p) ≡ false
        → Fair b c (begun b p kind v)
    begun_fair c p kind v e h free shut = record {
      size_is = omega (arith, e, opens_upd n b.retired b.op p (open_with v 0 []) h free, ap one shut, length-append b.rows (row_of kind p v ∷ []));
      full = λ f. absurd (omega arith);
    }

    -- a sub-step: an end's row takes the place of the operation
    moved_fair : (p kind m : ℕ) (x : Turn Stamp Cell) → p ≤ n → (1 ≤ p → b.retired p ≡ false) → is_open (b.op p) ≡ true
        → Fair b (step p) (record { answer = Ok (Moved m); model = entered b p kind x })
    moved_fair p kind m x h free is = record {
      size_is = omega (arith, opens_upd n b.retired b.op p x.op h free, ap one is, row (is_open x.op));
      full = λ f. absurd (omega arith);
    }
      where
        row : (t : Bool) → length (pick t b.rows (b.rows ++ (row_of kind p x.value ∷ []))) + one t ≡ length b.rows + 1
        row true = refl
        row false = omega (arith, length-append b.rows (row_of kind p x.value ∷ []))

    pub call_fair : (c : Call) → is_retirement c ≡ false → Fair b c (told B n len b c)
    call_fair = cases B n len b (Fair b) (record {
      refused = λ c r ne. record { size_is = omega (arith, no_begin (is_write c), no_begin (is_read c)); full = λ e. absurd (ne e) };
      full = λ c h. record { size_is = omega (arith, no_begin (is_write c), no_begin (is_read c)); full = λ _. h };
      write_begun_lem = λ v shut h. begun_fair (write v) 0 1 v refl (omega arith) (λ z. absurd (omega arith)) shut;
      read_begun_lem = λ p p1 pn free shut h. begun_fair (read p) p 3 0 refl pn (λ _. free) shut;
      write_moved = λ v m cells e. moved_fair 0 2 (m + 1) _ (omega arith) (λ z. absurd (omega arith)) (ap is_open e);
      read_moved = λ p p1 pn free v m cells e. moved_fair p 4 (m + 1) _ pn (λ _. free) (ap is_open e);
    })

  -- a list's begins take two each
  pub list_size : (cs : List Call) (b : Model Stamp Cell) → NoRetirement cs
      → let z = kept B n len b cs in size B n len z.model ≡ size B n len b + 2 * (writes_in cs z.answers + reads_in cs z.answers)
  list_size cs b h =
      (list_ind B n len (λ b b' w r x. size B n len b' ≡ size B n len b + 2 * (w + r)) (λ _. Unit {0}) (λ b. omega arith)
      (λ b c e _. (tt, (call_fair b c e).size_is)) (λ b b' b'' w r x w' r' x' e f. omega arith) cs b h tt).1

  pub fresh_size : (v fresh : ℕ) → size B n len (fresh_model B n v fresh) ≡ 1
  fresh_size v fresh = omega (arith, count_nowhere n (λ _. false) (λ _ _. refl))
