-- What the book answers in a drill: both begins are accepted, and a turn moves a word or is refused 8.
use Rattle.std.specs.Prelude.{Ok, Err}
use Prim.Native.Nat.{ℕ, suc, ◌≤◌}
use native.Mathlib.Omega.{arith}
use mathlib.Core.Path.{◌≡◌, refl, ap}
use mathlib.Core.Bool.{false}
use mathlib.Core.List.{List, [], ◌∷◌, map}
use lib.ListN.{take, drop}
use borrow.Author.Tests.{le-leb}
use Rattle.words.proofs.Laws.Counting.{count_nowhere}
use Rattle.words.proofs.Laws.Update.{upd_same, upd_first}
use Rattle.words.specs.declared.stamp.Stamp.{Stamp}
use Rattle.words.specs.declared.cell.Cell.{Cell}
use Rattle.common.specs.Answers.{Answer}
use Rattle.common.specs.declared.Done.TheVariants.{Accepted, Moved}
use Rattle.common.specs.declared.Refusal.TheVariants.{Idle}
use Rattle.common.specs.declared.calls.Call.TheVariants.{Read as read, Write as write}
use Rattle.common.specs.Book.{Operation, idle, open_with, is_open, Model, open_at, begins, begun, moves_write, moves_read, told, kept, fresh_model}
use Rattle.common.specs.Whole.{model_of}
use Rattle.protocol.specs.Reference.{book}
use Rattle.schedules.specs.Schedules.{Turn, w, r}
use Rattle.printing.specs.Drill.{turn_call, drill_calls, drill_rows}

abbrev Turned : Answer → Type 0
Turned (Ok Accepted) = ⊥
Turned (Ok (Moved k)) = Unit {0}
Turned (Err x) = x ≡ Idle

abbrev pub AllTurned : List Answer → Type 0
AllTurned [] = Unit {0}
AllTurned (a ∷ answers) = Turned a × AllTurned answers

-- One turn, where nobody is retired.
module _ (n len : ℕ) (one_reader : 1 ≤ n) where
  abbrev Nobody : Model Stamp Cell → Type 0
  Nobody b = (p : ℕ) → b.retired p ≡ false

  turn_told : (b : Model Stamp Cell) (t : Turn) → Nobody b → Turned (told book n len b (turn_call t)).answer × Nobody (told book n len b (turn_call t)).model
  unfolding told
  turn_told b w f = rw (le-leb 0 n (omega arith), f 0) (go (b.op 0))
    where
      go : (o : Operation Cell) → Turned (moves_write book n b o).answer × Nobody (moves_write book n b o).model
      go idle = (refl, f)
      go (open_with v m cells) = (tt, f)
  turn_told b r f = rw (le-leb 1 n one_reader, f 1) (go (b.op 1))
    where
      go : (o : Operation Cell) → Turned (moves_read book n b 1 o).answer × Nobody (moves_read book n b 1 o).model
      go idle = (refl, f)
      go (open_with v m cells) = (tt, f)

  turns_told : (s : List Turn) (b : Model Stamp Cell) → Nobody b → AllTurned (kept book n len b (map turn_call s)).answers
  unfolding kept
  turns_told [] b f = tt
  turns_told (t ∷ s) b f =
      let h = turn_told b t f in
      (h.0, turns_told s (told book n len b (turn_call t)).model h.1)

-- The begins of a drill on a fresh register.
module _ (n start v : ℕ) (one_reader : 1 ≤ n) where
  abbrev fresh : Model Stamp Cell
  fresh = fresh_model book n start 0

  abbrev writing : Model Stamp Cell
  writing = (begun fresh 0 1 v).model

  write_begun_lem : told book n 5 fresh (write v) ≡ begun fresh 0 1 v
  unfolding told begins
  write_begun_lem = rw (count_nowhere n (λ i. open_at fresh (suc i)) (λ i _. refl))

  read_begun_lem : told book n 5 writing (read 1) ≡ begun writing 1 3 0
  unfolding told begins
  read_begun_lem =
      rw (
        le-leb 1 n one_reader,
        ap is_open (upd_first fresh.op (open_with v 0 []) 0),
        ap is_open (upd_same fresh.op 0 (open_with v 0 [])),
        count_nowhere n (λ i. open_at writing (suc i)) (λ i _. ap is_open (upd_first fresh.op (open_with v 0 []) i)),
      )

  -- "begins a write of v and then a read, runs the turns": "Turns after an end are refused 8"
  pub answered : (s : List Turn) → (take 2 (model_of book n start 0 drill_rows (drill_calls v s)).answers ≡ Ok Accepted ∷ Ok Accepted ∷ [])
      × AllTurned (drop 2 (model_of book n start 0 drill_rows (drill_calls v s)).answers)
  unfolding kept
  answered s = rw (write_begun_lem, read_begun_lem) (refl, turns_told n 5 one_reader s (begun writing 1 3 0).model (λ p. refl))
