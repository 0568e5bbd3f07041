-- The first register: every number of second attempts that the reads and the writes' stores allow is reached.
use Prim.Native.Nat.{ℕ, zero, suc, ◌+◌, ◌-◌, ◌*◌, ◌^◌, ◌≤◌, ◌<◌, min}
use mathlib.Core.Path.{◌≡◌, refl, sym, ap, ◌∙◌}
use mathlib.Core.Logic.{◌≢◌}
use mathlib.Core.Bool.{false}
use mathlib.Core.List.{List, [], ◌∷◌, ◌++◌}
use native.Mathlib.Omega.{arith}
use native.Mathlib.Nat.{mul-add, mul-suc, add-mul}
use borrow.Author.Tests.{lt-ltb}
use Rattle.words.specs.declared.cell.Cell.{Cell}
use Rattle.words.specs.declared.stamp.Stamp.{Stamp}
use Rattle.words.proofs.Laws.Update.{upd_same, upd_other}
use Rattle.common.specs.declared.calls.Call.TheVariants.{Write as write, Step as step}
use Rattle.common.specs.Book.{open_with, is_open, begun, entered, fresh_model}
use Rattle.common.proofs.Counts.{write_told}
use Rattle.protocol.specs.Reference.{Model, cell_read, write_turn, book}
use Rattle.figures.proofs.Lists.{nothing, call, join, counted_as}
use Rattle.figures.proofs.Cases.{write_begins}
use Rattle.figures.proofs.CostModel.{left}
use Rattle.figures.proofs.Alone.{goes_on, reaches_as, run_writer, reads_alone}
use Rattle.figures.proofs.TicketCost.{cost_model, lasts, can_always}
use Rattle.figures.proofs.Held.{Held, fresh_held}
use Rattle.figures.proofs.Late.{Lead, Begun, Reached, Run, led, held_led, Mid, stages}
use Rattle.figures.proofs.Figured.{fresh_at}

-- a sub-step that reads a reader's cell
cell_read_lem : (n : ℕ) (t : List ℕ) (s : Stamp) (v m : ℕ) (cells : List Cell) → m < n → (write_turn n t s v m cells).op ≡ open_with v (m + 1) (cells ++ (cell_read n t m ∷ []))
unfolding write_turn
cell_read_lem n t s v m cells h = rw (lt-ltb m n h)

module _ (n len : ℕ) (pos : 1 ≤ n) (few : n ≤ 16) where
  abbrev AllIdle : Model → Type 0
  AllIdle b = (p : ℕ) → p ≤ n → is_open (b.op p) ≡ false

  -- a write's n reads of cells
  record Walked (v k : ℕ) (b : Model) : Type 0 where
    to : Model
    lead : Lead n len pos few b to 0 0 k
    cells : List Cell
    writer : to.op 0 ≡ open_with v n cells
    others : (q : ℕ) → q ≢ 0 → to.op q ≡ b.op q

  walk : (k j v m : ℕ) (cells : List Cell) (b : Model) → m + k ≡ n → b.op 0 ≡ open_with v m cells → Begun n len pos few j b → Walked v k b
  walk zero j v m cells b h e A = record {
    to = b;
    lead = nothing book n len b;
    cells = cells;
    writer = e ∙ ap (λ (i : ℕ). open_with v i cells) (omega arith);
    others = λ _ _. refl;
  }
  walk (suc k) j v m cells b h e A =
      let x = write_turn n b.table (b.stamp 0) v m cells in
      let d = entered b 0 2 x in
      let l = call book n len b (step 0) _ refl (write_told book n len b _ (A.free 0) e) in
      let z = walk k j v (m + 1) (cells ++ (cell_read n b.table m ∷ [])) d (omega arith)
      (upd_same b.op 0 x.op ∙ cell_read_lem n b.table (b.stamp 0) v m cells (omega arith)) (led n len pos few j j l A (omega arith)) in
      record {
        to = z.to;
        lead = counted_as book n len 0 0 (suc k) (join book n len l z.lead) refl refl (omega arith);
        cells = z.cells;
        writer = z.writer;
        others = λ q ne. z.others q ne ∙ upd_other b.op 0 x.op q ne;
      }

  -- a write is begun, and has read the cells
  record Started (j : ℕ) (b : Model) : Type 0 where
    to : Model
    lead : Lead n len pos few b to 1 0 n
    mid : Mid n len pos few j 0 to

  start : (j : ℕ) (b : Model) → AllIdle b → Begun n len pos few j b → Held n pos few b → 2 * j + 3 ≤ len → Started (j + 1) b
  start j b Q A H room =
      let l = call book n len b (write 0) _ refl (write_begins book n len b 0 (Q 0 (omega arith)) (omega (arith, A.size_is)) refl) in
      let y = walk n (j + 1) 0 0 [] (begun b 0 1 0).model (omega arith) (upd_same b.op 0 (open_with 0 0 [])) (led n len pos few j (j + 1) l A (omega arith)) in
      let l2 = counted_as book n len 1 0 n (join book n len l y.lead) refl refl (omega arith) in
      record {
        to = y.to;
        lead = l2;
        mid = record {
          behind = led n len pos few j (j + 1) l2 A (omega arith);
          held = held_led n len pos few l2 H;
          to_store = omega (arith, ap (left (2 * n)) y.writer);
          quiet = λ p p1 pn. ap is_open (y.others p (omega arith) ∙ upd_other b.op 0 (open_with 0 0 []) p (omega arith)) ∙ Q p pn;
        };
      }

  -- the write's other stores
  finish : (j k : ℕ) (b : Model) → Mid n len pos few j k b → Reached n len pos few b 0 0 (n - k)
  finish j k b M = reaches_as book n len (2 * n) (2 * n + 3) (n + 3) (cost_model n pos) (lasts n len) 0 0 (n - k) (record { to = z.to; lead = z.lead; quiet = quiet }) refl refl (omega (arith, M.to_store))
    where
      z : Run n len pos few 0 b 0 0 (left (2 * n) (b.op 0))
      z = run_writer book n len (2 * n) (2 * n + 3) (n + 3) (cost_model n pos) (lasts n len) b M.behind.ok M.behind.free

      quiet : (p : ℕ) → p ≤ n → is_open (z.to.op p) ≡ false
      quiet zero h = z.shut
      quiet (suc i) h = ap is_open (z.others (suc i) (omega arith)) ∙ M.quiet (suc i) (omega arith) h

  -- one reached behind another
  then : {b : Model} {w r x w' r' x' : ℕ} (d : Model) (w'' r'' x'' : ℕ) → Lead n len pos few b d w r x → Reached n len pos few d w' r' x' → w + w' ≡ w'' → r + r' ≡ r'' → x + x' ≡ x''
      → Reached n len pos few b w'' r'' x''
  then d w'' r'' x'' l z e f g =
      reaches_as book n len (2 * n) (2 * n + 3) (n + 3) (cost_model n pos) (lasts n len) w'' r'' x'' (goes_on book n len (2 * n) (2 * n + 3) (n + 3) (cost_model n pos) (lasts n len) d l z) e f g

  -- a write in which d reads are late
  one_write : (d j : ℕ) (b : Model) → d ≤ n → AllIdle b → Begun n len pos few j b → Held n pos few b → 2 * (j + 1 + d) + 1 ≤ len
      → Reached n len pos few b 1 d (2 * n + (3 * n + 6) * d)
  one_write d j b h Q A H room =
      let y = start j b Q A H (omega arith) in
      let z = stages n len pos few d (j + 1) 0 y.to y.mid (omega arith) (omega arith) in
      let words : (3 * n + 7) * d ≡ (3 * n + 6) * d + d = ap (λ (k : ℕ). k * d) (omega arith) ∙ add-mul (3 * n + 6) 1 d ∙ omega arith in
      then z.to 1 d (2 * n + (3 * n + 6) * d) (join book n len y.lead z.lead) (finish (j + 1 + d) (0 + d) z.to z.mid) (omega arith) (omega arith) (omega arith)

  -- so many writes, in which d reads are late
  all_writes : (w d j : ℕ) (b : Model) → d ≤ n * w → AllIdle b → Begun n len pos few j b → Held n pos few b → 2 * (j + w + d) + 1 ≤ len
      → Reached n len pos few b w d (2 * n * w + (3 * n + 6) * d)
  all_writes zero d j b h Q A H room =
      let e : d ≡ 0 = omega arith in
      reaches_as book n len (2 * n) (2 * n + 3) (n + 3) (cost_model n pos) (lasts n len) 0 d (2 * n * 0 + (3 * n + 6) * d) (record { to = b; lead = nothing book n len b; quiet = Q }) refl (sym e)
      (omega (arith, ap (λ (k : ℕ). (3 * n + 6) * k) e))
  all_writes (suc w) d j b h Q A H room =
      let y = one_write (min d n) j b (omega arith) Q A H (omega arith) in
      let z = all_writes w (d - min d n) (j + 1 + min d n) y.to (omega (arith, mul-suc n w)) y.quiet (led n len pos few j (j + 1 + min d n) y.lead A (omega arith))
      (held_led n len pos few y.lead H) (omega arith) in
      let e : d ≡ min d n + (d - min d n) = omega arith in
      then y.to (suc w) d (2 * n * suc w + (3 * n + 6) * d) y.lead z (omega arith) (omega arith)
      (omega (arith, mul-suc (2 * n) w, ap (λ (k : ℕ). (3 * n + 6) * k) e, mul-add (3 * n + 6) (min d n) (d - min d n)))

  -- and then the other reads alone
  pub late_reached : (v w r d : ℕ) → v < 2 ^ 32 → d ≤ r → d ≤ n * w → 2 * (w + r) + 1 ≤ len
      → Reached n len pos few (fresh_model book n v 0) w r (2 * n * w + (2 * n + 3) * r + (n + 3) * d)
  late_reached v w r d low h g room =
      let b = fresh_model book n v 0 in
      let A = fresh_at book n v 0 len (2 * n) (2 * n + 3) (n + 3) (cost_model n pos) pos (lasts n len) 0 (can_always n len 0 b) in
      let y = all_writes w d 0 b g (λ _ _. refl) A (fresh_held n pos few v low) (omega arith) in
      let z = reads_alone book n len (2 * n) (2 * n + 3) (n + 3) (cost_model n pos) (lasts n len) pos (r - d) (w + d) y.to (led n len pos few 0 (w + d) y.lead A (omega arith)) y.quiet (omega arith) in
      let e : r ≡ d + (r - d) = omega arith in
      let late : (3 * n + 6) * d ≡ (2 * n + 3) * d + (n + 3) * d = ap (λ (k : ℕ). k * d) (omega arith) ∙ add-mul (2 * n + 3) (n + 3) d in
      then y.to w r (2 * n * w + (2 * n + 3) * r + (n + 3) * d) y.lead z (omega arith) (omega arith)
      (omega (arith, late, ap (λ (k : ℕ). (2 * n + 3) * k) e, mul-add (2 * n + 3) d (r - d)))
