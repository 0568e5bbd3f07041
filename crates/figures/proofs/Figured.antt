-- The figures of a register whose operations cost so much: they hold, and are sharp.
use Prim.Native.Nat.{ℕ, ◌+◌, ◌-◌, ◌*◌, ◌≤◌, ◌<◌, ◌/◌, min}
use mathlib.Core.Path.{◌≡◌, refl, ap, ◌∙◌}
use mathlib.Core.Bool.{false}
use mathlib.Core.List.{List}
use native.Mathlib.Omega.{arith}
use native.Mathlib.Decide.{dec_lt}
use native.Mathlib.Nat.{mul-le-mul_left}
use lib.Dec.{leb}
use borrow.Author.Tests.{le-leb, lt-leb}
use Rattle.words.proofs.Laws.Choice.{both}
use Rattle.common.specs.declared.calls.Call.{Call}
use Rattle.common.specs.declared.calls.Call.TheVariants.{Write as write, Read as read}
use Rattle.common.specs.Answers.{number_of}
use Rattle.common.specs.declared.Refusal.TheVariants.{Full}
use Rattle.common.specs.Book.{is_open, Model, Telling, Told, begins, declined, told, fresh_model}
use Rattle.figures.specs.Sizing.{rows_for}
use Rattle.figures.specs.Meaning.{book_of, Begins, NoneFull, Ends}
use Rattle.figures.proofs.Cases.{size}
use Rattle.figures.proofs.Rows.{call_fair, list_size, fresh_size}
use Rattle.figures.proofs.CostModel.{CostModel}
use Rattle.figures.proofs.Spending.{all_sum, fresh_ok}
use Rattle.figures.proofs.Alone.{Lasts, At, at_led, Reaches, all_alone}

-- set-up takes no fewer than 3 rows
pub rows_low : (writes reads : ℕ) → 3 ≤ rows_for writes reads
unfolding rows_for
rows_low writes reads = omega arith

-- a log of so many rows has two for each operation
pub rows_room : (writes reads len : ℕ) → rows_for writes reads ≤ len → 2 * (writes + reads) + 1 ≤ len
unfolding rows_for
rows_room writes reads len h = omega arith

pub rows_least : (writes reads len : ℕ) → 3 ≤ len → 2 * (writes + reads) + 1 ≤ len → rows_for writes reads ≤ len
unfolding rows_for
rows_least writes reads len h g = omega arith

module _ {Stamp Cell : Type 0} (B : Telling Stamp Cell) (n v fresh : ℕ) where
  -- the rows behind a list, and its open operations
  list_rows_lem : (len w r : ℕ) (cs : List Call) → Begins B n v fresh len w r cs → size B n len (book_of B n v fresh len cs).model ≡ 1 + 2 * (w + r)
  list_rows_lem len w r cs D =
      omega (arith, list_size B n len cs (fresh_model B n v fresh) D.none_retired, fresh_size B n len v fresh, D.writes_are, D.reads_are)

  pub enough : (len writes reads : ℕ) → rows_for writes reads ≤ len → NoneFull B n v fresh len writes reads
  enough len writes reads h = record {
    of_writes = λ w r cs D wl rl u e.
        omega (arith, list_rows_lem len w r cs D, (call_fair B n len (book_of B n v fresh len cs).model (write u) refl).full e, rows_room writes reads len h);
    of_reads = λ w r cs D wl rl p e.
        omega (arith, list_rows_lem len w r cs D, (call_fair B n len (book_of B n v fresh len cs).model (read p) refl).full e, rows_room writes reads len h);
  }

  -- the begin that comes to a full log
  write_full : (len : ℕ) (b : Model Stamp Cell) (u : ℕ) → is_open (b.op 0) ≡ false → len < size B n len b + 2 → told B n len b (write u) ≡ declined Full b
  unfolding told begins
  write_full len b u shut h = rw (lt-leb (size B n len b + 2) len h, shut)

  read_full : (len : ℕ) (b : Model Stamp Cell) → 1 ≤ n → b.retired 1 ≡ false → is_open (b.op 1) ≡ false → len < size B n len b + 2 → told B n len b (read 1) ≡ declined Full b
  unfolding told begins
  read_full len b pos free shut h = rw (lt-leb (size B n len b + 2) len h, both (leb 1 1) (leb 1 n) (le-leb 1 1 (omega arith)) (le-leb 1 n pos), free, shut)

  module _ (len W R L : ℕ) (M : CostModel B n W R L) (pos : 1 ≤ n) where
    pub between : (writes reads words : ℕ) (cs : List Call) → Ends B n v fresh len writes reads words cs
        → (W * writes + R * reads ≤ words) × (words ≤ W * writes + R * reads + L * min reads (n * writes))
    between writes reads words cs D =
        let S = all_sum B n len W R L M v fresh cs D.begins.none_retired D.all_end in
        let e = ap (λ (k : ℕ). W * k) D.begins.writes_are in
        let f = ap (λ (k : ℕ). R * k) D.begins.reads_are in
        let g = ap (λ (k : ℕ). n * k) D.begins.writes_are in
        let low : S.lates ≤ min reads (n * writes) = omega (arith, S.late_reads, S.late_stores, D.begins.reads_are) in (
          omega (arith, S.words_are, D.words_are),
          omega (arith, S.words_are, D.words_are, mul-le-mul_left L low),
        )

    module _ (S : Lasts B n len) where
      abbrev pub Reached : ℕ → ℕ → ℕ → Type 0
      Reached = Reaches B n len W R L M S (fresh_model B n v fresh)

      pub fresh_at : (g : ℕ) → S.Can g (fresh_model B n v fresh) → At B n len W R L M S g 0 (fresh_model B n v fresh)
      fresh_at g c = record { ok = fresh_ok B n len W R L M v fresh; free = λ _. refl; can = c; size_is = omega (arith, fresh_size B n len v fresh) }

      pub alone : (w r : ℕ) → S.Can w (fresh_model B n v fresh) → 2 * (w + r) + 1 ≤ len → Reached w r (W * w + R * r)
      alone w r c h = all_alone B n len W R L M S pos w r 0 (fresh_model B n v fresh) (fresh_at w c) (λ _ _. refl) (omega arith)

      -- what is reached is a list's
      listed : (w r x : ℕ) → (z : Reached w r x) → Begins B n v fresh len w r z.lead.cs
      listed w r x z = record { none_retired = z.lead.none_retired; writes_are = z.lead.writes_are; reads_are = z.lead.reads_are }

      abbrev behind : (w r x : ℕ) → Reached w r x → Model Stamp Cell
      behind w r x z = (book_of B n v fresh len z.lead.cs).model

      shut : (w r x : ℕ) (z : Reached w r x) (p : ℕ) → p ≤ n → is_open ((behind w r x z).op p) ≡ false
      shut w r x z p h = ap (λ (b : Model Stamp Cell). is_open (b.op p)) z.lead.last_is ∙ z.quiet p h

      pub ends_of : (w r x : ℕ) → Reached w r x → (cs : List Call) × Ends B n v fresh len w r x cs
      ends_of w r x z = (z.lead.cs, record { begins = listed w r x z; all_end = shut w r x z; words_are = z.lead.words_are })

      -- With fewer rows the operations that fit are run alone, and the next begin is refused 7.
      module _ (writes reads k : ℕ) (can : (g : ℕ) → g ≤ writes → S.Can g (fresh_model B n v fresh)) (F : NoneFull B n v fresh len writes reads)
          (low : 2 * k + 1 ≤ len) (high : len < 2 * k + 3) where
        next_write : k < writes → ⊥
        next_write h =
            let z = alone k 0 (can k (omega arith)) (omega arith) in
            F.of_writes k 0 z.lead.cs (listed k 0 _ z) h (omega arith) 0
            (ap (λ (x : Told Stamp Cell). number_of x.answer)
            (write_full len (behind k 0 _ z) 0 (shut k 0 _ z 0 (omega arith)) (omega (arith, list_rows_lem len k 0 z.lead.cs (listed k 0 _ z)))))

        next_read : writes ≤ k → k < writes + reads → ⊥
        next_read g h =
            let z = alone writes (k - writes) (can writes (omega arith)) (omega arith) in
            let A = at_led B n len W R L M S 0 (writes + (k - writes)) z.lead (fresh_at writes (can writes (omega arith))) (omega arith) (omega arith) in
            F.of_reads writes (k - writes) z.lead.cs (listed writes (k - writes) _ z) (omega arith) (omega arith) 1
            (ap (λ (x : Told Stamp Cell). number_of x.answer)
            (read_full len (behind writes (k - writes) _ z) pos (ap (λ (b : Model Stamp Cell). b.retired 1) z.lead.last_is ∙ A.free 1) (shut writes (k - writes) _ z 1 pos)
            (omega (arith, list_rows_lem len writes (k - writes) z.lead.cs (listed writes (k - writes) _ z)))))

        too_few : k < writes + reads → ⊥
        too_few h = elim (dec_lt k writes) [ yes g ↦ next_write g | no g ↦ next_read (omega arith) h ]

      pub fewest : (writes reads : ℕ) → ((g : ℕ) → g ≤ writes → S.Can g (fresh_model B n v fresh)) → 3 ≤ len → NoneFull B n v fresh len writes reads → rows_for writes reads ≤ len
      fewest writes reads can h F = rows_least writes reads len h (at (dec_lt ((len - 1) / 2) (writes + reads)))
        where
          at : Dec ((len - 1) / 2 < writes + reads) → 2 * (writes + reads) + 1 ≤ len
          at (yes l) = absurd (too_few writes reads ((len - 1) / 2) can F (omega arith) (omega arith) l)
          at (no l) = omega arith
