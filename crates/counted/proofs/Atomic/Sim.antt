-- How the book stands to the machine: its cells are those of the numbers, and its open operations stand where the phases do.
use Prim.Native.Nat.{ℕ, zero, suc, ◌+◌, ◌-◌, ◌*◌, ◌^◌, ◌≤◌, ◌<◌, max, pred}
use mathlib.Core.Path.{◌≡◌, refl, sym, subst, ap, ◌∙◌, fun_ext}
use mathlib.Core.Logic.{◌≢◌}
use mathlib.Core.List.{List}
use native.Mathlib.Omega.{arith}
use lib.ListN.{length}
use Rattle.words.specs.Update.{upd}
use Rattle.words.proofs.Laws.Update.{upd_elim, upd_same, upd_other}
use Rattle.numbered.proofs.Machine.{Phase, rest, begun, looked, announced, second, storing, Reader, St, Inv}
use Rattle.numbered.proofs.Stores.{r_end_inv, r_end_order}
use Rattle.numbered.proofs.Distinct.{itself}
use Rattle.numbered.proofs.Peers.{peer}
use Rattle.numbered.proofs.Log.{LogRel}
use Rattle.common.specs.Book.{idle, open_with}
use Rattle.common.proofs.Places.{Size}
use Rattle.common.proofs.Follows.{open_value}
use Rattle.counted.specs.declared.Cell.{Cell}
use Rattle.counted.specs.Cell.{CellFits}
use Rattle.counted.specs.Table.{view}
use Rattle.counted.specs.Reference.{Operation, Model, nth, result_of}
use Rattle.counted.proofs.Table.{places}

-- A value replaced twice.
upd_over : {A : Type 0} (f : ℕ → A) (i : ℕ) (a b : A) (j : ℕ) → upd (upd f i a) i b j ≡ upd f i b j
upd_over f i a b =
    upd_elim (λ j y. y ≡ upd f i b j) (upd f i a) i b (sym (upd_same f i b)) (λ j ne. upd_other f i a j ne ∙ sym (upd_other f i b j ne))

-- S: the fresh stamp, that of write 1. val: the value of each write. Number 0 stands for a reader's fresh cell.
module _ (S : ℕ) (val : ℕ → ℕ) where
  abbrev pub value_of : ℕ → ℕ
  value_of zero = 0
  value_of (suc p) = val (suc p)

  abbrev pub stamp_of : ℕ → ℕ
  stamp_of p = S + pred p

  abbrev pub cell_of : ℕ → Cell
  cell_of p = record { value = value_of p; stamp = stamp_of p }

  pub value_is : (p : ℕ) → 1 ≤ p → value_of p ≡ val p
  value_is zero h = absurd (omega arith)
  value_is (suc p) h = refl

  pub fits_cell : ((k : ℕ) → val k < 2 ^ 32) → (p K : ℕ) → p ≤ K → stamp_of K < 2 ^ 32 → CellFits (cell_of p)
  fits_cell low zero K h g = omega arith
  fits_cell low (suc p) K h g = omega (arith, low (suc p))

module _ (n S : ℕ) (val : ℕ → ℕ) where
  -- behind m cells of other readers
  pub record Scanning (i : ℕ) (cells : List Cell) (m sl u z k : ℕ) (y : ℕ → ℕ) : Type 0 where
    pub first : sl ≡ 1
    pub same : z ≡ u
    pub low : m < n
    pub len : length cells ≡ m
    pub k_is : k ≡ peer i m
    pub y_is : (r : ℕ) → r < m → nth cells r ≡ cell_of S val (y (peer i r))

  -- behind m - n stores of the result, number p
  pub record Storing (i : ℕ) (cells : List Cell) (m p m' k : ℕ) : Type 0 where
    pub from : n ≤ m
    pub upto : m < 2 * n - 1
    pub num : m' ≡ p
    pub pos : 1 ≤ p
    pub k_is : k ≡ peer i (m - n)
    pub result_is : result_of n cells ≡ cell_of S val p

  -- reader i's operation and its phase
  abbrev pub ReadSim : ℕ → Operation → Phase → Type 0
  ReadSim i idle rest = Unit {0}
  ReadSim i idle (begun f sl) = ⊥
  ReadSim i idle (looked f sl u) = ⊥
  ReadSim i idle (announced f sl u) = ⊥
  ReadSim i idle (second f sl u z k y) = ⊥
  ReadSim i idle (storing f p m k) = ⊥
  ReadSim i (open_with v m cells) rest = ⊥
  ReadSim i (open_with v m cells) (begun f sl) = ⊥
  ReadSim i (open_with v m cells) (looked f sl u) = ⊥
  ReadSim i (open_with v m cells) (announced f sl u) = ⊥
  ReadSim i (open_with v m cells) (second f sl u z k y) = Scanning i cells m sl u z k y
  ReadSim i (open_with v m cells) (storing f p m' k) = Storing i cells m p m' k

  -- an open write has its number from its begin on
  pub record Writing (K D : ℕ) (w : ℕ → ℕ) (v m : ℕ) : Type 0 where
    pub upto : m < n
    pub ahead : K ≡ suc D
    pub value_is : val K ≡ v
    pub done : (i : ℕ) → i < m → w i ≡ K

  abbrev pub WriteSim : ℕ → ℕ → (ℕ → ℕ) → Operation → Type 0
  WriteSim K D w idle = K ≡ D
  WriteSim K D w (open_with v m cells) = Writing K D w v m

  -- the table's cells
  pub record Shows (t : List ℕ) (w : ℕ → ℕ) (x : ℕ → ℕ → ℕ) : Type 0 where
    pub size : Size (places n) t
    pub to_reader : (i : ℕ) → i < n → view n t 0 (suc i) ≡ cell_of S val (w i)
    pub between : (i j : ℕ) → i < n → j < n → j ≢ i → view n t (suc i) (suc j) ≡ cell_of S val (x i j)

  pub record Sim (b : Model) (s : St) (me : ℕ → Reader) : Type 0 where
    pub inv : Inv n itself s me
    pub quiet : s.wk ≡ 0
    pub fits : stamp_of S val s.K < 2 ^ 32
    pub shows : Shows b.table s.w s.x
    pub stamp_is : b.stamp 0 ≡ stamp_of S val s.D
    pub writer : WriteSim s.K s.D s.w (b.op 0)
    pub readers : (i : ℕ) → i < n → ReadSim i (b.op (suc i)) (me i).ph
    pub log_ok : LogRel n val b.rows s.K s.D s.F s.wk me (open_value (b.op 0))

  -- a book that some state of the machine with the same newest number is behind
  abbrev pub Go : Model → St → Type 0
  Go b s = (t : St) × (me : ℕ → Reader) × Sim b t me × (t.K ≡ s.K)

  -- A reader's step changes no more than F, that reader's cells, its phase and its operation.
  abbrev pub with_x : St → ℕ → (ℕ → ℕ → ℕ) → St
  with_x s F x = record { K = s.K; D = s.D; F = F; wk = s.wk; B = s.B; w = s.w; x = x }

  module _ (b : Model) (s : St) (me : ℕ → Reader) (i : ℕ) (z : Sim b s me) where
    pub reader_sim : (F : ℕ) (x : ℕ → ℕ → ℕ) (r : Reader) (st : ℕ → ℕ) (op : Operation) (rows t : List ℕ) → st 0 ≡ b.stamp 0 → Inv n itself (with_x s F x) (upd me i r)
        → Shows t s.w x → ReadSim i op r.ph
        → LogRel n val rows s.K s.D F s.wk (upd me i r) (open_value (b.op 0))
        → Sim (record { table = t; rows = rows; stamp = st; op = upd b.op (suc i) op; retired = b.retired }) (with_x s F x) (upd me i r)
    reader_sim F x r st op rows t es v sh rs lg = record {
      inv = v;
      quiet = z.quiet;
      fits = z.fits;
      shows = sh;
      stamp_is = es ∙ z.stamp_is;
      writer = rw (upd_other b.op (suc i) op 0 (omega arith)) z.writer;
      readers = upd_elim (λ j y. j < n → ReadSim j (upd b.op (suc i) op (suc j)) y.ph) me i r
          (λ _. rw (upd_same b.op (suc i)) rs) (λ j ne g. rw (upd_other b.op (suc i) op (suc j) (omega arith)) (z.readers j g));
      log_ok = rw (upd_other b.op (suc i) op 0 (omega arith)) lg;
    }

  -- A read that has stored its result ends.
  pub end_inv : (s : St) (me : ℕ → Reader) (i : ℕ) → i < n → (r : Reader) (f p : ℕ) → r.ph ≡ storing f p p n → Inv n itself s (upd me i r)
      → Inv n itself (with_x s (max s.F p) s.x) (upd me i (record { o = p; a = 0; ph = rest })) × (f ≤ p) × (p ≤ s.K)
  end_inv s me i hi r f p e v =
      let e' : (upd me i r i).ph ≡ storing f p p n = ap (λ (y : Reader). y.ph) (upd_same me i r) ∙ e in
      let o = r_end_order n itself s (upd me i r) i hi v f p p e' in (
        subst (Inv n itself (with_x s (max s.F p) s.x)) (fun_ext (upd_over me i r (record { o = p; a = 0; ph = rest })))
            (r_end_inv n itself s (upd me i r) i hi v f p p e'),
        o.0,
        o.1,
      )
