-- How the book stands to the numbered machine: its cells are those of the numbers, and its open operations stand where the phases do.
use Prim.Native.Nat.{ℕ, suc, ◌+◌, ◌-◌, ◌*◌, ◌≤◌, ◌<◌}
use mathlib.Core.Path.{◌≡◌}
use mathlib.Core.Logic.{◌≢◌, ◌⊎◌}
use mathlib.Core.Bool.{true, false}
use mathlib.Core.List.{List}
use lib.ListN.{length}
use Rattle.words.specs.declared.cell.Cell.{Cell}
use Rattle.numbered.proofs.Machine.{Phase, rest, begun, looked, announced, second, storing, Reader, St, Inv}
use Rattle.numbered.proofs.Log.{LogRel}
use Rattle.numbered.proofs.Peers.{peer}
use Rattle.common.specs.Book.{idle, open_with}
use Rattle.common.proofs.Places.{Size}
use Rattle.common.proofs.Follows.{open_value}
use Rattle.protocol.specs.Table.{view}
use Rattle.protocol.specs.Reference.{Operation, Model, excluded_tickets, ticket_after, nth, agree, Result, result_of, shown}
use Rattle.protocol.proofs.Table.{places}
use Rattle.protocol.proofs.Atomic.Cells.{stamp_of, back_of, cell_of}

module _ (n : ℕ) where
  -- An attempt, behind M sub-steps and R cells: the first, or the second, after a first one whose stamps differ.
  abbrev pub Attempt : List Cell → ℕ → ℕ → ℕ → Type 0
  Attempt cells sl M R =
      ((sl ≡ 1) × (M ≡ 0) × (R ≡ 0)) ⊎ ((sl ≡ 0) × (M ≡ n + 3) × (R ≡ n + 2) × (agree n cells 0 ≡ false))

  -- l sub-steps and r cells into an attempt
  pub record Trying (cells : List Cell) (m sl l r : ℕ) : Type 0 where
    pub M : ℕ
    pub R : ℕ
    pub attempt : Attempt cells sl M R
    pub m_is : m ≡ M + l
    pub len : length cells ≡ R + r

  -- x is the result of a read whose attempts took M sub-steps.
  abbrev pub Outcome : List Cell → ℕ → Result → Type 0
  Outcome cells M x =
      ((agree n cells 0 ≡ true) × (M ≡ n + 3) × (x ≡ result_of n cells 0))
      ⊎ ((agree n cells 0 ≡ false) × (M ≡ n + 3 + (n + 3)) × (x ≡ result_of n cells (n + 2)))

module _ (n : ℕ) (c val : ℕ → ℕ) where
  -- behind the second read of the writer's cell and q cells of other readers
  pub record Among (i : ℕ) (cells : List Cell) (m sl u z k : ℕ) (y : ℕ → ℕ) : Type 0 where
    pub q : ℕ
    pub t : Trying n cells m sl (3 + q) (2 + q)
    pub low : q < n
    pub k_is : k ≡ peer i q
    pub u_is : nth cells t.R ≡ cell_of c val u
    pub z_is : nth cells (t.R + 1) ≡ cell_of c val z
    pub y_is : (r : ℕ) → r < q → nth cells (t.R + (2 + r)) ≡ cell_of c val (y (peer i r))

  -- behind q stores of a result: p the number of its stamp, m' that of its value
  pub record Storing (i : ℕ) (cells : List Cell) (m p m' k : ℕ) : Type 0 where
    pub q : ℕ
    pub M : ℕ
    pub x : Result
    pub low : q < n
    pub k_is : k ≡ peer i q
    pub m_is : m ≡ M + q
    pub out : Outcome n cells M x
    pub value_is : x.value ≡ val m'
    pub stamp_is : x.stamp ≡ stamp_of c p
    pub shown_is : shown x ≡ cell_of c val p

  -- reader i's operation and its phase
  abbrev pub ReadSim : ℕ → Operation → Phase → Type 0
  ReadSim i idle rest = Unit {0}
  ReadSim i idle (begun f sl) = ⊥
  ReadSim i idle (looked f sl u) = ⊥
  ReadSim i idle (announced f sl u) = ⊥
  ReadSim i idle (second f sl u z k y) = ⊥
  ReadSim i idle (storing f p m k) = ⊥
  ReadSim i (open_with v m cells) rest = ⊥
  ReadSim i (open_with v m cells) (begun f sl) = Trying n cells m sl 0 0
  ReadSim i (open_with v m cells) (looked f sl u) = (t : Trying n cells m sl 1 1) × (nth cells t.R ≡ cell_of c val u)
  ReadSim i (open_with v m cells) (announced f sl u) = (t : Trying n cells m sl 2 1) × (nth cells t.R ≡ cell_of c val u)
  ReadSim i (open_with v m cells) (second f sl u z k y) = Among i cells m sl u z k y
  ReadSim i (open_with v m cells) (storing f p m' k) = Storing i cells m p m' k

  -- an open write that still reads, and one that has its ticket
  pub record Reading (D wk : ℕ) (B : List ℕ) (m : ℕ) (cells : List Cell) : Type 0 where
    pub at : m ≤ n
    pub wk_is : wk ≡ suc m
    pub B-is : B ≡ excluded_tickets (stamp_of c D) cells

  pub record Writing (K D wk : ℕ) (w : ℕ → ℕ) (v m : ℕ) (cells : List Cell) : Type 0 where
    pub from : n ≤ m
    pub upto : m < 2 * n
    pub ahead : K ≡ suc D
    pub wk_is : wk ≡ 0
    pub done : (i : ℕ) → i < m - n → w i ≡ K
    pub ticket : c K ≡ ticket_after n (stamp_of c D) cells
    pub value_is : val K ≡ v

  abbrev pub WriteSim : St → Operation → Type 0
  WriteSim s idle = (s.K ≡ s.D) × (s.wk ≡ 0)
  WriteSim s (open_with v m cells) =
      Reading s.D s.wk s.B m cells ⊎ ((n < m) × Writing s.K s.D s.wk s.w v m cells)

  -- W: what holds of the writer's operation
  pub record SimWith (b : Model) (s : St) (me : ℕ → Reader) (W : Operation → Type 0) : Type 0 where
    pub inv : Inv n c s me
    pub size : Size (places n) b.table
    pub to_reader : (i : ℕ) → i < n → view n b.table 0 (suc i) ≡ cell_of c val (s.w i)
    pub to_writer : (i : ℕ) → i < n → view n b.table (suc i) 0 ≡ back_of c (me i).o (me i).a
    pub between : (i j : ℕ) → i < n → j < n → j ≢ i → view n b.table (suc i) (suc j) ≡ cell_of c val (s.x i j)
    pub own_w : b.stamp 0 ≡ stamp_of c s.D
    pub own_r : (i : ℕ) → i < n → b.stamp (suc i) ≡ stamp_of c (me i).o
    pub readers : (i : ℕ) → i < n → ReadSim i (b.op (suc i)) (me i).ph
    pub writer : W (b.op 0)
    pub log_ok : LogRel n val b.rows s.K s.D s.F s.wk me (open_value (b.op 0))

  abbrev pub Sim : Model → St → (ℕ → Reader) → Type 0
  Sim b s me = SimWith b s me (WriteSim s)
