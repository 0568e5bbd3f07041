-- The numbered machine: the register by the numbers of its writes alone, and the invariant of its steps.
-- The start is write 1; a write gets the next number when it takes its ticket. A cell is the number of the write it shows; none is 0.
use mathlib.Core.Path.{◌≡◌}
use mathlib.Core.Logic.{◌≢◌, ◌⊎◌}
use mathlib.Core.List.{List, Memᴰ}
use Prim.Native.Nat.{ℕ, suc, ◌+◌, ◌≤◌, ◌<◌, max, pred}

-- Where a read stands. f: its floor, the newest number that an ended operation had shown when it began. sl: 1 in the first attempt,
-- 0 in the second. u, v: the numbers in its first and second read of the writer's cell. y j: what it read in the cell of reader j, for j
-- below k. p, m: the result, as in Storing; stored to the readers below k.
pub data Phase : Type 0 where
  rest : Phase
  begun : (f sl : ℕ) → Phase
  looked : (f sl u : ℕ) → Phase
  announced : (f sl u : ℕ) → Phase
  second : (f sl u v k : ℕ) (y : ℕ → ℕ) → Phase
  storing : (f p m k : ℕ) → Phase

-- o: the number of its own stamp. a: the one announced in its cell to the writer.
pub record Reader : Type 0 where
  pub o : ℕ
  pub a : ℕ
  pub ph : Phase

-- K: the newest write that has taken its ticket. D: the newest ended write. F: the newest that an ended operation has shown.
-- wk: 0 if the writer is not reading, else one more than the cells it has read. B: the tickets barred so far.
-- w i: the writer's cell to reader i. x j i: reader j's cell to reader i.
pub record St : Type 0 where
  pub K : ℕ
  pub D : ℕ
  pub F : ℕ
  pub wk : ℕ
  pub B : List ℕ
  pub w : ℕ → ℕ
  pub x : ℕ → ℕ → ℕ

-- n: the readers are 0 .. n - 1. c: the ticket of each write, so that write p has the stamp (c p, c (pred p)).
module _ (n : ℕ) (c : ℕ → ℕ) where
  -- The tickets that a reader's cell to the writer bars, by its own number and the announced one.
  pub data Bars (o a t : ℕ) : Type 0 where
    own : 1 ≤ o → t ≡ c (pred o) → Bars o a t
    cur : 1 ≤ a → t ≡ c a → Bars o a t
    prv : 1 ≤ a → t ≡ c (pred a) → Bars o a t

  -- No later write has taken the ticket of write q, and if the writer has already read i's cell, it holds that ticket barred.
  pub record Kept (s : St) (i q : ℕ) : Type 0 where
    pub fresh : (m : ℕ) → q < m → m ≤ s.K → c m ≢ c q
    pub saw : suc i < s.wk → Memᴰ (c q) s.B

  -- Reader i's cell to the writer bars the ticket of write q, and that ticket is kept.
  pub record Safe (s : St) (i o a q : ℕ) : Type 0 where
    pub bars : Bars o a (c q)
    pub kept : Kept s i q

  -- Reader i can still come by number p, or a later one, through the cell of reader j;
  pub record Via (s : St) (i p j : ℕ) : Type 0 where
    pub range : j < n
    pub other : j ≢ i
    pub cov : p ≤ max (s.x j i) (s.w i)

  -- or without another reader's cell;
  abbrev pub Reach : St → ℕ → ℕ → Type 0
  Reach s i p = (p ≤ s.w i) ⊎ ((j : ℕ) × Via s i p j)

  -- or through a cell that its open read has not read yet, or has read and found to hold it.
  abbrev pub Hope : St → ℕ → ℕ → ℕ → (ℕ → ℕ) → Type 0
  Hope s i p k y = (p ≤ s.w i) ⊎ ((j : ℕ) × Via s i p j × (j < k → p ≤ max (y j) (s.w i)))

  -- Reader i's cells to the others hold its own number.
  abbrev pub Row : St → ℕ → ℕ → Type 0
  Row s i o = (j : ℕ) → j < n → j ≢ i → s.x i j ≡ o

  -- What reader i found in the cell of reader j, when write v was in the writer's cell.
  pub record Met (s : St) (i v : ℕ) (j p : ℕ) : Type 0 where
    pub low : p ≤ s.K
    pub cov : p ≤ max (s.x j i) (s.w i)
    pub late : 1 ≤ p → c (pred p) ≡ c v → suc v ≤ p

  -- The first and the second read of the writer's cell had equal stamps.
  pub record Same (s : St) (i o a v k : ℕ) (y : ℕ → ℕ) : Type 0 where
    pub cur_safe : Safe s i o a v
    pub prv_safe : Safe s i o a (pred v)
    pub met : (j : ℕ) → j < n → j ≢ i → j < k → Met s i v j (y j)

  -- The phases of a read.
  pub record Begun (s : St) (i o f sl : ℕ) : Type 0 where
    pub floor : f ≤ s.F
    pub own_low : o ≤ f
    pub row : Row s i o
    pub hope : Reach s i f
    pub near : f ≤ s.w i + sl

  pub record Looked (s : St) (i o f sl u : ℕ) : Type 0 where
    pub floor : f ≤ s.F
    pub own_low : o ≤ f
    pub row : Row s i o
    pub hope : Reach s i f
    pub near : f ≤ u + sl
    pub pos : 1 ≤ u
    pub rise : u ≤ s.w i

  pub record Second (s : St) (i o a f sl u v k : ℕ) (y : ℕ → ℕ) : Type 0 where
    pub floor : f ≤ s.F
    pub own_low : o ≤ f
    pub row : Row s i o
    pub hope : Hope s i f k y
    pub near : f ≤ u + sl
    pub pos : 1 ≤ u
    pub rise : u ≤ v
    pub rise2 : v ≤ s.w i
    pub same : c u ≡ c v → c (pred u) ≡ c (pred v) → Same s i o a v k y

  -- p: the result's number, 0 if it has stamp none. m: the number whose value is returned.
  pub record Storing (s : St) (i o a f p m k : ℕ) : Type 0 where
    pub own_low : o ≤ f
    pub floor : f ≤ s.F
    pub least : f ≤ m
    pub most : m ≤ max p s.D
    pub hi : p ≤ s.K
    pub num : 1 ≤ p → m ≡ p
    pub safe : 1 ≤ p → Safe s i o a (pred p)
    pub reach : Reach s i p
    pub before : (j : ℕ) → j ≢ i → j < k → s.x i j ≡ p
    pub after : (j : ℕ) → j < n → j ≢ i → k ≤ j → s.x i j ≡ o

  pub record Idle (s : St) (i o : ℕ) : Type 0 where
    pub own_low : o ≤ s.F
    pub row : Row s i o

  abbrev pub PhOk : St → ℕ → ℕ → ℕ → Phase → Type 0
  PhOk s i o a rest = Idle s i o
  PhOk s i o a (begun f sl) = Begun s i o f sl
  PhOk s i o a (looked f sl u) = Looked s i o f sl u
  PhOk s i o a (announced f sl u) = (a ≡ u) × Looked s i o f sl u
  PhOk s i o a (second f sl u v k y) = Second s i o a f sl u v k y
  PhOk s i o a (storing f p m k) = Storing s i o a f p m k

  -- Each reader's part, and all.
  pub record Ok (s : St) (i : ℕ) (r : Reader) : Type 0 where
    pub own_kept : 1 ≤ r.o → Kept s i (pred r.o)
    pub reach : Reach s i s.F
    pub phase : PhOk s i r.o r.a r.ph

  pub record Inv (s : St) (me : ℕ → Reader) : Type 0 where
    pub next : (k : ℕ) → suc k ≤ s.K → c (suc k) ≢ c k
    pub next2 : (k : ℕ) → suc (suc k) ≤ s.K → c (suc (suc k)) ≢ c k
    pub D-pos : 1 ≤ s.D
    pub D-K : s.D ≤ s.K
    pub K-D : s.K ≤ suc s.D
    pub D-F : s.D ≤ s.F
    pub F-K : s.F ≤ s.K
    pub D-w : (i : ℕ) → i < n → s.D ≤ s.w i
    pub w_K : (i : ℕ) → s.w i ≤ s.K
    pub writer : 1 ≤ s.wk → (s.K ≡ s.D) × Memᴰ (c s.K) s.B × Memᴰ (c (pred s.K)) s.B
    pub rd : (i : ℕ) → i < n → Ok s i (me i)
