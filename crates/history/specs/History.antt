-- The operations of a log. An operation goes by its begin row. The start counts as a write at row 0 that ends at once.
use Rattle.std.specs.Prelude.{ℕ, suc, zero, ◌<◌, ◌-◌, ◌≡◌, Bool, List, T, eqb, length, get_or}
use Rattle.history.specs.Search.{first}
use Rattle.history.specs.Rows.{suits, kind_at, processor_at, value_at}
use Rattle.history.specs.WellFormed.{open_at}

pub record History : Type 0 where
  -- the number of rows
  pub len : ℕ
  -- the kind of a row: 1 write begins, 2 write ends, 3 read begins, 4 read ends
  pub kind : ℕ → ℕ
  -- suits e q: the read that row e ends may stand behind the write that row q begins, by that write's reading
  pub suits : ℕ → ℕ → Bool
  -- the end row of the operation begun at a row; len if it has none
  pub end : ℕ → ℕ
  -- the begin row of the operation ended at a row
  pub begin : ℕ → ℕ

unfoldable pub event_at : List ℕ → ℕ → ℕ
event_at log zero = 1
event_at log (suc k) = kind_at log (suc k)

-- the first row from k on, among n, of processor i; k + n if there is none
abbrev pub next_of : List ℕ → ℕ → ℕ → ℕ → ℕ
next_of log i k n = first (λ j. eqb (processor_at log j) i) k n

-- an operation ends at its processor's next row
unfoldable pub end_at : List ℕ → ℕ → ℕ
end_at log zero = 0
end_at log (suc k) = next_of log (processor_at log (suc k)) (suc (suc k)) (length log - suc (suc k))

abbrev pub history_of : List ℕ → History
history_of log = record {
  len = length log;
  kind = event_at log;
  suits = λ e q. suits (get_or log e 0) (value_at log q);
  end = end_at log;
  begin = λ e. open_at log (processor_at log e) e;
}

-- a write, ended or not
pub record Write (h : History) (w : ℕ) : Type 0 where
  pub is : h.kind w ≡ 1
  pub real : zero < w

-- an ended read, begun before row m
pub record Read (h : History) (m r : ℕ) : Type 0 where
  pub is : h.kind r ≡ 3
  pub ended : h.end r < h.len
  pub under : r < m

-- the ended read r may stand behind the write q, or the start, by that write's reading
abbrev pub Suits : History → ℕ → ℕ → Type 0
Suits h q r = T (h.suits (h.end r) q)

-- "Operation a precedes b if a's end row is before b's begin row."
abbrev pub Precedes : History → ℕ → ℕ → Type 0
Precedes h a b = h.end a < b
