-- What a read may stand behind, in the papers' words, by the row that ends it. It is said here a second time, beside `suits`; that
-- both say the same of every ended read of a well-formed log is proved (proofs/Bands).
use Rattle.std.specs.Prelude.{ℕ, ◌+◌, ◌*◌, ◌≤◌, ◌<◌, ◌≡◌, ◌⊎◌, ◌↔◌, ◌≢◌, List, get_or}
use Rattle.history.specs.Rows.{kind_bits, value_at}
use Rattle.history.specs.History.{end_at, history_of, Suits}

module _ (log : List ℕ) (r : ℕ) where
  -- the kind and the low 32 bits of the row that ends r
  abbrev end_kind : ℕ
  end_kind = kind_bits (get_or log (end_at log r) 0)

  abbrev end_value : ℕ
  end_value = value_at log (end_at log r)

  -- "4 read ends (its result)": "Each read has the reading of the last write before it, or the start reading."
  pub record WithResult : Type 0 where
    pub kind_4 : end_kind ≡ 4
    pub may_stand : (q : ℕ) → Suits (history_of log) q r ↔ (value_at log q ≡ end_value)

  -- "row kind 6, read ends"
  pub record WithBand : Type 0 where
    pub kind_6 : end_kind ≡ 6
    -- "the low 32 bits are two 16-bit numbers, lowest (upper half) and highest"
    pub lowest : ℕ
    pub highest : ℕ
    pub halves : end_value ≡ lowest * 65536 + highest
    pub bits_16 : (lowest < 65536) × (highest < 65536)
    -- "Lowest above highest is malformed"
    pub not_above : lowest ≤ highest
    -- "Such a read may stand behind any write, or the start, whose reading lies within both, ends included."
    pub may_stand : (q : ℕ) → Suits (history_of log) q r ↔ ((lowest ≤ value_at log q) × (value_at log q ≤ highest))

  -- an ended read's
  abbrev pub MayStand : Type 0
  MayStand = WithResult ⊎ WithBand

-- "logs of the register itself contain no such rows"
abbrev pub NoBands : List ℕ → Type 0
NoBands log = (k : ℕ) → kind_bits (get_or log k 0) ≢ 6
