-- What a well-formed log's history meets, and placements: an order seen from its reads.
use Prim.Native.Nat.{ℕ, zero, ◌≤◌, ◌<◌}
use mathlib.Core.Path.{◌≡◌}
use Rattle.history.specs.History.{History, Read, Suits}

-- What every well-formed log's history meets.
pub record Laws (h : History) : Type 0 where
  pub start : h.kind 0 ≡ 1
  pub start_end : h.end 0 ≡ 0
  pub write : (w : ℕ) → h.kind w ≡ 1 → w < h.len
  pub write_end : (w : ℕ) → h.kind w ≡ 1 → zero < w → (w < h.end w) × (h.end w ≤ h.len)
  pub write_done : (w : ℕ) → h.kind w ≡ 1 → zero < w → h.end w < h.len → (h.kind (h.end w) ≡ 2) × (h.begin (h.end w) ≡ w)
  pub read_end : (r : ℕ) → h.kind r ≡ 3 → (r < h.end r) × (h.end r ≤ h.len)
  pub read_done : (r : ℕ) → h.kind r ≡ 3 → h.end r < h.len → (h.kind (h.end r) ≡ 4) × (h.begin (h.end r) ≡ r)
  pub ended_write : (e : ℕ) → h.kind e ≡ 2 → (h.kind (h.begin e) ≡ 1) × (h.end (h.begin e) ≡ e) × (h.begin e < e)
  pub ended_read : (e : ℕ) → h.kind e ≡ 4 → (h.kind (h.begin e) ≡ 3) × (h.end (h.begin e) ≡ e) × (h.begin e < e) × (e < h.len)
  pub back : (e : ℕ) → h.begin e ≤ e
  pub alone : (a b : ℕ) → h.kind a ≡ 1 → h.kind b ≡ 1 → a < b → h.end a < b

-- A place for each ended read begun before row m: the write, or row 0, that it stands behind.
pub record Placement (h : History) (m : ℕ) (p : ℕ → ℕ) : Type 0 where
  pub source : (r : ℕ) → Read h m r → h.kind (p r) ≡ 1
  pub suits : (r : ℕ) → Read h m r → Suits h (p r) r
  pub early : (r : ℕ) → Read h m r → p r < h.end r
  pub late : (w r : ℕ) → h.kind w ≡ 1 → Read h m r → h.end w < r → w ≤ p r
  pub mono : (r s : ℕ) → Read h m r → Read h m s → h.end r < s → p r ≤ p s
