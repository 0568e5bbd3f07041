-- The earliest-placed order.
use Rattle.std.specs.Prelude.{ℕ, ◌≤◌, ◌<◌, ◌≡◌, List}
use Rattle.history.specs.History.{History, Write, Read}
use Rattle.history.specs.Linearization.{Stands, last_write, Linearization}

pub record Earliest (h : History) (l : List ℕ) : Type 0 where
  pub order : Linearization h h.len l
  -- "each read stands behind the earliest write that any order gives it"
  pub earliest : (i r : ℕ) → Stands l i r → Read h h.len r → (l' : List ℕ) → Linearization h h.len l'
      → (j : ℕ) → Stands l' j r → last_write h l i ≤ last_write h l' j
  -- "Reads behind one write shall go by end row and no longer by begin row." (document 02, card 6)
  pub by_end : (i j r s : ℕ) → Stands l i r → Stands l j s → Read h h.len r → Read h h.len s
      → last_write h l i ≡ last_write h l j → i < j → h.end r < h.end s
  -- "The unended write is listed only if a read stands behind it."
  pub needed : (i w : ℕ) → Stands l i w → Write h w → h.len ≤ h.end w
      → (j r : ℕ) × Stands l j r × Read h h.len r × (last_write h l j ≡ w)
