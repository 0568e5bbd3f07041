-- What the judge's answer means.
use Prim.Native.Nat.{ℕ, ◌≤◌, ◌<◌}
use native.Mathlib.Omega.{arith}
use native.Mathlib.Decide.{dec_lt}
use mathlib.Core.Path.{◌≡◌}
use mathlib.Core.List.{List}
use lib.Dec.{T, leb→le, le→leb}
use Rattle.history.specs.History.{History, Read}
use Rattle.history.proofs.Placement.{Laws, Placement}
use Rattle.history.specs.Linearization.{stands_behind, Linearization}
use Rattle.words.proofs.Laws.Choice.{and_T, T-left, T-right}
use Rattle.history.proofs.Search.{first_le, first_passes, first_least}
use Rattle.history.specs.Sweep.{place, is_read, fails, missing}
use Rattle.history.proofs.Least.{Found, sound, least, complete}
use Rattle.history.specs.Listing.{build}
use Rattle.history.proofs.Built.{read→, →read, ordered}
use Rattle.history.proofs.FromOrder.{placed}

module _ (h : History) (L : Laws h) where
  pub found : (m : ℕ) → m ≤ missing h → Found h L m
  unfolding missing
  found m a r x = go (dec_lt (place h r) (h.end r))
    where
      go : Dec (place h r < h.end r) → place h r < h.end r
      go (yes b) = b
      go (no n) =
          absurd (omega (
            arith,
            L.read_end r x.is,
            first_least (fails h) 0 h.len r (omega arith) (omega (arith, L.read_end r x.is))
                (and_T (is_read h r) _ (→read h m r x) (le→leb (h.end r) (place h r) (omega arith))),
          ))

  -- Up to the first read without a place there is an order.
  pub before_missing : (m : ℕ) → m ≤ missing h → Linearization h m (build h m (place h) h.len)
  unfolding missing
  before_missing m a = ordered h L m (place h) (sound h L m (found m a))

  missing_le : missing h ≤ h.len
  unfolding missing
  missing_le = omega (arith, first_le (fails h) 0 h.len)

  missing_fails : missing h < h.len → T (fails h (missing h))
  unfolding missing
  missing_fails a = first_passes (fails h) 0 h.len (omega arith)

  no_place : (m : ℕ) (p : ℕ → ℕ) → missing h < h.len → missing h < m → Placement h m p → ⊥
  no_place m p a b P =
      let t = missing_fails a in
      let x : Read h m (missing h) = read→ h m (missing h) b (T-left (is_read h (missing h)) _ t) in
      omega (arith, complete h L m p P (missing h) x, leb→le (h.end (missing h)) (place h (missing h)) (T-right (is_read h (missing h)) _ t))

  -- With it there is none.
  pub none_with : (m : ℕ) (l : List ℕ) → missing h < h.len → missing h < m → Linearization h m l → ⊥
  none_with m l a b O = no_place m (stands_behind h l) a b (placed h L m l O)

  -- Each read stands behind the earliest write that any order gives it.
  pub earliest : (l : List ℕ) → Linearization h h.len l → (r : ℕ) → Read h h.len r → place h r ≤ stands_behind h l r
  earliest l O = least h L h.len (stands_behind h l) (placed h L h.len l O)

  pub has_order : (l : List ℕ) → Linearization h h.len l → missing h ≡ h.len
  has_order l O = go (dec_lt (missing h) h.len)
    where
      go : Dec (missing h < h.len) → missing h ≡ h.len
      go (yes a) = absurd (none_with h.len l a a O)
      go (no n) = omega (arith, missing_le)
