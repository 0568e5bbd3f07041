-- An order gives a placement: each read behind the last write before it.
use Prim.Native.Nat.{ℕ, ◌≤◌, ◌<◌}
use native.Mathlib.Omega.{arith}
use native.Mathlib.Decide.{ℕ_discrete, dec_lt}
use mathlib.Core.Path.{◌≡◌, ap}
use mathlib.Core.Logic.{◌⊎◌, inl, inr}
use mathlib.Core.List.{List}
use lib.ListN.{length}
use Rattle.history.specs.History.{History, Read}
use Rattle.history.proofs.Placement.{Laws, Placement}
use Rattle.history.specs.Linearization.{Stands, position_in, last_write, stands_behind, Linearization}
use Rattle.history.proofs.LastWrite.{position_at, last_write_is, last_write_ge}

module _ (h : History) (L : Laws h) (m : ℕ) (l : List ℕ) (O : Linearization h m l) where
  at : (r : ℕ) → Read h m r → Stands l (position_in l r) r
  at r x = let s = O.reads r x in position_at l s.0 r s.1

  pub rise : (i j a b : ℕ) → Stands l i a → Stands l j b → h.kind a ≡ 1 → h.kind b ≡ 1 → i < j → a ≤ b
  rise i j a b s t x y c = go (dec_lt b a)
    where
      go : Dec (b < a) → a ≤ b
      go (no n) = omega arith
      go (yes d) = absurd (omega (arith, O.respects j i b a t s (L.alone b a y x d)))

  source : (i : ℕ) → i ≤ length l → h.kind (last_write h l i) ≡ 1
  source i a = go (last_write_is h l i a)
    where
      go : (last_write h l i ≡ 0) ⊎ ((j : ℕ) × (j < i) × Stands l j (last_write h l i) × (h.kind (last_write h l i) ≡ 1)) → h.kind (last_write h l i) ≡ 1
      go (inl e) = rw e L.start
      go (inr t) = t.3

  early : (i r : ℕ) → Stands l i r → Read h m r → last_write h l i < h.end r
  early i r s x = go (last_write_is h l i (omega arith)) (ℕ_discrete (last_write h l i) (h.end r)) (dec_lt (h.end r) (last_write h l i))
    where
      go : (last_write h l i ≡ 0) ⊎ ((j : ℕ) × (j < i) × Stands l j (last_write h l i) × (h.kind (last_write h l i) ≡ 1))
          → Dec (last_write h l i ≡ h.end r) → Dec (h.end r < last_write h l i) → last_write h l i < h.end r
      go (inl e) _ _ = omega (arith, L.read_end r x.is)
      go (inr t) (yes e) _ = absurd (omega (arith, ap h.kind e, L.read_done r x.is x.ended))
      go (inr t) (no n) (yes d) = absurd (omega (arith, O.respects i t.0 r (last_write h l i) s t.2 d))
      go (inr t) (no n) (no k) = omega arith

  late : (i w r : ℕ) → h.kind w ≡ 1 → Stands l i r → Read h m r → h.end w < r → w ≤ last_write h l i
  late i w r e s x a = go (dec_lt 0 w)
    where
      go : Dec (0 < w) → w ≤ last_write h l i
      go (no n) = omega arith
      go (yes p) =
          let t = O.writes w (record { is = e; real = p }) (omega (arith, L.read_end r x.is)) in
          last_write_ge h l rise i t.0 w (omega arith) (O.respects t.0 i w r t.1 s a) t.1 e

  pub mono : (i j : ℕ) → i < j → j < length l → last_write h l i ≤ last_write h l j
  mono i j a b = go (last_write_is h l i (omega arith))
    where
      go : (last_write h l i ≡ 0) ⊎ ((k : ℕ) × (k < i) × Stands l k (last_write h l i) × (h.kind (last_write h l i) ≡ 1)) → last_write h l i ≤ last_write h l j
      go (inl e) = omega arith
      go (inr t) = last_write_ge h l rise j t.0 (last_write h l i) (omega arith) (omega arith) t.2 t.3

  pub placed : Placement h m (stands_behind h l)
  unfolding stands_behind
  placed = record {
    source = λ r x. source _ (omega (arith, at r x));
    suits = λ r x. O.reading _ r (at r x) x;
    early = λ r x. early _ r (at r x) x;
    late = λ w r e x a. late _ w r e (at r x) x a;
    mono = λ r s x y a. mono _ _ (O.respects _ _ r s (at r x) (at s y) a) (at s y).within;
  }
