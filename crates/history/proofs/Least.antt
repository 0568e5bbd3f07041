-- The sweep's placement is the least one, and it is one wherever there is one.
use Prim.Native.Nat.{ℕ, suc, zero, ◌≤◌, ◌<◌}
use native.Mathlib.Omega.{arith}
use native.Mathlib.Decide.{ℕ_discrete, dec_lt}
use mathlib.Core.Path.{◌≡◌, ◌∙◌, ap}
use lib.Dec.{T, eqb, eqb→eq}
use Rattle.words.proofs.Laws.Choice.{pick_T, eq→T, and_T, T-left, T-right}
use Rattle.history.specs.History.{History, Read, Suits}
use Rattle.history.proofs.Placement.{Laws, Placement}
use Rattle.history.proofs.Search.{first_least}
use Rattle.history.proofs.Sought.{place_ge, place_good}
use Rattle.history.specs.Sweep.{floors, is_source, place_at, adds, floor, place}
use Rattle.history.proofs.Floors.{floor_suc}

-- What the test of a source says.
good→ : (h : History) (e q : ℕ) → T (is_source h e q) → (h.kind q ≡ 1) × T (h.suits e q)
good→ h e q t = (eqb→eq _ _ (T-left (eqb (h.kind q) 1) _ t), T-right (eqb (h.kind q) 1) _ t)

→good : (h : History) (e q : ℕ) → h.kind q ≡ 1 → T (h.suits e q) → T (is_source h e q)
→good h e q a b = and_T (eqb (h.kind q) 1) _ (eq→T _ _ a) b

-- What a row adds.
adds_le : (h : History) (f k B : ℕ) → (h.kind k ≡ 2 → h.begin k ≤ B) → (h.kind k ≡ 4 → place_at h f (h.begin k) ≤ B) → adds h f k ≤ B
unfolding adds
adds_le h f k B w r =
    pick_T (λ z. z ≤ B) (eqb (h.kind k) 2) (λ t. w (eqb→eq _ _ t))
    (λ _. pick_T (λ z. z ≤ B) (eqb (h.kind k) 4) (λ t. r (eqb→eq _ _ t)) (λ _. omega arith))

adds_write : (h : History) (f k : ℕ) → h.kind k ≡ 2 → adds h f k ≡ h.begin k
unfolding adds
adds_write h f k e = rw e

adds_read : (h : History) (f k : ℕ) → h.kind k ≡ 4 → adds h f k ≡ place_at h f (h.begin k)
unfolding adds
adds_read h f k e = rw e

module _ (h : History) (L : Laws h) where
  -- The floor is the least upper bound of what the rows before it add.
  pub floor_up : (k j : ℕ) → j < k → adds h (floor h (h.begin j)) j ≤ floor h k
  floor_up zero j a = absurd (omega arith)
  floor_up (suc k) j a = go (ℕ_discrete j k) (floor_up k j)
    where
      go : Dec (j ≡ k) → (j < k → adds h (floor h (h.begin j)) j ≤ floor h k) → adds h (floor h (h.begin j)) j ≤ floor h (suc k)
      go (yes e) f = rw e (omega (arith, floor_suc h k (L.back k)))
      go (no n) f = omega (arith, floor_suc h k (L.back k), f (omega arith))

  pub floor_least : (B k : ℕ) → ((j : ℕ) → j < k → adds h (floor h (h.begin j)) j ≤ B) → floor h k ≤ B
  unfolding floor floors
  floor_least B zero f = omega arith
  floor_least B (suc k) f = omega (arith, floor_suc h k (L.back k), floor_least B k (λ j a. f j (omega arith)), f k (omega arith))

  place_least : (r q : ℕ) → floor h r ≤ q → q < h.end r → h.kind q ≡ 1 → Suits h q r → place h r ≤ q
  unfolding place place_at
  place_least r q a b k v = first_least (is_source h _) _ _ q a (omega arith) (→good h _ q k v)

  -- What a read or a write that ends before row k adds to the floor there.
  floor_write : (w k : ℕ) → h.kind w ≡ 1 → h.end w < k → k ≤ h.len → w ≤ floor h k
  floor_write w k e a b = go (dec_lt 0 w)
    where
      go : Dec (0 < w) → w ≤ floor h k
      go (no n) = omega arith
      go (yes p) =
          let d = L.write_done w e p (omega arith) in
          omega (arith, floor_up k (h.end w) a, adds_write h (floor h (h.begin (h.end w))) (h.end w) d.0)

  pub floor_read : (r k : ℕ) → h.kind r ≡ 3 → h.end r < k → k ≤ h.len → place h r ≤ floor h k
  unfolding place
  floor_read r k e a b =
      let d = L.read_done r e (omega arith) in
      let s : adds h (floor h (h.begin (h.end r))) (h.end r) ≡ place_at h (floor h r) r =
      adds_read h (floor h (h.begin (h.end r))) (h.end r) d.0 ∙ ap (λ x. place_at h (floor h x) x) d.1 in
      omega (arith, floor_up k (h.end r) a)

  -- The sweep has found a place for each ended read begun before row m.
  abbrev pub Found : ℕ → Type 0
  Found m = (r : ℕ) → Read h m r → place h r < h.end r

  pub sound : (m : ℕ) → Found m → Placement h m (place h)
  sound m f = record {
    source = λ r x. (good→ h _ _ (place_good h r (f r x))).0;
    suits = λ r x. (good→ h _ _ (place_good h r (f r x))).1;
    early = f;
    late = λ w r e x a. omega (arith, floor_write w r e a (omega (arith, L.read_end r x.is)), place_ge h r);
    mono = λ r s x y a. omega (arith, floor_read r s x.is a (omega (arith, L.read_end s y.is)), place_ge h s);
  }

  module _ (m : ℕ) (p : ℕ → ℕ) (P : Placement h m p) where
    floor_below : (r : ℕ) → Read h m r → ((s : ℕ) → s < r → Read h m s → place h s ≤ p s) → floor h r ≤ p r
    unfolding place
    floor_below r x ih = floor_least (p r) r (λ j a. adds_le h _ j (p r)
        (λ e. let d = L.ended_write j e in P.late (h.begin j) r d.0 x (omega arith))
        (λ e. let d = L.ended_read j e in
        let y : Read h m (h.begin j) = record { is = d.0; ended = omega arith; under = omega arith } in
        omega (arith, ih (h.begin j) (omega arith) y, P.mono (h.begin j) r y x (omega arith))))

    least_under : (n r : ℕ) → r < n → Read h m r → place h r ≤ p r
    least_under zero r a x = absurd (omega arith)
    least_under (suc n) r a x =
        place_least r (p r) (floor_below r x (λ s b y. least_under n s (omega arith) y)) (P.early r x) (P.source r x) (P.suits r x)

    pub least : (r : ℕ) → Read h m r → place h r ≤ p r
    least r = least_under (suc r) r (omega arith)

    pub complete : Found m
    complete r x = omega (arith, least r x, P.early r x)
