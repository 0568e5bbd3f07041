-- A placement gives an order.
use Prim.Native.Nat.{ℕ, suc, zero, ◌≤◌, ◌<◌, ◌+◌, ◌*◌}
use native.Mathlib.Omega.{arith}
use native.Mathlib.Nat.{mul-le-mul_right}
use native.Mathlib.Decide.{ℕ_discrete, dec_lt}
use mathlib.Core.Path.{◌≡◌, refl, ◌∙◌, sym}
use mathlib.Core.Bool.{Bool, true, false, ◌&&◌, ◌||◌}
use mathlib.Core.Logic.{◌⊎◌, inl, inr}
use mathlib.Core.List.{List, [], ◌∷◌, ◌++◌}
use lib.Dec.{T, eqb, ltb, eqb→eq, ltb→lt, lt→ltb}
use lib.ListN.{length, get_or}
use Rattle.history.specs.History.{History, Read, Write}
use Rattle.history.proofs.Placement.{Laws, Placement}
use Rattle.history.specs.Linearization.{Stands, last_write, Linearization}
use Rattle.history.proofs.LastWrite.{last_write_is, last_write_ge}
use Rattle.words.specs.Choice.{pick}
use Rattle.words.proofs.Laws.Choice.{eq→T, and_T, T-left, T-right}
use Rattle.history.proofs.Rising.{stands_left, stands_right, stands_cases, Rising, rising_lower, rising_upper, rising_append, rising_lt, rising_before}
use Rattle.history.specs.Sweep.{is_read}
use Rattle.history.proofs.Grouped.{listed→, →listed}
use Rattle.history.specs.Listing.{ends_behind, behind, is_listed, group, build}

-- What the tests say.
pub read→ : (h : History) (m r : ℕ) → r < m → T (is_read h r) → Read h m r
read→ h m r a t = record {
  is = eqb→eq _ _ (T-left (eqb (h.kind r) 3) _ t);
  ended = ltb→lt _ _ (T-right (eqb (h.kind r) 3) _ t);
  under = a;
}

pub →read : (h : History) (m r : ℕ) → Read h m r → T (is_read h r)
→read h m r x = and_T (eqb (h.kind r) 3) _ (eq→T _ _ x.is) (lt→ltb _ _ x.ended)

module _ (h : History) (L : Laws h) (m : ℕ) (p : ℕ → ℕ) (q : ℕ) where
  -- The read that a row ends.
  ends→ : (e : ℕ) → T (ends_behind h m p q e) → Read h m (h.begin e) × (p (h.begin e) ≡ q) × (h.end (h.begin e) ≡ e)
  ends→ e t =
      let d = L.ended_read e (eqb→eq _ _ (T-left (eqb (h.kind e) 4) _ t)) in
      let u : T (ltb (h.begin e) m && eqb (p (h.begin e)) q) = T-right (eqb (h.kind e) 4) _ t in (
        record { is = d.0; ended = omega arith; under = ltb→lt _ _ (T-left (ltb (h.begin e) m) _ u) },
        eqb→eq _ _ (T-right (ltb (h.begin e) m) _ u),
        d.1,
      )

  →ends : (x : ℕ) → Read h m x → p x ≡ q → T (ends_behind h m p q (h.end x))
  →ends x y e =
      let d = L.read_done x y.is y.ended in
      and_T (eqb (h.kind (h.end x)) 4) _ (eq→T _ _ d.0) (rw d.1 (and_T (ltb x m) _ (lt→ltb _ _ y.under) (eq→T _ _ e)))

  -- The reads behind a write.
  pub behind_only : (k i x : ℕ) → Stands (behind h m p q k) i x → Read h m x × (p x ≡ q)
  unfolding behind
  behind_only zero i x s = absurd (omega arith)
  behind_only (suc e) i x s = go (stands_cases (behind h m p q e) _ i x s) (behind_only e i x)
    where
      one : (b : Bool) → (T b → Read h m (h.begin e) × (p (h.begin e) ≡ q)) → (j : ℕ) → Stands (pick b (h.begin e ∷ []) []) j x → Read h m x × (p x ≡ q)
      one true f zero t = rw (← t.there) (f tt)
      one true f (suc j) t = absurd (omega arith)
      one false f j t = absurd (omega arith)

      go : Stands (behind h m p q e) i x ⊎ ((j : ℕ) × Stands (pick (ends_behind h m p q e) (h.begin e ∷ []) []) j x)
          → (Stands (behind h m p q e) i x → Read h m x × (p x ≡ q)) → Read h m x × (p x ≡ q)
      go (inl t) f = f t
      go (inr t) f = one (ends_behind h m p q e) (λ u. let d = ends→ e u in (d.0, d.1)) t.0 t.1

  pub behind_has : (k x : ℕ) → Read h m x → p x ≡ q → h.end x < k → (i : ℕ) × Stands (behind h m p q k) i x
  unfolding behind
  behind_has zero x y e a = absurd (omega arith)
  behind_has (suc k) x y e a = go (ℕ_discrete (h.end x) k) (behind_has k x y e)
    where
      here : (b : Bool) → T b → h.begin k ≡ x → Stands (pick b (h.begin k ∷ []) []) 0 x
      here true t d = record { within = omega arith; there = d }
      here false t d = elim t [ ]

      go : Dec (h.end x ≡ k) → (h.end x < k → (i : ℕ) × Stands (behind h m p q k) i x) → (i : ℕ) × Stands (behind h m p q (suc k)) i x
      go (yes d) f =
          let t : T (ends_behind h m p q k) = rw (← d) (→ends x y e) in
          let b : h.begin k ≡ x = rw (← d) (L.read_done x y.is y.ended).1 in
          (length (behind h m p q k) + 0, stands_right (behind h m p q k) _ 0 x (here (ends_behind h m p q k) t b))
      go (no n) f =
          let s = f (omega arith) in
          (s.0, stands_left (behind h m p q k) _ s.0 x s.1)

-- The key by which the operations of a listing rise: a write's own row, then a read's place and end row.
unfoldable pub key : History → (ℕ → ℕ) → ℕ → ℕ
key h p x = pick (eqb (h.kind x) 1) (x * suc h.len) (p x * suc h.len + suc (h.end x))

pub key_write : (h : History) (p : ℕ → ℕ) (x : ℕ) → h.kind x ≡ 1 → key h p x ≡ x * suc h.len
unfolding key
key_write h p x e = rw e

pub key_read : (h : History) (p : ℕ → ℕ) (x : ℕ) → h.kind x ≡ 3 → key h p x ≡ p x * suc h.len + suc (h.end x)
unfolding key
key_read h p x e = rw e

-- Keys of an earlier group, or of an earlier place in the group, are smaller.
pub lex : (N q q' x x' : ℕ) → q ≤ q' → x < x' → q * N + x < q' * N + x'
lex N q q' x x' a b = omega (arith, mul-le-mul_right N a)

pub lex' : (N q q' x x' : ℕ) → q < q' → x < N → q * N + x < q' * N + x'
lex' N q q' x x' a b = omega (arith, mul-le-mul_right N a)

behind_rising : (h : History) (L : Laws h) (m : ℕ) (p : ℕ → ℕ) (q k : ℕ)
    → Rising (key h p) (q * suc h.len + 1) (behind h m p q k) (q * suc h.len + suc k)
unfolding behind
behind_rising h L m p q zero = omega arith
behind_rising h L m p q (suc e) =
    rising_append (key h p) (behind h m p q e) _ _ _ _ (behind_rising h L m p q e)
    (one (ends_behind h m p q e) (λ u. let d = ends→ h L m p q e u in key_read h p (h.begin e) d.0.is ∙ rw (d.1, d.2)))
  where
    one : (b : Bool) → (T b → key h p (h.begin e) ≡ q * suc h.len + suc e)
        → Rising (key h p) (q * suc h.len + suc e) (pick b (h.begin e ∷ []) []) (q * suc h.len + suc (suc e))
    one true f = let d = f tt in (omega arith, omega arith)
    one false f = omega arith

-- A group.
or→ : (a b : Bool) → T (a || b) → T a ⊎ T b
or→ true b t = inl t
or→ false b t = inr t

module _ (h : History) (L : Laws h) (m : ℕ) (p : ℕ → ℕ) (q : ℕ) where
  -- the reads behind q
  abbrev rs : List ℕ
  rs = behind h m p q h.len

  pub group_only : (i x : ℕ) → Stands (group h m p q) i x → (Write h x × (x ≡ q)) ⊎ (Read h m x × (p x ≡ q))
  unfolding group
  group_only i x = go (is_listed h q (length rs)) (listed→ h q (length rs)) i
    where
      go : (b : Bool) → (T b → Write h q) → (i : ℕ) → Stands (pick b (q ∷ rs) rs) i x → (Write h x × (x ≡ q)) ⊎ (Read h m x × (p x ≡ q))
      go true f zero s = inl (rw (← s.there) (f tt), sym s.there)
      go true f (suc i) s = inr (behind_only h L m p q h.len i x (record { within = omega arith; there = s.there }))
      go false f i s = inr (behind_only h L m p q h.len i x s)

  -- A listed write has ended, or a read stands behind it.
  group_needed : (i x : ℕ) → Stands (group h m p q) i x → Write h x → (h.end x < h.len) ⊎ ((r : ℕ) × Read h m r × (p r ≡ x))
  unfolding group
  group_needed i x s w = go (is_listed h q (length rs)) (λ t. or→ (ltb (h.end q) h.len) _ (T-right (eqb (h.kind q) 1 && ltb 0 q) _ t)) i s
    where
      no_read : (i : ℕ) → Stands rs i x → ⊥
      no_read i s = let d = behind_only h L m p q h.len i x s in omega (arith, d.0.is, w.is)

      which : x ≡ q → T (ltb (h.end q) h.len) ⊎ T (ltb 0 (length rs)) → (h.end x < h.len) ⊎ ((r : ℕ) × Read h m r × (p r ≡ x))
      which e (inl t) = inl (rw e (ltb→lt (h.end q) h.len t))
      which e (inr t) =
          let d = behind_only h L m p q h.len 0 (get_or rs 0 0) (record { within = ltb→lt _ _ t; there = refl }) in
          inr (get_or rs 0 0, d.0, d.1 ∙ sym e)

      go : (b : Bool) → (T b → T (ltb (h.end q) h.len) ⊎ T (ltb 0 (length rs))) → (i : ℕ)
          → Stands (pick b (q ∷ rs) rs) i x → (h.end x < h.len) ⊎ ((r : ℕ) × Read h m r × (p r ≡ x))
      go true f zero s = which (sym s.there) (f tt)
      go true f (suc i) s = absurd (no_read i (record { within = omega arith; there = s.there }))
      go false f i s = absurd (no_read i s)

  group_write : Write h q → (h.end q < h.len) ⊎ (0 < length rs) → (i : ℕ) × Stands (group h m p q) i q
  unfolding group
  group_write w c = go (is_listed h q (length rs)) (→listed h q (length rs) w c)
    where
      go : (b : Bool) → T b → (i : ℕ) × Stands (pick b (q ∷ rs) rs) i q
      go true t = (0, record { within = omega arith; there = refl })
      go false t = elim t [ ]

  group_read : (x : ℕ) → Read h m x → p x ≡ q → (i : ℕ) × Stands (group h m p q) i x
  unfolding group
  group_read x y e = go (is_listed h q (length rs)) (behind_has h L m p q h.len x y e y.ended)
    where
      go : (b : Bool) → (i : ℕ) × Stands rs i x → (i : ℕ) × Stands (pick b (q ∷ rs) rs) i x
      go true s = (suc s.0, record { within = omega (arith, s.1); there = s.1.there })
      go false s = s

  group_rising : Rising (key h p) (q * suc h.len) (group h m p q) (suc q * suc h.len)
  unfolding group
  group_rising = go (is_listed h q (length rs)) (listed→ h q (length rs))
    where
      rest : Rising (key h p) (q * suc h.len + 1) rs (suc q * suc h.len)
      rest = rising_upper (key h p) rs (q * suc h.len + 1) (q * suc h.len + suc h.len) (suc q * suc h.len) (omega arith) (behind_rising h L m p q h.len)

      go : (b : Bool) → (T b → Write h q) → Rising (key h p) (q * suc h.len) (pick b (q ∷ rs) rs) (suc q * suc h.len)
      go true f = let e = key_write h p q (f tt).is in (omega arith, rising_lower (key h p) rs (suc (key h p q)) (q * suc h.len + 1) _ (omega arith) rest)
      go false f = rising_lower (key h p) rs (q * suc h.len) (q * suc h.len + 1) _ (omega arith) rest

-- The whole list.
pub build_rising : (h : History) (L : Laws h) (m : ℕ) (p : ℕ → ℕ) (n : ℕ) → Rising (key h p) 0 (build h m p n) (n * suc h.len)
unfolding build
build_rising h L m p zero = omega arith
build_rising h L m p (suc q) = rising_append (key h p) (build h m p q) _ _ _ _ (build_rising h L m p q) (group_rising h L m p q)

pub build_only : (h : History) (m : ℕ) (p : ℕ → ℕ) (n i x : ℕ) → Stands (build h m p n) i x → (j q : ℕ) × Stands (group h m p q) j x
unfolding build
build_only h m p zero i x s = absurd (omega arith)
build_only h m p (suc q) i x s = go (stands_cases (build h m p q) _ i x s) (build_only h m p q i x)
  where
    go : Stands (build h m p q) i x ⊎ ((j : ℕ) × Stands (group h m p q) j x)
        → (Stands (build h m p q) i x → (j q : ℕ) × Stands (group h m p q) j x) → (j q : ℕ) × Stands (group h m p q) j x
    go (inl t) f = f t
    go (inr t) f = (t.0, q, t.1)

build_has : (h : History) (m : ℕ) (p : ℕ → ℕ) (n q j x : ℕ) → q < n → Stands (group h m p q) j x → (i : ℕ) × Stands (build h m p n) i x
unfolding build
build_has h m p zero q j x a s = absurd (omega arith)
build_has h m p (suc n) q j x a s = go (ℕ_discrete q n) (λ b. build_has h m p n q j x b s)
  where
    go : Dec (q ≡ n) → (q < n → (i : ℕ) × Stands (build h m p n) i x) → (i : ℕ) × Stands (build h m p n ++ group h m p n) i x
    go (yes e) f = (length (build h m p n) + j, stands_right (build h m p n) _ j x (rw (← e) s))
    go (no k) f = let t = f (omega arith) in (t.0, stands_left (build h m p n) _ t.0 x t.1)

module _ (h : History) (L : Laws h) (m : ℕ) (p : ℕ → ℕ) (P : Placement h m p) where
  -- What precedes has the smaller key.
  before : (a b : ℕ) → Write h a ⊎ Read h m a → Write h b ⊎ Read h m b → h.end a < b → key h p a < key h p b
  before a b (inl x) (inl y) c =
      rw (key_write h p a x.is, key_write h p b y.is)
      (omega (arith, lex' (suc h.len) a b 0 0 (omega (arith, L.write_end a x.is x.real)) (omega arith)))
  before a b (inl x) (inr y) c =
      rw (key_write h p a x.is, key_read h p b y.is)
      (omega (arith, lex (suc h.len) a (p b) 0 (suc (h.end b)) (P.late a b x.is y c) (omega arith)))
  before a b (inr x) (inl y) c =
      rw (key_read h p a x.is, key_write h p b y.is)
      (omega (arith, lex' (suc h.len) (p a) b (suc (h.end a)) 0 (omega (arith, P.early a x)) (omega (arith, x.ended))))
  before a b (inr x) (inr y) c =
      rw (key_read h p a x.is, key_read h p b y.is)
      (lex (suc h.len) (p a) (p b) (suc (h.end a)) (suc (h.end b)) (P.mono a b x y c) (omega (arith, L.read_end b y.is)))

  pub key_bound : (x : ℕ) → Write h x ⊎ Read h m x → key h p x < h.len * suc h.len
  key_bound x (inl u) = omega (arith, key_write h p x u.is, mul-le-mul_right (suc h.len) (L.write x u.is))
  key_bound x (inr u) = omega (arith, key_read h p x u.is, u.ended, mul-le-mul_right (suc h.len) (L.write (p x) (P.source x u)))

  abbrev pub l : List ℕ
  l = build h m p h.len

  pub only : (i x : ℕ) → Stands l i x → Write h x ⊎ Read h m x
  unfolding build
  only i x s = let t = build_only h m p h.len i x s in go (group_only h L m p t.1 t.0 x t.2)
    where
      go : {q : ℕ} → (Write h x × (x ≡ q)) ⊎ (Read h m x × (p x ≡ q)) → Write h x ⊎ Read h m x
      go (inl u) = inl u.0
      go (inr u) = inr u.0

  pub has_read : (r : ℕ) → Read h m r → (i : ℕ) × Stands l i r
  unfolding build
  has_read r x = let t = group_read h L m p (p r) r x refl in build_has h m p h.len (p r) t.0 r (L.write (p r) (P.source r x)) t.1

  pub has_write : (w : ℕ) → Write h w → (h.end w < h.len) ⊎ (0 < length (behind h m p w h.len)) → (i : ℕ) × Stands l i w
  unfolding build
  has_write w x c = let t = group_write h L m p w x c in build_has h m p h.len w t.0 w (L.write w x.is) t.1

  by_key : (i j x y : ℕ) → Stands l i x → Stands l j y → key h p x < key h p y → i < j
  unfolding build
  by_key i j x y = rising_before (key h p) l 0 (h.len * suc h.len) i j x y (build_rising h L m p h.len)

  pub key_by : (i j x y : ℕ) → Stands l i x → Stands l j y → i < j → key h p x < key h p y
  unfolding build
  key_by i j x y = rising_lt (key h p) l 0 (h.len * suc h.len) i j x y (build_rising h L m p h.len)

  once : (i j x : ℕ) → Stands l i x → Stands l j x → i ≡ j
  once i j x s t = go (dec_lt i j) (dec_lt j i)
    where
      go : Dec (i < j) → Dec (j < i) → i ≡ j
      go (yes a) _ = absurd (omega (arith, key_by i j x x s t a))
      go (no a) (yes b) = absurd (omega (arith, key_by j i x x t s b))
      go (no a) (no b) = omega arith

  -- The last write before a read is its place.
  rise : (i j a b : ℕ) → Stands l i a → Stands l j b → h.kind a ≡ 1 → h.kind b ≡ 1 → i < j → a ≤ b
  rise i j a b s t x y c = go (dec_lt b a)
    where
      go : Dec (b < a) → a ≤ b
      go (no n) = omega arith
      go (yes d) =
          let k = key_by i j a b s t c in
          absurd (omega (arith, key_write h p a x, key_write h p b y, lex' (suc h.len) b a 0 0 d (omega arith)))

  pub last_place : (i r : ℕ) → Stands l i r → Read h m r → last_write h l i ≡ p r
  last_place i r s x = omega (arith, upper (last_write_is h l i (omega arith)), lower (dec_lt 0 (p r)))
    where
      upper : (last_write h l i ≡ 0) ⊎ ((j : ℕ) × (j < i) × Stands l j (last_write h l i) × (h.kind (last_write h l i) ≡ 1)) → last_write h l i ≤ p r
      upper (inl e) = omega arith
      upper (inr t) = go (dec_lt (p r) (last_write h l i))
        where
          go : Dec (p r < last_write h l i) → last_write h l i ≤ p r
          go (no n) = omega arith
          go (yes d) =
              absurd (omega (
                arith,
                key_by t.0 i (last_write h l i) r t.2 s t.1,
                key_write h p (last_write h l i) t.3,
                key_read h p r x.is,
                lex' (suc h.len) (p r) (last_write h l i) (suc (h.end r)) 0 d (omega (arith, x.ended)),
              ))

      lower : Dec (0 < p r) → p r ≤ last_write h l i
      lower (no n) = omega arith
      lower (yes d) =
          let e = P.source r x in
          let b = behind_has h L m p (p r) h.len r x refl x.ended in
          let t = has_write (p r) (record { is = e; real = d }) (inr (omega (arith, b.1))) in
          let c : t.0 < i = by_key t.0 i (p r) r t.1 s
          (rw (key_write h p (p r) e, key_read h p r x.is) (omega arith)) in
          last_write_ge h l rise i t.0 (p r) (omega arith) c t.1 e

  pub ordered : Linearization h m (build h m p h.len)
  unfolding build
  ordered = record {
    only = only;
    writes = λ w x a. has_write w x (inl a);
    reads = has_read;
    once = once;
    respects = λ i j a b s t c. by_key i j a b s t (before a b (only i a s) (only j b t) c);
    reading = λ i r s x. rw (last_place i r s x) (P.suits r x);
  }

pub build_needed : (h : History) (L : Laws h) (m : ℕ) (p : ℕ → ℕ) (n i x : ℕ) → Stands (build h m p n) i x → Write h x
    → (h.end x < h.len) ⊎ ((r : ℕ) × Read h m r × (p r ≡ x))
build_needed h L m p n i x s w = let t = build_only h m p n i x s in group_needed h L m p t.1 t.0 x t.2 w
