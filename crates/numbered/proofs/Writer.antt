-- The writer's steps keep the invariant.
use mathlib.Core.Path.{◌≡◌, refl, sym, subst}
use mathlib.Core.Logic.{◌≢◌, ◌⊎◌, inl, inr}
use mathlib.Core.List.{List, [], ◌∷◌, Memᴰ}
use Prim.Native.Nat.{ℕ, suc, ◌≤◌, ◌<◌, pred}
use native.Mathlib.Omega.{arith}
use Rattle.words.specs.Update.{upd}
use Rattle.words.proofs.Laws.Update.{upd_elim}
use Rattle.numbered.proofs.Splits.{eq_or}
use Rattle.numbered.proofs.Machine.{Reader, St, Bars, Kept, Inv}
use Rattle.numbered.proofs.Frame.{Later, reach_up, ok_up}

module _ (n : ℕ) (c : ℕ → ℕ) where
  -- A write begins.
  abbrev pub w_begin : St → St
  w_begin s = record { K = s.K; D = s.D; F = s.F; wk = 1; B = c s.K ∷ c (pred s.K) ∷ []; w = s.w; x = s.x }

  pub w_begin_inv : (s : St) (me : ℕ → Reader) → Inv n c s me → s.K ≡ s.D → Inv n c (w_begin s) me
  w_begin_inv s me v e = record {
    next = v.next;
    next2 = v.next2;
    D-pos = v.D-pos;
    D-K = v.D-K;
    K-D = v.K-D;
    D-F = v.D-F;
    F-K = v.F-K;
    D-w = v.D-w;
    w_K = v.w_K;
    writer = λ _. (e, Memᴰ.head refl, Memᴰ.tail (Memᴰ.head refl));
    rd = λ i h. ok_up n c s (w_begin s) i (me i) (later i (me i)) (λ j _. refl) (reach_up n c s (w_begin s) i _ _ (later i (me i)) _ (v.rd i h).reach) (v.rd i h);
  }
    where
      later : (i : ℕ) (r : Reader) → Later n c s (w_begin s) i r.o r.a
      later i r = record {
        K-up = omega arith;
        D-up = omega arith;
        F-up = omega arith;
        w_up = omega arith;
        cov_up = λ j _ _ p h. h;
        kept_up = λ q _ k. record { fresh = k.fresh; saw = λ z. absurd (omega arith) };
      }

  -- The writer reads the cell of reader k. B': the barred tickets with that cell's.
  abbrev pub w_read : St → List ℕ → St
  w_read s B' = record { K = s.K; D = s.D; F = s.F; wk = suc s.wk; B = B'; w = s.w; x = s.x }

  pub w_read_inv : (s : St) (me : ℕ → Reader) (k : ℕ) (B' : List ℕ) → Inv n c s me → s.wk ≡ suc k →
      ((t : ℕ) → Memᴰ t s.B → Memᴰ t B') → ((t : ℕ) → Bars n c (me k).o (me k).a t → Memᴰ t B') → Inv n c (w_read s B') me
  w_read_inv s me k B' v e old new = record {
    next = v.next;
    next2 = v.next2;
    D-pos = v.D-pos;
    D-K = v.D-K;
    K-D = v.K-D;
    D-F = v.D-F;
    F-K = v.F-K;
    D-w = v.D-w;
    w_K = v.w_K;
    writer = λ _. let z = v.writer (omega arith) in (z.0, old _ z.1, old _ z.2);
    rd = λ i h. ok_up n c s (w_read s B') i (me i) (later i) (λ j _. refl) (reach_up n c s (w_read s B') i _ _ (later i) _ (v.rd i h).reach) (v.rd i h);
  }
    where
      saw : (i q : ℕ) → Bars n c (me i).o (me i).a (c q) → Kept n c s i q → (i ≡ k) ⊎ (i ≢ k) → suc i < suc s.wk → Memᴰ (c q) B'
      saw i q b kp (inl f) h = new (c q) (subst (λ (z : ℕ). Bars n c (me z).o (me z).a (c q)) f b)
      saw i q b kp (inr f) h = old (c q) (kp.saw (omega arith))

      later : (i : ℕ) → Later n c s (w_read s B') i (me i).o (me i).a
      later i = record {
        K-up = omega arith;
        D-up = omega arith;
        F-up = omega arith;
        w_up = omega arith;
        cov_up = λ j _ _ p h. h;
        kept_up = λ q b kp. record { fresh = kp.fresh; saw = saw i q b kp (eq_or i k) };
      }

  -- The writer takes its ticket: any that differs from its own cur and prev and from all that readers keep.
  abbrev pub w_ticket : St → St
  w_ticket s = record { K = suc s.K; D = s.D; F = s.F; wk = 0; B = []; w = s.w; x = s.x }

  pub w_new_inv : (s : St) (me : ℕ → Reader) → Inv n c s me → s.K ≡ s.D → c (suc s.K) ≢ c s.K → c (suc s.K) ≢ c (pred s.K) →
      ((i q : ℕ) → i < n → q ≤ s.K → Kept n c s i q → c (suc s.K) ≢ c q) → Inv n c (w_ticket s) me
  w_new_inv s me v e cur prv other = record {
    next = λ k h. next k h (eq_or k s.K);
    next2 = λ k h. next2 k h (eq_or (suc k) s.K);
    D-pos = v.D-pos;
    D-K = omega arith;
    K-D = omega arith;
    D-F = v.D-F;
    F-K = omega arith;
    D-w = v.D-w;
    w_K = λ i. omega (arith, v.w_K i);
    writer = λ h. absurd (omega arith);
    rd = λ i h. ok_up n c s (w_ticket s) i (me i) (later i h) (λ j _. refl) (reach_up n c s (w_ticket s) i _ _ (later i h) _ (v.rd i h).reach) (v.rd i h);
  }
    where
      next : (k : ℕ) → suc k ≤ suc s.K → (k ≡ s.K) ⊎ (k ≢ s.K) → c (suc k) ≢ c k
      next k h (inl f) = rw f cur
      next k h (inr f) = v.next k (omega arith)

      next2 : (k : ℕ) → suc (suc k) ≤ suc s.K → (suc k ≡ s.K) ⊎ (suc k ≢ s.K) → c (suc (suc k)) ≢ c k
      next2 k h (inl f) = let g : k ≡ pred s.K = omega arith in rw (f, g) prv
      next2 k h (inr f) = v.next2 k (omega arith)

      fresh : (i q : ℕ) → i < n → Kept n c s i q → (m : ℕ) → q < m → m ≤ suc s.K → (m ≡ suc s.K) ⊎ (m ≢ suc s.K) → c m ≢ c q
      fresh i q h kp m a b (inl f) = rw f (other i q h (omega arith) kp)
      fresh i q h kp m a b (inr f) = kp.fresh m a (omega arith)

      later : (i : ℕ) → i < n → Later n c s (w_ticket s) i (me i).o (me i).a
      later i h = record {
        K-up = omega arith;
        D-up = omega arith;
        F-up = omega arith;
        w_up = omega arith;
        cov_up = λ j _ _ p g. g;
        kept_up = λ q b kp. record { fresh = λ m l u. fresh i q h kp m l u (eq_or m (suc s.K)); saw = λ g. absurd (omega arith) };
      }

  -- Any that is not barred, once it has read all the cells.
  pub w_ticket_inv : (s : St) (me : ℕ → Reader) → Inv n c s me → s.wk ≡ suc n → ¬ Memᴰ (c (suc s.K)) s.B → Inv n c (w_ticket s) me
  w_ticket_inv s me v e free =
      let z = v.writer (omega arith) in
      w_new_inv s me v z.0 (clash s.K z.1) (clash (pred s.K) z.2) (λ i q h _ kp. clash q (kp.saw (omega arith)))
    where
      clash : (q : ℕ) → Memᴰ (c q) s.B → c (suc s.K) ≢ c q
      clash q m f = free (subst (λ (t : ℕ). Memᴰ t s.B) (sym f) m)

  -- The writer stores to reader i.
  abbrev pub w_store : St → ℕ → St
  w_store s i = record { K = s.K; D = s.D; F = s.F; wk = s.wk; B = s.B; w = upd s.w i s.K; x = s.x }

  pub w_store_inv : (s : St) (me : ℕ → Reader) (k : ℕ) → Inv n c s me → Inv n c (w_store s k) me
  w_store_inv s me k v = record {
    next = v.next;
    next2 = v.next2;
    D-pos = v.D-pos;
    D-K = v.D-K;
    K-D = v.K-D;
    D-F = v.D-F;
    F-K = v.F-K;
    writer = v.writer;
    D-w = upd_elim (λ i z. i < n → s.D ≤ z) s.w k s.K (λ _. v.D-K) (λ i _. v.D-w i);
    w_K = upd_elim (λ i z. z ≤ s.K) s.w k s.K (omega arith) (λ i _. v.w_K i);
    rd = λ i h. ok_up n c s (w_store s k) i (me i) (later i (me i)) (λ j _. refl) (reach_up n c s (w_store s k) i _ _ (later i (me i)) _ (v.rd i h).reach) (v.rd i h);
  }
    where
      up : (i : ℕ) → s.w i ≤ upd s.w k s.K i
      up = upd_elim (λ i z. s.w i ≤ z) s.w k s.K (v.w_K k) (λ i _. omega arith)

      later : (i : ℕ) (r : Reader) → Later n c s (w_store s k) i r.o r.a
      later i r = record {
        K-up = omega arith;
        D-up = omega arith;
        F-up = omega arith;
        w_up = up i;
        cov_up = λ j _ _ p h. omega (arith, up i);
        kept_up = λ q _ k. record { fresh = k.fresh; saw = k.saw };
      }

  -- The write ends, once every reader's cell holds it.
  abbrev pub w_end : St → St
  w_end s = record { K = s.K; D = s.K; F = s.K; wk = 0; B = []; w = s.w; x = s.x }

  pub w_end_inv : (s : St) (me : ℕ → Reader) → Inv n c s me → ((i : ℕ) → i < n → s.w i ≡ s.K) → Inv n c (w_end s) me
  w_end_inv s me v all = record {
    next = v.next;
    next2 = v.next2;
    D-pos = omega arith;
    D-K = omega arith;
    K-D = omega arith;
    D-F = omega arith;
    F-K = omega arith;
    writer = λ h. absurd (omega arith);
    D-w = λ i h. omega (arith, all i h);
    w_K = v.w_K;
    rd = λ i h. ok_up n c s (w_end s) i (me i) (later i (me i)) (λ j _. refl) (inl (omega (arith, all i h))) (v.rd i h);
  }
    where
      later : (i : ℕ) (r : Reader) → Later n c s (w_end s) i r.o r.a
      later i r = record {
        K-up = omega arith;
        D-up = omega arith;
        F-up = omega arith;
        w_up = omega arith;
        cov_up = λ j _ _ p h. h;
        kept_up = λ q _ k. record { fresh = k.fresh; saw = λ z. absurd (omega arith) };
      }
