-- A well-formed log's history meets the laws of histories.
use Prim.Native.Nat.{ℕ, suc, zero, ◌≤◌, ◌<◌, ◌-◌}
use native.Mathlib.Omega.{arith}
use native.Mathlib.Decide.{ℕ_discrete, dec_lt}
use mathlib.Core.Path.{◌≡◌, refl, ◌∙◌, sym}
use mathlib.Core.Bool.{Bool, true, false, ◌||◌}
use mathlib.Core.Logic.{◌⊎◌, inl, inr}
use mathlib.Core.List.{List}
use lib.Dec.{T, eqb, ltb, eqb→eq, ltb→lt}
use lib.ListN.{length, get_or, get_or-eq_default}
use Rattle.history.specs.History.{event_at, end_at, history_of}
use Rattle.history.proofs.Ends.{fin_is}
use Rattle.history.proofs.Placement.{Laws}
use Rattle.words.proofs.Laws.Choice.{eq→T, T-left, T-right}
use Rattle.history.specs.Search.{first}
use Rattle.history.proofs.Search.{first_ge, first_le, first_passes, first_least, first_is}
use Rattle.history.specs.Rows.{kind_of, kind_at, processor_at, begins_at}
use Rattle.history.specs.WellFormed.{open_at, head_ok, row_ok, well_formed}
use Rattle.history.proofs.Operations.{RowOk, begin_is, row→, all_at, Opened, open_le, open→, →open}

pub begin→ : (log : List ℕ) (k : ℕ) → T (begins_at log k) → (kind_at log k ≡ 1) ⊎ (kind_at log k ≡ 3)
begin→ log k = rw (begin_is log k) (go (eqb (kind_at log k) 1) (eqb (kind_at log k) 3) (eqb→eq _ _) (eqb→eq _ _))
  where
    go : (a b : Bool) → (T a → kind_at log k ≡ 1) → (T b → kind_at log k ≡ 3) → T (a || b) → (kind_at log k ≡ 1) ⊎ (kind_at log k ≡ 3)
    go true b f g t = inl (f tt)
    go false b f g t = inr (g t)

module _ (log : List ℕ) (wf : T (well_formed log)) where
  pub nonempty : 0 < length log
  unfolding well_formed
  nonempty = ltb→lt _ _ (T-left (ltb 0 (length log)) _ wf)

  pub row_passes : (k : ℕ) → 0 < k → k < length log → T (row_ok log k)
  unfolding well_formed
  row_passes k a b = all_at (row_ok log) (length log) k (T-right (head_ok (get_or log 0 0)) _ (T-right (ltb 0 (length log)) _ wf)) a b

  pub row : (k : ℕ) → 0 < k → k < length log → RowOk log k
  row k a b = row→ log k (row_passes k a b)

  -- A row's kind in the history.
  pub kind_is : (k : ℕ) → 0 < k → event_at log k ≡ kind_at log k
  unfolding event_at
  kind_is zero a = absurd (omega arith)
  kind_is (suc k) a = refl

  outside : (k : ℕ) → length log ≤ k → kind_at log k ≡ 0
  unfolding kind_at kind_of
  outside k a = rw (get_or-eq_default log 0 a)

  inside : (k : ℕ) → 0 < event_at log k → k < length log
  inside zero a = nonempty
  inside (suc k) a = go (dec_lt (suc k) (length log))
    where
      go : Dec (suc k < length log) → suc k < length log
      go (yes b) = b
      go (no n) = absurd (omega (arith, kind_is (suc k) (omega arith), outside (suc k) (omega arith)))

  same : ℕ → ℕ → Bool
  same b j = eqb (processor_at log j) (processor_at log b)

  fin_bounds : (b : ℕ) → 0 < b → b < length log → (b < end_at log b) × (end_at log b ≤ length log)
  unfolding same
  fin_bounds b a c =
      rw (fin_is log b a) (omega (arith, first_ge (same b) (suc b) (length log - suc b), first_le (same b) (suc b) (length log - suc b)))

  -- At its end row an operation is open.
  opened : (b e : ℕ) → end_at log b ≡ e → 0 < b → b < length log → T (begins_at log b) → e < length log → Opened log (processor_at log e) e b
  unfolding same
  opened b e p a c t d =
      let q : first (same b) (suc b) (length log - suc b) ≡ e = sym (fin_is log b a) ∙ p in
      let u : T (same b e) = rw q at (first_passes (same b) (suc b) (length log - suc b) (omega arith)) in
      let v : processor_at log e ≡ processor_at log b = eqb→eq _ _ u in
      record {
        real = a;
        before = omega (arith, fin_bounds b a c);
        begin = t;
        own = sym v;
        none = λ j x y z. omega (arith, first_least (same b) (suc b) (length log - suc b) j x (omega arith) (eq→T (processor_at log j) (processor_at log b) (z ∙ v)));
      }

  closes : (b e : ℕ) → e < length log → Opened log (processor_at log e) e b → end_at log b ≡ e
  unfolding same
  closes b e c o =
      fin_is log b o.real
      ∙ first_is (same b) (suc b) (length log - suc b) e o.before (omega arith) (eq→T (processor_at log e) (processor_at log b) (sym o.own))
      (λ j x y z. o.none j x y (eqb→eq (processor_at log j) (processor_at log b) z ∙ o.own))

  -- A begin row and its end row are of one kind of operation.
  pairs : (b e : ℕ) → e < length log → Opened log (processor_at log e) e b → ((kind_at log b ≡ 1) × (kind_at log e ≡ 2)) ⊎ ((kind_at log b ≡ 3) × (kind_at log e ≡ 4))
  pairs b e c o = go (begin→ log b o.begin) (ℕ_discrete (kind_at log e) 1) (ℕ_discrete (kind_at log e) 2) (ℕ_discrete (kind_at log e) 3)
    where
      x : RowOk log b
      x = row b o.real (omega arith)

      y : RowOk log e
      y = row e (omega arith) c

      z : open_at log (processor_at log e) e ≡ b
      z = →open log (processor_at log e) e b o

      go : (kind_at log b ≡ 1) ⊎ (kind_at log b ≡ 3) → Dec (kind_at log e ≡ 1) → Dec (kind_at log e ≡ 2) → Dec (kind_at log e ≡ 3)
          → ((kind_at log b ≡ 1) × (kind_at log e ≡ 2)) ⊎ ((kind_at log b ≡ 3) × (kind_at log e ≡ 4))
      go p (yes k) _ _ = absurd (omega (arith, z, o.real, y.begins (inl k)))
      go p (no _) _ (yes k) = absurd (omega (arith, z, o.real, y.begins (inr k)))
      go (inl p) (no _) (yes k) (no _) = inl (p, k)
      go (inr p) (no _) (yes k) (no _) = absurd (omega (arith, o.own, y.writer (omega arith), x.reader (omega arith)))
      go (inl p) (no k) (no k') (no k'') = absurd (omega (arith, o.own, x.writer (omega arith), y.low, y.high, y.reader (omega (arith, y.low, y.high))))
      go (inr p) (no k) (no k') (no k'') = inr (p, omega (arith, y.low, y.high))

  begin_of_lem : (k c : ℕ) → event_at log k ≡ c → (c ≡ 1) ⊎ (c ≡ 3) → 0 < k → T (begins_at log k)
  begin_of_lem k c e (inl f) a = rw (begin_is log k, ← kind_is k a, e, f) tt
  begin_of_lem k c e (inr f) a = rw (begin_is log k, ← kind_is k a, e, f) tt

  real : (k c : ℕ) → event_at log k ≡ c → 1 < c → 0 < k
  unfolding event_at
  real zero c e a = absurd (omega arith)
  real (suc k) c e a = omega arith

  -- The end of an operation.
  done : (b c : ℕ) → event_at log b ≡ c → (c ≡ 1) ⊎ (c ≡ 3) → 0 < b → end_at log b < length log
      → (event_at log (end_at log b) ≡ suc c) × (open_at log (processor_at log (end_at log b)) (end_at log b) ≡ b)
  done b c e k a f =
      let i = inside b (cases k) in
      let o = opened b (end_at log b) refl a i (begin_of_lem b c e k a) f in
      (go (pairs b (end_at log b) f o), →open log _ _ b o)
    where
      cases : (c ≡ 1) ⊎ (c ≡ 3) → 0 < event_at log b
      cases (inl x) = omega arith
      cases (inr x) = omega arith

      go : ((kind_at log b ≡ 1) × (kind_at log (end_at log b) ≡ 2)) ⊎ ((kind_at log b ≡ 3) × (kind_at log (end_at log b) ≡ 4)) → event_at log (end_at log b) ≡ suc c
      go (inl x) = omega (arith, kind_is b a, kind_is (end_at log b) (omega (arith, fin_bounds b a (inside b (cases k)))))
      go (inr x) = omega (arith, kind_is b a, kind_is (end_at log b) (omega (arith, fin_bounds b a (inside b (cases k)))))

  -- The begin of an operation, from its end row.
  ended : (e c : ℕ) → event_at log e ≡ suc c → (c ≡ 1) ⊎ (c ≡ 3)
      → (event_at log (open_at log (processor_at log e) e) ≡ c) × (end_at log (open_at log (processor_at log e) e) ≡ e) × (open_at log (processor_at log e) e < e) × (e < length log)
  ended e c k w =
      let a : 0 < e = real e (suc c) k (big w) in
      let i : e < length log = inside e (omega arith) in
      let o = open→ log (processor_at log e) e ((row e a i).ends (which w a)) in
      (go a o (pairs _ e i o), closes _ e i o, o.before, i)
    where
      big : (c ≡ 1) ⊎ (c ≡ 3) → 1 < suc c
      big (inl x) = omega arith
      big (inr x) = omega arith

      which : (c ≡ 1) ⊎ (c ≡ 3) → 0 < e → (kind_at log e ≡ 2) ⊎ (kind_at log e ≡ 4)
      which (inl x) a = inl (omega (arith, kind_is e a))
      which (inr x) a = inr (omega (arith, kind_is e a))

      go : {b : ℕ} → 0 < e → Opened log (processor_at log e) e b → ((kind_at log b ≡ 1) × (kind_at log e ≡ 2)) ⊎ ((kind_at log b ≡ 3) × (kind_at log e ≡ 4)) → event_at log b ≡ c
      go {b} a o (inl x) = omega (arith, kind_is b o.real, kind_is e a)
      go {b} a o (inr x) = omega (arith, kind_is b o.real, kind_is e a)

  -- One write at a time.
  apart : (a b : ℕ) → 0 < a → event_at log a ≡ 1 → event_at log b ≡ 1 → a < b → end_at log a < b
  unfolding same
  apart a b p x y c = go (dec_lt (end_at log a) b)
    where
      ra : RowOk log a
      ra = row a p (inside a (omega arith))

      rb : RowOk log b
      rb = row b (omega arith) (inside b (omega arith))

      ka : kind_at log a ≡ 1
      ka = sym (kind_is a p) ∙ x

      kb : kind_at log b ≡ 1
      kb = sym (kind_is b (omega arith)) ∙ y

      own : processor_at log a ≡ processor_at log b
      own = omega (arith, ra.writer (omega (arith, ka)), rb.writer (omega (arith, kb)))

      go : Dec (end_at log a < b) → end_at log a < b
      go (yes d) = d
      go (no d) =
          let o : Opened log (processor_at log b) b a = record {
            real = p;
            before = c;
            begin = begin_of_lem a 1 x (inl refl) p;
            own = own;
            none = λ j u v z. omega (
              arith,
              fin_is log a p,
              inside b (omega arith),
              first_least (same a) (suc a) (length log - suc a) j u (omega (arith, inside b (omega arith))) (eq→T (processor_at log j) (processor_at log a) (z ∙ sym own)),
            );
          } in
          absurd (omega (arith, →open log (processor_at log b) b a o, rb.begins (inl kb)))

  alone : (a b : ℕ) → event_at log a ≡ 1 → event_at log b ≡ 1 → a < b → end_at log a < b
  unfolding end_at
  alone zero b x y c = c
  alone (suc a) b x y c = apart (suc a) b (omega arith) x y c

  pub laws : Laws (history_of log)
  unfolding event_at end_at
  laws = record {
    start = refl;
    start_end = refl;
    write = λ w e. inside w (omega arith);
    write_end = λ w e a. fin_bounds w a (inside w (omega arith));
    write_done = λ w e a. done w 1 e (inl refl) a;
    read_end = λ r e. fin_bounds r (real r 3 e (omega arith)) (inside r (omega arith));
    read_done = λ r e. done r 3 e (inr refl) (real r 3 e (omega arith));
    ended_write = λ e k. let t = ended e 1 k (inl refl) in (t.0, t.1, t.2);
    ended_read = λ e k. ended e 3 k (inr refl);
    back = λ e. open_le log (processor_at log e) e;
    alone = alone;
  }
