-- How many writes were begun: the numbers of a lag, by the writes that they count.
use Prim.Native.Nat.{ℕ, suc, zero, ◌≤◌, ◌<◌, ◌+◌, ◌-◌}
use native.Mathlib.Omega.{arith}
use native.Mathlib.Numerals.{add-one}
use mathlib.Core.Path.{◌≡◌, refl, ap}
use mathlib.Core.Bool.{Bool, true, false, ◌&&◌}
use mathlib.Core.List.{List, [], ◌∷◌}
use lib.Dec.{T, eqb, ltb, eqb→eq, ltb→lt, lt→ltb}
use lib.ListN.{length, get_or, length-append}
use borrow.Author.Tests.{lt-ltb, le-ltb}
use Rattle.words.specs.Choice.{pick}
use Rattle.words.proofs.Laws.Choice.{and_T, T-left, T-right, eq→T}
use Rattle.history.specs.Rows.{kind_of, kind_at}
use Rattle.history.specs.History.{event_at, history_of, Write}
use Rattle.lags.specs.Lag.{begun_before, rank_of}
use Rattle.lags.specs.Sheet.{picked}
use Rattle.lags.specs.Meaning.{Number}
use Rattle.lags.proofs.Counting.{with_one, begun_suc, rank_start}
use Rattle.lags.proofs.Picked.{picked_only, picked_all, picked_rising}

same_number : {P Q : ℕ → Type 0} {n : ℕ} → ((x : ℕ) → P x → Q x) → ((x : ℕ) → Q x → P x) → Number P n → Number Q n
same_number f g N = record {
  which = N.which;
  these = record { only = λ i x s. f x (N.these.only i x s); all = λ x q. N.these.all x (g x q); rising = N.these.rising };
  number = N.number;
}

module _ (log : List ℕ) where
  is_write : ℕ → Bool
  is_write w = eqb (event_at log w) 1 && ltb 0 w

  →write : (w : ℕ) → Write (history_of log) w → T (is_write w)
  unfolding is_write
  →write w W = and_T (eqb (event_at log w) 1) _ (eq→T _ _ W.is) (lt→ltb 0 w W.real)

  write→ : (w : ℕ) → T (is_write w) → Write (history_of log) w
  unfolding is_write
  write→ w t = record { is = eqb→eq _ _ (T-left (eqb (event_at log w) 1) _ t); real = ltb→lt 0 w (T-right (eqb (event_at log w) 1) _ t) }

  -- The writes behind row q: how many are begun there before row k.
  is_behind : ℕ → ℕ → Bool
  is_behind q w = is_write w && ltb q w

  behind_to : ℕ → ℕ → List ℕ
  behind_to q k = picked (is_behind q) (λ w. w) k

  one : (b : Bool) (k : ℕ) → length (pick b (k ∷ []) []) ≡ pick b 1 0
  one true k = refl
  one false k = refl

  -- at a row behind q it is a write exactly if a write begins there
  at_row : (q k : ℕ) → q < k → ◌≡◌ {A = ℕ} (pick (is_behind q k) 1 0) (pick (eqb (kind_of (get_or log k 0)) 1) 1 0)
  unfolding is_behind is_write event_at kind_at
  at_row q zero a = absurd (omega arith)
  at_row q (suc k) a = rw (lt-ltb 0 (suc k) (omega arith), lt-ltb q (suc k) a) (split (eqb (kind_of (get_or log (suc k) 0)) 1))
    where
      split : (b : Bool) → ◌≡◌ {A = ℕ} (pick ((b && true) && true) 1 0) (pick b 1 0)
      split true = refl
      split false = refl

  behind_suc : (q k : ℕ) → length (behind_to q (k + 1)) ≡ length (behind_to q k) + pick (is_behind q k) 1 0
  unfolding behind_to picked
  behind_suc q k = rw (add-one k, length-append (picked (is_behind q) (λ w. w) k) (pick (is_behind q k) (k ∷ []) [])) (ap (λ (n : ℕ). length (behind_to q k) + n) (one (is_behind q k) k))

  no_write : (q k : ℕ) → k ≤ q → is_behind q k ≡ false
  unfolding is_behind
  no_write q k a = rw (le-ltb q k a) (none (is_write k))
    where
      none : (b : Bool) → (b && false) ≡ false
      none true = refl
      none false = refl

  -- none are, up to row q
  behind_none : (q k : ℕ) → k ≤ q + 1 → length (behind_to q k) ≡ 0
  unfolding behind_to picked
  behind_none q zero a = refl
  behind_none q (suc k) a =
      rw (length-append (picked (is_behind q) (λ w. w) k) (pick (is_behind q k) (k ∷ []) []), behind_none q k (omega arith)) (not_yet (is_behind q k) (no_write q k (omega arith)))
    where
      not_yet : (b : Bool) → b ≡ false → 0 + length (pick b (k ∷ []) []) ≡ 0
      not_yet b e = rw e

  behind_more : (q n : ℕ) → length (behind_to q (q + 1 + n)) + rank_of log q ≡ begun_before log (q + 1 + n)
  unfolding rank_of
  behind_more q zero =
      let e : q + 1 + 0 ≡ q + 1 = omega arith in
      rw e (omega (arith, behind_none q (q + 1) (omega arith)))
  behind_more q (suc n) =
      let k = q + 1 + n in
      let e : q + 1 + suc n ≡ k + 1 = omega arith in
      rw e (omega (arith, behind_more q n, behind_suc q k, at_row q k (omega arith), begun_suc log k (omega arith), with_one (get_or log k 0) (begun_before log k)))

  -- So the writes behind row q and before row k are as many as those begun before row k, less q's rank;
  pub number_between : {q k n : ℕ} → q < k → n + rank_of log q ≡ begun_before log k → Number (λ w. Write (history_of log) w × (q < w) × (w < k)) n
  unfolding behind_to is_behind
  number_between {q} {k} {n} a e = record {
    which = behind_to q k;
    these = record {
      only = λ i x s.
          let p = picked_only (is_behind q) (λ w. w) k i x s in
          let W = write→ p.0 (T-left (is_write p.0) _ p.2) in
          let b = ltb→lt q p.0 (T-right (is_write p.0) _ p.2) in
          (rw p.3 at W, omega (arith, p.3), omega (arith, p.1, p.3));
      all = λ x p. picked_all (is_behind q) (λ w. w) k x p.2 (and_T (is_write x) _ (→write x p.0) (lt→ltb q x p.1));
      rising = picked_rising (is_behind q) (λ w. w) (λ e f _ _ d. d) k;
    };
    number = let z : q + 1 + (k - (q + 1)) ≡ k = omega arith in omega (arith, rw z at (behind_more q (k - (q + 1))));
  }

  -- those begun before row k are the ones behind the start,
  pub number_begun : {k : ℕ} → 0 < k → Number (λ w. Write (history_of log) w × (w < k)) (begun_before log k)
  number_begun a = same_number (λ w x. (x.0, x.2)) (λ w x. (x.0, x.0.real, x.1)) (number_between a (omega (arith, rank_start log)))

  -- and q's rank is the number of those up to it.
  pub number_rank : (q : ℕ) → Number (λ w. Write (history_of log) w × (w ≤ q)) (rank_of log q)
  unfolding rank_of
  number_rank q = same_number (λ w x. (x.0, omega (arith, x.1))) (λ w x. (x.0, omega (arith, x.1))) (number_begun {k = q + 1} (omega arith))
