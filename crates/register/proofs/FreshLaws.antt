-- The fresh table, as the code fills it: row by row.
use Prim.Native.Nat.{ℕ, ◌+◌, ◌-◌, ◌*◌, ◌≤◌}
use mathlib.Core.Path.{◌≡◌, sym, ap, ◌∙◌}
use mathlib.Core.List.{List, ◌++◌, append-nil, append_assoc}
use native.Mathlib.Nat.{mul-le-mul_left}
use native.Mathlib.Omega.{arith}
use lib.ListN.{length, take, drop, replicate, replicate-append-replicate, length-drop, drop_of_length-le}
use lib.Seq.{take_at, drop_at, drop-drop, take_all}
use Rattle.common.proofs.Buffers.{two_length}

module _ (n own other : ℕ) where
  -- the first i rows
  abbrev pub rows_of : ℕ → List ℕ
  rows_of i = replicate n own ++ replicate (n * i - n) other

  rows_length : (i : ℕ) → 1 ≤ i → length (rows_of i) ≡ n * i
  rows_length i h = two_length n (n * i - n) own other ∙ omega (arith, mul-le-mul_left n h)

  next_rows : (i : ℕ) → 1 ≤ i → rows_of i ++ replicate n other ≡ rows_of (i + 1)
  next_rows i h =
      let e : n * i - n + n ≡ n * (i + 1) - n = omega (arith, mul-le-mul_left n h) in
      append_assoc (replicate n own) (replicate (n * i - n) other) (replicate n other)
      ∙ ap (λ (l : List ℕ). replicate n own ++ l) (replicate-append-replicate (n * i - n) n other ∙ ap (λ (k : ℕ). replicate k other) e)

  -- the writer's row, in the table t
  pub row_first : (t : List ℕ) → replicate n own ++ drop (0 + n) t ≡ rows_of 1 ++ drop (n * 1) t
  row_first t =
      let e1 : n * 1 - n ≡ 0 = omega arith in
      let e2 : n * 1 ≡ 0 + n = omega arith in
      rw (e1, e2, append-nil (replicate n own))

  -- one row more
  pub row_more : (t x : List ℕ) (i : ℕ) → 1 ≤ i → x ≡ rows_of i ++ drop (n * i) t
      → (take (n * i) x ++ replicate n other) ++ drop (n * i + n) x ≡ rows_of (i + 1) ++ drop (n * (i + 1)) t
  row_more t x i h e =
      let z = rows_length i h in
      let last : n * i + n ≡ n * (i + 1) = omega arith in
      let y : drop (n * i + n) (rows_of i ++ drop (n * i) t) ≡ drop (n * (i + 1)) t =
      sym (drop-drop n (n * i) (rows_of i ++ drop (n * i) t)) ∙ ap (drop n) (drop_at (rows_of i) (drop (n * i) t) (n * i) z) ∙ drop-drop n (n * i) t ∙ ap (λ (k : ℕ). drop k t) last in
      rw (e, take_at (rows_of i) (drop (n * i) t) (n * i) z, next_rows i h, y)

-- A table whose end from `at` on has got n words at its front.
pub filled_part : (t : List ℕ) (at n w : ℕ) → at ≤ length t
    → take at t ++ ((replicate n w ++ drop n (take (length t - at) (drop at t))) ++ drop (length t - at) (drop at t))
    ≡ (take at t ++ replicate n w) ++ drop (at + n) t
filled_part t at n w h =
    let e : length (drop at t) ≤ length t - at = omega (arith, length-drop at t) in
    rw (take_all (length t - at) (drop at t) e, drop_of_length-le (drop at t) e, append-nil, drop-drop n at t)
    (sym (append_assoc (take at t) (replicate n w) (drop (at + n) t)))
