-- The lines of a log's rows from row 1 on, one behind the other.
use Prim.Native.Nat.{ℕ, ◌+◌, ◌≤◌, ◌<◌}
use native.Mathlib.Omega.{arith}
use mathlib.Core.Path.{◌≡◌, refl, sym, ap, ◌∙◌}
use mathlib.Core.List.{List, [], ◌∷◌, ◌++◌, append-nil, append_assoc}
use lib.ListN.{length, get_or, take, drop, length-drop, length-take}
use lib.Seq.{drop-append-le}
use Rattle.lines.specs.Lines.{row_line, row_lines, rows_text}
use Rattle.lines.specs.Adds.{Adds, Sink}
use Rattle.lines.proofs.Adds.{no_text, next_adds}

row_more : (k : ℕ) (ws : List ℕ) (w : ℕ) → row_lines k (ws ++ (w ∷ [])) ≡ row_lines k ws ++ row_line (k + length ws) w
unfolding row_lines
row_more k [] w =
    let e : k + 0 ≡ k = omega arith in
    rw e (append-nil (row_line k w))
row_more k (v ∷ ws) w =
    let e : k + length (v ∷ ws) ≡ k + 1 + length ws = omega arith in
    rw e
    (ap (λ (t : List ℕ). row_line k v ++ t) (row_more (k + 1) ws w)
    ∙ sym (append_assoc (row_line k v) (row_lines (k + 1) ws) (row_line (k + 1 + length ws) w)))

no_row : (rows : List ℕ) → rows_text (take 1 rows) ≡ []
unfolding row_lines
no_row [] = refl
no_row (w ∷ rows) = refl

pub no_rows : (rows : List ℕ) (a : Sink) → Adds (rows_text (take 1 rows)) a a
no_rows rows a = rw (no_row rows) (no_text a)

module _ (rows : List ℕ) (k : ℕ) (i : 1 ≤ k) (h : k < length rows) where
  one_row : rows_text (take k rows ++ (get_or rows k 0 ∷ [])) ≡ rows_text (take k rows) ++ row_line k (get_or rows k 0)
  one_row =
      let e : 1 + length (drop 1 (take k rows)) ≡ k = omega (arith, length-drop 1 (take k rows), length-take k rows) in
      ap (row_lines 1) (drop-append-le 1 (take k rows) (get_or rows k 0 ∷ []) (omega (arith, length-take k rows)))
      ∙ row_more 1 (drop 1 (take k rows)) (get_or rows k 0)
      ∙ ap (λ (n : ℕ). rows_text (take k rows) ++ row_line n (get_or rows k 0)) e

  -- row k behind those before it
  pub next_row : {a b c : Sink} → Adds (rows_text (take k rows)) a b → Adds (row_line k (get_or rows k 0)) b c → Adds (rows_text (take (k + 1) rows)) a c
  next_row f g = next_adds rows_text rows k h one_row f g
