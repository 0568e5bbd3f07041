-- A register's table by the processors from and to whom its cells are: what a store leaves, and a table that goes on behind its cells.
use Prim.Native.Nat.{ℕ, ◌≤◌, ◌<◌}
use mathlib.Core.Path.{◌≡◌, sym, ap, ◌∙◌}
use mathlib.Core.Logic.{◌≢◌, ◌⊎◌, inl, inr}
use mathlib.Core.List.{List, ◌++◌}
use native.Mathlib.Omega.{arith}
use lib.ListN.{length, get_or, set, length-set, get_or-append}
use lib.Seq.{get_or-set_same, get_or-set_other, set-append_left}

-- The cells of a table, by processors i and j of which i Has a cell to j, and their words.
pub record Places (Cell : Type 0) : Type 1 where
  pub cells : ℕ
  pub Has : ℕ → ℕ → Type 0
  pub place : ℕ → ℕ → ℕ
  pub place_low : (i j : ℕ) → Has i j → place i j < cells
  pub place_inj : (i j k l : ℕ) → Has i j → Has k l → place i j ≡ place k l → (i ≡ k) × (j ≡ l)
  pub pack : Cell → ℕ
  pub unpack : ℕ → Cell
  pub Fits : Cell → Type 0
  pub unpack_pack : (c : Cell) → Fits c → unpack (pack c) ≡ c

module _ {Cell : Type 0} (P : Places Cell) where
  abbrev view : List ℕ → ℕ → ℕ → Cell
  view t i j = P.unpack (get_or t (P.place i j) 0)

  abbrev store : List ℕ → ℕ → ℕ → Cell → List ℕ
  store t i j c = set t (P.place i j) (P.pack c)

  -- The table is large enough, and stays so.
  abbrev pub Size : List ℕ → Type 0
  Size t = P.cells ≤ length t

  module _ (i j : ℕ) (t : List ℕ) (c : Cell) where
    pub size_store : Size t → Size (store t i j c)
    size_store h = rw length-set h

    module _ (v : P.Has i j) where
      pub view_same : P.Fits c → Size t → view (store t i j c) i j ≡ c
      view_same f h =
          ap P.unpack (get_or-set_same t (P.place i j) (P.pack c) 0 (omega (arith, P.place_low i j v))) ∙ P.unpack_pack c f

      pub view_other : (k l : ℕ) → P.Has k l → (i ≢ k) ⊎ (j ≢ l) → view (store t i j c) k l ≡ view t k l
      view_other k l w d =
          ap P.unpack
          (get_or-set_other t (P.place i j) (P.place k l) (P.pack c) 0 (λ e. apart d (P.place_inj i j k l v w (sym e))))
        where
          apart : (i ≢ k) ⊎ (j ≢ l) → (i ≡ k) × (j ≡ l) → ⊥
          apart (inl g) p = g p.0
          apart (inr g) p = g p.1

  -- A table that goes on behind its cells.
  module _ (t x : List ℕ) (size : length t ≡ P.cells) (i j : ℕ) (v : P.Has i j) where
    pub word_front : get_or (t ++ x) (P.place i j) 0 ≡ get_or t (P.place i j) 0
    word_front = get_or-append t x 0 (P.place i j) (omega (arith, P.place_low i j v))

    pub view_front : view (t ++ x) i j ≡ view t i j
    view_front = ap P.unpack word_front

    pub store_front : (c : Cell) → store (t ++ x) i j c ≡ store t i j c ++ x
    store_front c = set-append_left t x (P.place i j) (P.pack c) (omega (arith, P.place_low i j v))
