-- Keys as the code has them, what they decode to, and where they go.
use Prim.Native.Nat.{ℕ, suc, ◌≤◌, ◌<◌, ◌+◌, ◌*◌, ◌/◌, ◌%◌}
use native.Mathlib.Omega.{arith}
use mathlib.Core.Path.{◌≡◌, ap}
use mathlib.Core.Logic.{◌⊎◌, inl, inr, ◌≢◌}
use lib.Dec.{eqb}
use borrow.Author.Tests.{ne_eqb}
use Rattle.words.specs.Choice.{pick}
use Rattle.history.specs.History.{History}
use Rattle.history.specs.Sweep.{place}
use Rattle.history.proofs.Built.{key, key_write, key_read, lex, lex'}
use Rattle.judging.specs.Keys.{limit_of, decode}
use Rattle.judging.proofs.Sorted.{Sides}

-- the key that the code gives an operation
unfoldable pub code_key : History → ℕ → ℕ
code_key h x = pick (eqb (h.kind x) 1) (x * 8192) (place h x * 8192 + x)

pub code_key_write : (h : History) (x : ℕ) → h.kind x ≡ 1 → code_key h x ≡ x * 8192
unfolding code_key
code_key_write h x e = rw e

pub code_key_read : (h : History) (x : ℕ) → h.kind x ≡ 3 → code_key h x ≡ place h x * 8192 + x
unfolding code_key
code_key_read h x e = rw e

-- The parts of a key.
no_rest : (q : ℕ) → q * 8192 % 8192 ≡ 0
no_rest q = omega arith

rest_of : (q x : ℕ) → x < 8192 → (q * 8192 + x) % 8192 ≡ x
rest_of q x a = omega arith

place_of : (q x : ℕ) → x < 8192 → (q * 8192 + x) / 8192 ≡ q
place_of q x a = omega arith

decode_write : (x : ℕ) → decode (x * 8192) ≡ x
unfolding decode
decode_write x = rw (no_rest x) (omega arith)

decode_read : (q x : ℕ) → 0 < x → x < 8192 → decode (q * 8192 + x) ≡ x
unfolding decode
decode_read q x a b = rw (rest_of q x b, ne_eqb x 0 (omega arith))

-- A write or a read.
abbrev pub Op : History → ℕ → Type 0
Op h x = (0 < x) × ((h.kind x ≡ 1) ⊎ (h.kind x ≡ 3))

pub decode_code_key : (h : History) (x : ℕ) → Op h x → x < 8192 → decode (code_key h x) ≡ x
decode_code_key h x o a = go o.1
  where
    go : (h.kind x ≡ 1) ⊎ (h.kind x ≡ 3) → decode (code_key h x) ≡ x
    go (inl e) = rw (code_key_write h x e) (decode_write x)
    go (inr e) = rw (code_key_read h x e) (decode_read (place h x) x o.0 a)

-- the listing's key of the operation that a key of the code stands for
unfoldable pub rank : History → ℕ → ℕ
rank h x = key h (place h) (decode x)

pub rank_code_key : (h : History) (x : ℕ) → Op h x → x < 8192 → rank h (code_key h x) ≡ key h (place h) x
unfolding rank
rank_code_key h x o a = ap (key h (place h)) (decode_code_key h x o a)

-- The limit of x tells on which side of x an operation y goes that ended before it.
pub side : (h : History) (x y : ℕ) → Op h x → Op h y → x < 8192 → y < 8192 → h.end y < h.end x → h.end x ≤ h.len → (h.kind x ≡ 3 → h.end x < h.len)
    → Sides (rank h) (code_key h x) (code_key h y)
unfolding limit_of
side h x y o u a b c d done = rw (rank_code_key h x o a, rank_code_key h y u b) (go o.1 u.1)
  where
    other : x ≢ y
    other e = omega (arith, ap h.end e)

    go : (h.kind x ≡ 1) ⊎ (h.kind x ≡ 3) → (h.kind y ≡ 1) ⊎ (h.kind y ≡ 3)
        → (code_key h y ≤ limit_of (code_key h x) → key h (place h) y < key h (place h) x)
        × (limit_of (code_key h x) < code_key h y → key h (place h) x < key h (place h) y)
    go (inl e) (inl f) =
        rw (code_key_write h x e, code_key_write h y f, no_rest x, key_write h (place h) x e, key_write h (place h) y f) (
          λ t. omega (arith, lex' (suc h.len) y x 0 0 (omega (arith, other)) (omega arith)),
          λ t. omega (arith, lex' (suc h.len) x y 0 0 (omega arith) (omega arith)),
        )
    go (inl e) (inr f) =
        rw (code_key_write h x e, code_key_read h y f, no_rest x, key_write h (place h) x e, key_read h (place h) y f) (
          λ t. omega (arith, lex' (suc h.len) (place h y) x (suc (h.end y)) 0 (omega arith) (omega arith)),
          λ t. omega (arith, lex (suc h.len) x (place h y) 0 (suc (h.end y)) (omega arith) (omega arith)),
        )
    go (inr e) (inl f) =
        rw (code_key_read h x e, code_key_write h y f, rest_of (place h x) x a, place_of (place h x) x a, ne_eqb x 0 (omega (arith, o.0)), key_read h (place h) x e, key_write h (place h) y f) (
          λ t. omega (arith, lex (suc h.len) y (place h x) 0 (suc (h.end x)) (omega arith) (omega arith)),
          λ t. omega (arith, lex' (suc h.len) (place h x) y (suc (h.end x)) 0 (omega arith) (omega (arith, done e))),
        )
    go (inr e) (inr f) =
        rw (code_key_read h x e, code_key_read h y f, rest_of (place h x) x a, place_of (place h x) x a, ne_eqb x 0 (omega (arith, o.0)), key_read h (place h) x e, key_read h (place h) y f) (
          λ t. lex (suc h.len) (place h y) (place h x) (suc (h.end y)) (suc (h.end x)) (omega arith) (omega arith),
          λ t. lex' (suc h.len) (place h x) (place h y) (suc (h.end x)) (suc (h.end y)) (omega arith) (omega (arith, done e)),
        )
