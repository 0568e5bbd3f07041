-- Rows read from bytes.
use Prim.Native.Nat.{ℕ, zero, suc, ◌+◌, ◌-◌, ◌*◌, ◌/◌, ◌%◌, ◌^◌, ◌≤◌, ◌<◌, min}
use mathlib.Core.Path.{◌≡◌, refl, sym, ap, ◌∙◌}
use mathlib.Core.List.{List, [], ◌∷◌, ◌++◌, append_assoc}
use mathlib.Core.Logic.{◌≢◌}
use native.Mathlib.Omega.{arith}
use native.Mathlib.Decide.{ℕ_discrete, dec_lt}
use borrow.Author.Tests.{eq-eqb, ne_eqb, le-leb, lt-leb}
use native.Mathlib.Numerals.{add-one}
use lib.ListN.{length, take, drop, set, get_or, length-append, length-drop, get_or-eq_default}
use native.Mathlib.Nat.{add-zero, add_assoc}
use lib.Seq.{take-suc, drop-cons, set_at, drop-drop, get_or-drop}
use Rattle.std.specs.Int.{w64, to_be_bytes}
use Rattle.words.specs.Bits.{low, field}
use Rattle.words.proofs.Laws.Bits.{split_field}
use Rattle.logbytes.specs.Bytes.{word_at, read_rows, rows_of, read_into, rows_in, bytes_of}

pub read_length : (k : ℕ) (b : List ℕ) → length (read_rows k b) ≡ k
unfolding read_rows
read_length zero b = refl
read_length (suc k) b = ap suc (read_length k (drop 8 b))

-- one row more, at the end
read_suc : (k : ℕ) (b : List ℕ) → read_rows (suc k) b ≡ read_rows k b ++ (word_at (drop (k * 8) b) 0 ∷ [])
unfolding read_rows
read_suc zero b = refl
read_suc (suc k) b =
    let e : suc k * 8 ≡ 8 + k * 8 = omega arith in
    ap (λ (l : List ℕ). word_at b 0 ∷ l) (rw (e, ← drop-drop (k * 8) 8 b) (read_suc k (drop 8 b)))

word_behind : (b : List ℕ) (m : ℕ) → word_at (drop m b) 0 ≡ word_at b m
word_behind b m = simp (get_or-drop, add-zero, add_assoc)

-- a list filled from the front, by one element more
pub push : {A : Type 0} (p d : List A) (i : ℕ) (v : A) → length p ≡ i → i < length d
    → set (p ++ drop i d) i v ≡ (p ++ (v ∷ [])) ++ drop (i + 1) d
push p d i v e h =
    rw (add-one, drop-cons d i v, set_at p (get_or d i v) (drop (suc i) d) v i e) (sym (append_assoc p (v ∷ []) (drop (suc i) d)))

-- the turn of a loop that reads row i
pub read_next : (i : ℕ) (b d : List ℕ) → i < length d
    → set (read_rows i b ++ drop i d) i (word_at b (i * 8)) ≡ read_rows (i + 1) b ++ drop (i + 1) d
read_next i b d h =
    push (read_rows i b) d i (word_at b (i * 8)) (read_length i b) h
    ∙ ap (λ (l : List ℕ). l ++ drop (i + 1) d) (sym more)
  where
    more : read_rows (i + 1) b ≡ read_rows i b ++ (word_at b (i * 8) ∷ [])
    more =
        ap (λ (k : ℕ). read_rows k b) (add-one i)
        ∙ read_suc i b
        ∙ ap (λ (w : ℕ). read_rows i b ++ (w ∷ [])) (word_behind b (i * 8))

pub filled_length : (i : ℕ) (b d : List ℕ) → i ≤ length d → length (read_rows i b ++ drop i d) ≡ length d
filled_length i b d h = simp (length-append, length-drop, read_length) (omega arith)

pub read_all : (b d : List ℕ) → length b / 8 ≤ length d → read_into b d ≡ rows_of b ++ drop (length b / 8) d
unfolding read_into rows_of
read_all b d h =
    let e : min (length b / 8) (length d) ≡ length b / 8 = omega arith in
    rw e

-- the rows of bytes, by whether they are whole rows and not too many
module _ (b : List ℕ) (most : ℕ) where
  pub rows_odd : length b % 8 ≢ 0 → rows_in b most ≡ []
  unfolding rows_in
  rows_odd n = rw (ne_eqb (length b % 8) 0 n)

  pub rows_many : length b % 8 ≡ 0 → most < length b / 8 → rows_in b most ≡ []
  unfolding rows_in
  rows_many e h = rw (eq-eqb (length b % 8) 0 e, lt-leb (length b / 8) most h)

  pub rows_whole : length b % 8 ≡ 0 → length b / 8 ≤ most → rows_in b most ≡ rows_of b
  unfolding rows_in
  rows_whole e h = rw (eq-eqb (length b % 8) 0 e, le-leb (length b / 8) most h)

-- where there are some, they are all the rows
pub rows_some : (b : List ℕ) (most : ℕ) → 1 ≤ length (rows_in b most) → (length b % 8 ≡ 0) × (rows_in b most ≡ rows_of b)
rows_some b most a = elim (ℕ_discrete (length b % 8) 0) [
  | yes e ↦ elim (dec_lt most (length b / 8)) [
    | yes h ↦ absurd (omega (arith, ap length (rows_many b most e h)))
    | no h ↦ (e, rows_whole b most e (omega arith))
  ]
  | no n ↦ absurd (omega (arith, ap length (rows_odd b most n)))
]

-- what is read where there are none, and where there are some
pub reads_none : (b d : List ℕ) (r : ℕ) → rows_in b (length d) ≡ [] → r ≡ 0 → (r ≡ length (rows_in b (length d))) × (d ≡ rows_in b (length d) ++ drop r d)
reads_none b d r e z = rw (e, z) (refl, refl)

pub reads_all : (b d x : List ℕ) (r : ℕ) → length b % 8 ≡ 0 → length b / 8 ≤ length d → x ≡ read_into b d → r ≡ length b / 8
    → (r ≡ length (rows_in b (length d))) × (x ≡ rows_in b (length d) ++ drop r d)
unfolding rows_of
reads_all b d x r e h a q = rw (rows_whole b (length d) e h, q) (sym (read_length (length b / 8) b), a ∙ read_all b d h)

-- a word by its bytes and the bits above each
joined : (w w8 w16 w24 w32 w40 w48 w56 a b c d e f g h : ℕ) → w ≡ w8 * 2 ^ 8 + h
    → w8 ≡ w16 * 2 ^ 8 + g
    → w16 ≡ w24 * 2 ^ 8 + f
    → w24 ≡ w32 * 2 ^ 8 + e
    → w32 ≡ w40 * 2 ^ 8 + d
    → w40 ≡ w48 * 2 ^ 8 + c
    → w48 ≡ w56 * 2 ^ 8 + b
    → w56 ≡ a
    → (a * 2 ^ 24 + b * 2 ^ 16 + c * 2 ^ 8 + d) * 2 ^ 32 + (e * 2 ^ 24 + f * 2 ^ 16 + g * 2 ^ 8 + h) ≡ w
joined w w8 w16 w24 w32 w40 w48 w56 a b c d e f g h e0 e1 e2 e3 e4 e5 e6 e7 = omega arith

-- the bytes of rows give the rows back,
pub word_bytes : (w : ℕ) (ws : List ℕ) → w < 2 ^ 64 → word_at (bytes_of (w ∷ ws)) 0 ≡ w
unfolding bytes_of
word_bytes w ws h =
    let low : w ≡ w / 2 ^ 8 * 2 ^ 8 + low 8 w = omega arith in
    let top : w / 2 ^ 56 ≡ field 56 8 w = omega arith in
    joined w _ _ _ _ _ _ _ _ _ _ _ _ _ _ _ low (split_field 8 8 w) (split_field 16 8 w) (split_field 24 8 w)
    (split_field 32 8 w) (split_field 40 8 w) (split_field 48 8 w) top

pub bytes_length : (ws : List ℕ) → length (bytes_of ws) ≡ length ws * 8
unfolding bytes_of
bytes_length [] = refl
bytes_length (w ∷ ws) = omega (arith, bytes_length ws)

read_bytes : (ws : List ℕ) → ((k : ℕ) → get_or ws k 0 < 2 ^ 64) → read_rows (length ws) (bytes_of ws) ≡ ws
unfolding read_rows bytes_of
read_bytes [] h = refl
read_bytes (w ∷ ws) h = λ i. word_bytes w ws (h 0) i ∷ read_bytes ws (λ k. h (suc k)) i

pub rows_bytes : (ws : List ℕ) → ((k : ℕ) → get_or ws k 0 < 2 ^ 64) → rows_of (bytes_of ws) ≡ ws
unfolding rows_of
rows_bytes ws h =
    let e : length (bytes_of ws) / 8 ≡ length ws = omega (arith, bytes_length ws) in
    rw e (read_bytes ws h)

-- byte k of rows as bytes; behind a row it is byte k of the others
byte_behind : (w : ℕ) (ws : List ℕ) (k n : ℕ) → n ≡ k + 8
    → get_or (w ∷ ws) (n / 8) 0 / 2 ^ (56 - 8 * (n % 8)) % 256 ≡ get_or ws (k / 8) 0 / 2 ^ (56 - 8 * (k % 8)) % 256
byte_behind w ws k n e =
    let d : n / 8 ≡ suc (k / 8) = omega arith in
    let m : n % 8 ≡ k % 8 = omega arith in
    rw (d, m)

pub byte_is : (ws : List ℕ) (k : ℕ) → k < length ws * 8 → get_or ws (k / 8) 0 / 2 ^ (56 - 8 * (k % 8)) % 256 ≡ get_or (bytes_of ws) k 0
unfolding bytes_of
byte_is [] k h = absurd (omega arith)
byte_is (w ∷ ws) zero h = refl
byte_is (w ∷ ws) (suc zero) h = refl
byte_is (w ∷ ws) (suc (suc zero)) h = refl
byte_is (w ∷ ws) (suc (suc (suc zero))) h = refl
byte_is (w ∷ ws) (suc (suc (suc (suc zero)))) h = refl
byte_is (w ∷ ws) (suc (suc (suc (suc (suc zero))))) h = refl
byte_is (w ∷ ws) (suc (suc (suc (suc (suc (suc zero)))))) h = refl
byte_is (w ∷ ws) (suc (suc (suc (suc (suc (suc (suc zero))))))) h = omega arith
byte_is (w ∷ ws) (suc (suc (suc (suc (suc (suc (suc (suc k)))))))) h =
    byte_behind w ws k (suc (suc (suc (suc (suc (suc (suc (suc k)))))))) (omega arith) ∙ byte_is ws k (omega arith)

pub byte_beyond : (ws : List ℕ) (k : ℕ) → length ws ≤ k / 8 → 0 ≡ get_or (bytes_of ws) k 0
byte_beyond ws k h = sym (get_or-eq_default (bytes_of ws) 0 (omega (arith, bytes_length ws)))

-- rows as bytes, row by row
bytes_one : (w : ℕ) → bytes_of (w ∷ []) ≡ to_be_bytes w64 w
unfolding bytes_of
bytes_one w = refl

bytes_append : (a b : List ℕ) → bytes_of (a ++ b) ≡ bytes_of a ++ bytes_of b
unfolding bytes_of
bytes_append [] b = refl
bytes_append (w ∷ a) b =
    λ i. field 56 8 w ∷ field 48 8 w ∷ field 40 8 w ∷ field 32 8 w ∷ field 24 8 w ∷ field 16 8 w ∷ field 8 8 w ∷ low 8 w ∷ bytes_append a b i

pub bytes_next : (ws : List ℕ) (k : ℕ) → k < length ws → bytes_of (take (k + 1) ws) ≡ bytes_of (take k ws) ++ to_be_bytes w64 (get_or ws k 0)
bytes_next ws k h =
    ap (λ (n : ℕ). bytes_of (take n ws)) (add-one k)
    ∙ ap bytes_of (take-suc ws k 0 h)
    ∙ bytes_append (take k ws) (get_or ws k 0 ∷ [])
    ∙ ap (λ (l : List ℕ). bytes_of (take k ws) ++ l) (bytes_one (get_or ws k 0))

-- and the rows of bytes give the bytes back
bytes_word : (a b c d e f g h : ℕ) (l : List ℕ) → a < 256 → b < 256 → c < 256 → d < 256 → e < 256 → f < 256 → g < 256 → h < 256
    → bytes_of (word_at (a ∷ b ∷ c ∷ d ∷ e ∷ f ∷ g ∷ h ∷ []) 0 ∷ l) ≡ a ∷ b ∷ c ∷ d ∷ e ∷ f ∷ g ∷ h ∷ bytes_of l
unfolding bytes_of
bytes_word a b c d e f g h l ha hb hc hd he hf hg hh =
    let w = word_at (a ∷ b ∷ c ∷ d ∷ e ∷ f ∷ g ∷ h ∷ []) 0 in
    let ea : field 56 8 w ≡ a = omega arith in
    let eb : field 48 8 w ≡ b = omega arith in
    let ec : field 40 8 w ≡ c = omega arith in
    let ed : field 32 8 w ≡ d = omega arith in
    let ee : field 24 8 w ≡ e = omega arith in
    let ef : field 16 8 w ≡ f = omega arith in
    let eg : field 8 8 w ≡ g = omega arith in
    let eh : low 8 w ≡ h = omega arith in
    λ i. ea i ∷ eb i ∷ ec i ∷ ed i ∷ ee i ∷ ef i ∷ eg i ∷ eh i ∷ bytes_of l

bytes_read : (k : ℕ) (b : List ℕ) → length b ≡ k * 8 → ((i : ℕ) → get_or b i 0 < 256) → bytes_of (read_rows k b) ≡ b
unfolding read_rows bytes_of
bytes_read zero [] e s = refl
bytes_read zero (a ∷ l) e s = absurd (omega arith)
bytes_read (suc k) [] e s = absurd (omega arith)
bytes_read (suc k) (a ∷ []) e s = absurd (omega arith)
bytes_read (suc k) (a ∷ b ∷ []) e s = absurd (omega arith)
bytes_read (suc k) (a ∷ b ∷ c ∷ []) e s = absurd (omega arith)
bytes_read (suc k) (a ∷ b ∷ c ∷ d ∷ []) e s = absurd (omega arith)
bytes_read (suc k) (a ∷ b ∷ c ∷ d ∷ x ∷ []) e s = absurd (omega arith)
bytes_read (suc k) (a ∷ b ∷ c ∷ d ∷ x ∷ y ∷ []) e s = absurd (omega arith)
bytes_read (suc k) (a ∷ b ∷ c ∷ d ∷ x ∷ y ∷ z ∷ []) e s = absurd (omega arith)
bytes_read (suc k) (a ∷ b ∷ c ∷ d ∷ x ∷ y ∷ z ∷ w ∷ l) e s =
    bytes_word a b c d x y z w (read_rows k l) (s 0) (s 1) (s 2) (s 3) (s 4) (s 5) (s 6) (s 7)
    ∙ ap (λ (m : List ℕ). a ∷ b ∷ c ∷ d ∷ x ∷ y ∷ z ∷ w ∷ m) (bytes_read k l (omega arith) (λ i. s (suc (suc (suc (suc (suc (suc (suc (suc i))))))))))

pub bytes_rows : (b : List ℕ) → length b % 8 ≡ 0 → ((i : ℕ) → get_or b i 0 < 256) → bytes_of (rows_of b) ≡ b
unfolding rows_of
bytes_rows b e s = bytes_read (length b / 8) b (omega arith) s

-- the rows of bytes are words of 64 bits
word_small : (b : List ℕ) → ((i : ℕ) → get_or b i 0 < 256) → word_at b 0 < 2 ^ 64
word_small b s = omega (arith, s 0, s 1, s 2, s 3, s 4, s 5, s 6, s 7)

read_small : (k : ℕ) (b : List ℕ) → ((i : ℕ) → get_or b i 0 < 256) → (i : ℕ) → get_or (read_rows k b) i 0 < 2 ^ 64
unfolding read_rows
read_small zero b s i = omega arith
read_small (suc k) b s zero = word_small b s
read_small (suc k) b s (suc i) = read_small k (drop 8 b) (λ j. rw (get_or-drop 8 b j 0) (s (8 + j))) i

pub rows_small : (b : List ℕ) → ((i : ℕ) → get_or b i 0 < 256) → (i : ℕ) → get_or (rows_of b) i 0 < 2 ^ 64
unfolding rows_of
rows_small b s = read_small (length b / 8) b s
