-- Lists that are written place by place.
use Prim.Native.Nat.{ℕ, suc, ◌+◌, ◌-◌, ◌≤◌, ◌<◌}
use mathlib.Core.Path.{◌≡◌, sym, subst, ◌∙◌}
use mathlib.Core.List.{List, [], ◌∷◌, ◌++◌, append-nil, append_assoc}
use native.Mathlib.Omega.{arith}
use native.Mathlib.Numerals.{add-one}
use lib.ListN.{length, get_or, set, take, drop, replicate, length-append, length-take, length-drop, length-replicate, get_or-replicate, get_or-append, take-append-drop, drop_of_length-le}
use lib.Seq.{take_all, take-suc, drop-cons, set_at, length-take-le, get_or-append-add, drop-set-add, take-set-le}
use lib.Dec.{ltb}
use Rattle.words.specs.Choice.{pick}
use Rattle.words.proofs.Laws.Choice.{lt_ind}

-- a list whose end from `at` on has been written at k is the list written at `at + k`
pub set_part : {A : Type 0} (l : List A) (at k : ℕ) (v : A) → at + k < length l
    → take at l ++ (set (take (length l - at) (drop at l)) k v ++ drop (length l - at) (drop at l)) ≡ set l (at + k) v
set_part l at k v h =
    let el : length (drop at l) ≤ length l - at = omega (arith, length-drop at l) in
    let e : take (length l - at) (drop at l) ≡ drop at l = take_all (length l - at) (drop at l) el in
    let z : drop (length l - at) (drop at l) ≡ [] = drop_of_length-le (drop at l) el in
    rw (e, z, append-nil, ← drop-set-add at l k v, ← take-set-le at l (at + k) v (omega arith)) (take-append-drop at (set l (at + k) v))

-- Filling a table from the front: x is what stands at i of the new cells.
pub fill_next : (f t : List ℕ) (i x : ℕ) → i < length f → length f ≤ length t → x ≡ get_or f i 0
    → set (take i f ++ drop i t) i x ≡ take (i + 1) f ++ drop (i + 1) t
fill_next f t i x h g e =
    rw (add-one, e, drop-cons t i 0 (omega arith), set_at (take i f) (get_or t i 0) (drop (suc i) t) (get_or f i 0) i (length-take-le i f (omega arith)), take-suc f i 0 h)
    (sym (append_assoc (take i f) (get_or f i 0 ∷ []) (drop (suc i) t)))

pub filled_length : (f t : List ℕ) (i : ℕ) → i ≤ length f → length f ≤ length t → length (take i f ++ drop i t) ≡ length t
filled_length f t i h g = simp (length-append, length-take, length-drop) (omega arith)

-- n words a, and m words b behind them
pub two_at : (n m i a b : ℕ) → i < n + m → pick (ltb i n) a b ≡ get_or (replicate n a ++ replicate m b) i 0
two_at n m i a b h =
    lt_ind (λ x. x ≡ get_or (replicate n a ++ replicate m b) i 0) i n _ _
    (λ l. sym (get_or-append (replicate n a) (replicate m b) 0 i (omega (arith, length-replicate n a)) ∙ get_or-replicate n i a 0 l))
    (λ l.
    let e : i ≡ length (replicate n a) + (i - n) = omega (arith, length-replicate n a) in
    sym (rw e (get_or-append-add (replicate n a) (replicate m b) (i - n) 0 ∙ get_or-replicate m (i - n) b 0 (omega (arith, length-replicate n a)))))

pub two_length : (n m a b : ℕ) → length (replicate n a ++ replicate m b) ≡ n + m
two_length n m a b = simp (length-append, length-replicate) (omega arith)

-- a word of theirs, by whether it is one of the first
pub two_ind : (n m i a b : ℕ) (Q : ℕ → Type 0) → i < n + m → (i < n → Q a) → (n ≤ i → Q b) → Q (get_or (replicate n a ++ replicate m b) i 0)
two_ind n m i a b Q h f g = subst Q (two_at n m i a b h) (lt_ind Q i n _ _ f g)
