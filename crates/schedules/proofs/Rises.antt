-- The list goes by dictionary order, so none stands there twice, and no other list has the same schedules in that order.
use Prim.Native.Nat.{ℕ, suc, zero}
use mathlib.Core.Path.{◌≡◌, refl, sym, ap, subst, ◌∙◌}
use mathlib.Core.Logic.{◌⊎◌, inl, inr}
use mathlib.Core.List.Memᴰ
use mathlib.Core.List.{List, [], ◌∷◌, ◌++◌, map, Memᴰ}
use Rattle.schedules.specs.Schedules.{Turn, w, r, after_writer, after_reader}
use Rattle.schedules.specs.Meaning.{Before, Rising, Once}
use Rattle.schedules.proofs.Each.{same_after}

rising_map : (x : Turn) (l : List (List Turn)) → Rising l → Rising (map (x ∷◌) l)
rising_map x [] h = tt
rising_map x (s ∷ l) h = (λ t m. let k = Memᴰ.of_map (x ∷◌) l m in rw (← k.2) (Before.later (h.0 k.0 k.1)), rising_map x l h.1)

rising_append : (l m : List (List Turn)) → Rising l → Rising m → ((s : List Turn) → Memᴰ s l → (t : List Turn) → Memᴰ t m → Before s t)
    → Rising (l ++ m)
rising_append [] m h k f = k
rising_append (s ∷ l) m h k f = (λ t x. go t (Memᴰ.append_cases l x), rising_append l m h.1 k (λ u y. f u (Memᴰ.tail y)))
  where
    go : (t : List Turn) → Memᴰ t l ⊎ Memᴰ t m → Before s t
    go t (inl x) = h.0 t x
    go t (inr x) = f s (Memᴰ.head refl) t x

pub rising : (k a b : ℕ) → Rising (after_writer k a b)
unfolding after_writer
rising zero a b = (λ t m. absurd (Memᴰ.not-nil m), tt)
rising (suc k) zero zero = tt
rising (suc k) (suc a) zero = rising_map w (after_writer k a zero) (rising k a zero)
rising (suc k) zero (suc b) = rising_map r (after_reader k zero b) (subst Rising (sym (same_after k zero b)) (rising k zero b))
rising (suc k) (suc a) (suc b) =
    let by-w = rising_map w (after_writer k a (suc b)) (rising k a (suc b)) in
    let by-r = rising_map r (after_reader k (suc a) b) (subst Rising (sym (same_after k (suc a) b)) (rising k (suc a) b)) in
    rising_append (map (w ∷◌) (after_writer k a (suc b))) (map (r ∷◌) (after_reader k (suc a) b)) by-w by-r
    (λ s m t n. rw (← (Memᴰ.of_map (w ∷◌) (after_writer k a (suc b)) m).2, ← (Memᴰ.of_map (r ∷◌) (after_reader k (suc a) b) n).2) Before.first)

-- Dictionary order is one of different schedules, and goes one way only.
-- each is said of lists that are shown to be equal, not of one
unequal : {s t : List Turn} → Before s t → s ≡ t → ⊥
unequal Before.first e = cc
unequal (Before.later h) e = unequal h (cc)

not_itself : (s : List Turn) → Before s s → ⊥
not_itself s h = unequal h refl

one_way : {s t u v : List Turn} → Before s t → Before u v → t ≡ u → s ≡ v → ⊥
one_way Before.first Before.first e f = cc
one_way Before.first (Before.later k) e f = cc
one_way (Before.later h) Before.first e f = cc
one_way (Before.later h) (Before.later k) e f = one_way h k (cc) (cc)

not_both : {s t : List Turn} → Before s t → Before t s → ⊥
not_both h k = one_way h k refl refl

pub once : (l : List (List Turn)) → Rising l → Once l
once [] h = tt
once (s ∷ l) h = (λ m. not_itself s (h.0 s m), once l h.1)

-- Lists that rise and have the same members are one list.
abbrev Among : List (List Turn) → List (List Turn) → Type 0
Among l m = (s : List Turn) → Memᴰ s l → Memᴰ s m

-- the first of both is the same
same_first : (s t : List Turn) (l m : List (List Turn)) → Rising (s ∷ l) → Rising (t ∷ m) → Among (s ∷ l) (t ∷ m) → Among (t ∷ m) (s ∷ l) → s ≡ t
same_first s t l m h k f g = go (Memᴰ.cases_cons (f s (Memᴰ.head refl))) (Memᴰ.cases_cons (g t (Memᴰ.head refl)))
  where
    go : (s ≡ t) ⊎ Memᴰ s m → (t ≡ s) ⊎ Memᴰ t l → s ≡ t
    go (inl e) y = e
    go (inr x) (inl e) = sym e
    go (inr x) (inr y) = absurd (not_both (h.0 t y) (k.0 s x))

-- and so are the others
others : (s t : List Turn) (l m : List (List Turn)) → s ≡ t → Rising (s ∷ l) → Among (s ∷ l) (t ∷ m) → Among l m
others s t l m e h f u x = go (Memᴰ.cases_cons (f u (Memᴰ.tail x)))
  where
    go : (u ≡ t) ⊎ Memᴰ u m → Memᴰ u m
    go (inl i) = absurd (not_itself s (subst (Before s) (i ∙ sym e) (h.0 u x)))
    go (inr y) = y

pub one_list : (l m : List (List Turn)) → Rising l → Rising m → Among l m → Among m l → l ≡ m
one_list [] [] h k f g = refl
one_list [] (t ∷ m) h k f g = absurd (Memᴰ.not-nil (g t (Memᴰ.head refl)))
one_list (s ∷ l) [] h k f g = absurd (Memᴰ.not-nil (f s (Memᴰ.head refl)))
one_list (s ∷ l) (t ∷ m) h k f g =
    let e = same_first s t l m h k f g in
    let i = one_list l m h.1 k.1 (others s t l m e h f) (others t s m l (sym e) k g) in
    ap (λ (u : List Turn). u ∷ l) e ∙ ap (λ (n : List (List Turn)). t ∷ n) i
