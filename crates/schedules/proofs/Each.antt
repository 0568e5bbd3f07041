-- The list has the schedules with a writer's a turns and a reader's b, all of them and no others.
use Prim.Native.Nat.{ℕ, suc, zero, ◌+◌}
use native.Mathlib.Omega.{arith}
use mathlib.Core.Path.{◌≡◌, refl, sym, ap, subst}
use mathlib.Core.Logic.{◌⊎◌, inl, inr}
use mathlib.Core.List.Memᴰ
use mathlib.Core.List.{List, [], ◌∷◌, ◌++◌, map, Memᴰ}
use lib.ListN.{length}
use Rattle.schedules.specs.Schedules.{Turn, w, r, after_writer, after_reader}
use Rattle.schedules.specs.Meaning.{writer_turns, reader_turns, Turns}

-- the same may follow both
pub same_after : (k a b : ℕ) → after_reader k a b ≡ after_writer k a b
unfolding after_writer after_reader
same_after zero a b = refl
same_after (suc k) zero zero = refl
same_after (suc k) (suc a) zero = refl
same_after (suc k) zero (suc b) = refl
same_after (suc k) (suc a) (suc b) = refl

as_writer : (k a b : ℕ) {s : List Turn} → Memᴰ s (after_reader k a b) → Memᴰ s (after_writer k a b)
as_writer k a b {s} m = subst (Memᴰ s) (same_after k a b) m

-- one turn more
more_w : {a b : ℕ} {s t : List Turn} → Turns a b t → w ∷ t ≡ s → Turns (suc a) b s
unfolding writer_turns reader_turns
more_w h e = rw (← e) (record { of_writer = ap suc h.of_writer; of_reader = h.of_reader })

more_r : {a b : ℕ} {s t : List Turn} → Turns a b t → r ∷ t ≡ s → Turns a (suc b) s
unfolding writer_turns reader_turns
more_r h e = rw (← e) (record { of_writer = h.of_writer; of_reader = ap suc h.of_reader })

-- in one of two lists, which stand one behind the other
in_either : {P : Type 0} {s : List Turn} (l m : List (List Turn)) → (Memᴰ s l → P) → (Memᴰ s m → P) → Memᴰ s (l ++ m) → P
in_either {P} {s} l m f g x = go (Memᴰ.append_cases l x)
  where
    go : Memᴰ s l ⊎ Memᴰ s m → P
    go (inl y) = f y
    go (inr y) = g y

-- Each that is listed has these turns.
module _ {a b : ℕ} {l : List (List Turn)} (f : (t : List Turn) → Memᴰ t l → Turns a b t) {s : List Turn} where
  from_w : Memᴰ s (map (w ∷◌) l) → Turns (suc a) b s
  from_w m = let h = Memᴰ.of_map (w ∷◌) l m in more_w (f h.0 h.1) h.2

  from_r : Memᴰ s (map (r ∷◌) l) → Turns a (suc b) s
  from_r m = let h = Memᴰ.of_map (r ∷◌) l m in more_r (f h.0 h.1) h.2

pub in_turns : (k a b : ℕ) → k ≡ a + b → (s : List Turn) → Memᴰ s (after_writer k a b) → Turns a b s
unfolding after_writer writer_turns reader_turns
in_turns zero a b e s m = rw (Memᴰ.eq_of_singleton m) (record { of_writer = omega arith; of_reader = omega arith })
in_turns (suc k) zero zero e s m = absurd (Memᴰ.not-nil m)
in_turns (suc k) (suc a) zero e s m = from_w (in_turns k a zero (omega arith)) m
in_turns (suc k) zero (suc b) e s m = from_r (λ t n. in_turns k zero b (omega arith) t (as_writer k zero b n)) m
in_turns (suc k) (suc a) (suc b) e s m =
    let i : k ≡ a + suc b = omega arith in
    let j : k ≡ suc a + b = omega arith in
    let by-w = from_w (in_turns k a (suc b) i) in
    let by-r = from_r (λ t n. in_turns k (suc a) b j t (as_writer k (suc a) b n)) in
    in_either (map (w ∷◌) (after_writer k a (suc b))) (map (r ∷◌) (after_reader k (suc a) b)) by-w by-r m

-- Each that has them is listed.
pub turns_in : (k : ℕ) (s : List Turn) → k ≡ writer_turns s + reader_turns s → Memᴰ s (after_writer k (writer_turns s) (reader_turns s))
unfolding after_writer writer_turns reader_turns
turns_in k [] e = rw e (Memᴰ.head refl)
turns_in zero (w ∷ s) e = absurd (omega arith)
turns_in (suc k) (w ∷ s) e = go (reader_turns s) (turns_in k s (omega arith))
  where
    go : (b : ℕ) → Memᴰ s (after_writer k (writer_turns s) b) → Memᴰ (w ∷ s) (after_writer (suc k) (suc (writer_turns s)) b)
    go zero m = Memᴰ.map (w ∷◌) m
    go (suc b) m = Memᴰ.append_left (map (r ∷◌) (after_reader k (suc (writer_turns s)) b)) (Memᴰ.map (w ∷◌) m)
turns_in zero (r ∷ s) e = absurd (omega arith)
turns_in (suc k) (r ∷ s) e = go (writer_turns s) (subst (Memᴰ s) (sym (same_after k (writer_turns s) (reader_turns s))) (turns_in k s (omega arith)))
  where
    go : (a : ℕ) → Memᴰ s (after_reader k a (reader_turns s)) → Memᴰ (r ∷ s) (after_writer (suc k) a (suc (reader_turns s)))
    go zero m = Memᴰ.map (r ∷◌) m
    go (suc a) m = Memᴰ.append_right (map (w ∷◌) (after_writer k a (suc (reader_turns s)))) (Memᴰ.map (r ∷◌) m)

-- A schedule has no other turns.
pub turns_length : (s : List Turn) → length s ≡ writer_turns s + reader_turns s
unfolding writer_turns reader_turns
turns_length [] = refl
turns_length (w ∷ s) = omega (arith, turns_length s)
turns_length (r ∷ s) = omega (arith, turns_length s)
