-- Document 02's example and others, by computation.
use Prim.Native.Nat.{ℕ}
use mathlib.Core.Path.{◌≡◌, refl}
use mathlib.Core.List.{List, [], ◌∷◌, map}
use Rattle.schedules.specs.Schedules.{Turn, w, r, after_writer, after_reader, schedules}
use Rattle.schedules.specs.Meaning.{choose}

-- the schedules of so many turns, and what they are to be
pub record Session : Type 0 where
  pub got : List (List Turn)
  pub wanted : List (List Turn)

abbrev drill : ℕ → ℕ → List (List Turn) → Session
drill a b wanted = record { got = schedules a b; wanted = wanted }

abbrev table : List Session
table =
    -- "`1 7 9 1 1` gives `wr order`, then `rw order`"
    drill 1 1 ((w ∷ r ∷ []) ∷ (r ∷ w ∷ []) ∷ [])
    ∷ drill 2 1 ((w ∷ w ∷ r ∷ []) ∷ (w ∷ r ∷ w ∷ []) ∷ (r ∷ w ∷ w ∷ []) ∷ [])
    ∷ drill 2 2
    ((w ∷ w ∷ r ∷ r ∷ [])
    ∷ (w ∷ r ∷ w ∷ r ∷ [])
    ∷ (w ∷ r ∷ r ∷ w ∷ [])
    ∷ (r ∷ w ∷ w ∷ r ∷ [])
    ∷ (r ∷ w ∷ r ∷ w ∷ [])
    ∷ (r ∷ r ∷ w ∷ w ∷ [])
    ∷ [])
    -- one of them has no turns
    ∷ drill 3 0 ((w ∷ w ∷ w ∷ []) ∷ [])
    ∷ drill 0 2 ((r ∷ r ∷ []) ∷ [])
    ∷ []

pub sessions : map (λ (s : Session). s.got) table ≡ map (λ (s : Session). s.wanted) table
unfolding after_writer after_reader
sessions = refl

-- "the ways to pick a of a+b turns": rows 4 and 5 of Pascal's triangle, and the largest number for sixteen turns
pub picked : map (choose 4) (0 ∷ 1 ∷ 2 ∷ 3 ∷ 4 ∷ 5 ∷ []) ≡ 1 ∷ 4 ∷ 6 ∷ 4 ∷ 1 ∷ 0 ∷ []
unfolding choose
picked = refl

pub picked_of_5 : map (choose 5) (0 ∷ 1 ∷ 2 ∷ 3 ∷ 4 ∷ 5 ∷ []) ≡ 1 ∷ 5 ∷ 10 ∷ 10 ∷ 5 ∷ 1 ∷ []
unfolding choose
picked_of_5 = refl

pub most_picked : choose 16 8 ≡ 12870
unfolding choose
most_picked = refl
