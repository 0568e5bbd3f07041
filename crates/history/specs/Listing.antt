-- The order of a placement: the writes by begin row, each with the reads placed behind it, by end row.
use Rattle.std.specs.Prelude.{ℕ, suc, zero, Bool, ◌&&◌, ◌||◌, List, [], ◌∷◌, ◌++◌, eqb, ltb, length}
use Rattle.words.specs.Choice.{pick}
use Rattle.history.specs.History.{History, history_of}
use Rattle.history.specs.Sweep.{place}

-- row e ends a read that was begun before row m and is placed behind q
abbrev pub ends_behind : History → ℕ → (ℕ → ℕ) → ℕ → ℕ → Bool
ends_behind h m p q e = eqb (h.kind e) 4 && (ltb (h.begin e) m && eqb (p (h.begin e)) q)

-- the reads begun before row m and placed behind q that ended before row k, by end row
unfoldable pub behind : History → ℕ → (ℕ → ℕ) → ℕ → ℕ → List ℕ
behind h m p q zero = []
behind h m p q (suc e) = behind h m p q e ++ pick (ends_behind h m p q e) (h.begin e ∷ []) []

-- q is a write to be listed, where n reads stand behind it
abbrev pub is_listed : History → ℕ → ℕ → Bool
is_listed h q n = (eqb (h.kind q) 1 && ltb 0 q) && (ltb (h.end q) h.len || ltb 0 n)

unfoldable pub group : History → ℕ → (ℕ → ℕ) → ℕ → List ℕ
group h m p q = let rs = behind h m p q h.len in pick (is_listed h q (length rs)) (q ∷ rs) rs

unfoldable pub build : History → ℕ → (ℕ → ℕ) → ℕ → List ℕ
build h m p zero = []
build h m p (suc q) = build h m p q ++ group h m p q

-- the listing of a log, by the sweep's places
unfoldable pub listing : List ℕ → List ℕ
listing log = let h = history_of log in build h (length log) (place h) (length log)
