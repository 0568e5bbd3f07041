-- How an order is looked for: a sweep over the rows that gives each ended read the first row that it may stand behind.
-- That this finds an order if there is one is proved; nothing here says what an order is.
use Rattle.std.specs.Prelude.{ℕ, suc, zero, ◌-◌, max, Bool, ◌&&◌, List, [], ◌∷◌, ◌++◌, eqb, leb, ltb, get_or}
use Rattle.words.specs.Choice.{pick}
use Rattle.history.specs.Search.{first}
use Rattle.history.specs.History.{History}

-- row q is the start or a write's begin, and the read ended at row e may stand behind it
abbrev pub is_source : History → ℕ → ℕ → Bool
is_source h e q = eqb (h.kind q) 1 && h.suits e q

-- the first such row from lo on, among n; lo + n if there is none
abbrev pub seek : History → ℕ → ℕ → ℕ → ℕ
seek h e lo n = first (is_source h e) lo n

-- the place of the read begun at r, with floor f: before its end
unfoldable pub place_at : History → ℕ → ℕ → ℕ
place_at h f r = seek h (h.end r) f (h.end r - f)

-- what row k raises the floor to, where f is the floor at the begin row of the operation that it ends: a write's end to its
-- begin row, a read's end to its place
unfoldable pub adds : History → ℕ → ℕ → ℕ
adds h f k = pick (eqb (h.kind k) 2) (h.begin k) (pick (eqb (h.kind k) 4) (place_at h f (h.begin k)) 0)

-- the floors before the rows 0 .. k
unfoldable pub floors : History → ℕ → List ℕ
floors h zero = 0 ∷ []
floors h (suc k) = let fs = floors h k in fs ++ (max (get_or fs k 0) (adds h (get_or fs (h.begin k) 0) k) ∷ [])

unfoldable pub floor : History → ℕ → ℕ
floor h k = get_or (floors h k) k 0

unfoldable pub place : History → ℕ → ℕ
place h r = place_at h (floor h r) r

-- r is an ended read
abbrev pub is_read : History → ℕ → Bool
is_read h r = eqb (h.kind r) 3 && ltb (h.end r) h.len

-- an ended read without a place
abbrev pub fails : History → ℕ → Bool
fails h r = is_read h r && leb (h.end r) (place h r)

-- the first of them; the number of rows if there is none
unfoldable pub missing : History → ℕ
missing h = first (fails h) 0 h.len
