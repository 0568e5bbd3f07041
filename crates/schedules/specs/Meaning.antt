-- What a list of all schedules is, in document 02's words.
use Rattle.std.specs.Prelude.{ℕ, suc, zero, ◌+◌, ◌≡◌, length}
use mathlib.Core.List.{List, [], ◌∷◌, Memᴰ}
use Rattle.schedules.specs.Schedules.{Turn, w, r}

-- how many turns of a schedule are the writer's, and how many the reader's
unfoldable pub writer_turns : List Turn → ℕ
writer_turns [] = 0
writer_turns (w ∷ s) = suc (writer_turns s)
writer_turns (r ∷ s) = writer_turns s

unfoldable pub reader_turns : List Turn → ℕ
reader_turns [] = 0
reader_turns (w ∷ s) = reader_turns s
reader_turns (r ∷ s) = suc (reader_turns s)

-- "schedules of a writer's a turns and reader 1's b turns"
pub record Turns (a b : ℕ) (s : List Turn) : Type 0 where
  pub of_writer : writer_turns s ≡ a
  pub of_reader : reader_turns s ≡ b

-- "in dictionary order with the writer first": at the first turn in which they differ one has the writer's, the other the reader's
pub data Before : List Turn → List Turn → Type 0 where
  first : {s t : List Turn} → Before (w ∷ s) (r ∷ t)
  later : {x : Turn} {s t : List Turn} → Before s t → Before (x ∷ s) (x ∷ t)

-- each is before all that stand behind it
abbrev pub Rising : List (List Turn) → Type 0
Rising [] = Unit {0}
Rising (s ∷ l) = ((t : List Turn) → Memᴰ t l → Before s t) × Rising l

-- "each just one time": none stands behind itself
abbrev pub Once : List (List Turn) → Type 0
Once [] = Unit {0}
Once (s ∷ l) = (Memᴰ s l → ⊥) × Once l

-- "the ways to pick a of" m turns, by Pascal's rule: the first turn is picked, or it is not
unfoldable pub choose : ℕ → ℕ → ℕ
choose m zero = 1
choose zero (suc a) = 0
choose (suc m) (suc a) = choose m a + choose m (suc a)

-- A list of all schedules: each that it has is one of these turns;
pub record AllSchedules (a b : ℕ) (l : List (List Turn)) : Type 0 where
  pub each : (s : List Turn) → Memᴰ s l → Turns a b s
  -- "all schedules of a writer's a turns and reader 1's b turns",
  pub all : (s : List Turn) → Turns a b s → Memᴰ s l
  -- "each just one time", "in dictionary order";
  pub once : Once l
  pub rises : Rising l
  -- "as many as the ways to pick a of a+b turns"
  pub count : length l ≡ choose (a + b) a
