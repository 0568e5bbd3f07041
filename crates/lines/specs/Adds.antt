-- What a call puts into lent places.
use Rattle.std.specs.Prelude.{ℕ, List, ◌≡◌}
use Rattle.lines.specs.declared.Lent.{Lent}
use Rattle.lines.specs.Lines.{Puts}

-- A text put behind what stands there, as much of it as there are places for: old becomes new, over the same lent places.
pub record Adds {A : Type 0} (text : List A) (old new : Lent A) : Type 0 where
  pub puts : Puts text old.at old.places.now new.places.now new.at
  pub same_reference : new.places.ghost_name ≡ old.places.ghost_name

-- lent bytes
abbrev pub Sink : Type 0
Sink = Lent ℕ
