-- The ticket rule in the papers' words (02): "The new ticket becomes the smallest unbarred one above the writer's cur and up to 3n+2, and if
-- there is none above, the smallest unbarred."
use Rattle.std.specs.Prelude.{ℕ, ◌+◌, ◌*◌, ◌≤◌, ◌<◌}

-- the smallest number that has P
pub record Smallest (P : ℕ → Type 0) (t : ℕ) : Type 0 where
  pub has : P t
  pub first : (k : ℕ) → P k → t ≤ k

-- "unbarred", "above the writer's cur", "up to 3n+2"
pub record Above (n cur : ℕ) (Unbarred : ℕ → Type 0) (t : ℕ) : Type 0 where
  pub unbarred : Unbarred t
  pub above : cur < t
  pub up_to : t ≤ 3 * n + 2

pub data Walks (n cur : ℕ) (Unbarred : ℕ → Type 0) (t : ℕ) : Type 0 where
  -- "the smallest unbarred one above the writer's cur and up to 3n+2,
  on : Smallest (Above n cur Unbarred) t → Walks n cur Unbarred t
  -- and if there is none above, the smallest unbarred"
  round : ((k : ℕ) → ¬ Above n cur Unbarred k) → Smallest Unbarred t → Walks n cur Unbarred t
