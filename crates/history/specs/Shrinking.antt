-- The atomic run of report CS-R8628 (source document 003), said of a log. In quotes is its section 2, where not said otherwise. The report's
-- run brings a reading mapping along; a log has none, so that one is to be found together with the shrinking mapping.
use Rattle.std.specs.Prelude.{ℕ, zero, ◌*◌, ◌≤◌, ◌<◌, ◌≢◌, List}
use Rattle.history.specs.History.{History, history_of, Read}
use Rattle.history.specs.ReadsFrom.{AnyWrite, Action, ReadsFrom}

-- "A shrinking mapping σ: R → R is a 1:1 mapping which associates new start and finish times with each action a ∈ S such that
-- s(a) ≤ σ(s(a)) ≤ σ(f(a)) ≤ f(a)": row k is logged at the time k * unit, for some unit, so that there is room for times between two rows
pub record Shrinking (h : History) (unit : ℕ) (new_start new_finish : ℕ → ℕ) : Type 0 where
  pub after_begin : (a : ℕ) → Action h a → a * unit ≤ new_start a
  pub forward : (a : ℕ) → Action h a → new_start a ≤ new_finish a
  pub before_end : (a : ℕ) → Action h a → new_finish a ≤ h.end a * unit
  -- 1:1: the two times of an action differ, but for row 0, which begins and ends at once; those of different actions by Serial
  pub one_to_one : (a : ℕ) → Action h a → zero < a → new_start a ≢ new_finish a

-- "A shrinking mapping is serial if for all a,b ∈ S, a ≠ b, it holds that σ(s(b)), σ(f(b)) ∉ [σ(s(a)), σ(f(a))]"
pub record Serial (h : History) (new_start new_finish : ℕ → ℕ) : Type 0 where
  pub start_apart : (a b : ℕ) → Action h a → Action h b → a ≢ b → ¬ ((new_start a ≤ new_start b) × (new_start b ≤ new_finish a))
  pub finish_apart : (a b : ℕ) → Action h a → Action h b → a ≢ b → ¬ ((new_start a ≤ new_finish b) × (new_finish b ≤ new_finish a))

-- "A serial shrinking mapping σ is consistent with a run ρ if π's reading and writing order is consistent with the obvious reading and
-- writing order induced by σ": "an atomic read following an atomic write, without other atomic write's in between, returns the value that
-- atomic write wrote" (its introduction)
pub record Consistent (h : History) (new_start new_finish π : ℕ → ℕ) : Type 0 where
  pub following : (r : ℕ) → Read h h.len r → new_finish (π r) < new_start r
  pub none_between : (r v : ℕ) → Read h h.len r → AnyWrite h v → ¬ ((new_finish (π r) < new_start v) × (new_finish v < new_start r))

-- "A run ρ is atomic if there exists a serial shrinking mapping which is consistent with it."
pub record AtomicRun (h : History) : Type 0 where
  -- "π: S → S is a reading mapping"
  pub π : ℕ → ℕ
  pub reads : ReadsFrom h π
  pub unit : ℕ
  pub new_start : ℕ → ℕ
  pub new_finish : ℕ → ℕ
  pub shrinking : Shrinking h unit new_start new_finish
  pub serial : Serial h new_start new_finish
  pub consistent : Consistent h new_start new_finish π

abbrev pub IsAtomicRun : List ℕ → Type 0
IsAtomicRun log = AtomicRun (history_of log)
