-- What holds of a well-formed log, in one place.
use Prim.Native.Nat.{ℕ, ◌≤◌}
use mathlib.Core.Path.{◌≡◌, sym, ◌∙◌}
use mathlib.Core.Logic.{◌↔◌}
use mathlib.Core.List.{List}
use native.Mathlib.Omega.{arith}
use lib.Dec.{T}
use lib.ListN.{length}
use Rattle.history.specs.WellFormed.{well_formed}
use Rattle.history.specs.History.{History, history_of, Read, Precedes}
use Rattle.history.specs.Bands.{WithResult, MayStand, NoBands}
use Rattle.history.specs.Linearization.{Stands, last_write, Orders, FullOrder}
use Rattle.history.specs.Earliest.{Earliest}
use Rattle.history.specs.Instants.{Instants}
use Rattle.history.specs.Regular.{Precedence, IsAtomic}
use Rattle.history.specs.Shrinking.{IsAtomicRun}
use Rattle.history.specs.Sweep.{missing}
use Rattle.history.specs.Listing.{listing}
use Rattle.history.specs.Stepwise.{Stepwise}
use Rattle.history.proofs.Placement.{Laws}
use Rattle.history.proofs.WellFormed.{laws}
use Rattle.history.proofs.Least.{sound}
use Rattle.history.proofs.FromOrder.{mono, placed}
use Rattle.history.proofs.Built.{ordered}
use Rattle.history.proofs.Verdict.{found, before_missing, has_order}
use Rattle.history.proofs.EarliestLaws.{listing_earliest, unique}
use Rattle.history.proofs.Bands.{may_stand, result_only}
use Rattle.history.proofs.Stepwise.{swept_placed}
use Rattle.history.proofs.NoBands.{swept_plain}
use Rattle.history.proofs.Regular.{strict, atomic_placed, placed_atomic}
use Rattle.history.proofs.Shrinking.{run_placed, shrunk}
use Rattle.history.proofs.Full.{filled}
use Rattle.history.proofs.Instants.{instant_of, order_instants}

module _ (log : List ℕ) (formed : T (well_formed log)) where
  abbrev h : History
  h = history_of log

  L : Laws (history_of log)
  L = laws log formed

  -- There is at most one earliest-placed order.
  pub at_most_one : (l l' : List ℕ) → Earliest (history_of log) l → Earliest (history_of log) l' → l ≡ l'
  at_most_one l l' E E' = unique (history_of log) L l E ∙ sym (unique (history_of log) L l' E')

  -- If it has an order it has an earliest-placed one: the listing.
  pub has_earliest : (l : List ℕ) → Orders log l → Earliest (history_of log) (listing log)
  unfolding listing
  has_earliest l O =
      listing_earliest (history_of log) L
      (sound (history_of log) L (length log) (found (history_of log) L (length log) (omega (arith, has_order (history_of log) L l O))))

  -- It has an order exactly if the sweep finds a place for every read.
  pub ordered_if_swept : ((l : List ℕ) × Orders log l) ↔ (missing (history_of log) ≡ length log)
  ordered_if_swept =
      (λ t. has_order (history_of log) L t.0 t.1, λ e. (_, before_missing (history_of log) L (length log) (omega arith)))

  -- A log swept row by row, with whatever sources, has an order.
  pub swept_ordered : {F : ℕ} {fl : ℕ → ℕ} {w : ℕ} → Stepwise log F fl w → (l : List ℕ) × Orders log l
  swept_ordered s =
      let p = swept_placed s formed in
      (_, ordered (history_of log) L (length log) p.0 p.1)

  -- Such a log holds no band.
  pub swept_without_bands : {F : ℕ} {fl : ℕ → ℕ} {w : ℕ} → Stepwise log F fl w → NoBands log
  swept_without_bands s = swept_plain s formed

  -- What an ended read may stand behind is what the papers say, by the row that ends it.
  pub may_stand_behind : (r : ℕ) → Read (history_of log) (length log) r → MayStand log r
  may_stand_behind r x = may_stand log formed r x

  -- In a log without bands, as a register's is, each has its result, and no other reading.
  pub results_only : NoBands log → (r : ℕ) → Read (history_of log) (length log) r → WithResult log r
  results_only n r x = result_only log formed r x n

  -- An order gives each of its operations an instant within its span, in that order.
  pub has_instants : (l : List ℕ) → Orders log l → Instants (history_of log) l (instant_of l)
  has_instants l O = order_instants (history_of log) L (length log) l O

  -- Precedence among the operations is what report CS-R8704 takes for granted, and the start and an unended write are where the card puts them.
  pub precedence : Precedence (history_of log)
  precedence = strict (history_of log) L

  -- "Two definitions, one verdict" (document 02, card 9): a log is atomic by report CS-R8704 exactly if it has an order,
  pub two_definitions : IsAtomic log ↔ ((l : List ℕ) × Orders log l)
  two_definitions = (
    λ t. (_, ordered (history_of log) L (length log) t.0 (atomic_placed (history_of log) L t.0 t.1)),
    λ t. (_, placed_atomic (history_of log) L _ (placed (history_of log) L (length log) t.0 t.1)),
  )

  -- exactly if it has one with every write in it, the unended one, too,
  pub full_order : ((l : List ℕ) × FullOrder (history_of log) l) ↔ ((l : List ℕ) × Orders log l)
  full_order = (λ t. (t.0, t.1.order), λ t. filled (history_of log) L t.0 t.1)

  -- and exactly if it is atomic by report CS-R8628.
  pub serial_shrinking : IsAtomicRun log ↔ ((l : List ℕ) × Orders log l)
  serial_shrinking = (
    λ S. (_, ordered (history_of log) L (length log) S.π (run_placed (history_of log) L S)),
    λ t. let f = filled (history_of log) L t.0 t.1 in shrunk (history_of log) L f.0 f.1,
  )

  -- "when my arrow and the one on your panel disagree, can yours be the older although you looked later?": no. A read that began
  -- after another had ended stands behind the same write or a later one.
  pub never_older : (l : List ℕ) → Orders log l → (i j r s : ℕ) → Stands l i r → Stands l j s
      → Precedes (history_of log) r s → last_write (history_of log) l i ≤ last_write (history_of log) l j
  never_older l O i j r s a b p = mono (history_of log) L (length log) l O i j (O.respects i j r s a b p) b.within
