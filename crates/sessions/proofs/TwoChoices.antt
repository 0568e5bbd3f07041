-- A log of the table is regular by one choice of writes and without inversion by another, and is not atomic.
use Prim.Native.Nat.{ℕ}
use mathlib.Core.Path.{◌≡◌, refl}
use mathlib.Core.List.{List, [], ◌∷◌}
use native.Mathlib.Omega.{arith}
use lib.Dec.{T}
use Rattle.words.specs.Row
use Rattle.history.specs.Search
use Rattle.history.specs.Rows
use Rattle.history.specs.WellFormed
use Rattle.history.specs.History
use Rattle.history.specs.Sweep
use Rattle.history.specs.Chosen
use Rattle.history.specs.WellFormed.{well_formed}
use Rattle.history.specs.History.{History, history_of}
use Rattle.history.specs.Linearization.{Orders}
use Rattle.history.specs.Sweep.{missing}
use Rattle.history.specs.Chosen.{chosen, reads_from, regular, uninverted}
use Rattle.history.proofs.WellFormed.{laws}
use Rattle.history.proofs.Chosen.{tests_reads_from, tests_regular, tests_uninverted}
use Rattle.history.proofs.Theorems.{two_definitions, ordered_if_swept}
use Rattle.sessions.specs.TwoChoices.{Differ}
use Rattle.sessions.specs.Table.{two_choices}

abbrev h : History
h = history_of two_choices

abbrev f : ℕ → ℕ
f = chosen ((4, 3) ∷ (6, 1) ∷ [])

abbrev g : ℕ → ℕ
g = chosen ((4, 0) ∷ (6, 1) ∷ [])

-- what computing shows of it: the read at row 6 has no place
computed : T (well_formed two_choices) × T (regular h f) × T (reads_from h g) × T (uninverted h g) × (missing h ≡ 6)
unfolding Row.pack_row Rows.kind_of Rows.within Rows.suits Rows.begins Rows.kind_at Rows.processor_at Rows.value_at WellFormed.well_formed WellFormed.head_ok WellFormed.fields WellFormed.open_at WellFormed.alternates WellFormed.row_ok WellFormed.all History.event_at History.end_at Search.first Sweep.place_at Sweep.adds Sweep.floors Sweep.floor Sweep.place Sweep.missing Chosen.chosen Chosen.last_before Chosen.reads_from Chosen.regular Chosen.uninverted
computed = (tt, tt, tt, tt, refl)

no_order : (l : List ℕ) → ¬ Orders two_choices l
no_order l O = let e = (ordered_if_swept two_choices computed.0).0 (l, O) in omega (arith, computed.4)

pub two_choices_lem : Differ two_choices f g
two_choices_lem =
    let w = computed.0 in
    let L = laws two_choices w in
    record {
      is_well_formed = w;
      by_one = (tests_regular h L f).only_if computed.1;
      by_another = (tests_reads_from h L g).only_if computed.2;
      no_inversion = (tests_uninverted h L g).only_if computed.3;
      not_atomic = λ A. let t = (two_definitions two_choices w).0 A in no_order t.0 t.1;
      no_order = no_order;
    }
