-- What the row that ends a read says of the writes that it may stand behind.
use Prim.Native.Nat.{ℕ, ◌≤◌, ◌<◌}
use native.Mathlib.Omega.{arith}
use native.Mathlib.Decide.{ℕ_discrete}
use mathlib.Core.Path.{◌≡◌, refl, sym, ◌∙◌}
use mathlib.Core.Bool.{true, false}
use mathlib.Core.Logic.{◌⊎◌, inl, inr}
use mathlib.Core.List.{List}
use borrow.Author.Tests.{ne_eqb}
use lib.Dec.{T}
use lib.ListN.{length, get_or}
use Rattle.words.specs.Row.{zero_bits}
use Rattle.words.proofs.Laws.Choice.{T-left}
use Rattle.history.specs.Rows.{kind_bits, kind_of, processor_of, value_of, lowest, highest, within, suits, kind_at, processor_at, value_at}
use Rattle.history.specs.WellFormed.{is_reader, fields, fields_ok, row_ok, well_formed}
use Rattle.history.specs.History.{end_at, history_of, Read}
use Rattle.history.specs.Bands.{WithResult, WithBand, MayStand, NoBands}
use Rattle.history.proofs.Tests.{Tests, exactly, both, itself, equal, at_most}
use Rattle.history.proofs.WellFormed.{kind_is, laws, row_passes}

-- The card's words on one band, that of reader 1 from 5 to 8: 4 and 9 miss it by one, its ends are included;
one_band : (suits 0x6010000000050008 4 ≡ false) × (suits 0x6010000000050008 5 ≡ true) × (suits 0x6010000000050008 8 ≡ true) × (suits 0x6010000000050008 9 ≡ false)
unfolding suits within
one_band = (refl, refl, refl, refl)

-- and lowest above highest is malformed.
upside_down : (fields 6 1 0 0x00080007 1 ≡ false) × (fields 6 1 0 0x00080008 1 ≡ true)
unfolding fields
upside_down = (refl, refl)

-- A row of another kind than 6 tells its kind.
pub kind_plain : (w k : ℕ) → kind_bits w ≡ k → k < 6 → kind_of w ≡ k
unfolding kind_of
kind_plain w k e a = rw (e, ne_eqb k 6 (omega arith))

tests_within : (b v : ℕ) → Tests (within b v) ((lowest b ≤ v) × (v ≤ highest b))
unfolding within
tests_within b v = both (at_most _ _) (at_most _ _)

module _ (w v : ℕ) where
  pub tests_result : kind_bits w ≡ 4 → Tests (suits w v) (v ≡ value_of w)
  unfolding suits
  tests_result k = rw k (equal _ _)

  tests_band : kind_bits w ≡ 6 → Tests (suits w v) ((lowest (value_of w) ≤ v) × (v ≤ highest (value_of w)))
  unfolding suits
  tests_band k = rw k (tests_within (value_of w) v)

tests_fields : (p z v n : ℕ) → Tests (fields 6 p z v n) ((z ≡ 0) × (T (is_reader p n) × (lowest v ≤ highest v)))
unfolding fields
tests_fields p z v n = both (equal _ _) (both (itself (is_reader p n)) (at_most _ _))

-- A row that ends a read has kind 4, or kind 6 and its two numbers in their order.
ends_with : (w n : ℕ) → T (fields_ok w n) → kind_of w ≡ 4 → (kind_bits w ≡ 4) ⊎ ((kind_bits w ≡ 6) × (lowest (value_of w) ≤ highest (value_of w)))
unfolding kind_of
ends_with w n t = elim (ℕ_discrete (kind_bits w) 6) [
  | yes e ↦ λ _. inr (e, ((tests_fields (processor_of w) (zero_bits w) (value_of w) n).only_if (rw e at t)).1.1)
  | no d ↦ λ a. inl (rw (ne_eqb (kind_bits w) 6 d) at a)
]

module _ (log : List ℕ) (formed : T (well_formed log)) (r : ℕ) (x : Read (history_of log) (length log) r) where
  abbrev w : ℕ
  w = get_or log (end_at log r) 0

  with_result_lem : kind_bits (get_or log (end_at log r) 0) ≡ 4 → WithResult log r
  unfolding value_at
  with_result_lem k = record { kind_4 = k; may_stand = λ q. exactly (tests_result w (value_at log q) k) }

  with_band : kind_bits (get_or log (end_at log r) 0) ≡ 6 → lowest (value_of (get_or log (end_at log r) 0)) ≤ highest (value_of (get_or log (end_at log r) 0))
      → WithBand log r
  unfolding value_at
  with_band k a = record {
    kind_6 = k;
    lowest = lowest (value_of w);
    highest = highest (value_of w);
    halves = omega arith;
    bits_16 = (omega arith, omega arith);
    not_above = a;
    may_stand = λ q. exactly (tests_band w (value_at log q) k);
  }

  -- Every read of a well-formed log that has ended did so with a result or with a band.
  pub may_stand : MayStand log r
  unfolding kind_at row_ok
  may_stand =
      let L = laws log formed in
      let s = L.read_end r x.is in
      let d = L.read_done r x.is x.ended in
      let k = sym (kind_is log formed (end_at log r) (omega arith)) ∙ d.0 in
      let t = row_passes log formed (end_at log r) (omega arith) x.ended in
      elim (ends_with w (processor_at log 0) (T-left (fields_ok w (processor_at log 0)) _ t) k) [
        | inl a ↦ inl (with_result_lem a)
        | inr b ↦ inr (with_band b.0 b.1)
      ]

  -- In a log without bands each did so with a result.
  pub result_only : NoBands log → WithResult log r
  result_only n = elim may_stand [ inl a ↦ a | inr b ↦ absurd (n (end_at log r) b.kind_6) ]
