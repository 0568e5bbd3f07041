-- The lines of the listed schedules are those of all schedules.
use Prim.Native.Nat.{ℕ, ◌+◌, ◌≤◌}
use native.Mathlib.Omega.{arith}
use mathlib.Core.Path.{◌≡◌, refl, sym, ap, subst, ◌∙◌}
use mathlib.Core.Bool.{true, false}
use mathlib.Core.List.{List, [], ◌∷◌, ◌++◌, flat_map, Memᴰ}
use lib.ListN.{length, take, replicate, length-replicate}
use Rattle.common.specs.SetUp.{readers_fit}
use Rattle.schedules.specs.Schedules.{Turn, schedules}
use Rattle.schedules.specs.Numbers.{value, numbers, turns_of, listed}
use Rattle.schedules.proofs.Each.{turns_length}
use Rattle.schedules.proofs.Meaning.{all_schedules}
use Rattle.schedules.proofs.Numbers.{turns_back, listed_short, listed_few}
use Rattle.lines.specs.Lines.{refused_line, Puts}
use Rattle.lines.specs.Adds.{Adds, Sink}
use Rattle.lines.proofs.Puts.{whole}
use Rattle.printing.specs.Drill.{drill_line, drill_lines}
use Rattle.drills.specs.Words.{number_line}

module _ (n start v : ℕ) where
  lines_are : (k : ℕ) (ss : List (List Turn)) → ((s : List Turn) → Memᴰ s ss → length s ≡ k)
      → flat_map (number_line n start v k) (numbers 0 ss) ≡ flat_map (drill_line n start v) ss
  unfolding numbers flat_map
  lines_are k [] h = refl
  lines_are k (s ∷ ss) h =
      let e : turns_of k (value 0 s) ≡ s = ap (λ (i : ℕ). turns_of i (value 0 s)) (sym (h s (Memᴰ.head refl))) ∙ turns_back s in
      let f = lines_are k ss (λ t m. h t (Memᴰ.tail m)) in
      ap (λ (t : List Turn). drill_line n start v t ++ flat_map (number_line n start v k) (numbers 0 ss)) e ∙ ap (drill_line n start v s ++◌) f

  module _ (a b : ℕ) where
    turn_count : (s : List Turn) → Memᴰ s (schedules a b) → length s ≡ a + b
    turn_count s m = let h = (all_schedules a b).each s m in omega (arith, turns_length s, h.of_writer, h.of_reader)

    -- places for every list
    abbrev places : List ℕ
    places = replicate 12870 0

    pub drill_is : {y : List ℕ} {e : ℕ} {old new : Sink} → readers_fit n ≡ true → a + b ≤ 16 → Puts (listed a b) 0 places y e
        → Adds (flat_map (number_line n start v (a + b)) (take e y)) old new
        → Adds (drill_lines n start v a b) old new
    unfolding drill_lines
    drill_is {old = old} {new = new} fit few P Q =
        let e = whole P (omega (arith, listed_few a b few, length-replicate {A = ℕ} 12870 0)) ∙ listed_short a b few in
        rw fit
        (subst (λ (t : List ℕ). Adds t old new) (ap (flat_map (number_line n start v (a + b))) e ∙ lines_are (a + b) (schedules a b) turn_count) Q)

    pub no_register : {old new : Sink} → readers_fit n ≡ false → Adds (refused_line 1) old new → Adds (drill_lines n start v a b) old new
    unfolding drill_lines
    no_register fit P = rw fit P
