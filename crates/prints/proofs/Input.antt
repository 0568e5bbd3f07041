-- What the code prints of an input is what is to be printed.
use Prim.Native.Nat.{ℕ, ◌+◌, ◌≤◌, ◌<◌}
use native.Mathlib.Omega.{arith}
use mathlib.Core.Path.{◌≡◌, refl, sym, ap, subst, ◌∙◌}
use mathlib.Core.Bool.{Bool, true, false, ◌&&◌}
use mathlib.Core.List.{List, map}
use lib.Dec.{leb, ltb, eqb}
use lib.ListN.{length, get_or, take, replicate, length-take, length-replicate}
use lib.Seq.{sets}
use borrow.Author.Tests.{ne_eqb, lt-ltb, le-ltb, le-leb}
use Rattle.words.specs.Choice.{pick}
use Rattle.common.specs.CallWords.{call_in, calls_in}
use Rattle.fields.specs.Fields.{place_of, numbers_in, all_numbers}
use Rattle.script.specs.Script.{calls_from, end_from, Reads}
use Rattle.script.proofs.ScriptLaws.{calls_fit}
use Rattle.lines.specs.Lines.{bad_line}
use Rattle.lines.specs.Adds.{Adds, Sink}
use Rattle.lines.proofs.Puts.{sets_front}
use Rattle.printing.specs.Print.{log_print, second_line, calls, calls_print, register_print, first_numbers, good_first, bench_print}
use Rattle.prints.specs.Words.{bad_number, ending, most_calls, run_print, script_print}
use Rattle.printing.proofs.Laws.{long_input}
use Rattle.printing.proofs.Calls.{enough, made}

ending_is : (n v : ℕ) (c e k : ℕ) (rows : List ℕ) → ending n v rows (bad_number c e k) ≡ pick (ltb e k) (bad_line (c + 2)) (log_print n v rows)
unfolding ending bad_number
ending_is n v c e k rows = go (ltb e k)
  where
    go : (t : Bool) → pick (eqb (pick t (c + 2) 0) 0) (log_print n v rows) (bad_line (pick t (c + 2) 0)) ≡ pick t (bad_line (c + 2)) (log_print n v rows)
    go true = rw (ne_eqb (c + 2) 0 (λ z. omega arith))
    go false = refl

-- The calls behind the first line.
module _ (n v : ℕ) (b : List ℕ) (h : length b ≤ 65536) where
  abbrev same : (calls_from most_calls b (second_line b) ≡ calls b) × (end_from most_calls b (second_line b) ≡ end_from (length b) b (second_line b))
  same = enough b most_calls (length b) (second_line b) (omega arith) (omega arith)

  all_made : calls_in (calls b) (replicate most_calls 0) ≡ map call_in (calls b)
  all_made =
      subst (λ (ws : List ℕ). calls_in ws (replicate most_calls 0) ≡ map call_in ws) same.0
      (made b most_calls (second_line b) (replicate most_calls 0) (omega (arith, length-replicate {A = ℕ} most_calls 0)))

  abbrev end : ℕ
  end = end_from (length b) b (second_line b)

  run_is : run_print n v (calls b) (bad_number (length (calls b)) end (length b)) ≡ register_print n v b
  unfolding run_print register_print calls_print
  run_is = rw (all_made, ending_is n v (length (calls b)) end (length b))

  script_is : script_print n v b (second_line b) ≡ register_print n v b
  unfolding script_print
  script_is =
      ap (λ (ws : List ℕ). run_print n v ws (bad_number (length ws) (end_from most_calls b (second_line b)) (length b))) same.0
      ∙ ap (λ (e : ℕ). run_print n v (calls b) (bad_number (length (calls b)) e (length b))) same.1
      ∙ run_is

-- The cases of an input.
pub too_long : (b : List ℕ) {old new : Sink} → 65536 < length b → Adds (bad_line 1) old new → Adds (bench_print b) old new
too_long b h a = rw (long_input b h) a

module _ (b : List ℕ) (e : ℕ) (h : length b ≤ 65536) (at : e ≡ place_of 10 b 0) where
  pub no_feed : {old new : Sink} → length b ≤ e → Adds (bad_line 1) old new → Adds (bench_print b) old new
  unfolding bench_print good_first
  no_feed i a = rw (le-leb (length b) 65536 h, le-ltb (place_of 10 b 0) (length b) (omega arith)) a

  -- whether the first line is good, and the two places that its numbers were put into
  module _ (i : e < length b) (t : Bool) (good : t ≡ all_numbers 2 (numbers_in (take e b))) where
    good_is : t ≡ all_numbers 2 (first_numbers b)
    good_is = good ∙ ap (λ (k : ℕ). all_numbers 2 (numbers_in (take k b))) at

    first_is : leb (length b) 65536 && good_first b ≡ t
    unfolding good_first
    first_is = rw (le-leb (length b) 65536 h, lt-ltb (place_of 10 b 0) (length b) (omega arith)) (sym good_is)

    pub bad_first : {old new : Sink} → t ≡ false → Adds (bad_line 1) old new → Adds (bench_print b) old new
    unfolding bench_print
    bad_first f a = rw (first_is ∙ f) a

    module _ (x : List ℕ) (put : x ≡ numbers_in (take e b)) (f : t ≡ true) where
      places : x ≡ first_numbers b
      places = put ∙ ap (λ (k : ℕ). numbers_in (take k b)) at

      pub good_first_lem : {old new : Sink} → Adds (script_print (get_or x 0 0) (get_or x 1 0) b (e + 1)) old new
          → Adds (bench_print b) old new
      unfolding bench_print
      good_first_lem {old} {new} a =
          rw (first_is ∙ f)
          (subst (λ (s : List ℕ). Adds s old new)
          (ap (λ (k : ℕ). script_print (get_or x 0 0) (get_or x 1 0) b (k + 1)) at
          ∙ script_is (get_or x 0 0) (get_or x 1 0) b h
          ∙ ap (λ (ns : List ℕ). register_print (get_or ns 0 0) (get_or ns 1 0) b) places)
          a)

-- The calls that were read are at the front of their words.
abbrev call_places : List ℕ
call_places = replicate most_calls 0

module _ (b : List ℕ) (from : ℕ) (w : List ℕ) (c e : ℕ) (r : Reads b from call_places w c e) where
  room : length call_places ≡ most_calls
  room = length-replicate {A = ℕ} most_calls 0

  abbrev found : List ℕ
  found = calls_from most_calls b from

  count_is : c ≡ length found
  count_is = r.count_is ∙ ap (λ (k : ℕ). length (calls_from k b from)) room

  pub calls_few : c ≤ most_calls
  calls_few = omega (arith, count_is, calls_fit most_calls b from)

  front : take c w ≡ found
  front =
      ap (λ (k : ℕ). take k w) count_is
      ∙ ap (take (length found)) (r.words_are ∙ ap (λ (k : ℕ). sets call_places 0 (calls_from k b from)) room)
      ∙ sets_front found call_places (omega (arith, room, calls_fit most_calls b from))

  pub calls_within : (c ≤ length w) × (c ≡ length (take c w))
  calls_within =
      let e : c ≡ length (take c w) = count_is ∙ sym (ap length front) in
      (omega (arith, length-take c w), e)

  pub script_put : (n v bad : ℕ) {old new : Sink} → bad ≡ bad_number c e (length b) → Adds (run_print n v (take c w) bad) old new
      → Adds (script_print n v b from) old new
  unfolding script_print
  script_put n v bad {old} {new} i a =
      subst (λ (s : List ℕ). Adds s old new)
      (ap (λ (k : ℕ). run_print n v (take c w) k) i
      ∙ ap (λ (k : ℕ). run_print n v (take c w) (bad_number k e (length b))) count_is
      ∙ ap (λ (k : ℕ). run_print n v (take c w) (bad_number (length found) k (length b))) (r.end_is ∙ ap (λ (k : ℕ). end_from k b from) room)
      ∙ ap (λ (ws : List ℕ). run_print n v ws (bad_number (length found) (end_from most_calls b from) (length b))) front)
      a
