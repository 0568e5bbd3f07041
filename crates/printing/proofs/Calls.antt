-- The calls of 65,536 bytes: each is a call's word, and there are words enough for them.
use Prim.Native.Nat.{ℕ, zero, suc, ◌+◌, ◌-◌, ◌*◌, ◌^◌, ◌≤◌, ◌<◌}
use native.Mathlib.Omega.{arith}
use native.Mathlib.Decide.{dec_lt, ℕ_discrete}
use mathlib.Core.Path.{◌≡◌, refl, sym, ap, ◌∙◌}
use mathlib.Core.Logic.{◌≢◌}
use mathlib.Core.Bool.{true, ◌&&◌}
use mathlib.Core.List.{List, [], ◌∷◌, map}
use lib.Dec.{eqb, ltb}
use lib.ListN.{length, get_or, take, drop, length-take, drop_of_length-le}
use borrow.Author.Tests.{ltb-true}
use Rattle.words.proofs.Laws.Choice.{pick_ind, pick_yes, left, right}
use Rattle.common.specs.declared.calls.Call.{Call}
use Rattle.common.specs.CallWords.{kind_of, is_call, call_in, calls_in}
use Rattle.fields.specs.Fields.{place_of, none, number_in}
use Rattle.fields.proofs.FieldLaws.{number_none}
use Rattle.script.specs.Script.{kind_in, call_in as line_call, call_from, calls_from, end_from}
use Rattle.script.proofs.ScriptLaws.{call_large, stop_calls, stop_end, next_calls, next_end}

-- A line's call is a call's word.
kinds : (P : ℕ → Type 0) (b : ℕ) → P 1 → P 2 → P 3 → P 0 → P (kind_in b)
unfolding kind_in
kinds P b x y z u = pick_ind P (eqb b 87) _ _ (λ _. x) (λ _. pick_ind P (eqb b 82) _ _ (λ _. y) (λ _. pick_ind P (eqb b 83) _ _ (λ _. z) (λ _. u)))

abbrev IsCall : ℕ → Type 0
IsCall k = (m : ℕ) → 0 < k → m < none → is_call (k * 2 ^ 32 + m) ≡ true

kind_1 : IsCall 1
kind_1 m a h = let e : kind_of (1 * 2 ^ 32 + m) ≡ 1 = omega arith in rw e refl

kind_2 : IsCall 2
kind_2 m a h = let e : kind_of (2 * 2 ^ 32 + m) ≡ 2 = omega arith in rw e refl

kind_3 : IsCall 3
kind_3 m a h = let e : kind_of (3 * 2 ^ 32 + m) ≡ 3 = omega arith in rw e refl

module _ (line : List ℕ) where
  abbrev letter : ℕ
  letter = get_or line 0 0

  line_call_lem : line_call line ≢ 0 → is_call (line_call line) ≡ true
  unfolding line_call
  line_call_lem =
      pick_ind (λ (w : ℕ). w ≢ 0 → is_call w ≡ true) (ltb 0 (kind_in letter) && (eqb (get_or line 1 0) 32 && ltb (number_in (drop 2 line)) none)) _ _
      (λ e _. kinds IsCall letter kind_1 kind_2 kind_3 (λ m a h. absurd (omega arith)) (number_in (drop 2 line))
      (ltb-true 0 (kind_in letter) (left (ltb 0 (kind_in letter)) _ e))
      (ltb-true (number_in (drop 2 line)) none (right (eqb (get_or line 1 0) 32) _ (right (ltb 0 (kind_in letter)) _ e))))
      (λ _ n. absurd (n refl))

  -- it has a letter, a space and a digit
  three : length line < 3 → line_call line ≡ 0
  three h = sym (call_large line 0 none (number_none [] refl ∙ ap number_in (sym (drop_of_length-le line {i = 2} (omega arith)))) (omega arith))

module _ (b : List ℕ) where
  abbrev line_at : ℕ → List ℕ
  line_at p = take (place_of 10 b p - p) (drop p b)

  is_call_lem : (p : ℕ) → call_from b p ≢ 0 → is_call (call_from b p) ≡ true
  unfolding call_from
  is_call_lem p =
      pick_ind (λ (w : ℕ). w ≢ 0 → is_call w ≡ true) (ltb (place_of 10 b p) (length b)) _ _ (λ _ n. line_call_lem (line_at p) n) (λ _ n. absurd (n refl))

  -- with its line feed its line has four bytes or more
  four : (p : ℕ) → call_from b p ≢ 0 → (p + 3 ≤ place_of 10 b p) × (place_of 10 b p < length b)
  unfolding call_from
  four p =
      pick_ind (λ (w : ℕ). w ≢ 0 → (p + 3 ≤ place_of 10 b p) × (place_of 10 b p < length b)) (ltb (place_of 10 b p) (length b)) _ _
      (λ t n. elim (dec_lt (length (line_at p)) 3) [
        | yes h ↦ absurd (n (three (line_at p) h))
        | no h ↦ (omega (arith, length-take (place_of 10 b p - p) (drop p b)), ltb-true (place_of 10 b p) (length b) t)
      ])
      (λ _ n. absurd (n refl))

  -- more words than there are lines of four bytes change nothing
  abbrev Same : ℕ → ℕ → ℕ → Type 0
  Same k j p = (calls_from k b p ≡ calls_from j b p) × (end_from k b p ≡ end_from j b p)

  stopped : (k j p : ℕ) → call_from b p ≡ 0 → Same k j p
  stopped k j p z = (stop_calls b p k z ∙ sym (stop_calls b p j z), stop_end b p k z ∙ sym (stop_end b p j z))

  pub enough : (k j p : ℕ) → length b ≤ p + 4 * k → length b ≤ p + 4 * j → Same k j p
  enough zero j p a c =
      elim (ℕ_discrete (call_from b p) 0) [
        | yes z ↦ stopped 0 j p z
        | no n ↦ absurd (omega (arith, four p n))
      ]
  enough (suc k) zero p a c =
      elim (ℕ_discrete (call_from b p) 0) [
        | yes z ↦ stopped (suc k) 0 p z
        | no n ↦ absurd (omega (arith, four p n))
      ]
  enough (suc k) (suc j) p a c =
      elim (ℕ_discrete (call_from b p) 0) [
        | yes z ↦ stopped (suc k) (suc j) p z
        | no n ↦
            let r = enough k j (place_of 10 b p + 1) (omega (arith, four p n)) (omega (arith, four p n)) in (
              next_calls b p k n ∙ ap (λ (l : List ℕ). call_from b p ∷ l) r.0 ∙ sym (next_calls b p j n),
              next_end b p k n ∙ r.1 ∙ sym (next_end b p j n),
            )
      ]

  -- each is made
  pub made : (k p : ℕ) (places : List ℕ) → k ≤ length places → calls_in (calls_from k b p) places ≡ map call_in (calls_from k b p)
  unfolding calls_in calls_from
  made zero p places h = refl
  made (suc k) p [] h = absurd (omega arith)
  made (suc k) p (a ∷ places) h =
      elim (ℕ_discrete (call_from b p) 0) [
        | yes z ↦ rw (stop_calls b p (suc k) z)
        | no n ↦
            rw (next_calls b p k n)
            (pick_yes (is_call (call_from b p)) _ _ (is_call_lem p n)
            ∙ ap (λ (cs : List Call). call_in (call_from b p) ∷ cs) (made k (place_of 10 b p + 1) places (omega arith)))
      ]
