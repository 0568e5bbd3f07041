-- Question 16, strip by strip.
use Prim.Native.Nat.{ℕ, suc, ◌≤◌, ◌<◌, ◌+◌, ◌-◌}
use native.Mathlib.Omega.{arith}
use native.Mathlib.Numerals.{add-one}
use native.Mathlib.Decide.{dec_lt}
use mathlib.Core.Path.{◌≡◌, refl, sym, ap, ◌∙◌}
use mathlib.Core.Logic.{◌≢◌}
use mathlib.Core.Bool.{Bool, true, false}
use mathlib.Core.List.{List, map}
use lib.Dec.{T}
use lib.ListN.{length, get_or, drop, length-append, length-drop, length-map, get_or-append}
use lib.Seq.{ext_get_or, get_or-drop}
use borrow.Author.Tests.{eq-eqb, ne_eqb}
use Rattle.words.proofs.Laws.Choice.{T→true, not→false}
use Rattle.words.proofs.Laws.Same.{→same}
use Rattle.history.specs.Rows.{processor_of}
use Rattle.storing.specs.Gather.{strip, gather, count_of}
use Rattle.storing.specs.Strips.{sorted, matched}
use Rattle.storing.proofs.Gathered.{strip_key, gather_suc}
use Rattle.storing.proofs.Onward.{gather_le, gather_all, gather_full, gather_at}
use Rattle.store.specs.Places.{start_of, AllOf}
use Rattle.store.proofs.Starts.{start_next, start_le, start_less}
use Rattle.storing.proofs.Back.{processor_at_lem}
use Rattle.storing.proofs.Matching.{matched→}

-- numbers that do not match
pub wrong_number : (bytes rows : List ℕ) → (length rows ≡ length bytes + 1 → ⊥) → false ≡ matched bytes rows
unfolding matched
wrong_number bytes rows n = rw (ne_eqb (length rows) (length bytes + 1) n)

module _ (bytes rows : List ℕ) where
  -- the first p strips agree, and `at` is where the next starts
  pub record Agreed (at p : ℕ) : Type 0 where
    pub upto : p ≤ 256
    pub number : length rows ≡ length bytes + 1
    pub next : at ≡ start_of p bytes
    pub so_far : (i : ℕ) → i < length (gather (λ b. b) p bytes) → processor_of (get_or rows (1 + i) 0) ≡ get_or (gather (λ b. b) p bytes) i 0

  pub agreed_start : length rows ≡ length bytes + 1 → Agreed 1 0
  unfolding gather
  agreed_start n = record { upto = omega arith; number = n; next = refl; so_far = λ i a. absurd (omega arith) }

  module _ (small : (i : ℕ) → i < length bytes → get_or bytes i 0 < 256) (at p : ℕ) (A : Agreed at p) where
    pub agreed_less : at < length rows → p < 256
    agreed_less a = start_less bytes small p A.upto (omega (arith, A.next, A.number))

    pub agreed_room : at + count_of p bytes ≤ length rows
    agreed_room = omega (arith, A.next, A.number, start_next bytes p, start_le bytes (p + 1))

    -- all strips up to p are those of the bytes
    pub agreed_all : length rows ≤ at → true ≡ matched bytes rows
    unfolding matched sorted
    agreed_all a =
        let f = gather_full (λ b. b) p 256 bytes A.upto (omega (arith, A.next, A.number, gather_le (λ b. b) 256 bytes)) in
        let n : length (gather (λ b. b) 256 bytes) ≡ length (map processor_of (drop 1 rows)) =
        gather_all (λ b. b) 256 bytes small ∙ omega (arith, A.number, length-drop 1 rows, length-map (drop 1 rows) processor_of) in
        let e : gather (λ b. b) 256 bytes ≡ map processor_of (drop 1 rows) = ext_get_or 0 (gather (λ b. b) 256 bytes) (map processor_of (drop 1 rows)) n
        (λ i b. sym (processor_at_lem (drop 1 rows) i ∙ ap processor_of (get_or-drop 1 rows i 0)
        ∙ A.so_far i (omega (arith, b, ap length f)) ∙ ap (λ (l : List ℕ). get_or l i 0) f)) in
        sym (rw (eq-eqb (length rows) (length bytes + 1) A.number) (T→true _ (→same _ _ e)))

    -- one that is not
    pub agreed_not : p < 256 → AllOf rows at (count_of p bytes) p false → false ≡ matched bytes rows
    unfolding sorted
    agreed_not b R = sym (not→false (matched bytes rows) (λ t. o.2 (rw (← place) (sym (right t)))))
      where
        o : (i : ℕ) × (i < count_of p bytes) × (processor_of (get_or rows (at + i) 0) ≢ p)
        o = R.one refl

        place : 1 + (length (gather (λ b. b) p bytes) + o.0) ≡ at + o.0
        place = omega (arith, A.next)

        right : T (matched bytes rows) → p ≡ processor_of (get_or rows (1 + (length (gather (λ b. b) p bytes) + o.0)) 0)
        right t =
            sym (strip_key (λ b. b) p bytes o.0 o.1)
            ∙ sym (gather_at (λ b. b) p 256 bytes o.0 b o.1)
            ∙ ap (λ (l : List ℕ). get_or l (length (gather (λ b. b) p bytes) + o.0) 0) (matched→ bytes rows t).processors
            ∙ processor_at_lem (drop 1 rows) (length (gather (λ b. b) p bytes) + o.0)
            ∙ ap processor_of (get_or-drop 1 rows (length (gather (λ b. b) p bytes) + o.0) 0)

    pub agreed_next : p < 256 → AllOf rows at (count_of p bytes) p true → Agreed (at + count_of p bytes) (p + 1)
    agreed_next b R = record {
      upto = omega arith;
      number = A.number;
      next = omega (arith, A.next, start_next bytes p);
      so_far = λ i a. rw (add-one p) (go i (rw (add-one p) at a));
    }
      where
        go : (i : ℕ) → i < length (gather (λ b. b) (suc p) bytes) → processor_of (get_or rows (1 + i) 0) ≡ get_or (gather (λ b. b) (suc p) bytes) i 0
        go i a = elim (dec_lt i (length (gather (λ b. b) p bytes))) [
          | yes c ↦ A.so_far i c ∙ sym (ap (λ (l : List ℕ). get_or l i 0) (gather_suc (λ b. b) p bytes) ∙ get_or-append (gather (λ b. b) p bytes) (strip (λ b. b) p bytes) 0 i c)
          | no c ↦ let j = i - length (gather (λ b. b) p bytes) in
              let e : i ≡ length (gather (λ b. b) p bytes) + j = omega arith in
              let f : 1 + i ≡ at + j = omega (arith, A.next) in
              let d : j < count_of p bytes = omega (arith, ap length (gather_suc (λ b. b) p bytes), length-append (gather (λ b. b) p bytes) (strip (λ b. b) p bytes)) in
              ap (λ (k : ℕ). processor_of (get_or rows k 0)) f
              ∙ R.all refl j d
              ∙ sym (ap (λ (k : ℕ). get_or (gather (λ b. b) (suc p) bytes) k 0) e ∙ gather_at (λ b. b) p (suc p) bytes j (omega arith) d ∙ strip_key (λ b. b) p bytes j d)
        ]

pub all_of_is : {rows : List ℕ} {at n m p : ℕ} {r s : Bool} → n ≡ m → r ≡ s → AllOf rows at n p r → AllOf rows at m p s
all_of_is e f R = rw (e, f) at R
