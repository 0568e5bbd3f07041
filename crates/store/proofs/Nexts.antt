-- The loop that finds each row of the log: row k + 1, of byte k.
use Prim.Native.Nat.{ℕ, ◌≤◌, ◌<◌, ◌+◌}
use native.Mathlib.Omega.{arith}
use native.Mathlib.Decide.{ℕ_discrete}
use native.Mathlib.Numerals.{add-one}
use mathlib.Core.Path.{◌≡◌, refl, sym, ap, ◌∙◌}
use mathlib.Core.List.{List}
use lib.Dec.{T}
use lib.ListN.{length, get_or, take, set, length-set}
use lib.Seq.{get_or-set_same, get_or-set_other, take_all}
use Rattle.judging.specs.Answer.{laid}
use Rattle.storing.specs.Gather.{strip, gather, count_of}
use Rattle.storing.specs.Strips.{log_of, matched}
use Rattle.storing.proofs.Counts.{count_hit, count_miss, count_less}
use Rattle.storing.proofs.Back.{log_length, log_first, log_row, back_place}
use Rattle.storing.proofs.Matching.{Matched, matched→}
use Rattle.store.specs.Places.{start_of, next_of}
use Rattle.store.proofs.Starts.{start_next, start_le}
use Rattle.store.proofs.Walks.{copy_step, copy_start, over_all}

-- what `put_starts` leaves
abbrev pub Starts : List ℕ → List ℕ → Type 0
Starts bytes next = (p : ℕ) → p < 256 → 0 < count_of p bytes → get_or next p 0 ≡ start_of p bytes

-- where each processor's next row is found, before byte k
pub record Nexts (bytes next : List ℕ) (k : ℕ) : Type 0 where
  pub size : length next ≡ 256
  pub each : (p : ℕ) → p < 256 → 0 < count_of p bytes → get_or next p 0 ≡ next_of bytes k p

pub nexts_start : (bytes next : List ℕ) → length next ≡ 256 → Starts bytes next → Nexts bytes next 0
unfolding strip
nexts_start bytes next n f = record { size = n; each = λ p a b. f p a b ∙ omega arith }

module _ (bytes next : List ℕ) (k : ℕ) (inside : k < length bytes) (N : Nexts bytes next k) {p : ℕ} (e : p ≡ get_or bytes k 0) (a : p < 256) where
  next_is : get_or next p 0 ≡ next_of bytes k p
  next_is = N.each p a (rw e (omega (arith, count_less bytes k inside)))

  nexts_step : Nexts bytes (set next p (get_or next p 0 + 1)) (k + 1)
  nexts_step = record {
    size = length-set next p (get_or next p 0 + 1) ∙ N.size;
    each = λ q c d. rw (add-one k) (elim (ℕ_discrete q p) [
      | yes h ↦ rw h (get_or-set_same next p (get_or next p 0 + 1) 0 (omega (arith, N.size)) ∙ omega (arith, next_is, count_hit bytes p k inside (sym e)))
      | no h ↦ get_or-set_other next p q (get_or next p 0 + 1) 0 h ∙ N.each q c d ∙ omega (arith, count_miss bytes q k inside (λ g. h (sym (e ∙ g))))
    ]);
  }

-- Row 0 and those of the first k bytes are put, into the places o.
pub record Putting (bytes rows o log next : List ℕ) (k : ℕ) : Type 0 where
  pub matching : T (matched bytes rows)
  pub few : length rows ≤ 4096
  pub room : length rows ≤ length o
  pub nexts : Nexts bytes next k
  pub same_length : length log ≡ length o
  pub there : log ≡ laid (take (k + 1) (log_of bytes rows)) o

module _ (bytes rows : List ℕ) (t : T (matched bytes rows)) where
  M : Matched bytes rows
  M = matched→ bytes rows t

  pub some_rows : 1 ≤ length rows
  some_rows = omega (arith, M.number)

  pub fewer_bytes : length bytes < length rows
  fewer_bytes = omega (arith, M.number)

  pub putting_start : (o next : List ℕ) → length rows ≤ 4096 → length rows ≤ length o → length next ≡ 256 → Starts bytes next
      → Putting bytes rows (set o 0 (get_or rows 0 0)) (set o 0 (get_or rows 0 0)) next 0
  putting_start o next a b n S = record {
    matching = t;
    few = a;
    room = omega (arith, length-set o 0 (get_or rows 0 0));
    nexts = nexts_start bytes next n S;
    same_length = refl;
    there = rw (← log_first bytes rows M) (copy_start (log_of bytes rows) o (omega (arith, log_length bytes rows M, some_rows)) (omega (arith, some_rows)));
  }

  pub over_log : (o : List ℕ) → length rows ≤ length o → laid (log_of bytes rows) (set o 0 (get_or rows 0 0)) ≡ laid (log_of bytes rows) o
  over_log o b = rw (← log_first bytes rows M) (over_all (log_of bytes rows) o (omega (arith, log_length bytes rows M, some_rows)) (omega (arith, some_rows)))

module _ {bytes rows o log next : List ℕ} {k : ℕ} (P : Putting bytes rows o log next k) where
  belong : Matched bytes rows
  belong = matched→ bytes rows P.matching

  pub all_put : length bytes ≤ k → log ≡ laid (log_of bytes rows) o
  all_put a =
      P.there ∙ ap (λ (l : List ℕ). laid l o) (take_all (k + 1) (log_of bytes rows) (omega (arith, log_length bytes rows belong, belong.number)))

  module _ (inside : k < length bytes) where
    pub row_in : k + 1 < length log
    row_in = omega (arith, belong.number, P.room, P.same_length)

    pub row_small : k + 1 < 4096
    row_small = omega (arith, belong.number, P.few)

    module _ {p : ℕ} (e : p ≡ get_or bytes k 0) (a : p < 256) where
      pub place_in : get_or next p 0 < length rows
      place_in =
          let c : count_of p (take k bytes) < count_of p bytes = rw e (count_less bytes k inside) in
          omega (arith, c, next_is bytes next k inside P.nexts e a, belong.number, start_next bytes p, start_le bytes (p + 1))

      row_is : get_or rows (get_or next p 0) 0 ≡ get_or (log_of bytes rows) (k + 1) 0
      row_is =
          let f : 1 + k ≡ k + 1 = omega arith in
          let g : get_or next p 0 ≡ 1 + (length (gather (λ b. b) (get_or bytes k 0) bytes) + count_of (get_or bytes k 0) (take k bytes)) =
          next_is bytes next k inside P.nexts e a ∙ ap (next_of bytes k) e ∙ omega arith in
          sym (
          ap (λ (i : ℕ). get_or (log_of bytes rows) i 0) (sym f)
          ∙ log_row bytes rows belong k inside
          ∙ back_place bytes rows belong k inside (rw (← e) a)
          ∙ ap (λ (i : ℕ). get_or rows i 0) (sym g)
          )

      pub one_put : Putting bytes rows o (set log (k + 1) (get_or rows (get_or next p 0) 0)) (set next p (get_or next p 0 + 1)) (k + 1)
      one_put = record {
        matching = P.matching;
        few = P.few;
        room = P.room;
        nexts = nexts_step bytes next k inside P.nexts e a;
        same_length = length-set log (k + 1) (get_or rows (get_or next p 0) 0) ∙ P.same_length;
        there = rw (row_is, P.there) (copy_step (log_of bytes rows) o (k + 1) (omega (arith, log_length bytes rows belong, belong.number)) (omega (arith, P.room, log_length bytes rows belong)));
      }
