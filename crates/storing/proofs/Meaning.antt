-- The answers mean what document 02 says.
use Prim.Native.Nat.{ℕ, ◌≤◌, ◌<◌, ◌+◌, ◌-◌}
use native.Mathlib.Omega.{arith}
use native.Mathlib.Decide.{dec_lt}
use mathlib.Core.Path.{◌≡◌, refl, sym, ap, subst, ◌∙◌}
use mathlib.Core.Logic.{◌↔◌, inl, inr}
use mathlib.Core.Bool.{Bool, true, false}
use mathlib.Core.List.{List}
use lib.Dec.{T}
use lib.ListN.{length, get_or, take, drop}
use lib.Seq.{drop_at}
use borrow.Author.Tests.{le-leb, lt-leb}
use Rattle.history.specs.WellFormed.{well_formed}
use Rattle.judging.specs.Answer.{right_length, laid}
use Rattle.judging.specs.Meaning.{Formed}
use Rattle.judging.proofs.Asked.{right→, wrong, untested, formed_is}
use Rattle.judging.proofs.Places.{laid_take}
use Rattle.storing.specs.Strips.{strip_bytes, strip_rows, log_of, matched}
use Rattle.storing.specs.Answer.{storing, restoring, Stored, Restored}
use Rattle.storing.specs.Meaning.{StripsOf, Match, Front, StoreSays, says_0, says_9, says_10, says_11, RestoreSays, says_16}
use Rattle.storing.proofs.Back.{log_length}
use Rattle.storing.proofs.Matching.{Matched, matched→}
use Rattle.storing.proofs.RoundTrip.{bytes_back, strips_back}
use Rattle.storing.proofs.Passes.{stored_matched}
use Rattle.storing.proofs.Sorting.{match_if}
use Rattle.storing.proofs.Placed.{in_strips}
use Rattle.storing.proofs.Unique.{only_strips}

-- Strips match exactly if they are those of a log: as the definitions have it, and as the papers do.
pub matched_if_stored : (bytes rows : List ℕ) → ((i : ℕ) → i < length bytes → get_or bytes i 0 < 256)
    → T (matched bytes rows) ↔ ((log : List ℕ) × (1 ≤ length log) × (strip_bytes log ≡ bytes) × (strip_rows log ≡ rows))
matched_if_stored bytes rows small = (
  λ t. let M = matched→ bytes rows t in
      (log_of bytes rows, omega (arith, log_length bytes rows M, M.number), bytes_back bytes rows M small, strips_back bytes rows M small),
  λ x. rw (← x.2, ← x.3) (stored_matched x.0 x.1),
)

pub match_if_strips : (bytes rows : List ℕ) → ((i : ℕ) → i < length bytes → get_or bytes i 0 < 256)
    → Match bytes rows ↔ ((log : List ℕ) × (1 ≤ length log) × StripsOf log bytes rows)
match_if_strips bytes rows small =
    let stored = matched_if_stored bytes rows small in
    let match = match_if bytes rows small in (
      λ M. let x = stored.0 (match.1 M) in (x.0, x.1, rw (x.2, x.3) at (in_strips x.0 x.1)),
      λ x. let e = only_strips x.0 bytes rows x.1 x.2 in match.0 (stored.1 (x.0, x.1, sym e.0, sym e.1)),
    )

-- Places with l at their front.
module _ (l o : List ℕ) {o' : List ℕ} {n : ℕ} (size : length l ≡ n) (e : o' ≡ laid l o) where
  front : n ≤ length o → Front o o' n
  unfolding laid
  front a = record { room = a; beyond = rw (e, ← size) (drop_at l (drop (length l) o) (length l) refl) }

  taken : take n o' ≡ l
  taken = rw (e, ← size) (laid_take l o)

-- Storing, by the first question that gets a no.
module _ {log b r b' r' : List ℕ} {k : ℕ} (S : Stored log b r b' r' k) where
  store_no : {j : ℕ} → ((A : Type 0) (refuse : ℕ → A) (done : A) → storing log (length b) (length r) refuse done ≡ refuse j)
      → (b' ≡ b → r' ≡ r → StoreSays log b r b' r' j) → StoreSays log b r b' r' k
  store_no e f = subst (StoreSays log b r b' r') (sym (S.number ∙ e _ _ _)) (f (S.bytes_are ∙ e _ _ _) (S.rows_are ∙ e _ _ _))

  store_yes : ((A : Type 0) (refuse : ℕ → A) (done : A) → storing log (length b) (length r) refuse done ≡ done)
      → Formed log → length log ≤ length b + 1 → length log ≤ length r → StoreSays log b r b' r' k
  store_yes e F a c =
      let I = in_strips log F.size.some in
      let n : length (strip_bytes log) ≡ length log - 1 = omega (arith, I.bytes_number) in
      let f : b' ≡ laid (strip_bytes log) b = S.bytes_are ∙ e _ _ _ in
      let g : r' ≡ laid (strip_rows log) r = S.rows_are ∙ e _ _ _ in
      subst (StoreSays log b r b' r') (sym (S.number ∙ e _ _ _))
      (says_0 F (front (strip_bytes log) b n f (omega arith)) (front (strip_rows log) r I.rows_number g c)
      (rw (taken (strip_bytes log) b n f, taken (strip_rows log) r I.rows_number g) I))

  store_room : right_length (length log) ≡ true → well_formed log ≡ true → StoreSays log b r b' r' k
  unfolding storing
  store_room e w =
      let F = formed_is log refl e refl w in
      elim (dec_lt (length b + 1) (length log)) [
        | yes a ↦ store_no (λ A f d. rw (e, w, lt-leb (length log) (length b + 1) a)) (says_11 F (inl (omega arith)))
        | no a ↦ let h = le-leb (length log) (length b + 1) (omega arith) in elim (dec_lt (length r) (length log)) [
          | yes c ↦ store_no (λ A f d. rw (e, w, h, lt-leb (length log) (length r) c)) (says_11 F (inr c))
          | no c ↦ store_yes (λ A f d. rw (e, w, h, le-leb (length log) (length r) (omega arith))) F (omega arith) (omega arith)
        ]
      ]

  store_form : right_length (length log) ≡ true → (t : Bool) → well_formed log ≡ t → StoreSays log b r b' r' k
  unfolding storing
  store_form e true w = store_room e w
  store_form e false w = store_no (λ A f d. rw (e, w)) (says_10 (right→ log (rw e tt)) (untested w))

  store_length : (t : Bool) → right_length (length log) ≡ t → StoreSays log b r b' r' k
  unfolding storing
  store_length true e = store_form e (well_formed log) refl
  store_length false e = store_no (λ A f d. rw e) (says_9 (wrong log e))

  pub store_says : StoreSays log b r b' r' k
  store_says = store_length (right_length (length log)) refl

-- Restoring, likewise.
module _ {bytes rows o o' : List ℕ} {k : ℕ} (small : (i : ℕ) → i < length bytes → get_or bytes i 0 < 256) (R : Restored bytes rows o o' k) where
  restore_no : {j : ℕ} → ((A : Type 0) (refuse : ℕ → A) (done : A) → restoring bytes rows (length o) refuse done ≡ refuse j)
      → (o' ≡ o → RestoreSays bytes rows o o' j) → RestoreSays bytes rows o o' k
  restore_no e f = subst (RestoreSays bytes rows o o') (sym (R.number ∙ e _ _ _)) (f (R.log_is ∙ e _ _ _))

  module _ (t : matched bytes rows ≡ true) where
    belongs : Matched bytes rows
    belongs = matched→ bytes rows (rw t tt)

    matches : Match bytes rows
    matches = (match_if bytes rows small).0 (rw t tt)

    size : length (log_of bytes rows) ≡ length rows
    size = log_length bytes rows belongs

    strips : StripsOf (log_of bytes rows) bytes rows
    strips =
        rw (bytes_back bytes rows belongs small, strips_back bytes rows belongs small) at
        (in_strips (log_of bytes rows) (omega (arith, size, belongs.number)))

    restore_yes : ((A : Type 0) (refuse : ℕ → A) (done : A) → restoring bytes rows (length o) refuse done ≡ done)
        → Formed (log_of bytes rows) → length rows ≤ length o → RestoreSays bytes rows o o' k
    restore_yes e F a =
        let l = log_of bytes rows in
        let f : o' ≡ laid l o = R.log_is ∙ e _ _ _ in
        let h = sym (taken l o size f) in
        subst (RestoreSays bytes rows o o') (sym (R.number ∙ e _ _ _))
        (says_0 matches (front l o size f a) (subst Formed h F) (subst (λ (z : List ℕ). StripsOf z bytes rows) h strips))

    restore_room : right_length (length (log_of bytes rows)) ≡ true → well_formed (log_of bytes rows) ≡ true → RestoreSays bytes rows o o' k
    unfolding restoring
    restore_room e w =
        let l = log_of bytes rows in
        let F = formed_is l refl e refl w in
        elim (dec_lt (length o) (length rows)) [
          | yes a ↦ restore_no (λ A f d. rw (t, e, w, lt-leb (length l) (length o) (omega (arith, size)))) (says_11 matches l strips F a)
          | no a ↦ restore_yes (λ A f d. rw (t, e, w, le-leb (length l) (length o) (omega (arith, size)))) F (omega arith)
        ]

    restore_form : right_length (length (log_of bytes rows)) ≡ true → (u : Bool) → well_formed (log_of bytes rows) ≡ u → RestoreSays bytes rows o o' k
    unfolding restoring
    restore_form e true w = restore_room e w
    restore_form e false w =
        restore_no (λ A f d. rw (t, e, w)) (says_10 matches (right→ rows (rw (← size, e) tt)) (log_of bytes rows) strips (untested w))

    restore_length : (u : Bool) → right_length (length (log_of bytes rows)) ≡ u → RestoreSays bytes rows o o' k
    unfolding restoring
    restore_length true e = restore_form e (well_formed (log_of bytes rows)) refl
    restore_length false e = restore_no (λ A f d. rw (t, e)) (says_9 matches (wrong rows (ap right_length (sym size) ∙ e)))

  restore_match : (t : Bool) → matched bytes rows ≡ t → RestoreSays bytes rows o o' k
  unfolding restoring
  restore_match true t = restore_length t (right_length (length (log_of bytes rows))) refl
  restore_match false t = restore_no (λ A f d. rw t) (says_16 (λ M. rw t at ((match_if bytes rows small).1 M)))

  pub restore_says : RestoreSays bytes rows o o' k
  restore_says = restore_match (matched bytes rows) refl
