-- The cases of the answers.
use Prim.Native.Nat.{ℕ, ◌≤◌, ◌<◌, ◌+◌}
use native.Mathlib.Omega.{arith}
use mathlib.Core.Path.{◌≡◌, refl, sym, ap, ◌∙◌}
use mathlib.Core.Bool.{Bool, true, false, ◌&&◌}
use mathlib.Core.List.{List}
use lib.Dec.{eqb, leb}
use lib.ListN.{length}
use borrow.Author.Tests.{le-leb, lt-leb}
use Rattle.words.specs.Choice.{pick}
use Rattle.history.specs.WellFormed.{well_formed}
use Rattle.judging.specs.Answer.{right_length, laid}
use Rattle.storing.specs.Strips.{strip_bytes, strip_rows, log_of, matched}
use Rattle.storing.specs.Answer.{storing, restoring, Stored, Restored}
use Rattle.storing.proofs.Back.{log_length}
use Rattle.storing.proofs.Matching.{matched→}

and_false : (a : Bool) → (a && false) ≡ false
and_false true = refl
and_false false = refl

-- By what the code found: u, v and t are its values of the tests.
module _ (log b s : List ℕ) where
  pub store_9 : {u : Bool} → u ≡ right_length (length log) → u ≡ false → Stored log b s b s 9
  unfolding storing
  store_9 x e = let z = sym x ∙ e in record { number = rw z; bytes_are = rw z; rows_are = rw z }

  module _ {u : Bool} (x : u ≡ right_length (length log)) (e : u ≡ true) where
    pub store_10 : {v : Bool} → v ≡ well_formed log → v ≡ false → Stored log b s b s 10
    unfolding storing
    store_10 y g = let z = sym x ∙ e in let w = sym y ∙ g in record { number = rw (z, w); bytes_are = rw (z, w); rows_are = rw (z, w) }

    module _ {v : Bool} (y : v ≡ well_formed log) (g : v ≡ true) where
      full : (leb (length log) (length b + 1) && leb (length log) (length s)) ≡ false → Stored log b s b s 11
      unfolding storing
      full h = let z = sym x ∙ e in let w = sym y ∙ g in record { number = rw (z, w, h); bytes_are = rw (z, w, h); rows_are = rw (z, w, h) }

      pub store_bytes : length b + 1 < length log → Stored log b s b s 11
      store_bytes h = full (rw (lt-leb (length log) (length b + 1) h))

      pub store_rows : length s < length log → Stored log b s b s 11
      store_rows h = full (rw (lt-leb (length log) (length s) h) (and_false (leb (length log) (length b + 1))))

      pub store_yes : {b' s' : List ℕ} → length log ≤ length b + 1 → length log ≤ length s → b' ≡ laid (strip_bytes log) b → s' ≡ laid (strip_rows log) s
          → Stored log b s b' s' 0
      unfolding storing
      store_yes h i j k =
          let z = sym x ∙ e in
          let w = sym y ∙ g in
          let t = le-leb (length log) (length b + 1) h in
          let q = le-leb (length log) (length s) i in
          record { number = rw (z, w, t, q); bytes_are = j ∙ rw (z, w, t, q); rows_are = k ∙ rw (z, w, t, q) }

module _ (b s o : List ℕ) where
  pub restore_16 : {t : Bool} → t ≡ matched b s → t ≡ false → Restored b s o o 16
  unfolding restoring
  restore_16 x e = let z = sym x ∙ e in record { number = rw z; log_is = rw z }

  module _ {t : Bool} (x : t ≡ matched b s) (e : t ≡ true) where
    pub same_size : length (log_of b s) ≡ length s
    same_size = log_length b s (matched→ b s (rw (sym x ∙ e) tt))

    pub restore_9 : {u : Bool} → u ≡ right_length (length s) → u ≡ false → Restored b s o o 9
    unfolding restoring
    restore_9 y g = let z = sym x ∙ e in let w = ap right_length same_size ∙ sym y ∙ g in record { number = rw (z, w); log_is = rw (z, w) }

    module _ {u : Bool} (y : u ≡ right_length (length s)) (g : u ≡ true) where
      right : right_length (length (log_of b s)) ≡ true
      right = ap right_length same_size ∙ sym y ∙ g

      pub restore_10 : {v : Bool} → v ≡ well_formed (log_of b s) → v ≡ false → Restored b s o o 10
      unfolding restoring
      restore_10 k h = let z = sym x ∙ e in let w = sym k ∙ h in record { number = rw (z, right, w); log_is = rw (z, right, w) }

      module _ {v : Bool} (k : v ≡ well_formed (log_of b s)) (h : v ≡ true) where
        pub restore_11 : length o < length s → Restored b s o o 11
        unfolding restoring
        restore_11 i =
            let z = sym x ∙ e in
            let w = sym k ∙ h in
            let q = lt-leb (length (log_of b s)) (length o) (omega (arith, same_size)) in
            record { number = rw (z, right, w, q); log_is = rw (z, right, w, q) }

        pub restore_yes : {o' : List ℕ} → length s ≤ length o → o' ≡ laid (log_of b s) o → Restored b s o o' 0
        unfolding restoring
        restore_yes i j =
            let z = sym x ∙ e in
            let w = sym k ∙ h in
            let q = le-leb (length (log_of b s)) (length o) (omega (arith, same_size)) in
            record { number = rw (z, right, w, q); log_is = j ∙ rw (z, right, w, q) }

-- Every answer by its number: done if that is 0, else refused with it.
pub storing_by : {A : Type 0} (log : List ℕ) (m n : ℕ) (refuse : ℕ → A) (done : A) (k : ℕ) → k ≡ storing log m n (λ j. j) 0
    → storing log m n refuse done ≡ pick (eqb k 0) done (refuse k)
unfolding storing
storing_by {A} log m n refuse done k e = rw e (go (right_length (length log)) (well_formed log) (leb (length log) (m + 1) && leb (length log) n))
  where
    go : (a b c : Bool)
        → (let k : ℕ = pick a (pick b (pick c 0 11) 10) 9 in
        pick a (pick b (pick c done (refuse 11)) (refuse 10)) (refuse 9) ≡ pick (eqb k 0) done (refuse k))
    go true true true = refl
    go true true false = refl
    go true false c = refl
    go false b c = refl

pub restoring_by : {A : Type 0} (bytes rows : List ℕ) (n : ℕ) (refuse : ℕ → A) (done : A) (k : ℕ) → k ≡ restoring bytes rows n (λ j. j) 0
    → restoring bytes rows n refuse done ≡ pick (eqb k 0) done (refuse k)
unfolding restoring
restoring_by {A} bytes rows n refuse done k e =
    let l = log_of bytes rows in
    rw e (go (matched bytes rows) (right_length (length l)) (well_formed l) (leb (length l) n))
  where
    go : (a b c d : Bool)
        → (let k : ℕ = pick a (pick b (pick c (pick d 0 11) 10) 9) 16 in
        pick a (pick b (pick c (pick d done (refuse 11)) (refuse 10)) (refuse 9)) (refuse 16) ≡ pick (eqb k 0) done (refuse k))
    go true true true true = refl
    go true true true false = refl
    go true true false d = refl
    go true false c d = refl
    go false b c d = refl
