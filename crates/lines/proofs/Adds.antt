-- Texts put into a sink, one behind the other.
use Prim.Native.Nat.{ℕ, ◌+◌, ◌<◌}
use native.Mathlib.Numerals.{add-one}
use mathlib.Core.Path.{◌≡◌, refl, ◌∙◌}
use mathlib.Core.List.{List, [], ◌∷◌, ◌++◌, flat_map}
use lib.ListN.{length, get_or, take}
use lib.Seq.{take-suc}
use Rattle.lines.specs.declared.Lent.{Lent}
use Rattle.lines.specs.Adds.{Adds, Sink}
use Rattle.lines.proofs.Puts.{nothing, behind, one_text}

pub no_text : {A : Type 0} (a : Lent A) → Adds [] a a
no_text a = record { puts = nothing a.places.now a.at; same_reference = refl }

pub then_adds : {A : Type 0} {s t : List A} {a b c : Lent A} → Adds s a b → Adds t b c → Adds (s ++ t) a c
then_adds f g = record { puts = behind f.puts g.puts; same_reference = g.same_reference ∙ f.same_reference }

-- The texts of a list's first i, T of them in all, and then that of one more.
pub next_adds : (T : List ℕ → List ℕ) (ns : List ℕ) (i : ℕ) {t : List ℕ} {a b c : Sink} → i < length ns → T (take i ns ++ (get_or ns i 0 ∷ [])) ≡ T (take i ns) ++ t
    → Adds (T (take i ns)) a b
    → Adds t b c
    → Adds (T (take (i + 1) ns)) a c
next_adds T ns i h e f g = rw (add-one i, take-suc ns i 0 h, e) (then_adds f g)

-- those that f gives
pub next_of : (f : ℕ → List ℕ) (ns : List ℕ) (i : ℕ) {a b c : Sink} → i < length ns → Adds (flat_map f (take i ns)) a b → Adds (f (get_or ns i 0)) b c
    → Adds (flat_map f (take (i + 1) ns)) a c
next_of f ns i h = next_adds (flat_map f) ns i h (one_text f (take i ns) (get_or ns i 0))
