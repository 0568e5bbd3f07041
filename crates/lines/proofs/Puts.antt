-- Texts put one behind the other, as far as there is room.
use Prim.Native.Nat.{ℕ, suc, ◌+◌, ◌≤◌, min, max}
use native.Mathlib.Omega.{arith}
use native.Mathlib.Decide.{dec_lt}
use mathlib.Core.Path.{◌≡◌, refl, sym, ap, ◌∙◌}
use mathlib.Core.List.{List, [], ◌∷◌, ◌++◌, flat_map, append-nil, append_assoc}
use lib.ListN.{length, take, drop, set, length-append, length-take}
use lib.Seq.{sets, length-sets, sets-eq, set_out, take_at}
use Rattle.lines.specs.Lines.{Puts, Within}

sets_append : {A : Type 0} (s t l : List A) (p : ℕ) → sets l p (s ++ t) ≡ sets (sets l p s) (p + length s) t
sets_append [] t l p =
    let e : p + 0 ≡ p = omega arith in
    rw e
sets_append (b ∷ s) t l p =
    let e : p + suc (length s) ≡ suc p + length s = omega arith in
    rw e (sets_append s t (set l p b) (suc p))

-- nothing is put beyond the end
sets_out : {A : Type 0} (t l : List A) (p : ℕ) → length l ≤ p → sets l p t ≡ l
sets_out [] l p h = refl
sets_out {A} (b ∷ t) l p h = ap (λ (m : List A). sets m (suc p) t) (set_out l p b h) ∙ sets_out t l (suc p) (omega arith)

-- a text at the front
pub sets_front : (t l : List ℕ) → length t ≤ length l → take (length t) (sets l 0 t) ≡ t
sets_front t l h = ap (take (length t)) (sets-eq t l 0 (omega arith)) ∙ take_at t (drop (0 + length t) l) (length t) refl

-- no place is added
same_length : {A : Type 0} {t l x : List A} {p r : ℕ} → Puts t p l x r → length x ≡ length l
same_length {t} {l} {p = p} a = ap length a.bytes_are ∙ length-sets l p t

pub nothing : {A : Type 0} (l : List A) (p : ℕ) → Puts [] p l l p
nothing l p = record { bytes_are = refl; end_is = omega arith }

-- from its own end on, and from where it would end
module _ {A : Type 0} (s t l : List A) (p q : ℕ) (e : q ≡ max p (min (p + length s) (length l))) where
  joined : sets (sets l p s) q t ≡ sets (sets l p s) (p + length s) t
  joined =
      elim (dec_lt (length l) (p + length s)) [
        | yes h ↦ sets_out t (sets l p s) q (omega (arith, length-sets l p s)) ∙ sym (sets_out t (sets l p s) (p + length s) (omega (arith, length-sets l p s)))
        | no h ↦ let z : q ≡ p + length s = omega arith in ap (λ (k : ℕ). sets (sets l p s) k t) z
      ]

pub behind : {A : Type 0} {s t l m x : List A} {p q r : ℕ} → Puts s p l m q → Puts t q m x r → Puts (s ++ t) p l x r
behind {A} {s} {t} {l} {m} {x} {p} {q} {r} a b =
    record {
      bytes_are =
          b.bytes_are
          ∙ ap (λ (u : List A). sets u q t) a.bytes_are
          ∙ joined s t l p q a.end_is
          ∙ sym (sets_append s t l p);
      end_is = omega (arith, a.end_is, b.end_is, length-append s t, same_length a);
    }

-- A text from the front on: it ends within the bytes, and stands there whole if there is room.
pub within : {t l x : List ℕ} {r : ℕ} → Puts t 0 l x r → Within r x
within {x = x} {r = r} a = (omega (arith, a.end_is, same_length a), omega (arith, a.end_is, same_length a, length-take r x))

pub whole : {t l x : List ℕ} {r : ℕ} → Puts t 0 l x r → length t ≤ length l → take r x ≡ t
whole {t} {l} {x} {r} a h =
    let e : r ≡ length t = omega (arith, a.end_is) in
    ap (λ (k : ℕ). take k x) e ∙ ap (take (length t)) a.bytes_are ∙ sets_front t l h

-- the texts that f gives, one behind the other
module _ (f : ℕ → List ℕ) where
  pub one_text : (ns : List ℕ) (n : ℕ) → flat_map f (ns ++ (n ∷ [])) ≡ flat_map f ns ++ f n
  unfolding flat_map
  one_text [] n = append-nil (f n)
  one_text (m ∷ ns) n = ap (λ (t : List ℕ). f m ++ t) (one_text ns n) ∙ sym (append_assoc (f m) (flat_map f ns) (f n))
