-- What the definitions of Frame come to, in the request's words.
use Prim.Native.Nat.{ℕ, ◌≤◌}
use native.Mathlib.Omega.{arith}
use native.Mathlib.Nat.{mul-le-mul_right}
use mathlib.Core.Path.{◌≡◌, refl}
use mathlib.Core.Bool.{Bool, true, false, ◌||◌}
use mathlib.Core.List.{List, [], ◌∷◌, ◌++◌}
use lib.Dec.{T, leb, leb→le}
use mir.Syntax.{Ty, ty_int, ty_ref, ty_array, ty_struct, tnil, tcons, w64, mut, Lifetime, Sym, Step, deref, field, Place, place, Opd, Sig, Const, Rv, assign, Symbol, dnil, dcons, Callee, fn, fn₀, method, forked, awaited, prim, call, call_v, lend_static, Home, Local, local, Fn}
use Rattle.words.proofs.Laws.Choice.{T-left, T-right}
use Rattle.judge.specs.Frame.{numbers, few, calls, writes, acts, of_rows, stays_inside, KeepsLittleAmong, mutable, any_mutable}

-- "no array of more than 64 elements", of whatever holds a number, wherever it stands among the locals
pub no_larger_array : {names : List Symbol} (f : Fn) → KeepsLittleAmong names f → (ls ls' : List Local) (t : Ty) (n : ℕ) (h : Home)
    → f.locals ≡ ls ++ (local (ty_array t n) h ∷ ls') → 1 ≤ numbers t → n ≤ 64
no_larger_array f K ls ls' t n h e a = go ls (rw e at K.small)
  where
    go : (ls : List Local) → T (few (ls ++ (local (ty_array t n) h ∷ ls'))) → n ≤ 64
    go [] k = omega (arith, mul-le-mul_right n a, leb→le (numbers (ty_array t n)) 64 (T-left (leb (numbers (ty_array t n)) 64) _ k))
    go (local u g ∷ ls) k = go ls (T-right (leb (numbers u) 64) _ k)

-- a store behind a reference, at once or in a field of a local, is an act
pub store_seen : (k i : ℕ) (t : Ty) (ss : List Step) (v : Rv)
    → (acts (assign (place k (deref t ∷ ss)) v) ≡ writes ∷ []) × (acts (assign (place k (field i ∷ deref t ∷ ss)) v) ≡ writes ∷ [])
store_seen k i t ss v = (refl, refl)

-- what is not looked into is of no list: a constant in memory of its own, and a call of what a pointer leads to
pub unseen_outside : (names : List Symbol) (x : Opd) (s : Sig) (xs : List Opd) (p : Place) (t : Ty) (k : Const)
    → (stays_inside names (acts (call_v x s xs p)) ≡ false) × (stays_inside names (acts (lend_static p t k)) ≡ false)
unseen_outside names x s xs p t k = (refl, refl)

-- and a call of what a dictionary leads to, of a function that is told a type or a dictionary, or one that has to do with a thread or an
-- atomic number: of calls only those of a function alone are looked into
pub only_functions_inside : (names : List Symbol) (c : Callee) (xs : List Opd) (p : Place) → T (stays_inside names (acts (call c xs p)))
    → (f : Symbol) × (c ≡ fn₀ f)
only_functions_inside names (fn f (tnil, dnil)) xs p k = (f, refl)
only_functions_inside names (fn f (tnil, dcons d ds)) xs p k = absurd k
only_functions_inside names (fn f (tcons t ts, ds)) xs p k = absurd k
only_functions_inside names (method d j a) xs p k = absurd k
only_functions_inside names (forked ts c) xs p k = absurd k
only_functions_inside names (awaited ts) xs p k = absurd k
only_functions_inside names (prim a) xs p k = absurd k

-- the byte judge, which keeps 4,096 rows, is not of the judge of rows
pub byte_judge_outside : stays_inside of_rows (calls "judge::bytes::judge_bytes" ∷ []) ≡ false
byte_judge_outside = refl

-- lent places, `&mut [u64]`, are a reference and their number: they are seen wherever they stand among the locals
pub places_seen : (κ : Lifetime) (s : Sym) (h : Home) (ls ls' : List Local)
    → any_mutable (ls ++ (local (ty_struct s (tcons (ty_ref κ mut (ty_int w64)) (tcons (ty_int w64) tnil))) h ∷ ls')) ≡ true
places_seen κ s h [] ls' = refl
places_seen κ s h (local t g ∷ ls) ls' = or_true (mutable t) (places_seen κ s h ls ls')
  where
    or_true : (b : Bool) {c : Bool} → c ≡ true → (b || c) ≡ true
    or_true true e = refl
    or_true false e = e
