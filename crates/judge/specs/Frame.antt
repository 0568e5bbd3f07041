-- What the judge of rows keeps while it works, and when it writes, read off its code: the MIR that the proofs are about and that is
-- compiled. Request 4: "Settle first that nothing is refused, then write straight into the places lent; the judge of rows keeps no
-- array of more than 64 elements."
use Rattle.std.specs.Prelude.{ℕ, ◌+◌, ◌*◌, ◌≡◌, Bool, true, false, ◌&&◌, ◌||◌, List, [], ◌∷◌, ◌++◌, T, leb, take}
use lib.Text.{eqt}
use mir.Syntax.{Ty, ty_int, ty_bool, ty_float, ty_ptr, ty_ref, ty_array, ty_unit, ty_struct, ty_enum, ty_param, ty_const, ty_array_p, ty_named, Tys, tnil, tcons, Tyss, ttnil, ttcons, imm, mut, Step, deref, field, variant, Place, place, Symbol, Dicts, dnil, dcons, Callee, fn, method, forked, awaited, prim, Body, skip, seq, assign, block, loop, cond, switch, exit, return, call, unreachable, call_v, lend_static, Arms, arm, default, no_default, Local, local, Fn}

-- "no array of more than 64 elements"
abbrev most : ℕ
most = 64

-- How many numbers a value of a type holds. A reference is one: what it refers to is kept elsewhere. Of a type that is only named, or
-- is a parameter, or an array of a length that is one, nothing is known, so it counts as too many.
abbrev mutual
  pub numbers : Ty → ℕ
  numbers (ty_int w) = 1
  numbers ty_bool = 1
  numbers (ty_float f) = 1
  numbers ty_ptr = 1
  numbers (ty_ref κ m t) = 1
  numbers (ty_array t n) = n * numbers t
  numbers ty_unit = 0
  numbers (ty_struct s ts) = numbers_in ts
  numbers (ty_enum s vs) = 1 + numbers_of vs
  numbers (ty_param i) = most + 1
  numbers (ty_const n) = most + 1
  numbers (ty_array_p t i) = most + 1
  numbers (ty_named h ts) = most + 1

  numbers_in : Tys → ℕ
  numbers_in tnil = 0
  numbers_in (tcons t ts) = numbers t + numbers_in ts

  numbers_of : Tyss → ℕ
  numbers_of ttnil = 0
  numbers_of (ttcons ts vs) = numbers_in ts + numbers_of vs

-- every local, parameters and temporaries too, holds few numbers, so that none is a larger array or holds one
abbrev pub few : List Local → Bool
few [] = true
few (local t h ∷ ls) = leb (numbers t) most && few ls

-- What a body does that others may notice: it calls a function, or writes where a reference or a pointer leads. Or it does what is not
-- looked into here, which may be anything: it calls what a pointer, a type argument or a dictionary leads to, has to do with a thread or
-- an atomic number, or keeps a constant in memory of its own.
pub data Act : Type 0 where
  calls : Symbol → Act
  writes : Act
  unseen : Act

abbrev behind : List Step → List Act
behind [] = []
behind (deref t ∷ ss) = writes ∷ []
behind (field k ∷ ss) = behind ss
behind (variant k ∷ ss) = behind ss

abbrev to : Place → List Act
to (place k ss) = behind ss

-- a call of a function, which is told no types and no dictionaries
abbrev told : Symbol → Tys → Dicts → List Act
told f tnil dnil = calls f ∷ []
told f tnil (dcons d ds) = unseen ∷ []
told f (tcons t ts) ds = unseen ∷ []

abbrev calling : Callee → List Act
calling (fn f a) = told f a.0 a.1
calling (method d k a) = unseen ∷ []
calling (forked ts c) = unseen ∷ []
calling (awaited ts) = unseen ∷ []
calling (prim a) = unseen ∷ []

-- its acts in the order in which they can come: those of a loop twice, since its first may come after its last
abbrev mutual
  pub acts : Body → List Act
  acts skip = []
  acts (seq a b) = acts a ++ acts b
  acts (assign p v) = to p
  acts (block b) = acts b
  acts (loop b) = acts b ++ acts b
  acts (cond c a b) = acts a ++ acts b
  acts (switch c bs) = acts_of bs
  acts (exit k) = []
  acts return = []
  acts (call c xs p) = calling c ++ to p
  acts unreachable = []
  acts (call_v x s xs p) = unseen ∷ to p
  acts (lend_static p t c) = unseen ∷ to p

  acts_of : Arms → List Act
  acts_of (arm ks b bs) = acts b ++ acts_of bs
  acts_of (default b) = acts b
  acts_of no_default = []

-- the judge of rows: `judge`, and what it calls
abbrev pub of_rows : List Symbol
of_rows =
    "judge::rows::judge"
    ∷ "judge::rows::settle"
    ∷ "judge::rows::right_length"
    ∷ "judge::rows::lacks_room"
    ∷ "judge::rows::count_begins"
    ∷ "judge::rows::count_after"
    ∷ "judge::rows::write_order"
    ∷ "judge::formed::well_formed"
    ∷ "judge::formed::head_ok"
    ∷ "judge::formed::is_reader"
    ∷ "judge::formed::fields_ok"
    ∷ "judge::formed::may_follow"
    ∷ "judge::row::processor"
    ∷ "judge::row::kind"
    ∷ "judge::row::suits_read"
    ∷ "judge::row::is_begin"
    ∷ "judge::row::open_after"
    ∷ "judge::sweep::first_missing"
    ∷ "judge::sweep::Sweep::new"
    ∷ "judge::sweep::Sweep::pass"
    ∷ "judge::sweep::row_place"
    ∷ "judge::sweep::seek"
    ∷ "judge::sweep::is_source"
    ∷ "judge::sweep::missing_after"
    ∷ "judge::sweep::floor_after"
    ∷ "judge::sweep::larger"
    ∷ "judge::order::put_keys"
    ∷ "judge::order::put_row"
    ∷ "judge::order::key_of"
    ∷ "judge::order::insert"
    ∷ "judge::order::limit_of"
    ∷ "judge::order::put_unended"
    ∷ "judge::order::decode_all"
    ∷ "judge::order::begin_of"
    ∷ []

abbrev among : List Symbol → Symbol → Bool
among [] f = false
among (g ∷ gs) f = eqt g f || among gs f

-- no function is called but those of names, and nothing done that is not looked into
abbrev pub stays_inside : List Symbol → List Act → Bool
stays_inside names [] = true
stays_inside names (calls f ∷ xs) = among names f && stays_inside names xs
stays_inside names (writes ∷ xs) = stays_inside names xs
stays_inside names (unseen ∷ xs) = false

-- f keeps no array of more than 64 elements, and calls no function but those of names
pub record KeepsLittleAmong (names : List Symbol) (f : Fn) : Type 0 where
  pub small : T (few f.locals)
  pub inside : T (stays_inside names (acts f.body))

-- "the judge of rows keeps no array of more than 64 elements": each of its functions says so of its code, in its proof file, and that
-- it calls none but these.
abbrev pub KeepsLittle : Fn → Type 0
KeepsLittle f = KeepsLittleAmong of_rows f

-- "Settle first that nothing is refused, then write": all that `judge` itself does.
pub record SettlesFirst (f : Fn) : Type 0 where
  pub in_turn : acts f.body ≡ calls "judge::rows::settle" ∷ calls "judge::rows::write_order" ∷ []

-- whether a value of a type can be written through
abbrev mutual
  pub mutable : Ty → Bool
  mutable (ty_int w) = false
  mutable ty_bool = false
  mutable (ty_float f) = false
  mutable ty_ptr = true
  mutable (ty_ref κ imm t) = mutable t
  mutable (ty_ref κ mut t) = true
  mutable (ty_array t n) = mutable t
  mutable ty_unit = false
  mutable (ty_struct s ts) = mutable_in ts
  mutable (ty_enum s vs) = mutable_of vs
  mutable (ty_param i) = true
  mutable (ty_const n) = true
  mutable (ty_array_p t i) = true
  mutable (ty_named h ts) = true

  mutable_in : Tys → Bool
  mutable_in tnil = false
  mutable_in (tcons t ts) = mutable t || mutable_in ts

  mutable_of : Tyss → Bool
  mutable_of ttnil = false
  mutable_of (ttcons ts vs) = mutable_in ts || mutable_of vs

abbrev pub any_mutable : List Local → Bool
any_mutable [] = false
any_mutable (local t h ∷ ls) = mutable t || any_mutable ls

-- And `settle` is lent nothing that it could write to: no parameter is such, nor its result, which is local 0.
-- (A step on an atomic number could write behind a shared reference. It is `unseen`, so that `keeps_little` refuses it in `settle` and
-- in what it calls.)
pub record LentNothing (f : Fn) : Type 0 where
  pub read_only : any_mutable (take (f.params + 1) f.locals) ≡ false
