-- A history with an order has one with every write in it: the unended write may stand at the end.
use Prim.Native.Nat.{ℕ, suc, zero, ◌≤◌, ◌<◌}
use native.Mathlib.Omega.{arith}
use native.Mathlib.Decide.{ℕ_discrete, dec_lt}
use mathlib.Core.Path.{◌≡◌, refl, ◌∙◌, sym}
use mathlib.Core.Bool.{Bool, ◌&&◌}
use mathlib.Core.Logic.{◌⊎◌, inl, inr}
use mathlib.Core.List.{List, [], ◌∷◌, ◌++◌}
use lib.Dec.{T, eqb, leb, ltb, eqb→eq, leb→le, ltb→lt, le→leb, lt→ltb}
use lib.ListN.{length, get_or, length-append, get_or-append}
use lib.Seq.{get_or-append_seam}
use Rattle.words.proofs.Laws.Choice.{eq→T, and_T, T-left, T-right}
use Rattle.history.specs.Search.{first}
use Rattle.history.specs.History.{History, Write, Read}
use Rattle.history.specs.Linearization.{Stands, position_in, last_write, Linearization, FullOrder}
use Rattle.history.proofs.Search.{first_passes, first_least}
use Rattle.history.proofs.Rising.{stands_left, stands_right}
use Rattle.history.proofs.LastWrite.{position_at}
use Rattle.history.proofs.Placement.{Laws}

-- whether x stands in l
among : (l : List ℕ) (x : ℕ) → Dec ((i : ℕ) × Stands l i x)
among l x = elim (dec_lt (position_in l x) (length l)) [
  | no a ↦ no (λ t. a (position_at l t.0 x t.1).within)
  | yes a ↦ elim (ℕ_discrete (get_or l (position_in l x) 0) x) [
    | no b ↦ no (λ t. b (position_at l t.0 x t.1).there)
    | yes b ↦ yes (position_in l x, record { within = a; there = b })
  ]
]

stands_end : (l : List ℕ) (u i x : ℕ) → Stands (l ++ (u ∷ [])) i x → Stands l i x ⊎ ((i ≡ length l) × (x ≡ u))
stands_end l u i x s = elim (dec_lt i (length l)) [
  | yes a ↦ inl (record { within = a; there = sym (get_or-append l (u ∷ []) 0 i a) ∙ s.there })
  | no a ↦ let e : i ≡ length l = omega (arith, s.within, length-append l (u ∷ [])) in
      inr (e, sym s.there ∙ rw e (get_or-append_seam l u [] 0))
]

last_front : (h : History) (l l' : List ℕ) (i : ℕ) → i ≤ length l → last_write h (l ++ l') i ≡ last_write h l i
unfolding last_write
last_front h l l' zero a = refl
last_front h l l' (suc i) a = rw (get_or-append l l' 0 i a, last_front h l l' i (omega arith))

module _ (h : History) (L : Laws h) (l : List ℕ) (O : Linearization h h.len l) where
  -- An order without the unended write u, and u behind it.
  module _ (u : ℕ) (w : Write h u) (unended : h.len ≤ h.end u) (new : (i : ℕ) → ¬ Stands l i u) where
    begun : (x : ℕ) → Write h x ⊎ Read h h.len x → x < h.len
    begun x (inl y) = L.write x y.is
    begun x (inr y) = y.under

    only : (i x : ℕ) → Stands (l ++ (u ∷ [])) i x → Write h x ⊎ Read h h.len x
    only i x s = elim (stands_end l u i x s) [ inl t ↦ O.only i x t | inr t ↦ inl (rw t.1 w) ]

    with_it : Linearization h h.len (l ++ (u ∷ []))
    with_it = record {
      only = only;
      writes = λ v y a. let t = O.writes v y a in (t.0, stands_left l _ t.0 v t.1);
      reads = λ r y. let t = O.reads r y in (t.0, stands_left l _ t.0 r t.1);
      once = λ i j x s t. elim (stands_end l u i x s) [
        | inl a ↦ elim (stands_end l u j x t) [ inl b ↦ O.once i j x a b | inr b ↦ absurd (new i (rw b.1 at a)) ]
        | inr a ↦ elim (stands_end l u j x t) [ inl b ↦ absurd (new j (rw a.1 at b)) | inr b ↦ omega arith ]
      ];
      respects = λ i j a b s t p. elim (stands_end l u i a s) [
        | inl x ↦ elim (stands_end l u j b t) [ inl y ↦ O.respects i j a b x y p | inr y ↦ omega (arith, x.within) ]
        | inr x ↦ let q : h.end u < b = rw x.1 at p in absurd (omega (arith, begun b (only j b t)))
      ];
      reading = λ i r s x. elim (stands_end l u i r s) [
        | inl t ↦ rw (last_front h l (u ∷ []) i (omega (arith, t.within))) (O.reading i r t x)
        | inr t ↦ let k : h.kind u ≡ 3 = rw t.1 at x.is in absurd (omega (arith, w.is))
      ];
    }

  is_unended : ℕ → Bool
  is_unended q = eqb (h.kind q) 1 && (ltb 0 q && leb h.len (h.end q))

  -- the unended write; the number of rows if there is none
  abbrev u : ℕ
  u = first is_unended 0 h.len

  found : u < h.len → Write h u × (h.len ≤ h.end u)
  unfolding is_unended
  found a =
      let t = first_passes is_unended 0 h.len (omega arith) in
      let s : T (ltb 0 u && leb h.len (h.end u)) = T-right (eqb (h.kind u) 1) _ t in
      (record { is = eqb→eq _ _ (T-left (eqb (h.kind u) 1) _ t); real = ltb→lt _ _ (T-left (ltb 0 u) _ s) }, leb→le _ _ (T-right (ltb 0 u) _ s))

  seen : (v : ℕ) → Write h v → h.len ≤ h.end v → u ≤ v
  unfolding is_unended
  seen v y a =
      first_least is_unended 0 h.len v (omega arith) (omega (arith, L.write v y.is))
      (and_T (eqb (h.kind v) 1) _ (eq→T _ _ y.is) (and_T (ltb 0 v) _ (lt→ltb _ _ y.real) (le→leb _ _ a)))

  -- There is at most one.
  one : (v : ℕ) → Write h v → h.len ≤ h.end v → v ≡ u
  one v y a = elim (dec_lt u v) [
    | yes b ↦ let d = found (omega (arith, L.write v y.is)) in absurd (omega (arith, L.alone u v d.0.is y.is b, L.write v y.is))
    | no b ↦ omega (arith, seen v y a)
  ]

  -- An order in which the unended write stands, if there is one, holds every write.
  full : (l' : List ℕ) → Linearization h h.len l' → (u < h.len → (i : ℕ) × Stands l' i u) → FullOrder h l'
  full l' O' f = record { order = O'; all_writes = every }
    where
      every : (v : ℕ) → Write h v → (i : ℕ) × Stands l' i v
      every v y = elim (dec_lt (h.end v) h.len) [
        | yes a ↦ O'.writes v y a
        | no a ↦ let e = one v y (omega arith) in rw e (f (omega (arith, L.write v y.is)))
      ]

  pub filled : (l' : List ℕ) × FullOrder h l'
  filled = elim (among l u) [
    | yes t ↦ (l, full l O (λ _. t))
    | no n ↦ elim (dec_lt u h.len) [
      | no a ↦ (l, full l O (λ b. absurd (a b)))
      | yes a ↦
          let d = found a in (
            l ++ (u ∷ []),
            full (l ++ (u ∷ [])) (with_it u d.0 d.1 (λ i s. n (i, s)))
                (λ _. (_, stands_right l (u ∷ []) 0 u (record { within = omega arith; there = refl }))),
          )
    ]
  ]
