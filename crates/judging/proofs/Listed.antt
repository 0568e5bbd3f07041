-- The decoded keys are the listing.
use Prim.Native.Nat.{ℕ, suc, zero, ◌≤◌, ◌<◌, ◌*◌, max}
use native.Mathlib.Omega.{arith}
use native.Mathlib.Decide.{ℕ_discrete, dec_lt}
use mathlib.Core.Path.{◌≡◌, refl, ◌∙◌, sym, ap}
use mathlib.Core.Logic.{◌⊎◌, inl, inr}
use mathlib.Core.List.{List, map}
use lib.Dec.{T, eqb, eqb→eq}
use lib.ListN.{length, get_or, length-map, get_or-map}
use Rattle.words.proofs.Laws.Choice.{pick_T}
use Rattle.history.specs.History.{Read, Write, event_at, end_at, history_of}
use Rattle.history.proofs.Placement.{Laws, Placement}
use Rattle.history.specs.Linearization.{Stands}
use Rattle.history.specs.Sweep.{adds, floor, floors, place_at, place, missing}
use Rattle.history.proofs.Floors.{floor_suc}
use Rattle.history.proofs.Least.{sound, floor_least, floor_read}
use Rattle.history.proofs.Rising.{Rising}
use Rattle.history.specs.Listing.{build, listing}
use Rattle.history.proofs.Built.{key, key_bound, behind_has, only, has_read, has_write, build_rising, build_needed}
use Rattle.history.proofs.Verdict.{found}
use Rattle.history.specs.Rows.{kind_at, processor_at}
use Rattle.history.specs.WellFormed.{open_at, well_formed}
use Rattle.history.proofs.Operations.{RowOk, begin_is, Opened, open→, →open}
use Rattle.history.proofs.WellFormed.{begin→, row, kind_is, laws}
use Rattle.history.proofs.Ends.{fin_none, fin_open}
use Rattle.history.proofs.Unique.{rising_same, rising_of}
use Rattle.judging.specs.Rowwise.{sweep_to}
use Rattle.judging.specs.Keys.{inserted, add_unended, keys_to, keys_of, decode}
use Rattle.judging.proofs.Steps.{opens_at, some}
use Rattle.judging.proofs.Linked.{linked}
use Rattle.judging.proofs.Room.{unended_idle, unended_other, unended_some, keys_of_lem}
use Rattle.judging.proofs.Sorted.{Sorted, inserted_sorted, inserted_new, inserted_has, inserted_only}
use Rattle.judging.proofs.KeyCode.{code_key, code_key_write, decode_code_key, rank, rank_code_key, Op}
use Rattle.judging.proofs.Keyed.{Ended, Keyed, op_in, sides, keyed}

module _ (log : List ℕ) (w : T (well_formed log)) (few : length log ≤ 4096) (ok : length log ≤ missing (history_of log)) where
  L : Laws (history_of log)
  L = laws log w

  P : Placement (history_of log) (length log) (place (history_of log))
  P = sound (history_of log) L (length log) (found (history_of log) L (length log) ok)

  n_pos : 0 < length log
  n_pos = omega (arith, some log w)

  -- The unended write.
  abbrev u : ℕ
  u = open_at log 0 (length log)

  begins_is : get_or (sweep_to log (length log)).begins 0 0 ≡ u
  begins_is = rw (linked log w (length log) n_pos (omega arith)).begins (opens_at log 0 (length log) (omega arith) n_pos)

  top_is : (sweep_to log (length log)).top ≡ floor (history_of log) (length log)
  top_is = (linked log w (length log) n_pos (omega arith)).top

  u_write : 0 < u → (event_at log u ≡ 1) × (end_at log u ≡ length log)
  u_write a =
      let o = open→ log 0 (length log) a in
      let r = row log w u a o.before in (
        kind_is log w u a ∙ go r o (begin→ log u o.begin),
        fin_open log u a o.before (λ j y z e. o.none j y z (e ∙ o.own)),
      )
    where
      go : RowOk log u → Opened log 0 (length log) u → (kind_at log u ≡ 1) ⊎ (kind_at log u ≡ 3) → kind_at log u ≡ 1
      go r o (inl e) = e
      go r o (inr e) = absurd (omega (arith, r.reader (omega arith), o.own))

  -- A write that has not ended is the open one.
  u_is : (x : ℕ) → Write (history_of log) x → length log ≤ end_at log x → x ≡ u
  u_is x y a =
      let b : x < length log = L.write x y.is in
      let k : kind_at log x ≡ 1 = sym (kind_is log w x y.real) ∙ y.is in
      let z : processor_at log x ≡ 0 = (row log w x y.real b).writer (omega (arith, k)) in
      sym (→open log 0 (length log) x (record {
        real = y.real;
        before = b;
        begin = rw (begin_is log x, k) tt;
        own = z;
        none = λ j c d e. fin_none log x y.real a j c d (e ∙ sym z);
      }))

  -- The floor at the end is one of the places.
  attained : (k : ℕ) → (floor (history_of log) k ≡ 0) ⊎ ((j : ℕ) × (j < k) × (adds (history_of log) (floor (history_of log) (open_at log (processor_at log j) j)) j ≡ floor (history_of log) k))
  unfolding floor floors
  attained zero = inl refl
  attained (suc k) = go (attained k) (floor_suc (history_of log) k (L.back k))
    where
      go : (floor (history_of log) k ≡ 0) ⊎ ((j : ℕ) × (j < k) × (adds (history_of log) (floor (history_of log) (open_at log (processor_at log j) j)) j ≡ floor (history_of log) k))
          → floor (history_of log) (suc k) ≡ max (floor (history_of log) k) (adds (history_of log) (floor (history_of log) (open_at log (processor_at log k) k)) k)
          → (floor (history_of log) (suc k) ≡ 0) ⊎ ((j : ℕ) × (j < suc k) × (adds (history_of log) (floor (history_of log) (open_at log (processor_at log j) j)) j ≡ floor (history_of log) (suc k)))
      go t e = elim (dec_lt (floor (history_of log) k) (adds (history_of log) (floor (history_of log) (open_at log (processor_at log k) k)) k)) [
        | yes d ↦ inr (k, omega arith, omega arith)
        | no d ↦ elim t [ inl z ↦ inl (omega arith) | inr s ↦ inr (s.0, omega (arith, s.1), omega (arith, s.2)) ]
      ]

  adds_cases : (Q : ℕ → Type 0) (f j : ℕ) → (event_at log j ≡ 2 → Q (open_at log (processor_at log j) j)) → (event_at log j ≡ 4 → Q (place_at (history_of log) f (open_at log (processor_at log j) j))) → Q 0
      → Q (adds (history_of log) f j)
  unfolding adds
  adds_cases Q f j a b c =
      pick_T Q (eqb (event_at log j) 2) (λ t. a (eqb→eq _ _ t)) (λ _. pick_T Q (eqb (event_at log j) 4) (λ t. b (eqb→eq _ _ t)) (λ _. c))

  -- The read that ends at row j.
  read_at : (j : ℕ) → event_at log j ≡ 4 → Read (history_of log) (length log) (open_at log (processor_at log j) j)
  read_at j e = let d = L.ended_read j e in record { is = d.0; ended = omega (arith, d.1, d.3); under = omega (arith, d.2, d.3) }

  -- The open write is the last one.
  last_write_lem : 0 < u → (x : ℕ) → event_at log x ≡ 1 → x ≤ u
  last_write_lem a x e = elim (dec_lt u x) [
    | yes b ↦ absurd (omega (arith, (u_write a).1, L.alone u x (u_write a).0 e b, L.write x e))
    | no b ↦ omega arith
  ]

  -- If the floor comes to it, a read stands behind it; and the other way about.
  needed : 0 < u → floor (history_of log) (length log) ≡ u → (r : ℕ) × Read (history_of log) (length log) r × (place (history_of log) r ≡ u)
  unfolding place
  needed a e = elim (attained (length log)) [
    | inl z ↦ absurd (omega arith)
    | inr s ↦ adds_cases (λ v. v ≡ u → (r : ℕ) × Read (history_of log) (length log) r × (place_at (history_of log) (floor (history_of log) r) r ≡ u)) _ s.0
        (λ k q. let d = L.ended_write s.0 k in absurd (omega (arith, s.1, d.1, ap (end_at log) q, (u_write a).1)))
        (λ k q. (_, read_at s.0 k, q))
        (λ q. absurd (omega arith))
        (s.2 ∙ e)
  ]

  reached : 0 < u → (r : ℕ) → Read (history_of log) (length log) r → place (history_of log) r ≡ u → floor (history_of log) (length log) ≡ u
  unfolding place
  reached a r x e =
      let lo = floor_read (history_of log) L r (length log) x.is x.ended (omega arith) in
      let hi = floor_least (history_of log) L u (length log) (λ j b. adds_cases (λ v. v ≤ u) _ j
      (λ k. last_write_lem a _ (L.ended_write j k).0)
      (λ k. last_write_lem a _ (P.source _ (read_at j k)))
      (omega arith)) in
      omega arith

  -- What is listed.
  abbrev Listed : ℕ → Type 0
  Listed b = Ended log (length log) b ⊎ ((b ≡ u) × (0 < u) × (floor (history_of log) (length log) ≡ u))

  record Whole (l : List ℕ) : Type 0 where
    pub sorted : Sorted (rank (history_of log)) l
    pub only : (i x : ℕ) → Stands l i x → (b : ℕ) × Listed b × (x ≡ code_key (history_of log) b)
    pub has : (b : ℕ) → Listed b → (i : ℕ) × Stands l i (code_key (history_of log) b)

  K : Keyed log (length log) (keys_to log (length log))
  K = keyed log w few (length log) n_pos (omega arith)

  whole_none : ((0 < u) → floor (history_of log) (length log) ≡ u → ⊥) → Whole (keys_to log (length log))
  whole_none f = record {
    sorted = K.sorted;
    only = λ i x s. let t = K.only i x s in (t.0, inl t.1, t.2);
    has = λ b e. elim e [ inl t ↦ K.has b t | inr t ↦ absurd (f t.1 t.2) ];
  }

  u_op : 0 < u → Op (history_of log) u
  u_op a = (a, inl (u_write a).0)

  whole_some : (a : 0 < u) → floor (history_of log) (length log) ≡ u → Whole (inserted (code_key (history_of log) u) (keys_to log (length log)))
  whole_some a e = record {
    sorted = inserted_sorted _ _ (rank (history_of log)) K.sorted
        (sides log w few (keys_to log (length log)) u (u_op a) (omega (arith, (u_write a).1)) (λ k. absurd (omega (arith, (u_write a).0))) K);
    only = λ i x s. elim (inserted_only _ _ i x s) [
      | inl q ↦ (u, inr (refl, a, e), q)
      | inr s' ↦ let t = K.only s'.0 x s'.1 in (t.0, inl t.1, t.2)
    ];
    has = λ b t. elim t [
      | inl t ↦ let v = K.has b t in inserted_has _ _ v.0 _ v.1
      | inr t ↦ rw t.0 (inserted_new (code_key (history_of log) u) (keys_to log (length log)))
    ];
  }

  keys_are : keys_of log ≡ add_unended u (floor (history_of log) (length log)) (keys_to log (length log))
  keys_are = keys_of_lem log w ∙ rw (begins_is, top_is)

  whole : Whole (keys_of log)
  whole = elim (dec_lt 0 u) [
    | no n ↦ rw (keys_are, unended_idle u (floor (history_of log) (length log)) (keys_to log (length log)) (omega arith)) (whole_none (λ a _. n a))
    | yes a ↦ elim (ℕ_discrete u (floor (history_of log) (length log))) [
      | no n ↦ rw (keys_are, unended_other u (floor (history_of log) (length log)) (keys_to log (length log)) n) (whole_none (λ _ e. n (sym e)))
      | yes e ↦ rw (keys_are, unended_some u (floor (history_of log) (length log)) (keys_to log (length log)) a e, ← code_key_write (history_of log) u (u_write a).0) (whole_some a (sym e))
    ]
  ]

  listed_op : (b : ℕ) → Listed b → Op (history_of log) b
  listed_op b (inl e) = e.op
  listed_op b (inr t) = rw t.0 (u_op t.1)

  -- The decoded list.
  abbrev out : List ℕ
  out = map decode (keys_of log)

  decode_zero : decode 0 ≡ 0
  unfolding decode
  decode_zero = refl

  out_at : (i : ℕ) → get_or (map decode (keys_of log)) i 0 ≡ decode (get_or (keys_of log) i 0)
  out_at i = ap (get_or (map decode (keys_of log)) i) (sym decode_zero) ∙ get_or-map decode (keys_of log) i 0

  -- The entry at place i: a listed operation, whose key stands there.
  entry : (i x : ℕ) → Stands out i x → Listed x × (get_or (keys_of log) i 0 ≡ code_key (history_of log) x)
  entry i x s =
      let t = whole.only i (get_or (keys_of log) i 0) (record { within = omega (arith, s.within, length-map (keys_of log) decode); there = refl }) in
      let o = listed_op t.0 t.1 in
      let e : t.0 ≡ x = sym (decode_code_key (history_of log) t.0 o (omega (arith, op_in log w few t.0 o))) ∙ ap decode (sym t.2) ∙ sym (out_at i) ∙ s.there in
      (rw e at t.1, t.2 ∙ ap (code_key (history_of log)) e)

  stand : (x : ℕ) → Listed x → (i : ℕ) × Stands out i x
  stand x t =
      let v = whole.has x t in
      let o = listed_op x t in (
        v.0,
        record {
          within = omega (arith, v.1.within, length-map (keys_of log) decode);
          there = out_at v.0 ∙ ap decode v.1.there ∙ decode_code_key (history_of log) x o (omega (arith, op_in log w few x o));
        },
      )

  read_pos : (x : ℕ) → event_at log x ≡ 3 → 0 < x
  read_pos zero e = absurd (omega (arith, L.start))
  read_pos (suc x) e = omega arith

  listed_cases : (x : ℕ) → Listed x → Write (history_of log) x ⊎ Read (history_of log) (length log) x
  listed_cases x t =
      let o = listed_op x t in
      elim o.1 [
        | inl e ↦ inl (record { is = e; real = o.0 })
        | inr e ↦ inr (record { is = e; ended = read_done t e; under = omega (arith, op_in log w few x o) })
      ]
    where
      read_done : Listed x → event_at log x ≡ 3 → end_at log x < length log
      read_done (inl s) e = s.done
      read_done (inr s) e = absurd (omega (arith, ap (event_at log) s.0, (u_write s.1).0))

  -- The key of the entry at place i.
  rank_at : (i x : ℕ) → Stands out i x → rank (history_of log) (get_or (keys_of log) i 0) ≡ key (history_of log) (place (history_of log)) x
  rank_at i x s =
      let t = entry i x s in
      let o = listed_op x t.0 in
      rw t.1 (rank_code_key (history_of log) x o (omega (arith, op_in log w few x o)))

  out_rising : Rising (key (history_of log) (place (history_of log))) 0 out (length log * suc (length log))
  out_rising =
      rising_of (key (history_of log) (place (history_of log))) out 0 (length log * suc (length log)) (omega arith)
      (λ i x s. (omega arith, key_bound (history_of log) L (length log) (place (history_of log)) P x (listed_cases x (entry i x s).0)))
      (λ i j x y s t a. omega (
        arith,
        rank_at i x s,
        rank_at j y t,
        whole.sorted i j a (omega (arith, t.within, length-map (keys_of log) decode)),
      ))

  build_only : (i x : ℕ) → Stands (build (history_of log) (length log) (place (history_of log)) (length log)) i x → Write (history_of log) x ⊎ Read (history_of log) (length log) x
  build_only = only (history_of log) L (length log) (place (history_of log)) P

  to_build : (x : ℕ) → Listed x → (j : ℕ) × Stands (build (history_of log) (length log) (place (history_of log)) (length log)) j x
  to_build x (inl e) = elim (listed_cases x (inl e)) [
    | inl y ↦ has_write (history_of log) L (length log) (place (history_of log)) P x y (inl e.done)
    | inr y ↦ has_read (history_of log) L (length log) (place (history_of log)) P x y
  ]
  to_build x (inr t) =
      let r = needed t.1 t.2 in
      let b = behind_has (history_of log) L (length log) (place (history_of log)) u (length log) r.0 r.1 r.2 r.1.ended in
      rw t.0 (has_write (history_of log) L (length log) (place (history_of log)) P u (record { is = (u_write t.1).0; real = t.1 }) (inr (omega (arith, b.1.within))))

  from_build : (i x : ℕ) → Stands (build (history_of log) (length log) (place (history_of log)) (length log)) i x → Listed x
  from_build i x s = elim (build_only i x s) [
    | inr y ↦ inl (record { op = (read_pos x y.is, inr y.is); done = y.ended })
    | inl y ↦ elim (dec_lt (end_at log x) (length log)) [
      | yes d ↦ inl (record { op = (y.real, inl y.is); done = d })
      | no d ↦ let e = u_is x y (omega arith) in
          let a : 0 < u = omega (arith, y.real) in
          elim (build_needed (history_of log) L (length log) (place (history_of log)) (length log) i x s y) [
            | inl c ↦ absurd (omega arith)
            | inr r ↦ inr (e, a, reached a r.0 r.1 (r.2 ∙ e))
          ]
    ]
  ]

  pub listed : map decode (keys_of log) ≡ listing log
  unfolding listing
  listed =
      rising_same (key (history_of log) (place (history_of log))) out _ 0 (length log * suc (length log)) out_rising
      (build_rising (history_of log) L (length log) (place (history_of log)) (length log))
      (λ i x s. to_build x (entry i x s).0) (λ i x s. stand x (from_build i x s))
