-- A read's steps up to its third read of the writer's cell keep the invariant.
use mathlib.Core.Path.{◌≡◌, refl, sym}
use mathlib.Core.Logic.{◌≢◌, ◌⊎◌, inl, inr}
use mathlib.Core.List.{Memᴰ}
use Prim.Native.Nat.{ℕ, suc, ◌≤◌, ◌<◌, max, pred}
use native.Mathlib.Omega.{arith}
use Rattle.words.specs.Update.{upd}
use Rattle.words.proofs.Laws.Update.{upd_elim}
use Rattle.numbered.proofs.Splits.{eq_or, lt_or}
use Rattle.numbered.proofs.Machine.{Phase, rest, begun, looked, announced, second, storing, Reader, St, cur, prv, Kept, Via, Reach, Hope, Met, Same, Begun, Looked, Second, Idle, PhOk, Ok, Inv}

abbrev pub to : Reader → Phase → Reader
to r ph = record { o = r.o; a = r.a; ph = ph }

module _ (n : ℕ) (c : ℕ → ℕ) where
  -- A step that changes reader i's own data only.
  pub local : (s : St) (me : ℕ → Reader) (i : ℕ) (r : Reader) → Inv n c s me → (i < n → Ok n c s i r) → Inv n c s (upd me i r)
  local s me i r v ok = record {
    next = v.next;
    next2 = v.next2;
    D-pos = v.D-pos;
    D-K = v.D-K;
    K-D = v.K-D;
    D-F = v.D-F;
    F-K = v.F-K;
    D-w = v.D-w;
    w_K = v.w_K;
    writer = v.writer;
    rd = upd_elim (λ j z. j < n → Ok n c s j z) me i r ok (λ j _. v.rd j);
  }

  -- Such a step that changes the phase only.
  pub phased : (s : St) (me : ℕ → Reader) (i : ℕ) (ph : Phase) → Inv n c s me → (i < n → PhOk n c s i (me i).o (me i).a ph) → Inv n c s (upd me i (to (me i) ph))
  phased s me i ph v ok = local s me i (to (me i) ph) v (λ h. record { own_kept = (v.rd i h).own_kept; reach = (v.rd i h).reach; phase = ok h })

  module _ (s : St) (me : ℕ → Reader) (i : ℕ) (v : Inv n c s me) where
    -- A read begins.
    pub r_begin_inv : (me i).ph ≡ rest → Inv n c s (upd me i (to (me i) (begun s.F 1)))
    r_begin_inv e = phased s me i _ v λ h.
        let b : Idle n c s i (me i).o = rw e at (v.rd i h).phase in
        record { floor = omega arith; own_low = b.own_low; row = b.row; hope = (v.rd i h).reach; near = omega (arith, v.D-w i h) }

    -- The first read of the writer's cell.
    pub r_look_inv : (f sl : ℕ) → (me i).ph ≡ begun f sl → Inv n c s (upd me i (to (me i) (looked f sl (s.w i))))
    r_look_inv f sl e = phased s me i _ v λ h.
        let b : Begun n c s i (me i).o f sl = rw e at (v.rd i h).phase in
        record { floor = b.floor; own_low = b.own_low; row = b.row; hope = b.hope; near = b.near; pos = omega (arith, v.D-w i h); rise = omega arith }

    -- The reader announces the number that it read.
    pub r_announce_inv : (f sl u : ℕ) → (me i).ph ≡ looked f sl u → Inv n c s (upd me i (record { o = (me i).o; a = u; ph = announced f sl u }))
    r_announce_inv f sl u e = local s me i _ v λ h.
        record { own_kept = (v.rd i h).own_kept; reach = (v.rd i h).reach; phase = (refl, rw e at (v.rd i h).phase) }

    -- The newest write but two and those after it have tickets that no later write has.
    fresh : (q : ℕ) → s.K ≤ suc (suc q) → (m : ℕ) → q < m → m ≤ s.K → (m ≡ suc q) ⊎ (m ≢ suc q) → c m ≢ c q
    fresh q h m a b (inl e) = rw e (v.next q (omega arith))
    fresh q h m a b (inr e) = let e' : m ≡ suc (suc q) = omega arith in rw e' (v.next2 q (omega arith))

    pub hope_start : (p k : ℕ) (y : ℕ → ℕ) → ((j : ℕ) → j ≢ i → k ≤ j) → Reach n c s i p → Hope n c s i p k y
    hope_start p k y low (inl h) = inl h
    hope_start p k y low (inr (j, r)) = inr (j, r, λ h. absurd (omega (arith, low j r.other)))

    -- The second read of the writer's cell.
    pub r_second_inv : (f sl u k : ℕ) (y : ℕ → ℕ) → ((j : ℕ) → j ≢ i → k ≤ j) → (me i).ph ≡ announced f sl u → Inv n c s (upd me i (to (me i) (second f sl u (s.w i) k y)))
    r_second_inv f sl u k y low e = phased s me i _ v λ h.
        let b : ((me i).a ≡ u) × Looked n c s i (me i).o f sl u = rw e at (v.rd i h).phase in
        let l : Looked n c s i (me i).o f sl u = b.1 in
        record {
          floor = l.floor;
          own_low = l.own_low;
          row = l.row;
          hope = hope_start f k y low l.hope;
          near = l.near;
          pos = l.pos;
          rise = l.rise;
          rise2 = omega arith;
          same = λ e1 e2. same h u b.0 l.pos e1 e2;
        }
      where
        held : suc i < s.wk → i < n → (s.w i ≡ s.K) × Memᴰ (c s.K) s.B × Memᴰ (c (pred s.K)) s.B
        held g h = let z = v.writer (omega arith) in (omega (arith, z.0, v.D-w i h, v.w_K i), z.1, z.2)

        same : i < n → (u : ℕ) → (me i).a ≡ u → 1 ≤ u → c u ≡ c (s.w i) → c (pred u) ≡ c (pred (s.w i)) → Same n c s i (me i).o (me i).a (s.w i) k y
        same h u ea pos e1 e2 = record {
          cur_safe = record {
            bars = cur (omega arith) (cc);
            kept = record { fresh = λ m a b. fresh (s.w i) (omega (arith, v.D-w i h)) m a b (eq_or m _); saw = λ g. let z = held g h in rw z.0 z.1 };
          };
          prv_safe = record {
            bars = prv (omega arith) (cc);
            kept = record { fresh = λ m a b. fresh (pred (s.w i)) (omega (arith, v.D-w i h)) m a b (eq_or m _); saw = λ g. let z = held g h in rw z.0 z.2 };
          };
          met = λ j _ ne g. absurd (omega (arith, low j ne));
        }

    -- What a cell from reader j to reader i holds: a number whose write before it keeps its ticket.
    Held : ℕ → ℕ → Type 0
    Held j p = (p ≤ s.K) × (1 ≤ p → Kept n c s j (pred p))

    held_own : (j o p : ℕ) → p ≡ o → o ≤ s.F → (1 ≤ o → Kept n c s j (pred o)) → Held j p
    unfolding Held
    held_own j o p e low k = (omega (arith, v.F-K), λ h. rw e (k (omega arith)))

    held_phase : (j o a : ℕ) → i < n → i ≢ j → (1 ≤ o → Kept n c s j (pred o)) → (ph : Phase) → PhOk n c s j o a ph → Held j (s.x j i)
    unfolding Held
    held_phase j o a hi ne k rest b = held_own j o _ (b.row i hi ne) b.own_low k
    held_phase j o a hi ne k (begun f sl) b = held_own j o _ (b.row i hi ne) (omega arith) k
    held_phase j o a hi ne k (looked f sl u) b = held_own j o _ (b.row i hi ne) (omega arith) k
    held_phase j o a hi ne k (announced f sl u) b = held_own j o _ (b.1.row i hi ne) (omega arith) k
    held_phase j o a hi ne k (second f sl u z q y) b = held_own j o _ (b.row i hi ne) (omega arith) k
    held_phase j o a hi ne k (storing f p m q) b = at (lt_or i q)
      where
        at : (i < q) ⊎ (q ≤ i) → Held j (s.x j i)
        at (inl h) = let e = b.before i ne h in (omega (arith, e), λ g. rw e (b.safe (omega arith)).kept)
        at (inr h) = held_own j o _ (b.after i hi ne h) (omega arith) k

    held : (j : ℕ) → i < n → j < n → j ≢ i → Held j (s.x j i)
    held j hi h ne = held_phase j (me j).o (me j).a hi (λ e. ne (sym e)) (v.rd j h).own_kept (me j).ph (v.rd j h).phase

    -- A cell whose write follows one with z's ticket holds a later write than z.
    late : (j z p : ℕ) → z ≤ s.K → Held j p → 1 ≤ p → c (pred p) ≡ c z → (z < p) ⊎ (p ≤ z) → suc z ≤ p
    unfolding Held
    late j z p hz b pos e (inl h) = h
    late j z p hz b pos e (inr h) = absurd ((b.1 pos).fresh z (omega arith) hz (sym e))

    hope_cell : (f k k' : ℕ) (y : ℕ → ℕ) → ((j : ℕ) → j ≢ i → j < k' → j ≤ k) → Hope n c s i f k y → Hope n c s i f k' (upd y k (s.x k i))
    hope_cell f k k' y nxt (inl h) = inl h
    hope_cell f k k' y nxt (inr (j, r, g)) = inr (
      j,
      r,
      upd_elim (λ j z. Via n c s i f j → (j < k → f ≤ max (y j) (s.w i)) → j < k' → f ≤ max z (s.w i)) y k (s.x k i)
          (λ r _ _. r.cov) (λ j ne r g h. g (omega (arith, nxt j r.other h))) j r g,
    )

    -- The reader reads the cell of reader k, k other than i.
    pub r_cell_inv : (f sl u z k k' : ℕ) (y : ℕ → ℕ) → ((j : ℕ) → j ≢ i → j < k' → j ≤ k) → k < n → k ≢ i → (me i).ph ≡ second f sl u z k y →
        Inv n c s (upd me i (to (me i) (second f sl u z k' (upd y k (s.x k i)))))
    unfolding Held
    r_cell_inv f sl u z k k' y nxt hk ne e = phased s me i _ v λ h.
        let b : Second n c s i (me i).o (me i).a f sl u z k y = rw e at (v.rd i h).phase in
        record {
          floor = b.floor;
          own_low = b.own_low;
          row = b.row;
          hope = hope_cell f k k' y nxt b.hope;
          near = b.near;
          pos = b.pos;
          rise = b.rise;
          rise2 = b.rise2;
          same = λ e1 e2. let m = b.same e1 e2 in record {
            cur_safe = m.cur_safe;
            prv_safe = m.prv_safe;
            met = upd_elim (λ j p. j < n → j ≢ i → j < k' → Met n c s i z j p) y k (s.x k i)
                (λ hj nj _. record {
                  low = (held k h hk ne).0;
                  cov = omega arith;
                  late = λ pos e. late k z (s.x k i) (omega (arith, b.rise2, v.w_K i)) (held k h hk ne) pos e (lt_or z (s.x k i));
                })
                (λ j nk hj nj hk. m.met j hj nj (omega (arith, nxt j nj hk)));
          };
        }
