-- A read's begin and its sub-steps in the book are the machine's.
use Prim.Native.Nat.{ℕ, suc, ◌+◌, ◌-◌, ◌*◌, ◌^◌, ◌≤◌, ◌<◌, max}
use mathlib.Core.Path.{◌≡◌, refl, ◌∙◌, sym, ap, subst}
use mathlib.Core.Logic.{◌≢◌, ◌⊎◌, inl, inr}
use mathlib.Core.List.{List, [], ◌∷◌, ◌++◌}
use native.Mathlib.Decide.{ℕ_discrete}
use native.Mathlib.Omega.{arith}
use lib.ListN.{length, length-append}
use borrow.Author.Tests.{lt-ltb, le-ltb}
use Rattle.words.specs.Update.{upd}
use Rattle.words.proofs.Laws.Choice.{lt_ind}
use Rattle.words.proofs.Laws.Update.{upd_elim, upd_same, upd_other}
use Rattle.numbered.proofs.Splits.{eq_or, lt_or}
use Rattle.numbered.proofs.Machine.{Phase, rest, begun, looked, announced, second, storing, Reader, St, Inv}
use Rattle.numbered.proofs.Attempt.{to, r_cell_inv}
use Rattle.numbered.proofs.Stores.{r_store_inv}
use Rattle.numbered.proofs.Distinct.{itself, scanning, r_scan_inv, Largest, one_more, r_largest_inv}
use Rattle.numbered.proofs.Peers.{peer, other_peer, peer_ne, peer_lt, peer_first, peer_last, peer_next, peer_up, peer_rank}
use Rattle.numbered.proofs.Log.{floor_of, log_keep, log_r_begins, log_r_ends}
use Rattle.common.specs.Book.{idle, open_with, begun as begun_in, entered}
use Rattle.common.proofs.Places.{view_same, view_other, size_store}
use Rattle.counted.specs.Steps.{read_steps}
use Rattle.counted.specs.declared.Cell.{Cell}
use Rattle.counted.specs.Table.{Link, view, store}
use Rattle.counted.specs.Reference.{Operation, Model, Turn, nth, at_writer, top_of, result_of, looks_at, read_turn}
use Rattle.counted.proofs.Turns as Turns
use Rattle.counted.proofs.Table.{places}
use Rattle.counted.proofs.Largest.{nth_old, nth_new, top_most, top_low, result_ind}
use Rattle.counted.proofs.Atomic.Sim.{cell_of, value_is, fits_cell, Scanning, Storing, ReadSim, Shows, Sim, Go, reader_sim, end_inv}

module _ (n : ℕ) (few : n ≤ 16) (S : ℕ) (val : ℕ → ℕ) (low : (k : ℕ) → val k < 2 ^ 32) (b : Model) (s : St) (me : ℕ → Reader) (i : ℕ) (hi : i < n)
    (z : Sim n S val b s me) where
  -- A read begins.
  pub r_begin_sim : b.op (suc i) ≡ idle → Go n S val (begun_in b (suc i) 3 0).model s
  r_begin_sim e = at (me i).ph refl (rw e at (z.readers i hi))
    where
      at : (ph : Phase) → (me i).ph ≡ ph → ReadSim n S val i idle ph → Go n S val (begun_in b (suc i) 3 0).model s
      at rest g r = (
        s,
        _,
        reader_sim n S val b s me i z s.F s.x (scanning n s me z.quiet z.inv i s.F (s.w i) (peer i 0) (λ _. 0)) b.stamp (open_with 0 0 []) _ _ refl
            (r_scan_inv n s me z.quiet z.inv i (peer i 0) (λ _. 0) (peer_first i) g) z.shows
            (record { first = refl; same = refl; low = omega arith; len = refl; k_is = refl; y_is = λ r h. absurd (omega arith) })
            (log_r_begins n val _ _ _ _ _ me _ z.log_ok few i _ hi refl),
        refl,
      )
      at (begun f sl) g r = absurd r
      at (looked f sl u) g r = absurd r
      at (announced f sl u) g r = absurd r
      at (second f sl u w k y) g r = absurd r
      at (storing f p m' k) g r = absurd r

  -- A reader's stamp is not the writer's.
  not_writer : upd b.stamp (suc i) (b.stamp (suc i)) 0 ≡ b.stamp 0
  not_writer = upd_other b.stamp (suc i) _ 0 (omega arith)

  abbrev Goes : Turn → Type 0
  Goes x = Go n S val (entered b (suc i) 4 x) s

  module _ (m : ℕ) (cells : List Cell) where
    abbrev turn : Turn
    turn = read_turn n (suc i) b.table (b.stamp (suc i)) m cells

    -- the cell looked at, and what the sub-step leaves
    abbrev seen : Cell
    seen = view n b.table (looks_at n (suc i) m) (suc i)

    abbrev next : List Cell → Operation
    next = Turns.next n (suc i) b.table (b.stamp (suc i)) m cells

    abbrev after : List Cell → List ℕ → Operation → Turn
    after = Turns.after n (suc i) b.table (b.stamp (suc i)) m cells

    -- Behind the look at the writer, and behind a store: the read goes on, or ends.
    module _ (cells' : List Cell) (t : List ℕ) (x : ℕ → ℕ → ℕ) (f p o a k : ℕ) (from : n ≤ m + 1) (upto : m < 2 * n - 1) (pos : 1 ≤ p)
        (fl : suc f ≡ floor_of (me i).ph) (result_is : result_of n cells' ≡ cell_of S val p) (k_is : k ≡ peer i (m + 1 - n)) (sh : Shows n S val t s.w x)
        (v : Inv n itself (record { K = s.K; D = s.D; F = s.F; wk = s.wk; B = s.B; w = s.w; x = x }) (upd me i (record { o = o; a = a; ph = storing f p p k }))) where
      on_or_end : Goes (after cells' t (next cells'))
      on_or_end =
          lt_ind (λ (op : Operation). Goes (after cells' t op)) (m + 1) (read_steps n) _ _
          (λ h. (
            _,
            _,
            reader_sim n S val b s me i z s.F x (record { o = o; a = a; ph = storing f p p k }) _ (open_with 0 (m + 1) cells') _ t not_writer v sh
                (record { from = from; upto = omega arith; num = refl; pos = pos; k_is = k_is; result_is = result_is }) (log_keep n val _ _ _ _ _ me _ z.log_ok i _ fl),
            refl,
          ))
          (λ h.
          let g : n ≡ suc (m + 1 - n) = omega arith in
          let e : storing f p p k ≡ storing f p p n = ap (λ (j : ℕ). storing f p p j) (k_is ∙ peer_last i (m + 1 - n) n hi g) in
          let d = end_inv n S val _ me i hi (record { o = o; a = a; ph = storing f p p k }) f p e v in
          let r : (result_of n cells').value ≡ val p = ap (λ (c : Cell). c.value) result_is ∙ value_is S val p pos in (
            _,
            _,
            reader_sim n S val b s me i z (max s.F p) x (record { o = p; a = 0; ph = rest }) _ idle _ t not_writer d.0 sh tt
                (log_r_ends n val _ _ _ _ _ me _ z.log_ok few i f p _ _ hi (sym fl) refl d.1 d.2 z.inv.F-K r (rw r (low p))),
            refl,
          ))

    -- While it looks at the others.
    module _ (f sl u w k : ℕ) (y : ℕ → ℕ) (e : (me i).ph ≡ second f sl u w k y) (t : Scanning n S val i cells m sl u w k y) where
      look_sim : m + 1 < n → Goes turn
      look_sim more =
          subst Goes (sym (Turns.looks n (suc i) b.table (b.stamp (suc i)) m cells t.low))
          (lt_ind (λ (op : Operation). Goes (after (cells ++ (seen ∷ [])) b.table op)) (m + 1) (read_steps n) _ _
          (λ _. (
            _,
            _,
            reader_sim n S val b s me i z s.F s.x (to (me i) (second f sl u w (peer i (suc m)) (upd y k (s.x k i)))) _ (open_with 0 (m + 1) (cells ++ (seen ∷ []))) _ _ not_writer
                (r_cell_inv n itself s me i z.inv f sl u w k (peer i (suc m)) y (λ j ne h. rw t.k_is (peer_next i m j ne h)) (rw t.k_is (peer_lt i m n (omega arith)))
                (rw t.k_is (peer_ne i m)) e)
                z.shows
                (record {
                  first = t.first;
                  same = t.same;
                  low = more;
                  len = length-append cells (seen ∷ []) ∙ omega (arith, t.len);
                  k_is = ap (peer i) (omega arith);
                  y_is = λ r h. met r (eq_or r m) h;
                })
                (log_keep n val _ _ _ _ _ me _ z.log_ok i _ (rw e)),
            refl,
          ))
          (λ h. absurd (omega arith)))
        where
          from : seen ≡ cell_of S val (s.x k i)
          from =
              rw (lt-ltb (m + 1) n more)
              (ap (λ (j : ℕ). view n b.table j (suc i)) (other_peer i m)
              ∙ z.shows.between (peer i m) i (peer_lt i m n (omega arith)) hi (λ h. peer_ne i m (sym h))
              ∙ ap (λ (j : ℕ). cell_of S val (s.x j i)) (sym t.k_is))

          met : (r : ℕ) → (r ≡ m) ⊎ (r ≢ m) → r < m + 1 → nth (cells ++ (seen ∷ [])) r ≡ cell_of S val (upd y k (s.x k i) (peer i r))
          met r (inl g) h =
              nth_new cells _ r (t.len ∙ sym g) ∙ from
              ∙ ap (cell_of S val) (sym (subst (λ (j : ℕ). upd y k (s.x k i) j ≡ s.x k i) (t.k_is ∙ ap (peer i) (sym g)) (upd_same y k (s.x k i))))
          met r (inr g) h =
              nth_old cells _ r (omega (arith, t.len)) ∙ t.y_is r (omega arith)
              ∙ ap (cell_of S val) (sym (upd_other y k (s.x k i) (peer i r) (omega (arith, t.k_is, peer_up i r m (omega arith)))))

      -- The look at the writer.
      module _ (last : m + 1 ≡ n) where
        all_looked : (me i).ph ≡ second f 1 u u n y
        all_looked =
            e ∙ ap (λ (l : ℕ). second f l u w k y) t.first ∙ ap (λ (j : ℕ). second f 1 u j k y) t.same
            ∙ ap (λ (j : ℕ). second f 1 u u j y) (t.k_is ∙ peer_last i m n hi (omega arith))

        from_writer : seen ≡ cell_of S val (s.w i)
        from_writer = rw (le-ltb (m + 1) n (omega arith)) (z.shows.to_reader i hi)

        w_pos : 1 ≤ s.w i
        w_pos = omega (arith, z.inv.D-pos, z.inv.D-w i hi)

        len : length (cells ++ (seen ∷ [])) ≡ n
        len = length-append cells (seen ∷ []) ∙ omega (arith, t.len)

        last_is : nth (cells ++ (seen ∷ [])) (at_writer n) ≡ cell_of S val (s.w i)
        last_is = nth_new cells seen (at_writer n) (t.len ∙ omega arith) ∙ from_writer

        other_is : (r : ℕ) → r < m → nth (cells ++ (seen ∷ [])) r ≡ cell_of S val (y (peer i r))
        other_is r h = nth_old cells seen r (omega (arith, t.len)) ∙ t.y_is r h

        abbrev st : Cell → ℕ
        st c = c.stamp

        -- "the largest stamp a read meets is the one it finds at the writer or one more"
        abbrev found_there : Cell
        found_there = nth (cells ++ (seen ∷ [])) (at_writer n)

        meets : (st found_there ≤ top_of (cells ++ (seen ∷ []))) × (top_of (cells ++ (seen ∷ [])) ≤ st found_there + 1)
        meets = (
          top_most (cells ++ (seen ∷ [])) (at_writer n),
          top_low (cells ++ (seen ∷ [])) (st found_there + 1) (λ r h. at r (lt_or r m) (omega (arith, len))),
        )
          where
            at : (r : ℕ) → (r < m) ⊎ (m ≤ r) → r < n → st (nth (cells ++ (seen ∷ [])) r) ≤ st found_there + 1
            at r (inl h) _ =
                let q = one_more n s me z.quiet z.inv i f u (peer i 0) y (peer_first i) all_looked hi (peer i r) (peer_lt i r n (omega arith)) (peer_ne i r) in
                omega (arith, ap st (other_is r h), ap st last_is, w_pos)
            at r (inr h) g = let q : r ≡ at_writer n = omega arith in rw q (omega arith)

        abbrev Found : Cell → Type 0
        Found c = (p : ℕ) × (1 ≤ p) × (c ≡ cell_of S val p) × Largest n s me z.quiet z.inv i y p

        found : Found (result_of n (cells ++ (seen ∷ [])))
        found = result_ind n (cells ++ (seen ∷ [])) len (omega arith) Found
            (λ most. (s.w i, w_pos, last_is, inl (refl, λ j hj nj. writers most j (peer_rank i n j hi hj nj))))
            (λ r h more. readers r h more (lt_or r m))
          where
            writers : ((r : ℕ) → r < n → st (nth (cells ++ (seen ∷ [])) r) ≤ st (nth (cells ++ (seen ∷ [])) (at_writer n))) → (j : ℕ)
                → (q : ℕ) × (suc q < n) × (peer i q ≡ j) → y j ≤ s.w i
            writers most j (q, h, g) = rw (← g) (omega (arith, most q (omega arith), ap st (other_is q (omega arith)), ap st last_is, w_pos))

            readers : (r : ℕ) → r < n → st (nth (cells ++ (seen ∷ [])) (at_writer n)) < st (nth (cells ++ (seen ∷ [])) r) → (r < m) ⊎ (m ≤ r)
                → Found (nth (cells ++ (seen ∷ [])) r)
            readers r h more (inl g) = (
              y (peer i r),
              omega (arith, more, ap st (other_is r g), ap st last_is),
              other_is r g,
              inr (peer i r, peer_lt i r n (omega arith), peer_ne i r, refl, omega (arith, more, ap st (other_is r g), ap st last_is, w_pos)),
            )
            readers r h more (inr g) = let q : r ≡ at_writer n = omega arith in absurd (omega (arith, ap (λ (j : ℕ). st (nth (cells ++ (seen ∷ [])) j)) q))

        writer_sim : Goes turn
        writer_sim =
            let p = found.0 in
            subst Goes (sym (Turns.looks n (suc i) b.table (b.stamp (suc i)) m cells t.low))
            (on_or_end (cells ++ (seen ∷ [])) b.table s.x f p (me i).o p (peer i 0) (omega arith) (omega (arith, t.low)) found.1 (rw e) found.2
            (ap (peer i) (omega arith)) z.shows
            (r_largest_inv n s me z.quiet z.inv i f u (peer i 0) y (peer_first i) all_looked p found.3))

    -- A store of the result.
    module _ (f p m' k : ℕ) (e : (me i).ph ≡ storing f p m' k) (t : Storing n S val i cells m p m' k) where
      abbrev q : ℕ
      q = m - n

      abbrev dest : ℕ
      dest = suc (peer i q)

      abbrev stored : List ℕ
      stored = store n b.table (suc i) dest (result_of n cells)

      more : suc q < n
      more = omega (arith, t.from, t.upto)

      there : Link n (suc i) dest
      there = omega (arith, peer_lt i q n more, peer_ne i q)

      e' : (me i).ph ≡ storing f p p k
      e' = e ∙ ap (λ (j : ℕ). storing f p j k) t.num

      p_low : p ≤ s.K
      p_low =
          let d = rw e at (z.inv.rd i hi).phase in
          d.hi

      tab_between : (j l : ℕ) → j < n → l < n → l ≢ j → view n stored (suc j) (suc l) ≡ cell_of S val (upd s.x i (upd (s.x i) k p) j l)
      tab_between j l hj hl ne =
          upd_elim (λ j y. j < n → l ≢ j → view n stored (suc j) (suc l) ≡ cell_of S val (y l)) s.x i (upd (s.x i) k p)
          (λ _ ne. upd_elim (λ l y. l < n → l ≢ i → view n stored (suc i) (suc l) ≡ cell_of S val y) (s.x i) k p
          (λ _ _. ap (λ (j : ℕ). view n stored (suc i) (suc j)) t.k_is
          ∙ view_same (places n) (suc i) dest b.table _ there (rw t.result_is (fits_cell S val low p s.K p_low z.fits)) z.shows.size ∙ t.result_is)
          (λ l nk hl ne. view_other (places n) (suc i) dest b.table _ there (suc i) (suc l) (omega arith) (inr (omega (arith, t.k_is))) ∙ z.shows.between i l hi hl ne) l hl ne)
          (λ j ni hj ne. view_other (places n) (suc i) dest b.table _ there (suc j) (suc l) (omega arith) (inl (omega arith)) ∙ z.shows.between j l hj hl ne) j hj ne

      shown : Shows n S val stored s.w (upd s.x i (upd (s.x i) k p))
      shown = record {
        size = size_store (places n) (suc i) dest b.table _ z.shows.size;
        to_reader = λ j h. view_other (places n) (suc i) dest b.table _ there 0 (suc j) (omega arith) (inl (omega arith)) ∙ z.shows.to_reader j h;
        between = tab_between;
      }

      store_sim : Goes turn
      store_sim =
          subst Goes (sym (Turns.stores n (suc i) b.table (b.stamp (suc i)) m cells t.from ∙ ap (λ (j : ℕ). after cells (store n b.table (suc i) j (result_of n cells)) (next cells)) (other_peer i q)))
          (on_or_end cells stored (upd s.x i (upd (s.x i) k p)) f p (me i).o (me i).a (peer i (suc q)) (omega (arith, t.from)) t.upto t.pos (rw e) t.result_is
          (ap (peer i) (omega (arith, t.from))) shown
          (r_store_inv n itself s me i hi z.inv f p p k (peer i (suc q)) (λ j ne h. rw t.k_is (peer_next i q j ne h)) (omega (arith, peer_up i q (suc q) (omega arith), t.k_is))
          (rw t.k_is (peer_ne i q)) (rw t.k_is (peer_lt i q n more)) e'))

  -- The last look, if it comes next.
  pub meets_next : (v m : ℕ) (cells : List Cell) → b.op (suc i) ≡ open_with v m cells → m + 1 ≡ n
      → let all = cells ++ (view n b.table (looks_at n (suc i) m) (suc i) ∷ []) in
      let x = nth all (at_writer n) in (top_of all ≡ x.stamp) ⊎ (top_of all ≡ x.stamp + 1)
  meets_next v m cells e last = at (me i).ph refl (rw e at (z.readers i hi))
    where
      all : List Cell
      all = cells ++ (view n b.table (looks_at n (suc i) m) (suc i) ∷ [])

      split : (a c : ℕ) → (c ≤ a) × (a ≤ c + 1) → (a ≡ c) ⊎ (a ≡ c + 1)
      split a c h = elim (ℕ_discrete a c) [ yes g ↦ inl g | no g ↦ inr (omega arith) ]

      at : (ph : Phase) → (me i).ph ≡ ph → ReadSim n S val i (open_with v m cells) ph → (top_of all ≡ (nth all (at_writer n)).stamp) ⊎ (top_of all ≡ (nth all (at_writer n)).stamp + 1)
      at rest g r = absurd r
      at (begun f sl) g r = absurd r
      at (looked f sl u) g r = absurd r
      at (announced f sl u) g r = absurd r
      at (second f sl u w k y) g r = split _ _ (meets m cells f sl u w k y g r last)
      at (storing f p m' k) g r = absurd (omega (arith, r.from))

  pub r_step_sim : (v m : ℕ) (cells : List Cell) → b.op (suc i) ≡ open_with v m cells → Goes (turn m cells)
  r_step_sim v m cells e = at (me i).ph refl (rw e at (z.readers i hi))
    where
      at : (ph : Phase) → (me i).ph ≡ ph → ReadSim n S val i (open_with v m cells) ph → Goes (turn m cells)
      at rest g r = absurd r
      at (begun f sl) g r = absurd r
      at (looked f sl u) g r = absurd r
      at (announced f sl u) g r = absurd r
      at (second f sl u w k y) g r = next_look (lt_or (m + 1) n)
        where
          next_look : (m + 1 < n) ⊎ (n ≤ m + 1) → Goes (turn m cells)
          next_look (inl h) = look_sim m cells f sl u w k y g r h
          next_look (inr h) = writer_sim m cells f sl u w k y g r (omega (arith, r.low))
      at (storing f p m' k) g r = store_sim m cells f p m' k g r
