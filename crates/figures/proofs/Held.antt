-- The cells from the first register's writer show its last write's ticket until a write stores there, and then the new one, which is another.
use Prim.Native.Nat.{ℕ, ◌+◌, ◌-◌, ◌*◌, ◌^◌, ◌≤◌, ◌<◌}
use mathlib.Core.Path.{◌≡◌, refl, sym, ap, subst, ◌∙◌}
use mathlib.Core.Logic.{◌≢◌}
use mathlib.Core.Bool.{false}
use mathlib.Core.List.{List, [], ◌∷◌, Memᴰ}
use native.Mathlib.Omega.{arith}
use native.Mathlib.Decide.{ℕ_discrete}
use native.Mathlib.Nat.{mod-eq_of_lt}
use lib.ListN.{length, length-set, length-append}
use lib.Seq.{get_or-set_same}
use Rattle.words.specs.declared.cell.Cell.{Cell}
use Rattle.words.specs.declared.stamp.Stamp.{Stamp}
use Rattle.words.specs.Cell.{pack_cell, unpack_cell}
use Rattle.words.specs.Index.{index}
use Rattle.words.proofs.Laws.Cell.{packed_cur}
use Rattle.words.proofs.Laws.Choice.{lt_ind, never}
use Rattle.words.proofs.Laws.Index.{index_low}
use Rattle.words.proofs.Laws.Update.{upd_same, upd_other}
use Rattle.common.specs.Calls.{is_retirement}
use Rattle.common.specs.declared.calls.Call.{Call}
use Rattle.common.specs.Book.{idle, open_with, is_open, told, fresh_model}
use Rattle.protocol.specs.Table.{view, store}
use Rattle.protocol.specs.Reference.{Operation, Model, Turn, Result, named_tickets, excluded_tickets, ticket_after, write_turn, result_turn, read_turn, book}
use Rattle.protocol.proofs.Table.{fresh_length, fresh_writer_lem}
use Rattle.protocol.proofs.NewTicket.{new_ticket_new, kept_ticket, after_low}
use Rattle.protocol.proofs.Atomic.Turns.{attempt_ind}
use Rattle.figures.proofs.Cases.{cases}
use Rattle.figures.proofs.Stores.{read_keeps, write_keeps}

-- the writer's own cur is barred
own_named : (s : Stamp) (cells : List Cell) → Memᴰ s.cur (named_tickets s cells)
unfolding named_tickets
own_named s [] = Memᴰ.head refl
own_named s (c ∷ cs) = Memᴰ.tail (Memᴰ.tail (Memᴰ.tail (own_named s cs)))

-- a reader's sub-step leaves the table's length
module _ (n p : ℕ) (t : List ℕ) (s : Stamp) (m : ℕ) (cells : List Cell) where
  abbrev Long : Turn → Type 0
  Long x = length x.table ≡ length t

  result_long : (k : ℕ) (x : Result) → Long (result_turn n p t s m cells k x)
  unfolding result_turn
  result_long k x = lt_ind Long (k + 1) n _ _ (λ _. simp length-set) (λ _. simp length-set)

  read_long : Long (read_turn n p t s m cells)
  unfolding read_turn
  read_long =
      lt_ind Long _ (n + 3) _ _
      (λ _. attempt_ind n p t s m cells Long _ _ (λ _. refl) (λ _. simp length-set) (λ _. refl) (λ _ _. refl) (λ _ _. refl))
      (λ _. result_long _ _)

module _ (n : ℕ) (pos : 1 ≤ n) (few : n ≤ 16) where
  abbrev pub cur_at : List ℕ → ℕ → ℕ
  cur_at t i = (view n t 0 i).stamp.cur

  -- a write behind the one with stamp s, with m words moved
  pub record Stored (t : List ℕ) (s : Stamp) (m : ℕ) (cells : List Cell) : Type 0 where
    pub m_low : m < 2 * n
    pub short : m ≤ n → length cells ≡ m
    pub full : n ≤ m → length cells ≡ n
    pub new : (i : ℕ) → 1 ≤ i → i ≤ n → n + i ≤ m → cur_at t i ≡ ticket_after n s cells
    pub old : (i : ℕ) → 1 ≤ i → i ≤ n → m < n + i → cur_at t i ≡ s.cur

  abbrev pub HeldIn : List ℕ → Stamp → Operation → Type 0
  HeldIn t s idle = (i : ℕ) → 1 ≤ i → i ≤ n → cur_at t i ≡ s.cur
  HeldIn t s (open_with v m cells) = Stored t s m cells

  pub record Held (b : Model) : Type 0 where
    pub size : n * n + n ≤ length b.table
    pub cells : HeldIn b.table (b.stamp 0) (b.op 0)

  ticket_low : (s : Stamp) (cells : List Cell) → length cells ≤ n → ticket_after n s cells < 63
  ticket_low s cells h = omega (arith, after_low n s cells h)

  pub new_differs : (s : Stamp) (cells : List Cell) → length cells ≤ n → ticket_after n s cells ≢ s.cur
  unfolding excluded_tickets
  new_differs s cells h e =
      new_ticket_new n s.cur (excluded_tickets s cells)
      (subst (λ (k : ℕ). Memᴰ k (excluded_tickets s cells)) (sym e) (kept_ticket s.cur (named_tickets s cells) (λ z. omega (arith, ticket_low s cells h)) (own_named s cells)))

  -- the writer's sub-step
  module _ (t : List ℕ) (s : Stamp) (v m : ℕ) (cells : List Cell) (size : n * n + n ≤ length t) (W : Stored t s m cells) where
    abbrev After : Turn → Type 0
    After x = (n * n + n ≤ length x.table) × HeldIn x.table x.stamp x.op

    -- the cell that it stores to shows the new ticket
    placed : (i : ℕ) (c : Cell) → 1 ≤ i → i ≤ n → n ≤ m → m - n + 1 ≡ i → c.stamp.cur ≡ ticket_after n s cells → cur_at (store n t 0 (m - n + 1) c) i ≡ ticket_after n s cells
    placed i c i1 l h e is =
        let low = index_low n 0 i (omega arith) in
        rw e
        (ap (λ (x : ℕ). (unpack_cell x).stamp.cur) (get_or-set_same t (index n 0 i) (pack_cell c) 0 (omega arith)) ∙ packed_cur c
        ∙ mod-eq_of_lt (omega (arith, is, ticket_low s cells (omega (arith, W.full h)))) ∙ is)

    pub write_shows : (i : ℕ) → 1 ≤ i → i ≤ n → n ≤ m → m - n + 1 ≡ i → cur_at (write_turn n t s v m cells).table i ≡ ticket_after n s cells
    unfolding write_turn
    write_shows i i1 l h e =
        lt_ind (λ (x : Turn). cur_at x.table i ≡ ticket_after n s cells) m n _ _ (λ g. absurd (omega arith))
        (λ _. lt_ind (λ (x : Turn). cur_at x.table i ≡ ticket_after n s cells) (m + 1) (2 * n) _ _ (λ _. placed i _ i1 l h e refl) (λ _. placed i _ i1 l h e refl))

    off : (i : ℕ) → 1 ≤ i → i ≤ n → (n ≤ m → m - n + 1 ≢ i) → cur_at (write_turn n t s v m cells).table i ≡ cur_at t i
    off i i1 l ne = ap (λ (c : Cell). c.stamp.cur) (write_keeps n i i1 l t s v m cells W.m_low ne)

    news : (i : ℕ) → 1 ≤ i → i ≤ n → n ≤ m → n + i ≤ m + 1 → cur_at (write_turn n t s v m cells).table i ≡ ticket_after n s cells
    news i i1 l h g = elim (ℕ_discrete (m - n + 1) i) [
      | yes e ↦ write_shows i i1 l h e
      | no ne ↦ off i i1 l (λ _. ne) ∙ W.new i i1 l (omega arith)
    ]

    olds : (i : ℕ) → 1 ≤ i → i ≤ n → m + 1 < n + i → cur_at (write_turn n t s v m cells).table i ≡ s.cur
    olds i i1 l g = off i i1 l (λ h e. omega arith) ∙ W.old i i1 l (omega arith)

    write_long : length (write_turn n t s v m cells).table ≡ length t
    unfolding write_turn
    write_long =
        lt_ind (λ (x : Turn). length x.table ≡ length t) m n _ _ (λ _. refl)
        (λ _. lt_ind (λ (x : Turn). length x.table ≡ length t) (m + 1) (2 * n) _ _ (λ _. simp length-set) (λ _. simp length-set))

    -- what it leaves
    abbrev Cells : Turn → Type 0
    Cells x = (t'' : List ℕ) → ((i : ℕ) → 1 ≤ i → i ≤ n → n ≤ m → n + i ≤ m + 1 → cur_at t'' i ≡ ticket_after n s cells)
        → ((i : ℕ) → 1 ≤ i → i ≤ n → m + 1 < n + i → cur_at t'' i ≡ s.cur) → HeldIn t'' x.stamp x.op

    turned : Cells (write_turn n t s v m cells)
    unfolding write_turn
    turned =
        lt_ind Cells m n _ _
        (λ h t'' now was. record {
          m_low = omega arith;
          short = λ g. omega (arith, length-append cells (view n t (m + 1) 0 ∷ []), W.short (omega arith));
          full = λ g. omega (arith, length-append cells (view n t (m + 1) 0 ∷ []), W.short (omega arith));
          new = λ i i1 l g. absurd (omega arith);
          old = λ i i1 l g. was i i1 l g;
        })
        (λ h. lt_ind Cells (m + 1) (2 * n) _ _
        (λ g t'' now was. record { m_low = g; short = λ z. absurd (omega arith); full = λ _. W.full h; new = λ i i1 l z. now i i1 l h z; old = was })
        (λ g t'' now was i i1 l. now i i1 l h (omega arith)))

    write_held : After (write_turn n t s v m cells)
    write_held = (omega (arith, write_long), turned (write_turn n t s v m cells).table news olds)

  -- every call keeps it
  module _ (len : ℕ) (b : Model) (H : Held b) where
    begun_held : (v : ℕ) → is_open (b.op 0) ≡ false → HeldIn b.table (b.stamp 0) (open_with v 0 [])
    begun_held v shut = at (b.op 0) shut H.cells
      where
        at : (o : Operation) → is_open o ≡ false → HeldIn b.table (b.stamp 0) o → Stored b.table (b.stamp 0) 0 []
        at idle e h = record { m_low = omega arith; short = λ _. refl; full = λ g. absurd (omega arith); new = λ i i1 l g. absurd (omega arith); old = λ i i1 l g. h i i1 l }
        at (open_with u m cells) e h = never e

    -- in a table that shows the same
    moved : (t t'' : List ℕ) (s : Stamp) → ((i : ℕ) → 1 ≤ i → i ≤ n → cur_at t'' i ≡ cur_at t i) → (o : Operation) → HeldIn t s o → HeldIn t'' s o
    moved t t'' s f idle h = λ i i1 l. f i i1 l ∙ h i i1 l
    moved t t'' s f (open_with v m cells) h = record {
      m_low = h.m_low;
      short = h.short;
      full = h.full;
      new = λ i i1 l g. f i i1 l ∙ h.new i i1 l g;
      old = λ i i1 l g. f i i1 l ∙ h.old i i1 l g;
    }

    pub call_held : (c : Call) → is_retirement c ≡ false → Held (told book n len b c).model
    call_held = cases book n len b (λ _ x. Held x.model) (record {
      refused = λ _ _ _. H;
      full = λ _ _. H;
      write_begun_lem = λ v shut _. record { size = H.size; cells = rw (upd_same b.op 0 (open_with v 0 [])) (begun_held v shut) };
      read_begun_lem = λ p p1 _ _ _ _. record { size = H.size; cells = rw (upd_other b.op p (open_with 0 0 []) 0 (omega arith)) H.cells };
      write_moved = λ v m cells e.
          let x = write_turn n b.table (b.stamp 0) v m cells in
          let z = write_held b.table (b.stamp 0) v m cells H.size (subst (HeldIn b.table (b.stamp 0)) e H.cells) in
          record { size = z.0; cells = rw (upd_same b.op 0 x.op, upd_same b.stamp 0 x.stamp) z.1 };
      read_moved = λ p p1 pn _ v m cells e.
          let x = read_turn n p b.table (b.stamp p) m cells in
          record {
            size = rw (read_long n p b.table (b.stamp p) m cells) H.size;
            cells = rw (upd_other b.op p x.op 0 (omega arith), upd_other b.stamp p x.stamp 0 (omega arith))
                (moved b.table x.table (b.stamp 0) (λ i i1 l. ap (λ (c : Cell). c.stamp.cur) (read_keeps n i i1 l p p1 pn b.table (b.stamp p) m cells)) (b.op 0) H.cells);
          };
    })

  pub fresh_held : (v : ℕ) → v < 2 ^ 32 → Held (fresh_model book n v 0)
  fresh_held v low = record {
    size = omega (arith, fresh_length n v);
    cells = λ i i1 l. ap (λ (c : Cell). c.stamp.cur) (fresh_writer_lem n i v low i1 l);
  }
