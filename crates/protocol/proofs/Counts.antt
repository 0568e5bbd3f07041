-- The sub-step that follows a list: its number, when the operation ends, and the new ticket.
use Prim.Native.Nat.{ℕ, ◌+◌, ◌-◌, ◌*◌, ◌≤◌, ◌<◌}
use mathlib.Core.Path.{◌≡◌, refl, sym, subst, ap, ◌∙◌}
use mathlib.Core.List.{List, ◌++◌}
use mathlib.Core.Bool.{Bool, true, false}
use native.Mathlib.Omega.{arith}
use native.Mathlib.Nat.{mod-eq_of_lt}
use lib.ListN.{length, get_or, length-set, get_or-append}
use lib.Seq.{get_or-set_same}
use Rattle.words.specs.declared.cell.Cell.{Cell}
use Rattle.words.specs.Choice.{pick}
use Rattle.words.specs.Cell.{pack_cell, unpack_cell}
use Rattle.words.specs.Index.{index}
use Rattle.words.proofs.Laws.Choice.{pick_yes, pick_no, lt_ind, eq_ind}
use Rattle.words.proofs.Laws.Update.{upd_same}
use Rattle.words.proofs.Laws.Cell.{packed_cur}
use Rattle.words.proofs.Laws.Index.{index_low}
use Rattle.common.specs.declared.State.{State}
use Rattle.common.specs.State.{reader_at}
use Rattle.common.specs.Book.{open_with, is_open, moves_write, moves_read, told}
use Rattle.common.specs.declared.calls.Call.TheVariants.{Step as step}
use Rattle.common.specs.Moves.{Moves}
use Rattle.common.specs.Register.{call_of}
use Rattle.common.proofs.Keep.{Good}
use Rattle.common.proofs.Range.{reader_ok_lem}
use Rattle.common.proofs.Refine.{Rel, call_rel}
use Rattle.common.proofs.Counts.{write_told, read_told, write_number, read_number}
use Rattle.protocol.specs.Table.{view, store}
use Rattle.protocol.specs.InRange.{ReaderInRange}
use Rattle.protocol.specs.Reference.{Model, excluded_tickets, ticket_after, Turn, write_turn, failed, attempt_turn, result_turn, read_turn, book, Told}
use Rattle.protocol.specs.Rules.{ticket_rules}
use Rattle.protocol.specs.Whole.{NewTicket}
use Rattle.protocol.proofs.NewTicket.{walks, walks_unbarred, after_low}
use Rattle.protocol.proofs.WriterRel.{WRel, WriterRel, WIs}
use Rattle.protocol.proofs.ReaderRel.{RRel, ReaderRel, RIs}
use Rattle.protocol.proofs.Range.{writer_in, reader_in}
use Rattle.protocol.proofs.Simulates.{simulates}
use Rattle.protocol.proofs.Laws.{lawful}

-- s, t, l: the state with its buffers; b: the book that it is related to.
module _ (X L : List ℕ) (s : State) (t l : List ℕ) (b : Model) (g : Good ticket_rules s (length t) (length l))
    (R : Rel ticket_rules book WIs RIs X L s t l b) (full : length L ≡ s.head.rows) where
  abbrev n : ℕ
  n = s.head.n

  abbrev still : ℕ → Bool
  still p = is_open ((told book n s.head.rows b (step p)).model.op p)

  module _ (v m : ℕ) (cells : List Cell) (e : b.op 0 ≡ open_with v m cells) where
    K : WRel n s.writer (b.stamp 0) v m cells
    K = subst (WriterRel n s.writer (b.stamp 0)) e R.writer_is.op

    low : m < 2 * n
    low = omega (arith, (writer_in n s.writer g.ok.writer_passes).moved_low K.active_is, K.moved_is)

    step_is : told book n s.head.rows b (step 0) ≡ moves_write book n b (open_with v m cells)
    step_is = write_told book n s.head.rows b _ (sym (R.retired_are 0 (omega arith))) e

    abbrev On : Bool → Turn → Type 0
    On c x = is_open x.op ≡ c

    pub write_moves : Moves (call_of ticket_rules s t l (step 0)).answer (still 0) m (2 * n)
    unfolding write_turn
    write_moves = record {
      number_is = write_number ticket_rules book WIs RIs lawful simulates X L s t l b g R full v m cells e;
      not_past = omega (arith, low);
      goes_on = λ h.
          rw (step_is, upd_same b.op 0)
          (lt_ind (On true) m n _ _ (λ _. refl) (λ _. lt_ind (On true) (m + 1) (2 * n) _ _ (λ _. refl) (λ q. absurd (omega arith))));
      ends = λ h.
          rw (step_is, upd_same b.op 0)
          (lt_ind (On false) m n _ _ (λ q. absurd (omega (arith, g.ok.head_good.n_low)))
          (λ _. lt_ind (On false) (m + 1) (2 * n) _ _ (λ q. absurd (omega arith)) (λ _. refl)));
    }

    -- the first store: its cell holds the new ticket
    module _ (at : m ≡ n) where
      abbrev ticket : ℕ
      ticket = ticket_after n (b.stamp 0) cells

      ticket_low : ticket ≤ 3 * n + 2
      ticket_low = after_low n (b.stamp 0) cells (omega (arith, K.length_is (omega arith)))

      abbrev Stores : Turn → Type 0
      Stores x = (view n (x.table ++ X) 0 1).stamp.cur ≡ ticket

      -- what is stored to reader 1 shows the ticket
      shows : (c : Cell) → c.stamp.cur ≡ ticket
          → (view n (store n b.table 0 (m - n + 1) c ++ X) 0 1).stamp.cur ≡ ticket
      shows c q =
          let one : m - n + 1 ≡ 1 = omega arith in
          let low = index_low n 0 1 (omega (arith, g.ok.head_good.n_low)) in
          let word : get_or (store n b.table 0 1 c ++ X) (index n 0 1) 0 ≡ pack_cell c =
          get_or-append (store n b.table 0 1 c) X 0 (index n 0 1) (rw length-set (omega (arith, low, R.size_is)))
          ∙ get_or-set_same b.table (index n 0 1) (pack_cell c) 0 (omega (arith, low, R.size_is)) in
          rw one
          (ap (λ (x : ℕ). (unpack_cell x).stamp.cur) word
          ∙ packed_cur c
          ∙ mod-eq_of_lt (omega (arith, q, ticket_low, g.ok.head_good.n_high))
          ∙ q)

      stores : Stores (write_turn n b.table (b.stamp 0) v m cells)
      unfolding write_turn
      stores =
          lt_ind Stores m n _ _ (λ h. absurd (omega arith))
          (λ _. lt_ind Stores (m + 1) (2 * n) _ _ (λ _. shows _ refl) (λ _. shows _ refl))

      stored : (view n (call_of ticket_rules s t l (step 0)).table 0 1).stamp.cur ≡ ticket
      stored =
          ap (λ (x : List ℕ). (view n x 0 1).stamp.cur) (call_rel ticket_rules book WIs RIs lawful simulates X L s t l b g R full (step 0)).rel.table_is
          ∙ ap (λ (x : Told). (view n (x.model.table ++ X) 0 1).stamp.cur) step_is
          ∙ stores

      pub first_ticket : NewTicket n (b.stamp 0).cur (call_of ticket_rules s t l (step 0)).table (excluded_tickets (b.stamp 0) cells)
      first_ticket =
          let w = walks (excluded_tickets (b.stamp 0) cells) n (b.stamp 0).cur in
          record { not_excluded = rw stored (walks_unbarred n (b.stamp 0).cur w); one_of = rw stored ticket_low; walks = rw stored w }

  module _ (p : ℕ) (p1 : 1 ≤ p) (pn : p ≤ s.head.n) (free : b.retired p ≡ false) (v m : ℕ) (cells : List Cell) (e : b.op p ≡ open_with v m cells) where
    KR : RRel n (reader_at s (p - 1)) m cells
    KR = subst (ReaderRel n (reader_at s (p - 1))) e (R.readers_are p p1 pn).op

    -- the read's last sub-step: 2n + 3, or 3n + 6 once the first attempt has failed
    abbrev last : ℕ
    last = pick (failed n m cells) (3 * n + 6) (2 * n + 3)

    last_is : last ≡ 2 * n + 3 + pick KR.late (n + 3) 0
    last_is = rw KR.failed_is (at KR.late)
      where
        at : (c : Bool) → pick c (3 * n + 6) (2 * n + 3) ≡ 2 * n + 3 + pick c (n + 3) 0
        at true = omega arith
        at false = omega arith

    low_r : KR.l ≤ 2 * n + 2
    low_r = at KR.late refl
      where
        ok : ReaderInRange n (reader_at s (p - 1))
        ok = reader_in n (reader_at s (p - 1)) (reader_ok_lem s p p1 (R.retired_are p pn ∙ free) pn ticket_rules _ _ g.ok)

        at : (c : Bool) → KR.late ≡ c → KR.l ≤ 2 * n + 2
        at true q =
            omega (arith, (ok.in_second KR.active_is (KR.second_is ∙ q)).1, KR.moved_is, KR.at, pick_yes KR.late (n + 3) 0 q)
        at false q = omega (arith, ok.in_first KR.active_is (KR.second_is ∙ q), KR.moved_is, KR.at, pick_no KR.late (n + 3) 0 q)

    step_is_r : told book n s.head.rows b (step p) ≡ moves_read book n b p (open_with v m cells)
    step_is_r = read_told book n s.head.rows b p _ p1 pn free e

    l_is : m - pick (failed n m cells) (n + 3) 0 ≡ KR.l
    l_is = rw KR.failed_is (omega (arith, KR.at))

    abbrev OnR : Bool → Turn → Type 0
    OnR c x = is_open x.op ≡ c

    try_on : (l a : ℕ) → OnR true (attempt_turn n p b.table (b.stamp p) m cells l a)
    unfolding attempt_turn
    try_on l a =
        eq_ind (OnR true) l 0 _ _ (λ _. refl) λ _.
        eq_ind (OnR true) l 1 _ _ (λ _. refl) λ _.
        eq_ind (OnR true) l 2 _ _ (λ _. refl) λ _.
        lt_ind (OnR true) l (n + 2) _ _ (λ _. refl) (λ _. refl)

    pub read_moves : Moves (call_of ticket_rules s t l (step p)).answer (still p) m last
    unfolding read_turn result_turn
    read_moves = record {
      number_is = read_number ticket_rules book WIs RIs lawful simulates X L s t l b g R full v m cells p p1 pn free e;
      not_past = omega (arith, last_is, low_r, KR.at);
      goes_on = λ h.
          rw (step_is_r, upd_same b.op p, l_is)
          (lt_ind (OnR true) KR.l (n + 3) _ _ (λ _. try_on _ _)
          (λ q. lt_ind (OnR true) (KR.l - (n + 3) + 1) n _ _ (λ _. refl) (λ z. absurd (omega (arith, last_is, KR.at)))));
      ends = λ h.
          rw (step_is_r, upd_same b.op p, l_is)
          (lt_ind (OnR false) KR.l (n + 3) _ _ (λ q. absurd (omega (arith, last_is, KR.at, g.ok.head_good.n_low)))
          (λ q. lt_ind (OnR false) (KR.l - (n + 3) + 1) n _ _ (λ z. absurd (omega (arith, last_is, KR.at))) (λ _. refl)));
    }
