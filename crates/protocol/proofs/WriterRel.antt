-- The writer's record is the digest of the cells that the book has of its write; each turn keeps it so.
use Prim.Native.Nat.{ℕ, ◌+◌, ◌-◌, ◌*◌, ◌≤◌, ◌<◌}
use mathlib.Core.Path.{◌≡◌, refl, sym, subst, ap, ◌∙◌}
use mathlib.Core.List.{List, [], ◌∷◌, ◌++◌}
use mathlib.Core.Bool.{true, false}
use native.Mathlib.Omega.{arith}
use lib.ListN.{length, length-set, length-append}
use lib.Count.{ones}
use Rattle.words.specs.declared.stamp.Stamp.{Stamp}
use Rattle.words.specs.declared.cell.Cell.{Cell}
use Rattle.words.specs.Index.{Pair}
use Rattle.words.proofs.Laws.Choice.{lt_two, eq_ind}
use Rattle.common.specs.declared.Writer.{Writer}
use Rattle.common.specs.Rules.{WriteStep}
use Rattle.common.specs.Book.{idle, open_with}
use Rattle.common.proofs.Lawful.{WTurnRel}
use Rattle.common.proofs.Places.{view_front, store_front}
use Rattle.protocol.specs.Table.{view, store, plain}
use Rattle.protocol.specs.Tickets.{with_ticket, walk_on}
use Rattle.protocol.specs.State.{excluded_by}
use Rattle.protocol.specs.InRange.{WriterInRange}
use Rattle.protocol.specs.Write.{writer_reads, ticket_of, write_step}
use Rattle.protocol.specs.Reference.{Operation, Turn, ticket_after, write_turn, book}
use Rattle.protocol.specs.Rules.{ticket_rules}
use Rattle.protocol.proofs.Table.{places}
use Rattle.protocol.proofs.Laws.{few}
use Rattle.protocol.proofs.ReaderRel.{RIs}
use Rattle.protocol.proofs.Walk.{bars, bars_more, new_ticket}

pub record WRel (n : ℕ) (w : Writer) (st : Stamp) (v m : ℕ) (cells : List Cell) : Type 0 where
  pub active_is : w.active ≡ true
  pub moved_is : w.moved ≡ m
  pub value_is : w.value ≡ v
  pub length_is : m ≤ n → length cells ≡ m
  pub excluded_is : m ≤ n → w.excluded ≡ bars 0 cells
  pub ticket_is : n < m → w.ticket ≡ ticket_after n st cells

abbrev pub WriterRel : ℕ → Writer → Stamp → Operation → Type 0
WriterRel n w st idle = w.active ≡ false
WriterRel n w st (open_with v m cells) = WRel n w st v m cells

-- the writer stands for a stamp and an operation of the book
pub record WIs (n : ℕ) (w : Writer) (st : Stamp) (q : Operation) : Type 0 where
  pub stamp_is : w.stamp ≡ st
  pub op : WriterRel n w st q

abbrev TurnRel : ℕ → List ℕ → WriteStep → Turn → Type 0
TurnRel = WTurnRel ticket_rules book WIs RIs

module _ (n : ℕ) (nl : 1 ≤ n) (nh : n ≤ 16) (T X : List ℕ) (size : length T ≡ n * n + n) (w : Writer) (st : Stamp) (v : ℕ)
    (cells : List Cell) (R : WRel n w st v w.moved cells) (stamp_is : w.stamp ≡ st) (ok : WriterInRange n w) where
  abbrev m : ℕ
  m = w.moved

  -- the new ticket, when it is taken
  taken : m ≡ n → walk_on (3 * n + 2) w.stamp.cur (excluded_by w) ≡ ticket_after n st cells
  taken e =
      let h = few n w ok R.active_is nh e in
      let q : excluded_by w ≡ with_ticket (with_ticket (bars 0 cells) st.cur) st.prev = rw (R.excluded_is (omega arith), stamp_is) in
      rw (q, stamp_is) (new_ticket n st cells nh (R.length_is (omega arith) ∙ e) (omega (arith, ap ones q)))

  ticket : n ≤ m → ticket_of n w ≡ ticket_after n st cells
  unfolding ticket_of
  ticket h = eq_ind (λ x. x ≡ ticket_after n st cells) w.moved n _ _ taken (λ e. R.ticket_is (omega arith))

  reads : m < n
      → TurnRel n X (record { writer = writer_reads n w (T ++ X); table = T ++ X })
      (record { op = open_with v (m + 1) (cells ++ (view n T (m + 1) 0 ∷ [])); stamp = st; table = T; value = 0 })
  reads h = record {
    table_is = refl;
    size_is = size;
    is = record {
      stamp_is = stamp_is;
      op = record {
        active_is = refl;
        moved_is = refl;
        value_is = R.value_is;
        length_is = λ _. simp length-append (omega (arith, R.length_is (omega arith)));
        excluded_is = λ _.
            rw (view_front (places n) T X size (m + 1) 0 (omega arith), R.excluded_is (omega arith)) (sym (bars_more 0 cells (view n T (m + 1) 0)));
        ticket_is = λ g. absurd (omega arith);
      };
    };
  }

  to_reader : n ≤ m → Pair n 0 (m - n + 1)
  to_reader h = record { from = omega arith; dest = omega (arith, ok.moved_low R.active_is); apart = omega arith }

  table : (h : n ≤ m)
      → store n (T ++ X) 0 (m - n + 1) (plain w.value (record { cur = ticket_of n w; prev = w.stamp.cur }))
      ≡ store n T 0 (m - n + 1) (plain v (record { cur = ticket_after n st cells; prev = st.cur })) ++ X
  table h = rw (ticket h, R.value_is, stamp_is) (store_front (places n) T X size 0 (m - n + 1) (to_reader h) _)

  turn : TurnRel n X (write_step n w (T ++ X)) (write_turn n T st v m cells)
  unfolding write_step write_turn
  turn =
      lt_two (TurnRel n X) m n _ _ _ _ reads λ h.
      lt_two
      (λ (z : Writer) (x : Turn). TurnRel n X (record { writer = z; table = store n (T ++ X) 0 (m - n + 1) (plain w.value (record { cur = ticket_of n w; prev = w.stamp.cur })) }) x)
      (m + 1) (2 * n) _ _ _ _
      (λ g. record {
        table_is = table h;
        size_is = simp length-set size;
        is = record {
          stamp_is = stamp_is;
          op = record {
            active_is = refl;
            moved_is = refl;
            value_is = R.value_is;
            length_is = λ q. absurd (omega arith);
            excluded_is = λ q. absurd (omega arith);
            ticket_is = λ _. ticket h;
          };
        };
      })
      (λ g. record {
        table_is = table h;
        size_is = simp length-set size;
        is = record { stamp_is = λ i. record { cur = ticket h i; prev = (stamp_is i).cur }; op = refl };
      })

module _ (n : ℕ) (nl : 1 ≤ n) (nh : n ≤ 16) (T X : List ℕ) (size : length T ≡ n * n + n) (w : Writer) (st : Stamp) (v m : ℕ)
    (cells : List Cell) (R : WRel n w st v m cells) (stamp_is : w.stamp ≡ st) (ok : WriterInRange n w) where
  same_moved : WRel n w st v w.moved cells
  same_moved = subst (λ (k : ℕ). WRel n w st v k cells) (sym R.moved_is) R

  pub turn_w_rel : TurnRel n X (write_step n w (T ++ X)) (write_turn n T st v m cells)
  turn_w_rel =
      subst (λ (k : ℕ). TurnRel n X (write_step n w (T ++ X)) (write_turn n T st v k cells)) R.moved_is
      (turn n nl nh T X size w st v cells same_moved stamp_is ok)
