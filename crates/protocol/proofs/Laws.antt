-- The first register's rules are lawful: question 4 is passed again, and a sub-step sets at most one cell.
use Prim.Native.Nat.{ℕ, ◌+◌, ◌-◌, ◌*◌, ◌≤◌, ◌<◌}
use mathlib.Core.Path.{◌≡◌, refl, sym, ap, ◌∙◌}
use mathlib.Core.List.{List}
use mathlib.Core.Bool.{Bool, true, false, ◌||◌}
use native.Mathlib.Omega.{arith}
use lib.Count.{ones}
use Rattle.words.specs.Cell.{unpack_cell}
use Rattle.words.specs.Choice.{pick}
use Rattle.words.specs.Index.{index, Pair}
use Rattle.words.proofs.Laws.Choice.{lt_ind, eq_ind, never}
use Rattle.words.proofs.Laws.Index.{index_low, index_inj}
use Rattle.common.specs.declared.Writer.{Writer}
use Rattle.common.specs.declared.Reader.{Reader}
use Rattle.common.specs.State.{as_counted, writer_begins, reader_begins, retires}
use Rattle.common.specs.Rules.{WriteStep, ReadStep}
use Rattle.common.proofs.Effects.{word_cell}
use Rattle.common.proofs.Lawful.{Lawful, Wired}
use Rattle.protocol.specs.Table.{view}
use Rattle.protocol.specs.Tickets.{bit}
use Rattle.protocol.specs.NewTicket.{Walks}
use Rattle.protocol.specs.State.{excluded_by}
use Rattle.protocol.specs.InRange.{WriterInRange, StampInRange, ReaderInRange}
use Rattle.protocol.specs.Write.{ticket_of, write_step}
use Rattle.protocol.specs.Read.{stamp_in, moved_on, looks_third, attempt_step, result_step, since, read_step}
use Rattle.protocol.specs.Rules.{fresh_cells, ticket_rules}
use Rattle.protocol.specs.Reference.{fresh_table}
use Rattle.protocol.proofs.Table.{fresh_length}
use Rattle.protocol.proofs.Walk.{walks_on, walk_low}
use Rattle.protocol.proofs.Excluded.{ones_three, ones_own}
use Rattle.protocol.proofs.Range.{writer_in, in_writer, reader_in, in_reader}
use Rattle.protocol.proofs.Effects.{write_word, read_word}

-- A word's fields are tickets.
stamp_low : (x : ℕ) → StampInRange (stamp_in x)
unfolding unpack_cell
stamp_low x = omega arith

-- A write's new ticket.
module _ (n : ℕ) (w : Writer) (k : WriterInRange n w) (a : w.active ≡ true) (nh : n ≤ 16) where
  pub few : w.moved ≡ n → ones (excluded_by w) ≤ 3 * n + 2
  few e = omega (arith, k.few a (omega arith))

  ticket_low : n ≤ w.moved → ticket_of n w < 64
  unfolding ticket_of
  ticket_low h =
      eq_ind (λ x. x < 64) w.moved n _ _
      (λ e. omega (arith, walk_low n w.stamp.cur (excluded_by w) nh (few e))) (λ e. k.ticket_low a (omega arith))

  -- In every state that passes question 4, handed in or not, a write takes the ticket that the papers' sentence names.
  pub ticket_walks : w.moved ≡ n → Walks n w.stamp.cur (λ x. bit (excluded_by w) x ≡ 0) (ticket_of n w)
  unfolding ticket_of
  ticket_walks e =
      eq_ind (Walks n w.stamp.cur (λ x. bit (excluded_by w) x ≡ 0)) w.moved n _ _
      (λ _. walks_on n w.stamp.cur (excluded_by w) nh (few e)) (λ q. absurd (q e))

-- The writer's turn.
module _ (n : ℕ) (w : Writer) (t : List ℕ) (k : WriterInRange n w) (a : w.active ≡ true) (nh : n ≤ 16) where
  turn_w : WriterInRange n (write_step n w t).writer
  unfolding write_step
  turn_w =
      let c = view n t (w.moved + 1) 0 in
      lt_ind (λ (q : WriteStep). WriterInRange n q.writer) w.moved n _ _
      (λ h. record {
        stamp_passes = k.stamp_passes;
        moved_low = λ _. omega arith;
        few = λ _ _. omega (arith, ones_three w.excluded w.stamp.cur w.stamp.prev c.stamp.prev c.announced.cur c.announced.prev, k.few a (omega arith));
        ticket_low = λ _ g. absurd (omega arith);
      })
      (λ h. lt_ind (λ x. WriterInRange n x) (w.moved + 1) (2 * n) _ _
      (λ e. record { stamp_passes = k.stamp_passes; moved_low = λ _. e; few = λ _ g. absurd (omega arith); ticket_low = λ _ _. ticket_low n w k a nh h })
      (λ e. record {
        stamp_passes = record { cur_low = ticket_low n w k a nh h; prev_low = k.stamp_passes.cur_low };
        moved_low = λ g. never (sym g);
        few = λ g. never (sym g);
        ticket_low = λ g. never (sym g);
      }))

-- A reader's turn.
module _ (n p : ℕ) (r : Reader) (t : List ℕ) (k : ReaderInRange n r) (a : r.active ≡ true) (nl : 1 ≤ n) where
  abbrev Q : ReadStep → Type 0
  Q q = ReaderInRange n q.reader

  -- Within an attempt, the next word is in range.
  module _ (l : ℕ) (e : l ≡ since n r) (h : l < n + 3) where
    in_1 : r.second ≡ false → r.moved ≡ l
    in_1 g = omega (arith, ap (λ (b : Bool). r.moved - pick b (n + 3) 0) g)

    in_2 : r.second ≡ true → (n + 3 ≤ r.moved) × (r.moved ≡ l + (n + 3))
    in_2 g = ((k.in_second a g).0, omega (arith, (k.in_second a g).0, ap (λ (b : Bool). r.moved - pick b (n + 3) 0) g))

    f1 : r.second ≡ false → r.moved + 1 ≤ 2 * n + 2
    f1 g = omega (arith, in_1 g)

    f2 : r.second ≡ true → (n + 3 ≤ r.moved + 1) × (r.moved + 1 ≤ 3 * n + 5)
    f2 g = omega (arith, (in_2 g).0, (in_2 g).1)

    third_low : (c : ℕ) → l ≡ n + 2 → ReaderInRange n (looks_third (moved_on r) c)
    third_low c g = record { stamp_passes = k.stamp_passes; in_first = λ _ x. f1 (no_or r.second _ x); in_second = λ _ x. at r.second refl }
      where
        no_or : (b c : Bool) → (b || c) ≡ false → b ≡ false
        no_or true c x = x
        no_or false c x = refl

        at : (b : Bool) → r.second ≡ b → (n + 3 ≤ r.moved + 1) × (r.moved + 1 ≤ 3 * n + 5)
        at true x = f2 x
        at false x = omega (arith, in_1 x)

    -- the steps that leave the attempt as it is
    on : (q : Reader) → q.stamp ≡ r.stamp → q.second ≡ r.second → q.moved ≡ r.moved + 1 → ReaderInRange n q
    on q es e2 em = record {
      stamp_passes = rw es k.stamp_passes;
      in_first = λ _ x. omega (arith, f1 (sym e2 ∙ x));
      in_second = λ _ x. omega (arith, f2 (sym e2 ∙ x));
    }

    try_low : Q (attempt_step n p l r t)
    unfolding attempt_step
    try_low =
        eq_ind Q l 0 _ _ (λ _. on _ refl refl refl) λ _.
        eq_ind Q l 1 _ _ (λ _. on _ refl refl refl) λ _.
        eq_ind Q l 2 _ _ (λ _. on _ refl refl refl) λ _.
        lt_ind Q l (n + 2) _ _ (λ _. on _ refl refl refl) (λ g. third_low _ (omega arith))

  put_low : (l : ℕ) → l ≡ since n r → n + 3 ≤ l → Q (result_step n p (l - (n + 3)) r t)
  unfolding result_step
  put_low l e h =
      lt_ind Q (l - (n + 3) + 1) n _ _
      (λ g. record {
        stamp_passes = k.stamp_passes;
        in_first = λ _ x. omega (arith, g, ap (λ (b : Bool). r.moved - pick b (n + 3) 0) x);
        in_second = λ _ x. omega (arith, (k.in_second a x).0, g, ap (λ (b : Bool). r.moved - pick b (n + 3) 0) x);
      })
      (λ _. record { stamp_passes = stamp_low r.result; in_first = λ x. never (sym x); in_second = λ x. never (sym x) })

  turn_r : ReaderInRange n (read_step n p r t).reader
  unfolding read_step
  turn_r = lt_ind Q (since n r) (n + 3) _ _ (λ e. try_low (since n r) refl e) (λ e. put_low (since n r) refl e)

-- Begins.
opened_w : (n v : ℕ) (w : Writer) → 1 ≤ n → WriterInRange n w → WriterInRange n (writer_begins w v)
opened_w n v w nl k = record {
  stamp_passes = k.stamp_passes;
  moved_low = λ _. omega arith;
  few = λ _ _. omega (arith, ones_own w.stamp.cur w.stamp.prev);
  ticket_low = λ _ q. absurd (omega arith);
}

opened_r : (n : ℕ) (r : Reader) → ReaderInRange n r → ReaderInRange n (reader_begins r)
opened_r n r k = record { stamp_passes = k.stamp_passes; in_first = λ _ _. omega arith; in_second = λ _ e. never (sym e) }

-- A reader that is retired has no open read to be asked about.
retired_r : (n : ℕ) (r : Reader) → ReaderInRange n r → ReaderInRange n (as_counted (retires r))
retired_r n r k = record { stamp_passes = k.stamp_passes; in_first = λ e. never (sym e); in_second = λ e. never (sym e) }

-- A sub-step retires none.
module _ (n p : ℕ) (r : Reader) (t : List ℕ) where
  abbrev AsIt : ReadStep → Type 0
  AsIt q = q.reader.retired ≡ r.retired

  tries_as_it : (l : ℕ) → AsIt (attempt_step n p l r t)
  unfolding attempt_step
  tries_as_it l =
      eq_ind AsIt l 0 _ _ (λ _. refl) λ _.
      eq_ind AsIt l 1 _ _ (λ _. refl) λ _.
      eq_ind AsIt l 2 _ _ (λ _. refl) λ _.
      lt_ind AsIt l (n + 2) _ _ (λ _. refl) (λ _. refl)

  puts_as_it : (k : ℕ) → AsIt (result_step n p k r t)
  unfolding result_step
  puts_as_it k = lt_ind AsIt (k + 1) n _ _ (λ _. refl) (λ _. refl)

  retired_stays : (read_step n p r t).reader.retired ≡ r.retired
  unfolding read_step
  retired_stays = lt_ind AsIt (since n r) (n + 3) _ _ (λ _. tries_as_it (since n r)) (λ _. puts_as_it (since n r - (n + 3)))

-- The rules' fresh cells are the book's.
pub fresh_is : (n v : ℕ) → fresh_cells n v ≡ fresh_table n v
unfolding fresh_cells fresh_table
fresh_is n v = refl

-- Its cells: each is one processor's.
pub wired : Wired ticket_rules index Pair
wired = record {
  one_owner = λ n i j k m v w e. (index_inj n i j k m v w e).0;
  write_word = λ n w nl e a. write_word n w nl ((writer_in n w e).moved_low a);
  read_word = λ n p r p1 pn e a. read_word n p (omega arith) p1 pn r;
}

pub lawful : Lawful ticket_rules
lawful = record {
  writer_turn = λ n w t nl nh e a. in_writer n _ (turn_w n w t (writer_in n w e) a nh);
  reader_turn = λ n p r t nl nh e a. in_reader n _ (turn_r n p r t (reader_in n r e) a nl);
  writer_begins_lem = λ n v w nl e _. in_writer n _ (opened_w n v w nl (writer_in n w e));
  reader_begins_lem = λ n r nl e. in_reader n _ (opened_r n r (reader_in n r e));
  reader_retires = λ n r e. in_reader n _ (retired_r n r (reader_in n r e));
  retired_stays = retired_stays;
  fresh_writer_lem = λ n fresh. in_writer n _
      (record {
        stamp_passes = omega arith;
        moved_low = λ e. never (sym e);
        few = λ e. never (sym e);
        ticket_low = λ e. never (sym e);
      });
  fresh_reader_lem = λ n. in_reader n _ (record { stamp_passes = omega arith; in_first = λ e. never (sym e); in_second = λ e. never (sym e) });
  write_cell = λ n w t nl e a. word_cell (index n) (Pair n) _ (index_low n) 0 _ _ (wired.write_word n w nl e a) t;
  read_cell = λ n p r t p1 pn e a. word_cell (index n) (Pair n) _ (index_low n) p _ _ (wired.read_word n p r p1 pn e a) t;
  fresh_length = λ n v fresh nl. rw (fresh_is n v) (fresh_length n v);
}
