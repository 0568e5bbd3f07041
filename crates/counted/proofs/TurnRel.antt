-- A processor's record stands for what the book has of its operation; each sub-step keeps it so.
use Prim.Native.Nat.{ℕ, ◌+◌, ◌-◌, ◌*◌, ◌≤◌, ◌<◌}
use mathlib.Core.Path.{◌≡◌, refl, sym, subst, ap, ◌∙◌}
use mathlib.Core.List.{List, [], ◌++◌}
use mathlib.Core.Bool.{true, false, not}
use native.Mathlib.Omega.{arith}
use native.Mathlib.Decide.{dec_lt}
use lib.ListN.{length, length-set, length-append}
use lib.Dec.{ltb, eqb}
use borrow.Author.Tests.{ltb-true, lt-ltb, le-ltb, eq-eqb, ne_eqb}
use Rattle.words.specs.Choice.{pick}
use Rattle.words.specs.Index.{other}
use Rattle.words.proofs.Laws.Choice.{lt_ind, pick_yes, pick_no, never}
use Rattle.words.proofs.Laws.Index.{other_valid}
use Rattle.common.specs.declared.Writer.{Writer}
use Rattle.common.specs.declared.Reader.{Reader}
use Rattle.common.specs.State.{reader_begins, retires, value_in}
use Rattle.common.specs.Rules.{ReadStep}
use Rattle.common.specs.Book.{idle, open_with, is_open}
use Rattle.common.proofs.Lawful.{WTurnRel, RTurnRel, Simulates}
use Rattle.common.proofs.Places.{view_front, store_front}
use Rattle.counted.specs.declared.Cell.{Cell}
use Rattle.counted.specs.Cell.{unpack_cell}
use Rattle.counted.specs.Table.{Link, word_at, view, store}
use Rattle.counted.specs.State.{last_stamp}
use Rattle.counted.specs.Steps.{write_steps, read_steps, write_step, larger, read_on, read_step}
use Rattle.counted.specs.Rules.{counted_rules}
use Rattle.counted.specs.Reference.{Operation, Turn, result_of, looks_at, write_turn, read_turn, book}
use Rattle.counted.proofs.Table.{places}
use Rattle.counted.proofs.Largest.{Leads, leads_none, leads_more, leads_last}
use Rattle.counted.proofs.Turns as Turns
use Rattle.counted.proofs.Range.{writer_in, reader_in}
use Rattle.counted.proofs.Laws.{fresh_is}

-- The writer.
pub record WRel (w : Writer) (v m : ℕ) : Type 0 where
  pub active_is : w.active ≡ true
  pub moved_is : w.moved ≡ m
  pub value_is : w.value ≡ v
  pub count_below : w.count < last_stamp

abbrev pub WriterRel : Writer → Operation → Type 0
WriterRel w idle = w.active ≡ false
WriterRel w (open_with v m cells) = WRel w v m

pub record WIs (n : ℕ) (w : Writer) (s : ℕ) (q : Operation) : Type 0 where
  pub count_is : w.count ≡ s
  pub count_low : w.count ≤ last_stamp
  pub op : WriterRel w q

-- A reader: until it has looked at the writer, its result leads the cells that it has looked at; then it is what it takes.
pub record RRel (n : ℕ) (r : Reader) (m : ℕ) (cells : List Cell) : Type 0 where
  pub active_is : r.active ≡ true
  pub moved_is : r.moved ≡ m
  pub looking : m < n → (length cells ≡ m) × Leads (unpack_cell r.result) cells
  pub taken : n ≤ m → unpack_cell r.result ≡ result_of n cells

abbrev pub ReaderRel : ℕ → Reader → Operation → Type 0
ReaderRel n r idle = r.active ≡ false
ReaderRel n r (open_with v m cells) = RRel n r m cells

-- a reader's stamp is not looked at
abbrev pub RIs : ℕ → Reader → ℕ → Operation → Type 0
RIs n r s q = ReaderRel n r q

-- A sub-step of the open write.
turn_w : (n : ℕ) (T X : List ℕ) → length T ≡ n * n → (w : Writer) (s v m : ℕ) (cells : List Cell) → m < n → w.count ≡ s → WRel w v m
    → WTurnRel counted_rules book WIs RIs n X (write_step n w (T ++ X)) (write_turn n T s v m cells)
unfolding write_step write_turn
turn_w n T X size w s v m cells h es R =
    rw (R.moved_is, R.value_is, es)
    (lt_ind (λ (x : Turn). WTurnRel counted_rules book WIs RIs n X (record { writer = now; table = store n (T ++ X) 0 (m + 1) new }) x) (m + 1) (write_steps n) _ _
    (λ g. record {
      table_is = put;
      size_is = length-set T _ _ ∙ size;
      is = record {
        count_is = pick_yes (ltb (m + 1) (write_steps n)) s (s + 1) (lt-ltb (m + 1) (write_steps n) g);
        count_low = rw (lt-ltb (m + 1) (write_steps n) g) (omega (arith, R.count_below));
        op = record { active_is = lt-ltb (m + 1) (write_steps n) g; moved_is = refl; value_is = refl; count_below = rw (lt-ltb (m + 1) (write_steps n) g) (omega (arith, R.count_below)) };
      };
    })
    (λ g. record {
      table_is = put;
      size_is = length-set T _ _ ∙ size;
      is = record { count_is = rw (le-ltb (m + 1) (write_steps n) g); count_low = rw (le-ltb (m + 1) (write_steps n) g) (omega (arith, R.count_below)); op = le-ltb (m + 1) (write_steps n) g };
    }))
  where
    new : Cell
    new = record { value = v; stamp = s + 1 }

    now : Writer
    now = record {
      active = ltb (m + 1) (write_steps n);
      moved = m + 1;
      value = v;
      excluded = w.excluded;
      ticket = w.ticket;
      stamp = w.stamp;
      count = pick (ltb (m + 1) (write_steps n)) s (s + 1);
    }

    put : store n (T ++ X) 0 (m + 1) new ≡ store n T 0 (m + 1) new ++ X
    put = store_front (places n) T X size 0 (m + 1) (omega arith) new

-- A sub-step of an open read.
open_value : (w : ℕ) → value_in w ≡ (unpack_cell w).value
unfolding unpack_cell
open_value w = refl

larger_cell : (a b : ℕ) → unpack_cell (larger a b) ≡ pick (ltb (unpack_cell a).stamp (unpack_cell b).stamp) (unpack_cell b) (unpack_cell a)
unfolding larger
larger_cell a b =
    lt_ind (λ (x : ℕ). unpack_cell x ≡ pick (ltb (unpack_cell a).stamp (unpack_cell b).stamp) (unpack_cell b) (unpack_cell a)) (unpack_cell a).stamp (unpack_cell b).stamp _ _
    (λ h. rw (lt-ltb (unpack_cell a).stamp (unpack_cell b).stamp h)) (λ h. rw (le-ltb (unpack_cell a).stamp (unpack_cell b).stamp h))

module _ (n p : ℕ) (pos : 1 ≤ n) (p1 : 1 ≤ p) (pn : p ≤ n) (T X : List ℕ) (size : length T ≡ n * n) (r : Reader) (s : ℕ) (cells : List Cell) where
  abbrev m : ℕ
  m = r.moved

  abbrev P : ReadStep → Turn → Type 0
  P = RTurnRel counted_rules book WIs RIs n X

  -- A word more moved, by what the read has then.
  module _ (x : ℕ) (t' T' : List ℕ) (cells' : List Cell) (te : t' ≡ T' ++ X) (sz : length T' ≡ n * n)
      (looking : m + 1 < n → (length cells' ≡ m + 1) × Leads (unpack_cell x) cells') (taken : n ≤ m + 1 → unpack_cell x ≡ result_of n cells') where
    on : P (record { reader = read_on n r x; table = t' }) (Turns.after n p T s m cells cells' T' (Turns.next n p T s m cells cells'))
    on =
        lt_ind (λ (o : Operation). P (record { reader = read_on n r x; table = t' }) (Turns.after n p T s m cells cells' T' o)) (m + 1) (read_steps n) _ _
        (λ h. record {
          table_is = te;
          size_is = sz;
          is = record { active_is = lt-ltb (m + 1) (read_steps n) h; moved_is = refl; looking = looking; taken = taken };
          value_is = λ e. never e;
        })
        (λ h. record {
          table_is = te;
          size_is = sz;
          is = le-ltb (m + 1) (read_steps n) h;
          value_is = λ _. open_value x ∙ ap (λ (c : Cell). c.value) (taken (omega arith));
        })

  to_other : (k : ℕ) → k + 1 < n → Link n p (other p k)
  to_other k h = let o = other_valid n p k p1 pn h in record { from = pn; dest_low = o.0; dest = o.1; apart = o.2 }

  from_other : (k : ℕ) → k + 1 < n → Link n (other p k) p
  from_other k h = let o = other_valid n p k p1 pn h in record { from = o.1; dest_low = p1; dest = pn; apart = λ e. o.2 (sym e) }

  module _ (R : RRel n r m cells) (low : m < 2 * n - 1) where
    -- It looks at another reader.
    look : m + 1 < n → P (record { reader = read_on n r (larger r.result (word_at n (T ++ X) (other p m) p)); table = T ++ X }) (read_turn n p T s m cells)
    look h =
        subst (P _) (sym (Turns.looks n p T s m cells (omega arith)))
        (on _ (T ++ X) T (Turns.looked n p T s m cells) refl size
        (λ _. (length-append cells _ ∙ omega (arith, (R.looking (omega arith)).0), leads)) (λ g. absurd (omega arith)))
      where
        seen : unpack_cell (word_at n (T ++ X) (other p m) p) ≡ view n T (looks_at n p m) p
        seen = view_front (places n) T X size (other p m) p (from_other m h) ∙ ap (λ (q : ℕ). view n T q p) (sym (pick_yes (ltb (m + 1) n) (other p m) 0 (lt-ltb (m + 1) n h)))

        leads : Leads (unpack_cell (larger r.result (word_at n (T ++ X) (other p m) p))) (Turns.looked n p T s m cells)
        leads =
            let b = unpack_cell r.result in
            let c = view n T (looks_at n p m) p in
            let e : unpack_cell (larger r.result (word_at n (T ++ X) (other p m) p)) ≡ pick (ltb b.stamp c.stamp) c b =
            larger_cell r.result _ ∙ ap (λ (y : Cell). pick (ltb b.stamp y.stamp) y b) seen in
            subst (λ (y : Cell). Leads y (Turns.looked n p T s m cells)) (sym e) (leads_more b c cells (R.looking (omega arith)).1)

    -- It looks at the writer.
    look_last : m + 1 ≡ n → P (record { reader = read_on n r (larger (word_at n (T ++ X) 0 p) r.result); table = T ++ X }) (read_turn n p T s m cells)
    look_last h =
        subst (P _) (sym (Turns.looks n p T s m cells (omega arith)))
        (on _ (T ++ X) T (Turns.looked n p T s m cells) refl size (λ g. absurd (omega arith)) (λ _. takes))
      where
        seen : unpack_cell (word_at n (T ++ X) 0 p) ≡ view n T (looks_at n p m) p
        seen =
            view_front (places n) T X size 0 p (omega arith)
            ∙ ap (λ (q : ℕ). view n T q p) (sym (pick_no (ltb (m + 1) n) (other p m) 0 (le-ltb (m + 1) n (omega arith))))

        takes : unpack_cell (larger (word_at n (T ++ X) 0 p) r.result) ≡ result_of n (Turns.looked n p T s m cells)
        takes =
            let b = unpack_cell r.result in
            larger_cell _ r.result ∙ ap (λ (y : Cell). pick (ltb y.stamp b.stamp) b y) seen
            ∙ sym (leads_last n b (view n T (looks_at n p m) p) cells (omega (arith, (R.looking (omega arith)).0)) (R.looking (omega arith)).1)

    -- It stores its result.
    put : n ≤ m → P (record { reader = read_on n r r.result; table = store n (T ++ X) p (other p (m - n)) (unpack_cell r.result) }) (read_turn n p T s m cells)
    put h =
        subst (P _) (sym (Turns.stores n p T s m cells h))
        (on r.result _ _ cells
        (store_front (places n) T X size p (other p (m - n)) (to_other (m - n) (omega arith)) _ ∙ ap (λ (c : Cell). store n T p (other p (m - n)) c ++ X) (R.taken h))
        (length-set T _ _ ∙ size) (λ g. absurd (omega arith)) (λ _. R.taken h))

    turn_r : P (read_step n p r (T ++ X)) (read_turn n p T s m cells)
    unfolding read_step
    turn_r =
        lt_ind (λ (q : ReadStep). P q (read_turn n p T s m cells)) (m + 1) n _ _ look
        (λ h. lt_ind (λ (q : ReadStep). P q (read_turn n p T s m cells)) m n _ _ (λ g. look_last (omega arith)) put)

-- The register against its book.
open_w : (w : Writer) (q : Operation) → WriterRel w q → w.active ≡ is_open q
open_w w idle k = k
open_w w (open_with v m cells) k = k.active_is

open_r : (n : ℕ) (r : Reader) (q : Operation) → ReaderRel n r q → r.active ≡ is_open q
open_r n r idle k = k
open_r n r (open_with v m cells) k = k.active_is

spent_is : (c s : ℕ) → c ≡ s → c ≤ last_stamp → eqb s last_stamp ≡ not (ltb c last_stamp)
spent_is c s e h = elim (dec_lt c last_stamp) [
  | yes g ↦ ne_eqb s last_stamp (omega arith) ∙ ap not (sym (lt-ltb c last_stamp g))
  | no g ↦ eq-eqb s last_stamp (omega arith) ∙ ap not (sym (le-ltb c last_stamp (omega arith)))
]

-- A read that begins has looked at nothing.
begun_r : (n : ℕ) (r : Reader) → 1 ≤ n → RRel n (reader_begins r) 0 []
unfolding unpack_cell
begun_r n r pos = record { active_is = refl; moved_is = refl; looking = λ _. (refl, leads_none _ refl); taken = λ h. absurd (omega arith) }

-- A reader that is retired stands for what it stood for.
retired_r : (n : ℕ) (r : Reader) (q : Operation) → ReaderRel n r q → ReaderRel n (retires r) q
retired_r n r idle k = k
retired_r n r (open_with v m cells) k = record { active_is = k.active_is; moved_is = k.moved_is; looking = k.looking; taken = k.taken }

pub write_value : (n : ℕ) (t : List ℕ) (s v m : ℕ) (cells : List Cell) → (write_turn n t s v m cells).value ≡ 0
unfolding write_turn
write_value n t s v m cells = lt_ind (λ (x : Turn). x.value ≡ 0) (m + 1) (write_steps n) _ _ (λ _. refl) (λ _. refl)

pub simulates : Simulates counted_rules book WIs RIs
simulates = record {
  open_w = λ n w s q k. open_w w q k.op;
  open_r = λ n r s q k. open_r n r q k;
  moved_w = λ n w s v m cells k. k.op.moved_is;
  moved_r = λ n r s v m cells k. k.moved_is;
  spent_is = λ n w s q k. spent_is w.count s k.count_is k.count_low;
  begin_w = λ n v w s pos k may. record {
    count_is = k.count_is;
    count_low = k.count_low;
    op = record { active_is = refl; moved_is = refl; value_is = refl; count_below = ltb-true _ _ may };
  };
  begin_r = λ n r s pos k. begun_r n r pos;
  retire_r = λ n r s q k. retired_r n r q k;
  turn_w = λ n pos few T X size w s v m cells ok k.
      turn_w n T X size w s v m cells (omega (arith, (writer_in n w ok).moved_low k.op.active_is, k.op.moved_is)) k.count_is k.op;
  turn_r = λ n p few p1 pn T X size r s v m cells ok k.
      subst (λ (j : ℕ). RTurnRel counted_rules book WIs RIs n X (read_step n p r (T ++ X)) (read_turn n p T s j cells)) k.moved_is
      (turn_r n p (omega arith) p1 pn T X size r s cells (subst (λ (j : ℕ). RRel n r j cells) (sym k.moved_is) k) (reader_in n r ok k.active_is));
  write_value = write_value;
  fresh_w = λ n fresh low. record { count_is = refl; count_low = omega arith; op = refl };
  fresh_r = λ n fresh p pos. refl;
  fresh_table_lem = λ n v fresh pos. fresh_is n v fresh;
}
