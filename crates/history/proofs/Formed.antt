-- Rows that a register adds are well formed, whatever the values: it adds a begin of an idle processor, or an end of an open one.
use Prim.Native.Nat.{ℕ, ◌^◌, ◌≤◌, ◌<◌}
use mathlib.Core.Path.{◌≡◌, refl, sym, ap, ◌∙◌}
use mathlib.Core.Logic.{◌≢◌}
use mathlib.Core.Bool.{Bool, true, false, not, ◌||◌}
use mathlib.Core.List.{List, [], ◌∷◌}
use native.Mathlib.Omega.{arith}
use lib.ListN.{length}
use lib.Seq.{get_or-append_seam}
use lib.Dec.{T, ltb, leb, eqb, lt→ltb, le→leb}
use borrow.Author.Tests.{eq-eqb, ne_eqb}
use Rattle.words.specs.Choice.{pick}
use Rattle.words.specs.Row.{row_of}
use Rattle.words.specs.Update.{upd}
use Rattle.words.proofs.Laws.Choice.{pick_ind, never, and_T, eq→T}
use Rattle.words.proofs.Laws.Update.{upd_elim}
use Rattle.history.specs.Rows.{value_of, begins, kind_at, processor_at, begins_at}
use Rattle.history.specs.WellFormed.{is_reader, head_ok, fields, open_at, alternates, row_ok, all, well_formed}
use Rattle.history.proofs.Bands.{kind_plain}
use Rattle.history.proofs.Operations.{open_suc}
use Rattle.history.proofs.WellFormed.{nonempty}
use Rattle.history.proofs.Grow.{grown, grown_length, grown_proc, grown_open, grown_well_formed}
use Rattle.history.proofs.Packed.{row_kind, row_processor, row_zero}

pub reader_T : (p n : ℕ) → 1 ≤ p → p ≤ n → T (is_reader p n)
reader_T p n a b = and_T (leb 1 p) _ (le→leb 1 p a) (le→leb p n b)

-- Op: what a processor does; isOpen: whether that is an open operation.
module _ (Op : Type 0) (is_open : Op → Bool) where
  -- A processor's last row is a begin exactly if it is open.
  pub record Formed (n : ℕ) (rows : List ℕ) (op : ℕ → Op) : Type 0 where
    pub ok : T (well_formed rows)
    pub head : processor_at rows 0 ≡ n
    pub idle_is : (p : ℕ) → is_open (op p) ≡ false → open_at rows p (length rows) ≡ 0
    pub open_is : (p : ℕ) → is_open (op p) ≡ true → 0 < open_at rows p (length rows)

  -- One row more, of kind k, processor p and value v, that leaves p with the operation q.
  module _ (n : ℕ) (rows : List ℕ) (op : ℕ → Op) (F : Formed n rows op) (k p v : ℕ) (q : Op) (k-low : k < 6) (p_low : p < 2 ^ 8)
      (fit : T (fields k p 0 (value_of (row_of k p v)) n)) (begin : (eqb k 1 || eqb k 3) ≡ is_open q) (turns : is_open (op p) ≡ not (is_open q)) where
    abbrev x : ℕ
    x = row_of k p v

    some : 0 < length rows
    some = nonempty rows F.ok

    begins_is : begins x ≡ is_open q
    unfolding begins
    begins_is = rw (kind_plain x k (row_kind k p v (omega arith)) k-low) begin

    proc_is : processor_at (grown rows x) (length rows) ≡ p
    unfolding processor_at
    proc_is = rw (get_or-append_seam rows x [] 0) (row_processor k p v p_low)

    begin_is : begins_at (grown rows x) (length rows) ≡ is_open q
    unfolding kind_at begins
    begin_is = rw (get_or-append_seam rows x [] 0) begins_is

    alternate : (o : ℕ) (t : Bool) → is_open q ≡ t → (is_open (op p) ≡ false → o ≡ 0) → (is_open (op p) ≡ true → 0 < o) → T (pick t (eqb o 0) (ltb 0 o))
    alternate o true e f g = eq→T o 0 (f (turns ∙ ap not e))
    alternate o false e f g = lt→ltb 0 o (g (turns ∙ ap not e))

    row_ok_lem : T (row_ok (grown rows x) (length rows))
    unfolding row_ok alternates
    row_ok_lem =
        let h : processor_at (grown rows x) 0 ≡ n = grown_proc rows x 0 some ∙ F.head in
        rw (get_or-append_seam rows x [] 0, proc_is, h, begins_is, row_kind k p v (omega arith), row_processor k p v p_low, row_zero k p v, grown_open rows x p (length rows) (omega arith))
        (and_T (fields k p 0 (value_of x) n) _ fit (alternate (open_at rows p (length rows)) (is_open q) refl (F.idle_is p) (F.open_is p)))

    new_open : (j : ℕ) → open_at (grown rows x) j (length (grown rows x)) ≡ pick (eqb p j) (pick (is_open q) (length rows) 0) (open_at rows j (length rows))
    new_open j =
        ap (open_at (grown rows x) j) (grown_length rows x) ∙ open_suc (grown rows x) j (length rows) some
        ∙ rw (proc_is, begin_is, grown_open rows x j (length rows) (omega arith))

    mine : open_at (grown rows x) p (length (grown rows x)) ≡ pick (is_open q) (length rows) 0
    mine = new_open p ∙ rw (eq-eqb p p refl)

    others : (j : ℕ) → j ≢ p → open_at (grown rows x) j (length (grown rows x)) ≡ open_at rows j (length rows)
    others j ne = new_open j ∙ rw (ne_eqb p j (λ e. ne (sym e)))

    pub add_row : Formed n (grown rows x) (upd op p q)
    add_row = record {
      ok = grown_well_formed rows x F.ok row_ok_lem;
      head = grown_proc rows x 0 some ∙ F.head;
      idle_is = upd_elim (λ (j : ℕ) (y : Op). is_open y ≡ false → open_at (grown rows x) j (length (grown rows x)) ≡ 0) op p q
          (λ e. mine ∙ rw e) (λ j ne e. others j ne ∙ F.idle_is j e);
      open_is = upd_elim (λ (j : ℕ) (y : Op). is_open y ≡ true → 0 < open_at (grown rows x) j (length (grown rows x))) op p q
          (λ e. rw (mine, e) some) (λ j ne e. rw (others j ne) (F.open_is j e));
    }

  -- No row more: the processor stays open.
  stay : (n : ℕ) (rows : List ℕ) (op : ℕ → Op) (F : Formed n rows op) (p : ℕ) (q : Op) → is_open (op p) ≡ true → is_open q ≡ true
      → Formed n rows (upd op p q)
  stay n rows op F p q o e = record {
    ok = F.ok;
    head = F.head;
    idle_is = upd_elim (λ (j : ℕ) (y : Op). is_open y ≡ false → open_at rows j (length rows) ≡ 0) op p q (λ f. never (sym e ∙ f)) (λ j _. F.idle_is j);
    open_is = upd_elim (λ (j : ℕ) (y : Op). is_open y ≡ true → 0 < open_at rows j (length rows)) op p q (λ _. F.open_is p o) (λ j _. F.open_is j);
  }

  -- An open processor's turn: its operation goes on, or ends with a row.
  pub turn_formed : (n : ℕ) (rows : List ℕ) (op : ℕ → Op) → Formed n rows op → (p kind v : ℕ) (q : Op) → kind < 6 → p < 2 ^ 8 → is_open (op p) ≡ true
      → (eqb kind 1 || eqb kind 3) ≡ false → T (fields kind p 0 (value_of (row_of kind p v)) n)
      → Formed n (pick (is_open q) rows (grown rows (row_of kind p v))) (upd op p q)
  turn_formed n rows op F p kind v q kl pl o g fit =
      pick_ind (λ (r : List ℕ). Formed n r (upd op p q)) (is_open q) _ _ (λ e. stay n rows op F p q o e)
      (λ e. add_row n rows op F kind p v q kl pl fit (g ∙ sym e) (o ∙ ap not (sym e)))

  -- The start row alone.
  pub start_formed : (n v : ℕ) → 1 ≤ n → n ≤ 16 → (op : ℕ → Op) → ((p : ℕ) → is_open (op p) ≡ false) → Formed n (row_of 5 n v ∷ []) op
  unfolding open_at well_formed head_ok all processor_at
  start_formed n v pos few op idle = record {
    ok = rw (row_kind 5 n v (omega arith), row_zero 5 n v, row_processor 5 n v (omega arith)) (and_T (is_reader n 16) true (reader_T n 16 pos few) tt);
    head = row_processor 5 n v (omega arith);
    idle_is = λ _ _. refl;
    open_is = λ p e. never (sym e ∙ idle p);
  }
