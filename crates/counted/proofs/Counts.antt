-- The call that follows a list: a sub-step's number, when the operation ends, and who is told that the stamps are spent.
use Rattle.std.specs.Prelude.{Err}
use Prim.Native.Nat.{ℕ, ◌+◌, ◌-◌, ◌*◌, ◌≤◌}
use mathlib.Core.Path.{◌≡◌, refl, sym, subst, ap, ◌∙◌}
use mathlib.Core.List.{List}
use mathlib.Core.Bool.{Bool, true, false}
use native.Mathlib.Omega.{arith}
use lib.ListN.{length}
use lib.Dec.{eqb}
use borrow.Author.Tests.{lt-ltb, le-ltb}
use Rattle.words.proofs.Laws.Choice.{pick_ind, lt_ind, le_ind, eq_ind, never}
use Rattle.words.proofs.Laws.Update.{upd_same}
use Rattle.common.specs.declared.calls.Call.{Call}
use Rattle.common.specs.declared.calls.Call.TheVariants.{Write as write, Read as read, Step as step, Retire as retire}
use Rattle.common.specs.Moves.{Moves}
use Rattle.common.specs.Answers.{Answer, number_of}
use Rattle.common.specs.declared.Refusal.TheVariants.{Spent}
use Rattle.common.specs.declared.State.{State}
use Rattle.common.specs.State.{reader_at}
use Rattle.common.specs.Register.{call_of}
use Rattle.common.specs.Book.{idle, open_with, is_open, begins, begins_write, begun, moves_write, moves_read, of_processor, told}
use Rattle.common.proofs.Asked.{of_processor_lem}
use Rattle.common.proofs.Keep.{Good}
use Rattle.common.proofs.Range.{reader_ok_lem}
use Rattle.common.proofs.Refine.{Rel, call_rel}
use Rattle.common.proofs.Counts.{write_told, read_told, write_number, read_number}
use Rattle.counted.specs.declared.Cell.{Cell}
use Rattle.counted.specs.State.{last_stamp}
use Rattle.counted.specs.Rules.{counted_rules}
use Rattle.counted.specs.Steps.{write_steps, read_steps}
use Rattle.counted.specs.Reference.{Operation, Model, Turn, write_turn, read_turn, Told, book}
use Rattle.common.specs.Calls.{is_write}
use Rattle.counted.proofs.Range.{writer_in, reader_in}
use Rattle.counted.proofs.TurnRel.{WRel, WriterRel, WIs, RRel, ReaderRel, RIs, simulates}
use Rattle.counted.proofs.Laws.{lawful}

-- s, t, l: the state with its buffers; b: the book that it is related to.
module _ (X L : List ℕ) (s : State) (t l : List ℕ) (b : Model) (g : Good counted_rules s (length t) (length l)) (A : Rel counted_rules book WIs RIs X L s t l b)
    (full : length L ≡ s.head.rows) where
  abbrev n : ℕ
  n = s.head.n

  abbrev still : ℕ → Bool
  still p = is_open ((told book n s.head.rows b (step p)).model.op p)

  module _ (v m : ℕ) (cells : List Cell) (e : b.op 0 ≡ open_with v m cells) where
    K : WRel s.writer v m
    K = subst (WriterRel s.writer) e A.writer_is.op

    abbrev On : Bool → Turn → Type 0
    On c x = is_open x.op ≡ c

    pub next_stamp : b.stamp 0 + 1 ≤ last_stamp
    next_stamp = omega (arith, K.count_below, A.writer_is.count_is)

    pub write_moves : Moves (call_of counted_rules s t l (step 0)).answer (still 0) m n
    unfolding write_turn
    write_moves = record {
      number_is = write_number counted_rules book WIs RIs lawful simulates X L s t l b g A full v m cells e;
      not_past = omega (arith, (writer_in n s.writer g.ok.writer_passes).moved_low K.active_is, K.moved_is);
      goes_on = λ h. rw (write_told book n s.head.rows b _ (sym (A.retired_are 0 (omega arith))) e, upd_same b.op 0) (lt_ind (On true) (m + 1) (write_steps n) _ _ (λ _. refl) (λ q. absurd (omega arith)));
      ends = λ h. rw (write_told book n s.head.rows b _ (sym (A.retired_are 0 (omega arith))) e, upd_same b.op 0) (lt_ind (On false) (m + 1) (write_steps n) _ _ (λ q. absurd (omega arith)) (λ _. refl));
    }

  module _ (p : ℕ) (p1 : 1 ≤ p) (pn : p ≤ s.head.n) (free : b.retired p ≡ false) (v m : ℕ) (cells : List Cell) (e : b.op p ≡ open_with v m cells) where
    KR : RRel n (reader_at s (p - 1)) m cells
    KR = subst (ReaderRel n (reader_at s (p - 1))) e (A.readers_are p p1 pn)

    pub read_moves : Moves (call_of counted_rules s t l (step p)).answer (still p) m (2 * n - 1)
    unfolding read_turn
    read_moves = record {
      number_is = read_number counted_rules book WIs RIs lawful simulates X L s t l b g A full v m cells p p1 pn free e;
      not_past = omega (arith, reader_in n (reader_at s (p - 1)) (reader_ok_lem s p p1 (A.retired_are p pn ∙ free) pn counted_rules _ _ g.ok) KR.active_is, KR.moved_is);
      goes_on = λ h. rw (read_told book n s.head.rows b p _ p1 pn free e, upd_same b.op p, lt-ltb (m + 1) (read_steps n) (omega arith));
      ends = λ h. rw (read_told book n s.head.rows b p _ p1 pn free e, upd_same b.op p, le-ltb (m + 1) (read_steps n) (omega arith));
    }

  -- Only a write's begin is refused 14, and only if the last stamp has been used.
  abbrev Told14 : Call → Told → Type 0
  Told14 c x = x.answer ≡ Err Spent → (is_write c ≡ true) × (b.stamp 0 ≡ last_stamp)

  -- an answer with another number
  not_14 : {A : Type 0} (a : Answer) → eqb (number_of a) 14 ≡ false → a ≡ Err Spent → A
  not_14 a h e = never (sym (ap (λ (x : Answer). eqb (number_of x) 14) e) ∙ h)

  begins_14 : (c : Call) (p : ℕ) (x : Told) → Told14 c x → Told14 c (begins n s.head.rows b p x)
  unfolding begins
  begins_14 c p x f = pick_ind (Told14 c) (is_open (b.op p)) _ _ (λ _. not_14 _ refl) (λ _. le_ind (Told14 c) _ s.head.rows _ _ (λ _. f) (λ _. not_14 _ refl))

  of_14 : (c : Call) (least p : ℕ) (x : Told) → Told14 c x → Told14 c (of_processor n b least p x)
  of_14 c least p x f = of_processor_lem (Told14 c) n b (not_14 _ refl) (not_14 _ refl) least p x (λ _ _ _. f)

  told_14 : (c : Call) → Told14 c (told book n s.head.rows b c)
  unfolding told
  told_14 (write v) = begins_14 (write v) 0 (begins_write book b v) (eq_ind (Told14 (write v)) (b.stamp 0) last_stamp _ _ (λ q _. (refl, q)) (λ _. not_14 _ refl))
  told_14 (read p) = of_14 (read p) 1 p _ (begins_14 (read p) p (begun b p 3 0) (not_14 _ refl))
  told_14 (step p) = of_14 (step p) 0 p _ (pick_ind (Told14 (step p)) (eqb p 0) _ _ (λ _. at_w (b.op 0)) (λ _. at_r (b.op p)))
    where
      at_w : (q : Operation) → Told14 (step p) (moves_write book n b q)
      at_w idle = not_14 _ refl
      at_w (open_with v m cells) = not_14 _ refl

      at_r : (q : Operation) → Told14 (step p) (moves_read book n b p q)
      at_r idle = not_14 _ refl
      at_r (open_with v m cells) = not_14 _ refl
  told_14 (retire p) = of_14 (retire p) 1 p _ (not_14 _ refl)

  pub spent_only : (c : Call) → (call_of counted_rules s t l c).answer ≡ Err Spent → (is_write c ≡ true) × (b.stamp 0 ≡ last_stamp)
  spent_only c e = told_14 c (sym (call_rel counted_rules book WIs RIs lawful simulates X L s t l b g A full c).answer_is ∙ e)
