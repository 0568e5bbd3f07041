-- The counted register: a write has n words, a read 2n−1, and there is no second attempt.
use Prim.Native.Nat.{ℕ, ◌+◌, ◌-◌, ◌*◌, ◌≤◌, ◌<◌}
use mathlib.Core.Path.{◌≡◌, refl, ap}
use mathlib.Core.Bool.{false, ◌&&◌}
use mathlib.Core.List.{List, []}
use native.Mathlib.Omega.{arith}
use borrow.Author.Tests.{ne_eqb}
use Rattle.words.specs.Counting.{one}
use Rattle.words.proofs.Laws.Choice.{lt_ind}
use Rattle.words.proofs.Laws.Update.{upd_same, upd_other}
use Rattle.common.specs.Calls.{is_write, is_retirement}
use Rattle.common.specs.declared.calls.Call.{Call}
use Rattle.common.specs.Book.{idle, open_with, is_open, told, fresh_model}
use Rattle.counted.specs.declared.Cell.{Cell}
use Rattle.counted.specs.State.{last_stamp}
use Rattle.counted.specs.Reference.{Operation, Model, Turn, Told, write_turn, read_turn, book}
use Rattle.figures.specs.Counts.{write_begun}
use Rattle.figures.proofs.Cases.{cases}
use Rattle.figures.proofs.CostModel.{left, CostModel}
use Rattle.figures.proofs.Alone.{Lasts}

-- an operation of w words that has not moved them all
abbrev Within : ℕ → Operation → Type 0
Within w idle = Unit {0}
Within w (open_with v m cells) = m < w

-- what comes of one with m words moved: one more, or it has ended
abbrev Next : ℕ → ℕ → Operation → Type 0
Next w m o = Within w o × (left w o + 1 ≡ w - m)

module _ (n : ℕ) (pos : 1 ≤ n) where
  write_next : (t : List ℕ) (s v m : ℕ) (cells : List Cell) → m < n → Next n m (write_turn n t s v m cells).op
  unfolding write_turn
  write_next t s v m cells h =
      lt_ind (λ (x : Turn). Next n m x.op) (m + 1) n _ _ (λ g. (g, omega arith)) (λ g. (tt, omega arith))

  read_next : (p : ℕ) (t : List ℕ) (s m : ℕ) (cells : List Cell) → m < 2 * n - 1 → Next (2 * n - 1) m (read_turn n p t s m cells).op
  unfolding read_turn
  read_next p t s m cells h = lt_ind (Next (2 * n - 1) m) (m + 1) (2 * n - 1) _ _ (λ g. (g, omega arith)) (λ g. (tt, omega arith))

  no_second : 2 * n - 1 + 0 * 0 ≡ 2 * n - 1
  no_second = omega arith

  pub cost_model : CostModel book n n (2 * n - 1) 0
  cost_model = record {
    WOk = Within n;
    ROk = Within (2 * n - 1);
    second = λ _. 0;
    undecided = λ _. 0;
    stale = λ _ _ _. 0;
    stores = λ _. 0;
    w_idle = tt;
    r_idle = tt;
    undecided_idle = refl;
    stale_idle = λ _ _. refl;
    stores_idle = refl;
    w_begun = λ _. pos;
    r_begun = omega arith;
    second_begun = refl;
    undecided_begun = omega arith;
    stale_begun = λ _ _. refl;
    stores_begun = λ _. omega arith;
    write_ok = λ t s v m cells h. (write_next t s v m cells h).0;
    write_left = λ t s v m cells h. (write_next t s v m cells h).1;
    write_makes_stale = λ _ _ _ _ _ _ _. omega arith;
    read_ok = λ p _ _ t s v m cells h. (read_next p t s m cells h).0;
    late = λ _ _ _ _. 0;
    left_read = λ p _ _ t s v m cells h.
        omega (arith, (read_next p t s m cells h).1, ap (λ (w : ℕ). left w (read_turn n p t s m cells).op) no_second);
    read_stale = λ _ _ _ _ _ _ _ _ _. refl;
    read_undecided = λ _ _ _ _ _ _ _ _ _. omega arith;
    read_others = λ _ _ _ _ _ _ _ _ _ _ _ _. refl;
  }

-- The stamp of the last write begun, and those to come, are at most the last.
abbrev Can : ℕ → Model → Type 0
Can g b = b.stamp 0 + one (is_open (b.op 0)) + g ≤ last_stamp

module _ (n len : ℕ) where
  module _ (b : Model) where
    abbrev Kept : Call → Told → Type 0
    Kept c x = (g : ℕ) → Can (one (write_begun c x.answer) + g) b → Can g x.model

    refuses : (c : Call) (g : ℕ) → Can (one (is_write c && false) + g) b → Can g b
    refuses c g h = omega arith

    -- the end of a write adds 1 to the stamp
    write_ends : (t : List ℕ) (s v m : ℕ) (cells : List Cell) → let x = write_turn n t s v m cells in x.stamp + one (is_open x.op) ≡ s + 1
    unfolding write_turn
    write_ends t s v m cells = lt_ind (λ (x : Turn). x.stamp + one (is_open x.op) ≡ s + 1) (m + 1) n _ _ (λ _. refl) (λ _. omega arith)

    can_call : (c : Call) → is_retirement c ≡ false → Kept c (told book n len b c)
    can_call = cases book n len b Kept (record {
      refused = λ c _ _. refuses c;
      full = λ c _. refuses c;
      write_begun_lem = λ v shut _ g h. omega (arith, ap one shut, ap (λ (o : Operation). one (is_open o)) (upd_same b.op 0 (open_with v 0 [])));
      read_begun_lem = λ p p1 _ _ _ _ g h. omega (arith, ap (λ (o : Operation). one (is_open o)) (upd_other b.op p (open_with 0 0 []) 0 (omega arith)));
      write_moved = λ v m cells e g h.
          let x = write_turn n b.table (b.stamp 0) v m cells in
          omega (arith, write_ends b.table (b.stamp 0) v m cells, ap (λ (o : Operation). one (is_open o)) e, upd_same b.stamp 0 x.stamp, ap (λ (o : Operation). one (is_open o)) (upd_same b.op 0 x.op));
      read_moved = λ p p1 _ _ v m cells e g h.
          let x = read_turn n p b.table (b.stamp p) m cells in
          omega (arith, upd_other b.stamp p x.stamp 0 (omega arith), ap (λ (o : Operation). one (is_open o)) (upd_other b.op p x.op 0 (omega arith)));
    })

  pub lasts : Lasts book n len
  lasts = record {
    Can = Can;
    can_begin = λ g b h shut. ne_eqb (b.stamp 0) last_stamp (λ e. omega (arith, ap one shut));
    can_call = λ g b c e h. can_call b c e g h;
  }

  pub fresh_can : (v fresh g : ℕ) → fresh + g ≤ last_stamp → lasts.Can g (fresh_model book n v fresh)
  unfolding lasts
  fresh_can v fresh g h = omega arith
