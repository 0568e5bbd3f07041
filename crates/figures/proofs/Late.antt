-- The first register: reads that have a second attempt. In a write, behind its n reads of cells, a reader begins and looks, the writer stores to it,
-- and the read runs to its end; then the next reader does.
use Rattle.std.specs.Prelude.{Ok}
use Prim.Native.Nat.{ℕ, zero, suc, ◌+◌, ◌*◌, ◌≤◌, ◌<◌}
use mathlib.Core.Path.{◌≡◌, refl, sym, ap, subst, subst₂, ◌∙◌}
use mathlib.Core.Logic.{◌≢◌}
use mathlib.Core.Bool.{false}
use mathlib.Core.List.{List, [], ◌∷◌}
use native.Mathlib.Omega.{arith}
use native.Mathlib.Decide.{ℕ_discrete}
use native.Mathlib.Nat.{mul-suc}
use borrow.Author.Tests.{lt-leb, ne_eqb}
use Rattle.words.specs.declared.cell.Cell.{Cell}
use Rattle.words.specs.declared.stamp.Stamp.{Stamp}
use Rattle.words.specs.Update.{upd}
use Rattle.words.proofs.Laws.Update.{upd_same, upd_other}
use Rattle.common.specs.declared.calls.Call.TheVariants.{Read as read, Step as step}
use Rattle.common.specs.declared.Done.TheVariants.{Moved}
use Rattle.common.specs.Book.{idle, open_with, is_open, begun, entered}
use Rattle.common.proofs.Counts.{write_told, read_told}
use Rattle.protocol.specs.Table.{view}
use Rattle.protocol.specs.Reference.{Operation, Model, Turn, failed, ticket_after, write_turn, attempt_turn, read_turn, book}
use Rattle.protocol.proofs.Atomic.Turns.{attempt_is}
use Rattle.figures.proofs.Lists.{Leads, nothing, call, join, counted_as, list_ind}
use Rattle.figures.proofs.Cases.{read_begins}
use Rattle.figures.proofs.CostModel.{left}
use Rattle.figures.proofs.Alone.{At, at_led, Goes, to_read, run_reader, Reaches}
use Rattle.figures.proofs.Looks.{shows}
use Rattle.figures.proofs.TicketCost.{write_left, cost_model, looked_second, looked_stale, lasts, can_always}
use Rattle.figures.proofs.Held.{cur_at, Stored, HeldIn, Held, new_differs, write_shows, call_held}

-- the first look
first_look : (n p : ℕ) (t : List ℕ) (s : Stamp) → read_turn n p t s 0 [] ≡ record { op = open_with 0 1 (view n t 0 p ∷ []); stamp = s; table = t; value = 0 }
unfolding attempt_turn
first_look n p t s =
    let e : failed n 0 [] ≡ false = rw (lt-leb (n + 3) 0 (omega arith)) in
    attempt_is n p t s 0 [] (λ _. Unit {0}) false e (omega arith)

module _ (n len : ℕ) (pos : 1 ≤ n) (few : n ≤ 16) where
  abbrev pub Lead : Model → Model → ℕ → ℕ → ℕ → Type 0
  Lead = Leads book n len

  abbrev pub Begun : ℕ → Model → Type 0
  Begun = At book n len (2 * n) (2 * n + 3) (n + 3) (cost_model n pos) (lasts n len) 0

  abbrev pub Reached : Model → ℕ → ℕ → ℕ → Type 0
  Reached = Reaches book n len (2 * n) (2 * n + 3) (n + 3) (cost_model n pos) (lasts n len)

  abbrev pub Run : ℕ → Model → ℕ → ℕ → ℕ → Type 0
  Run = Goes book n len (2 * n) (2 * n + 3) (n + 3) (cost_model n pos) (lasts n len)

  pub led : {b b' : Model} {w r x : ℕ} (j j' : ℕ) → Lead b b' w r x → Begun j b → j + w + r ≡ j' → Begun j' b'
  led {b} {b'} {w} j j' l A e =
      at_led book n len (2 * n) (2 * n + 3) (n + 3) (cost_model n pos) (lasts n len) 0 j' l
      (record { ok = A.ok; free = A.free; can = can_always n len w b; size_is = A.size_is }) (omega arith) e

  pub held_led : {b b' : Model} {w r x : ℕ} → Lead b b' w r x → Held n pos few b → Held n pos few b'
  held_led {b} l H =
      subst (Held n pos few) l.last_is
      (list_ind book n len (λ _ _ _ _ _. Unit {0}) (Held n pos few) (λ _. tt) (λ b c e h. (call_held n pos few len b h c e, tt)) (λ _ _ _ _ _ _ _ _ _ _ _. tt)
      l.cs b l.none_retired H).0

  -- behind j begins, in a write that has k of its stores made, or that has ended if k is n; no reader's operation is open
  pub record Mid (j k : ℕ) (b : Model) : Type 0 where
    pub behind : Begun j b
    pub held : Held n pos few b
    pub to_store : left (2 * n) (b.op 0) + k ≡ n
    pub quiet : (p : ℕ) → 1 ≤ p → p ≤ n → is_open (b.op p) ≡ false

  pub record Gets (j k : ℕ) (b : Model) (r x : ℕ) : Type 0 where
    pub to : Model
    pub lead : Lead b to 0 r x
    pub mid : Mid j k to

  -- A read of the reader to which the write stores next.
  module _ (j k v m : ℕ) (cells : List Cell) (b : Model) (M : Mid j k b) (is : b.op 0 ≡ open_with v m cells) (m_is : m ≡ n + k) (low : k < n) (room : 2 * j + 3 ≤ len) where
    -- the writer's cell to it
    abbrev look : Cell
    look = view n b.table 0 (suc k)

    -- the read is begun; it looks; the writer stores
    abbrev b1 : Model
    b1 = (begun b (suc k) 3 0).model

    abbrev b2 : Model
    b2 = record { table = b.table; rows = b1.rows; stamp = upd b.stamp (suc k) (b.stamp (suc k)); op = upd b1.op (suc k) (open_with 0 1 (look ∷ [])); retired = b.retired }

    abbrev x : Turn
    x = write_turn n b.table (b2.stamp 0) v m cells

    abbrev b3 : Model
    b3 = entered b2 0 2 x

    to_b1 : Lead b b1 0 1 0
    to_b1 = call book n len b (read (suc k)) _ refl (read_begins book n len b (suc k) (omega arith) (omega arith) (M.behind.free (suc k)) (M.quiet (suc k) (omega arith) (omega arith)) (omega (arith, M.behind.size_is)))

    to_b2 : Lead b1 b2 0 0 1
    to_b2 =
        call book n len b1 (step (suc k)) _ refl
        (read_told book n len b1 (suc k) _ (omega arith) (omega arith) (M.behind.free (suc k)) (upd_same b.op (suc k) (open_with 0 0 []))
        ∙ ap (λ (z : Turn). record { answer = Ok (Moved (0 + 1)); model = entered b1 (suc k) 4 z }) (first_look n (suc k) b.table (b.stamp (suc k))))

    op_0 : b2.op 0 ≡ open_with v m cells
    op_0 = upd_other b1.op (suc k) _ 0 (omega arith) ∙ upd_other b.op (suc k) _ 0 (omega arith) ∙ is

    to_b3 : Lead b2 b3 0 0 1
    to_b3 = call book n len b2 (step 0) _ refl (write_told book n len b2 _ (M.behind.free 0) op_0)

    -- it shows the look no longer
    disturbed : shows (view n x.table 0 (suc k)) 1 (look ∷ []) ≡ false
    disturbed =
        let W : Stored n pos few b.table (b.stamp 0) m cells = subst (HeldIn n pos few b.table (b.stamp 0)) is M.held.cells in
        let s_is : b2.stamp 0 ≡ b.stamp 0 = upd_other b.stamp (suc k) (b.stamp (suc k)) 0 (omega arith) in
        let W2 : Stored n pos few b.table (b2.stamp 0) m cells = subst (λ (s : Stamp). Stored n pos few b.table s m cells) (sym s_is) W in
        let was : look.stamp.cur ≡ (b2.stamp 0).cur = W2.old (suc k) (omega arith) (omega arith) (omega arith) in
        let now : cur_at n pos few x.table (suc k) ≡ ticket_after n (b2.stamp 0) cells
        = write_shows n pos few b.table (b2.stamp 0) v m cells M.held.size W2 (suc k) (omega arith) (omega arith) (omega arith) (omega arith) in
        let differ : look.stamp.cur ≢ (view n x.table 0 (suc k)).stamp.cur
        = λ e. new_differs n pos few (b2.stamp 0) cells (omega (arith, W2.full (omega arith))) (sym now ∙ sym e ∙ was) in
        rw (ne_eqb look.stamp.cur (view n x.table 0 (suc k)).stamp.cur differ)

    op_p : b3.op (suc k) ≡ open_with 0 1 (look ∷ [])
    op_p = upd_other b2.op 0 x.op (suc k) (omega arith) ∙ upd_same b1.op (suc k) _

    -- so it has a second attempt, and this many words are to come
    words : to_read book n len (2 * n) (2 * n + 3) (n + 3) (cost_model n pos) (lasts n len) (suc k) (omega arith) (omega arith) b3 ≡ 3 * n + 5
    words =
        rw op_p
        (omega (
          arith,
          ap (λ (i : ℕ). (n + 3) * i) (looked_second n pos (suc k) x.table look disturbed),
          ap (λ (i : ℕ). (n + 3) * i) (looked_stale n pos (suc k) x.table look disturbed),
        ))

    rest : Run (suc k) b3 0 0 (3 * n + 5)
    rest =
        let A3 = led j (j + 1) (join book n len (join book n len to_b1 to_b2) to_b3) M.behind (omega arith) in
        subst (Run (suc k) b3 0 0) words
        (run_reader book n len (2 * n) (2 * n + 3) (n + 3) (cost_model n pos) (lasts n len) (suc k) (omega arith) (omega arith) b3 A3.ok A3.free)

    others : (q : ℕ) → 1 ≤ q → q ≢ suc k → b3.op q ≡ b.op q
    others q q1 ne = upd_other b2.op 0 x.op q (omega arith) ∙ upd_other b1.op (suc k) _ q ne ∙ upd_other b.op (suc k) _ q ne

    read_late : Gets (j + 1) (k + 1) b 1 (3 * n + 7)
    read_late =
        let z = rest in
        let l = join book n len (join book n len (join book n len to_b1 to_b2) to_b3) z.lead in
        record {
          to = z.to;
          lead = counted_as book n len 0 1 (3 * n + 7) l refl refl (omega arith);
          mid = record {
            behind = led j (j + 1) l M.behind (omega arith);
            held = held_led l M.held;
            to_store = omega (
              arith,
              ap (left (2 * n)) (z.others 0 (omega arith) ∙ upd_same b2.op 0 x.op),
              write_left n b.table (b2.stamp 0) v m cells (omega arith),
              ap (left (2 * n)) is,
              M.to_store,
            );
            quiet = λ q q1 qn. shut q q1 qn (ℕ_discrete q (suc k));
          };
        }
      where
        shut : (q : ℕ) → 1 ≤ q → q ≤ n → Dec (q ≡ suc k) → is_open (rest.to.op q) ≡ false
        shut q q1 qn (yes e) = subst (λ (i : ℕ). is_open (rest.to.op i) ≡ false) (sym e) rest.shut
        shut q q1 qn (no ne) = ap is_open (rest.others q ne ∙ others q q1 ne) ∙ M.quiet q q1 qn

  stage : (j k : ℕ) (b : Model) → Mid j k b → k < n → 2 * j + 3 ≤ len → Gets (j + 1) (k + 1) b 1 (3 * n + 7)
  stage j k b M low room = at (b.op 0) refl M.held.cells
    where
      at : (o : Operation) → b.op 0 ≡ o → HeldIn n pos few b.table (b.stamp 0) (b.op 0) → Gets (j + 1) (k + 1) b 1 (3 * n + 7)
      at idle e h = absurd (omega (arith, M.to_store, ap (left (2 * n)) e))
      at (open_with v m cells) e h =
          let W : Stored n pos few b.table (b.stamp 0) m cells = subst (HeldIn n pos few b.table (b.stamp 0)) e h in
          read_late j k v m cells b M e (omega (arith, M.to_store, ap (left (2 * n)) e, W.m_low)) low room

  pub stages : (d j k : ℕ) (b : Model) → Mid j k b → k + d ≤ n → 2 * (j + d) + 1 ≤ len → Gets (j + d) (k + d) b d ((3 * n + 7) * d)
  stages zero j k b M h room = record {
    to = b;
    lead = counted_as book n len 0 0 ((3 * n + 7) * 0) (nothing book n len b) refl refl (omega arith);
    mid = subst₂ (λ (x y : ℕ). Mid x y b) (omega arith) (omega arith) M;
  }
  stages (suc d) j k b M h room =
      let y = stage j k b M (omega arith) (omega arith) in
      let z = stages d (j + 1) (k + 1) y.to y.mid (omega arith) (omega arith) in
      record {
        to = z.to;
        lead = counted_as book n len 0 (suc d) ((3 * n + 7) * suc d) (join book n len y.lead z.lead) refl (omega arith) (omega (arith, mul-suc (3 * n + 7) d));
        mid = subst₂ (λ (x y : ℕ). Mid x y z.to) (omega arith) (omega arith) z.mid;
      }
