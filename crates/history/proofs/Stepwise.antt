-- A well-formed log that can be swept has an order: the sources of its reads are a placement.
use Prim.Native.Nat.{ℕ, suc, ◌≤◌, ◌<◌, max}
use mathlib.Core.Path.{◌≡◌, refl, sym, ap, ◌∙◌}
use mathlib.Core.Logic.{◌≢◌}
use mathlib.Core.List.{List, [], ◌∷◌}
use mathlib.Core.Bool.{Bool, true, false}
use native.Mathlib.Omega.{arith}
use native.Mathlib.Decide.{ℕ_discrete, dec_lt}
use lib.ListN.{length, get_or, length-append}
use lib.Seq.{get_or-append_seam}
use lib.Dec.{T, eqb}
use borrow.Author.Tests.{eq-eqb, ne_eqb}
use Rattle.words.specs.Choice.{pick}
use Rattle.words.specs.Update.{upd}
use Rattle.words.proofs.Laws.Update.{upd_same, upd_other}
use Rattle.history.specs.Rows.{kind_bits, processor_of, value_of, kind_at, processor_at, value_at, begins_at}
use Rattle.history.specs.WellFormed.{open_at, well_formed}
use Rattle.history.specs.History.{History, event_at, end_at, history_of, Read}
use Rattle.history.specs.Stepwise.{Source, Stepwise, starts, write_begins, write_ends, read_begins, read_ends}
use Rattle.history.proofs.Bands.{kind_plain, tests_result}
use Rattle.history.proofs.Placement.{Laws, Placement}
use Rattle.history.proofs.Operations.{begin_is as begin_kind, open_suc, open_le, open→}
use Rattle.history.proofs.WellFormed.{nonempty, laws, kind_is}
use Rattle.history.proofs.Ends.{fin_open}
use Rattle.history.proofs.Grow.{grown, grown_length, grown_kind_of, grown_open, formed_front}
use Rattle.history.proofs.Grown.{Fits, old_fin, old_read, grown_placement}

-- What the sweep keeps: p places the ended reads; w is the last write; every ended operation is at most F, and at most the floor
-- of a reader that began behind it.
record Inv (log : List ℕ) (F : ℕ) (fl : ℕ → ℕ) (wr : ℕ) (p : ℕ → ℕ) : Type 0 where
  pub placed : Placement (history_of log) (length log) p
  pub wr_in : wr < length log
  pub wr_last : (w : ℕ) → event_at log w ≡ 1 → w ≤ wr
  pub F-write : (w : ℕ) → event_at log w ≡ 1 → end_at log w < length log → w ≤ F
  pub F-read : (r : ℕ) → Read (history_of log) (length log) r → p r ≤ F
  pub fl_write : (i w : ℕ) → 0 < open_at log (suc i) (length log) → event_at log w ≡ 1 → end_at log w < open_at log (suc i) (length log) → w ≤ fl i
  pub fl_read : (i r : ℕ) → 0 < open_at log (suc i) (length log) → Read (history_of log) (length log) r → end_at log r < open_at log (suc i) (length log) → p r ≤ fl i

-- A placement is about the ended reads alone.
same_places : (h : History) (m : ℕ) (p q : ℕ → ℕ) → ((r : ℕ) → Read h m r → q r ≡ p r) → Placement h m p → Placement h m q
same_places h m p q e P = record {
  source = λ r x. ap h.kind (e r x) ∙ P.source r x;
  suits = λ r x. rw (e r x) (P.suits r x);
  early = λ r x. omega (arith, e r x, P.early r x);
  late = λ w r k x a. omega (arith, e r x, P.late w r k x a);
  mono = λ r s x y a. omega (arith, e r x, e s y, P.mono r s x y a);
}

-- One row more, of kind k and processor j.
module _ (log : List ℕ) (x : ℕ) (ok : T (well_formed log)) (ok' : T (well_formed (grown log x))) (k j : ℕ)
    (kind : kind_at (grown log x) (length log) ≡ k) (own : processor_at (grown log x) (length log) ≡ j) where
  abbrev n : ℕ
  n = length log

  abbrev log' : List ℕ
  log' = grown log x

  L : Laws (history_of log)
  L = laws log ok

  M : Laws (history_of log')
  M = laws log' ok'

  some : 0 < n
  some = nonempty log ok

  new_open : (i : ℕ) → open_at log' i (length log') ≡ pick (eqb j i) (pick (begins_at log' n) n 0) (open_at log i n)
  new_open i =
      ap (open_at log' i) (grown_length log x) ∙ open_suc log' i n some
      ∙ rw (own, grown_open log x i n (omega arith))

  other : (i : ℕ) → j ≢ i → open_at log' i (length log') ≡ open_at log i n
  other i e = new_open i ∙ rw (ne_eqb j i e)

  old_write : (w : ℕ) → event_at log' w ≡ 1 → end_at log' w < n → (event_at log w ≡ 1) × (end_at log' w ≡ end_at log w)
  old_write w e a =
      let i : w < n = elim (dec_lt 0 w) [ yes b ↦ omega (arith, M.write_end w e b) | no b ↦ omega (arith, some) ] in
      (sym (grown_kind_of log x w i) ∙ e, old_fin log x L M w i a)

  new_kind : event_at log' n ≡ k
  new_kind = kind_is log' ok' n some ∙ kind

  ends_write : (w : ℕ) → event_at log' w ≡ 1 → 0 < w → end_at log' w ≡ n → (k ≡ 2) × (open_at log j n ≡ w)
  ends_write w e a f =
      let d = M.write_done w e a (omega (arith, grown_length log x)) in
      let z : open_at log' (processor_at log' n) n ≡ w = ap (λ z. open_at log' (processor_at log' z) z) (sym f) ∙ d.1 in
      (sym new_kind ∙ ap (event_at log') (sym f) ∙ d.0, sym (ap (λ z. open_at log' z n) own ∙ grown_open log x j n (omega arith)) ∙ z)

  ends_read : (r : ℕ) → event_at log' r ≡ 3 → end_at log' r ≡ n → (k ≡ 4) × (open_at log j n ≡ r)
  ends_read r e f =
      let d = M.read_done r e (omega (arith, grown_length log x)) in
      let z : open_at log' (processor_at log' n) n ≡ r = ap (λ z. open_at log' (processor_at log' z) z) (sym f) ∙ d.1 in
      (sym new_kind ∙ ap (event_at log') (sym f) ∙ d.0, sym (ap (λ z. open_at log' z n) own ∙ grown_open log x j n (omega arith)) ∙ z)

  -- What the new row asks of the next floors and placement.
  module _ (F : ℕ) (fl : ℕ → ℕ) (wr : ℕ) (p : ℕ → ℕ) (I : Inv log F fl wr p) (F' : ℕ) (fl' : ℕ → ℕ) (wr' : ℕ) (p' : ℕ → ℕ)
      (agree : (r : ℕ) → Read (history_of log) n r → p' r ≡ p r)
      (new-read : (r : ℕ) → Read (history_of log') (length log') r → end_at log' r ≡ n → Fits log p' r (get_or log' n 0) (p' r) × (p' r ≤ F'))
      (up : F ≤ F') (wr-in' : wr' ≤ n) (wr-up : wr ≤ wr') (wr-new : k ≡ 1 → n ≤ wr') (wr-F : k ≡ 2 → wr ≤ F')
      (same-floor : (i : ℕ) → j ≢ suc i → fl' i ≡ fl i)
      (mine : (i : ℕ) → j ≡ suc i → 0 < open_at log' (suc i) (length log') → (open_at log' (suc i) (length log') ≡ n) × (F ≤ fl' i)) where
    grows : Inv log' F' fl' wr' p'
    grows = record {
      placed = grown_placement log x L M p' (same_places (history_of log) n p p' agree I.placed) (λ r y e. (new-read r y e).0);
      wr_in = omega (arith, grown_length log x);
      wr_last = λ w e. elim (dec_lt w n) [
        | yes a ↦ omega (arith, I.wr_last w (sym (grown_kind_of log x w a) ∙ e))
        | no a ↦ let q : w ≡ n = omega (arith, M.write w e, grown_length log x) in omega (arith, wr-new (sym new_kind ∙ ap (event_at log') (sym q) ∙ e))
      ];
      F-write = λ w e a. elim (dec_lt (end_at log' w) n) [
        | yes d ↦ let o = old_write w e d in omega (arith, I.F-write w o.0 (omega (arith, o.1)))
        | no d ↦ elim (dec_lt 0 w) [
          | yes z ↦ let q = ends_write w e z (omega (arith, grown_length log x)) in
              let wn : w < n = omega (arith, M.write_end w e z, grown_length log x) in omega (arith, wr-F q.0, I.wr_last w (sym (grown_kind_of log x w wn) ∙ e))
          | no z ↦ omega arith
        ]
      ];
      F-read = λ r y. elim (dec_lt (end_at log' r) n) [
        | yes d ↦ let o = old_read log x L M r y d in omega (arith, agree r o, I.F-read r o)
        | no d ↦ (new-read r y (omega (arith, grown_length log x, y.ended))).1
      ];
      fl_write = λ i w a e d. elim (ℕ_discrete j (suc i)) [
        | yes q ↦ let z = mine i q a in let o = old_write w e (omega (arith, z.0)) in omega (arith, z.1, I.F-write w o.0 (omega (arith, o.1, z.0)))
        | no q ↦ let z = other (suc i) q in let o = old_write w e (omega (arith, z, open_le log (suc i) n)) in
            omega (arith, same-floor i q, I.fl_write i w (omega (arith, z)) o.0 (omega (arith, z, o.1)))
      ];
      fl_read = λ i r a y d. elim (ℕ_discrete j (suc i)) [
        | yes q ↦ let z = mine i q a in let o = old_read log x L M r y (omega (arith, z.0)) in omega (arith, z.1, agree r o, I.F-read r o)
        | no q ↦ let z = other (suc i) q in let o = old_read log x L M r y (omega (arith, z, open_le log (suc i) n)) in
            omega (arith, same-floor i q, agree r o, I.fl_read i r (omega (arith, z)) o (omega (arith, z, old_fin log x L M r o.under (omega (arith, z, open_le log (suc i) n)))))
      ];
    }

  abbrev Fill : ℕ → (ℕ → ℕ) → Type 0
  Fill F' p' = (r : ℕ) → Read (history_of log') (length log') r → end_at log' r ≡ n → Fits log p' r (get_or log' n 0) (p' r) × (p' r ≤ F')

  no_read : k ≢ 4 → (F' : ℕ) (p' : ℕ → ℕ) → Fill F' p'
  no_read h F' p' r y e = absurd (h (ends_read r y.is e).0)

-- The open read of processor j has no end yet.
open_fin : (log : List ℕ) (j : ℕ) → 0 < open_at log j (length log) → end_at log (open_at log j (length log)) ≡ length log
open_fin log j a =
    let o = open→ log j (length log) a in
    fin_open log (open_at log j (length log)) a o.before (λ i y z e. o.none i y z (e ∙ o.own))

-- The new row's fields.
new_word : (log : List ℕ) (x : ℕ) → get_or (grown log x) (length log) 0 ≡ x
new_word log x = get_or-append_seam log x [] 0

new_kind_is : (log : List ℕ) (x k : ℕ) → kind_bits x ≡ k → k < 6 → kind_at (grown log x) (length log) ≡ k
unfolding kind_at
new_kind_is log x k e a = rw (new_word log x) (kind_plain x k e a)

new_processor_is : (log : List ℕ) (x j : ℕ) → processor_of x ≡ j → processor_at (grown log x) (length log) ≡ j
unfolding processor_at
new_processor_is log x j e = rw (new_word log x) e

-- The start row alone.
module _ (x : ℕ) (fl : ℕ → ℕ) (ok : T (well_formed (x ∷ []))) where
  L₀ : Laws (history_of (x ∷ []))
  L₀ = laws (x ∷ []) ok

  no_ended : (m r : ℕ) → Read (history_of (x ∷ [])) m r → ⊥
  no_ended m r y = omega (arith, L₀.read_end r y.is, y.ended, only r y.is)
    where
      only : (r : ℕ) → event_at (x ∷ []) r ≡ 3 → 0 < r
      only r e = elim (dec_lt 0 r) [
        | yes h ↦ h
        | no h ↦ let z : r ≡ 0 = omega arith in absurd (omega (arith, L₀.start, sym (ap (event_at (x ∷ [])) z) ∙ e))
      ]

  start_inv : Inv (x ∷ []) 0 fl 0 (λ _. 0)
  start_inv = record {
    placed = record {
      source = λ r y. absurd (no_ended _ r y);
      suits = λ r y. absurd (no_ended _ r y);
      early = λ r y. absurd (no_ended _ r y);
      late = λ w r e y _. absurd (no_ended _ r y);
      mono = λ r s y _ _. absurd (no_ended _ r y);
    };
    wr_in = omega arith;
    wr_last = λ w e. omega (arith, L₀.write w e);
    F-write = λ w e _. omega (arith, L₀.write w e);
    F-read = λ r y. absurd (no_ended _ r y);
    fl_write = λ i w a e d. omega (arith, L₀.write w e);
    fl_read = λ i r a y _. absurd (no_ended _ r y);
  }

begin_is : (b : Bool) (m : ℕ) → 0 < pick b m 0 → pick b m 0 ≡ m
begin_is true m h = refl
begin_is false m h = absurd (omega arith)

-- One row more, by its kind.
module _ (log : List ℕ) (ok : T (well_formed log)) (F : ℕ) (fl : ℕ → ℕ) (wr : ℕ) (p : ℕ → ℕ) (I : Inv log F fl wr p) (x : ℕ)
    (ok' : T (well_formed (grown log x))) where
  inv_write_begins : kind_bits x ≡ 1 → processor_of x ≡ 0 → Inv (grown log x) F fl (length log) p
  inv_write_begins e o =
      let kd = new_kind_is log x 1 e (omega arith) in
      let pr = new_processor_is log x 0 o in
      grows log x ok ok' 1 0 kd pr F fl wr p I F fl (length log) p
      (λ _ _. refl) (no_read log x ok ok' 1 0 kd pr (omega arith) F p) (omega arith) (omega arith) (omega (arith, I.wr_in)) (λ _. omega arith)
      (λ e. absurd (omega arith)) (λ _ _. refl) (λ i e. absurd (omega arith))

  inv_write_ends : kind_bits x ≡ 2 → processor_of x ≡ 0 → Inv (grown log x) (max F wr) fl wr p
  inv_write_ends e o =
      let kd = new_kind_is log x 2 e (omega arith) in
      let pr = new_processor_is log x 0 o in
      grows log x ok ok' 2 0 kd pr F fl wr p I (max F wr) fl wr p
      (λ _ _. refl) (no_read log x ok ok' 2 0 kd pr (omega arith) (max F wr) p) (omega arith) (omega (arith, I.wr_in)) (omega arith)
      (λ e. absurd (omega arith)) (λ _. omega arith) (λ _ _. refl) (λ i e. absurd (omega arith))

  inv_read_begins : (i : ℕ) → kind_bits x ≡ 3 → processor_of x ≡ suc i → Inv (grown log x) F (upd fl i F) wr p
  inv_read_begins i e o =
      let kd = new_kind_is log x 3 e (omega arith) in
      let pr = new_processor_is log x (suc i) o in
      grows log x ok ok' 3 (suc i) kd pr F fl wr p I F (upd fl i F) wr p
      (λ _ _. refl) (no_read log x ok ok' 3 (suc i) kd pr (omega arith) F p) (omega arith) (omega (arith, I.wr_in)) (omega arith)
      (λ e. absurd (omega arith)) (λ e. absurd (omega arith))
      (λ z ne. upd_other fl i F z (λ e. ne (ap suc (sym e))))
      (λ z e a.
      let q : open_at (grown log x) (suc z) (length (grown log x)) ≡ pick (begins_at (grown log x) (length log)) (length log) 0 =
      new_open log x ok ok' 3 (suc i) kd pr (suc z) ∙ rw (eq-eqb (suc i) (suc z) e) in
      (q ∙ begin_is (begins_at (grown log x) (length log)) (length log) (rw q at a), omega (arith, upd_same fl i F, ap (upd fl i F) (zi z e))))
    where
      zi : (z : ℕ) → suc i ≡ suc z → i ≡ z
      zi z e = omega arith

  inv_read_ends : (i q : ℕ) → kind_bits x ≡ 4 → processor_of x ≡ suc i → Source log q (value_of x) → fl i ≤ q
      → Inv (grown log x) (max F q) fl wr (upd p (open_at log (suc i) (length log)) q)
  inv_read_ends i q exact o S h =
      grows log x ok ok' 4 (suc i) kd pr F fl wr p I (max F q) fl wr p' agree ends (omega arith) (omega (arith, I.wr_in)) (omega arith)
      (λ e. absurd (omega arith)) (λ e. absurd (omega arith)) (λ _ _. refl)
      (λ z e a. absurd (omega (arith, new_open log x ok ok' 4 (suc i) kd pr (suc z) ∙ closed z e)))
    where
      kd : kind_at (grown log x) (length log) ≡ 4
      kd = new_kind_is log x 4 exact (omega arith)

      pr : processor_at (grown log x) (length log) ≡ suc i
      pr = new_processor_is log x (suc i) o

      p' : ℕ → ℕ
      p' = upd p (open_at log (suc i) (length log)) q

      closed : (z : ℕ) → suc i ≡ suc z
          → pick (eqb (suc i) (suc z)) (pick (begins_at (grown log x) (length log)) (length log) 0) (open_at log (suc z) (length log)) ≡ 0
      closed z e = rw (eq-eqb (suc i) (suc z) e, begin_kind (grown log x) (length log), kd)

      agree : (r : ℕ) → Read (history_of log) (length log) r → upd p (open_at log (suc i) (length log)) q r ≡ p r
      agree r y = upd_other p (open_at log (suc i) (length log)) q r (λ e. elim (dec_lt 0 (open_at log (suc i) (length log))) [
        | yes a ↦ absurd (omega (arith, y.ended, ap (end_at log) e, open_fin log (suc i) a))
        | no a ↦ absurd (omega (arith, e, (laws log ok).read_end r y.is, (laws log ok).start, y.is, ap (event_at log) (zero_of r e a)))
      ])
        where
          zero_of : (r : ℕ) → r ≡ open_at log (suc i) (length log) → ¬ (0 < open_at log (suc i) (length log)) → r ≡ 0
          zero_of r e a = omega arith

      ends : Fill log x ok ok' 4 (suc i) kd pr (max F q) (upd p (open_at log (suc i) (length log)) q)
      ends r y e =
          let t = ends_read log x ok ok' 4 (suc i) kd pr r y.is e in
          let g : upd p (open_at log (suc i) (length log)) q r ≡ q =
          ap (upd p (open_at log (suc i) (length log)) q) (sym t.1) ∙ upd_same p (open_at log (suc i) (length log)) q in
          let pos : 0 < open_at log (suc i) (length log) = real (open_at log (suc i) (length log)) (sym t.1) y in (
            record {
              source = ap (event_at log) g ∙ S.is;
              suits = rw (new_word log x, g) ((tests_result x (value_at log q) exact).if S.shows);
              late = λ w k a. omega (arith, g, I.fl_write i w pos k (omega (arith, t.1)));
              mono = λ u z a. omega (arith, g, agree u z, I.fl_read i u pos z (omega (arith, t.1)));
            },
            omega (arith, g),
          )
        where
          real : (o : ℕ) → r ≡ o → Read (history_of (grown log x)) (length (grown log x)) r → 0 < o
          real o e y = elim (dec_lt 0 o) [
            | yes h ↦ h
            | no h ↦ let z : r ≡ 0 = omega arith in
                absurd (omega (arith, (laws (grown log x) ok').start, y.is, ap (event_at (grown log x)) z))
          ]

pub swept_some : {log : List ℕ} {F : ℕ} {fl : ℕ → ℕ} {w : ℕ} → Stepwise log F fl w → 0 < length log
swept_some (starts x fl) = omega arith
swept_some (write_begins x e o s) = rw length-append (omega arith)
swept_some (write_ends x e o s) = rw length-append (omega arith)
swept_some (read_begins x i e o s) = rw length-append (omega arith)
swept_some (read_ends x i q e o S h s) = rw length-append (omega arith)

swept_inv : {log : List ℕ} {F : ℕ} {fl : ℕ → ℕ} {w : ℕ} → Stepwise log F fl w → T (well_formed log) → (p : ℕ → ℕ) × Inv log F fl w p
swept_inv (starts x fl) ok = (λ _. 0, start_inv x fl ok)
swept_inv (write_begins {log = l} {F = F} {fl = fl} {w = w} x e o s) ok =
    let f = formed_front l x (swept_some s) ok in
    let z = swept_inv s f in
    (z.0, inv_write_begins l f F fl w z.0 z.1 x ok e o)
swept_inv (write_ends {log = l} {F = F} {fl = fl} {w = w} x e o s) ok =
    let f = formed_front l x (swept_some s) ok in
    let z = swept_inv s f in
    (z.0, inv_write_ends l f F fl w z.0 z.1 x ok e o)
swept_inv (read_begins {log = l} {F = F} {fl = fl} {w = w} x i e o s) ok =
    let f = formed_front l x (swept_some s) ok in
    let z = swept_inv s f in
    (z.0, inv_read_begins l f F fl w z.0 z.1 x ok i e o)
swept_inv (read_ends {log = l} {F = F} {fl = fl} {w = w} x i q e o S h s) ok =
    let f = formed_front l x (swept_some s) ok in
    let z = swept_inv s f in
    (upd z.0 (open_at l (suc i) (length l)) q, inv_read_ends l f F fl w z.0 z.1 x ok i q e o S h)

pub swept_placed : {log : List ℕ} {F : ℕ} {fl : ℕ → ℕ} {w : ℕ} → Stepwise log F fl w → T (well_formed log)
    → (p : ℕ → ℕ) × Placement (history_of log) (length log) p
swept_placed s ok = let z = swept_inv s ok in (z.0, z.1.placed)
