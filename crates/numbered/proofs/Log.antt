-- The log can be swept: the rows of the numbers are the sweep's.
use Prim.Native.Nat.{ℕ, zero, suc, ◌^◌, ◌≤◌, ◌<◌, max}
use mathlib.Core.Path.{◌≡◌, refl, ◌∙◌, sym, ap}
use mathlib.Core.Logic.{◌≢◌, ◌⊎◌, inl, inr}
use mathlib.Core.List.{List, [], ◌∷◌}
use native.Mathlib.Omega.{arith}
use lib.ListN.{length, get_or}
use lib.Seq.{get_or-append_seam}
use Rattle.words.specs.Update.{upd}
use Rattle.words.proofs.Laws.Update.{upd_elim, upd_same, upd_other}
use Rattle.history.specs.Rows.{kind_bits, kind_of, value_of, kind_at, value_at}
use Rattle.history.specs.History.{event_at}
use Rattle.history.specs.Stepwise.{Source, Stepwise, starts, write_begins, write_ends, read_begins, read_ends}
use Rattle.history.proofs.Bands.{kind_plain}
use Rattle.history.proofs.Grow.{grown, grown_length, grown_val, grown_kind_of}
use Rattle.numbered.proofs.Splits.{eq_or, lt_or}
use Rattle.numbered.proofs.Machine.{Phase, rest, begun, looked, announced, second, storing, Reader, St, PhOk}
use Rattle.numbered.proofs.Start.{fresh_me}
use Rattle.words.specs.Row.{row_of}
use Rattle.history.proofs.Packed.{row_kind, row_processor, row_value}

-- A source stays one; a write's begin is one.
source_more : (log : List ℕ) (x q v : ℕ) → Source log q v → Source (grown log x) q v
source_more log x q v h = record {
  inside = omega (arith, grown_length log x, h.inside);
  is = grown_kind_of log x q h.inside ∙ h.is;
  shows = grown_val log x q h.inside ∙ h.shows;
}

source_last : (log : List ℕ) (x v : ℕ) → kind_bits x ≡ 1 → value_of x ≡ v → Source (grown log x) (length log) v
unfolding value_at event_at kind_at
source_last log x v k e = record {
  inside = omega (arith, grown_length log x);
  is = event (grown log x) (length log) (rw (get_or-append_seam log x [] 0) (kind_plain x 1 k (omega arith)));
  shows = rw (get_or-append_seam log x [] 0) e;
}
  where
    event : (l : List ℕ) (j : ℕ) → kind_of (get_or l j 0) ≡ 1 → event_at l j ≡ 1
    event l zero e = refl
    event l (suc j) e = e

-- one more than the floor of an open read; 0 of an idle reader
abbrev pub floor_of : Phase → ℕ
floor_of rest = 0
floor_of (begun f sl) = suc f
floor_of (looked f sl u) = suc f
floor_of (announced f sl u) = suc f
floor_of (second f sl u z k y) = suc f
floor_of (storing f p m k) = suc f

pub floor_low : (n : ℕ) (c : ℕ → ℕ) (s : St) (i o a : ℕ) (ph : Phase) (f : ℕ) → PhOk n c s i o a ph → floor_of ph ≡ suc f → f ≤ s.F
floor_low n c s i o a rest f h e = absurd (omega arith)
floor_low n c s i o a (begun g sl) f h e = omega (arith, h.floor)
floor_low n c s i o a (looked g sl u) f h e = omega (arith, h.floor)
floor_low n c s i o a (announced g sl u) f h e = omega (arith, h.1.floor)
floor_low n c s i o a (second g sl u z k y) f h e = omega (arith, h.floor)
floor_low n c s i o a (storing g p m k) f h e = omega (arith, h.floor)

-- val: the value of each write
module _ (n : ℕ) (val : ℕ → ℕ) where
  -- v: the value of the open write. row p: the begin row of write p.
  pub record LogRel (log : List ℕ) (K D F wk : ℕ) (me : ℕ → Reader) (v : ℕ) : Type 0 where
    pub row : ℕ → ℕ
    pub fl : ℕ → ℕ
    pub wr : ℕ
    pub swept : Stepwise log (row F) fl wr
    pub floors : (i f : ℕ) → i < n → floor_of (me i).ph ≡ suc f → fl i ≡ row f
    pub rise : (p q : ℕ) → p ≤ q → q ≤ K → row p ≤ row q
    pub source : (p : ℕ) → p ≤ K → Source log (row p) (val p)
    pub reading : 1 ≤ wk → ((p : ℕ) → p ≤ K → row p ≤ wr) × Source log wr v
    pub storing_row : K ≡ suc D → row K ≡ wr

  module _ (log : List ℕ) (K D F wk : ℕ) (me : ℕ → Reader) (v : ℕ) (r : LogRel log K D F wk me v) where
    pub log_w_begins : K ≡ D → (u : ℕ) → u < 2 ^ 32 → LogRel (grown log (row_of 1 0 u)) K D F 1 me u
    log_w_begins e u low = record {
      row = r.row;
      fl = r.fl;
      wr = length log;
      swept = write_begins (row_of 1 0 u) (row_kind 1 0 u (omega arith)) (row_processor 1 0 u (omega arith)) r.swept;
      floors = r.floors;
      rise = r.rise;
      source = λ p h. source_more log _ _ _ (r.source p h);
      reading = λ _. ((λ p h. omega (arith, (r.source p h).inside)), source_last log (row_of 1 0 u) u (row_kind 1 0 u (omega arith)) (row_value 1 0 u low));
      storing_row = λ g. absurd (omega arith);
    }

    -- The writer reads a cell.
    pub log_look : 1 ≤ wk → LogRel log K D F (suc wk) me v
    log_look h = record {
      row = r.row;
      fl = r.fl;
      wr = r.wr;
      swept = r.swept;
      floors = r.floors;
      rise = r.rise;
      source = r.source;
      reading = λ _. r.reading h;
      storing_row = r.storing_row;
    }

    -- The writer takes its ticket.
    pub log_ticket : 1 ≤ wk → F ≤ K → ((i f : ℕ) → i < n → floor_of (me i).ph ≡ suc f → f ≤ F) → val (suc K) ≡ v → LogRel log (suc K) D F 0 me v
    log_ticket h FK low e = record {
      row = upd r.row (suc K) r.wr;
      fl = r.fl;
      wr = r.wr;
      swept = rw (old F FK) r.swept;
      floors = λ i f hi g. r.floors i f hi g ∙ sym (old f (omega (arith, low i f hi g)));
      rise = λ p q a b. rise p q a b (eq_or q (suc K));
      source = upd_elim (λ p y. p ≤ suc K → Source log y (val p)) r.row (suc K) r.wr (λ _. rw e (r.reading h).1) (λ p ne g. r.source p (omega arith));
      reading = λ g. absurd (omega arith);
      storing_row = λ _. upd_same r.row (suc K) r.wr;
    }
      where
        old : (p : ℕ) → p ≤ K → upd r.row (suc K) r.wr p ≡ r.row p
        old p g = upd_other r.row (suc K) r.wr p (omega arith)

        rise : (p q : ℕ) → p ≤ q → q ≤ suc K → (q ≡ suc K) ⊎ (q ≢ suc K) → upd r.row (suc K) r.wr p ≤ upd r.row (suc K) r.wr q
        rise p q a b (inl g) = rw (g, upd_same r.row (suc K))
            (upd_elim (λ p y. p ≤ suc K → y ≤ r.wr) r.row (suc K) r.wr (λ _. omega arith) (λ p ne g. (r.reading h).0 p (omega arith)) p (omega arith))
        rise p q a b (inr g) = rw (old p (omega arith), old q (omega arith)) (r.rise p q a (omega arith))

    pub log_w_ends : K ≡ suc D → F ≤ K → (u : ℕ) → LogRel (grown log (row_of 2 0 0)) K K K 0 me u
    log_w_ends e FK u = record {
      row = r.row;
      fl = r.fl;
      wr = r.wr;
      swept =
          let g : max (r.row F) r.wr ≡ r.row K = omega (arith, r.storing_row e, r.rise F K FK (omega arith)) in
          rw g at (write_ends (row_of 2 0 0) (row_kind 2 0 0 (omega arith)) (row_processor 2 0 0 (omega arith)) r.swept);
      floors = r.floors;
      rise = r.rise;
      source = λ p h. source_more log _ _ _ (r.source p h);
      reading = λ g. absurd (omega arith);
      storing_row = λ g. absurd (omega arith);
    }

    -- A reader changes, but its floor stays.
    pub log_keep : (i : ℕ) (x : Reader) → floor_of x.ph ≡ floor_of (me i).ph → LogRel log K D F wk (upd me i x) v
    log_keep i x e = record {
      row = r.row;
      fl = r.fl;
      wr = r.wr;
      swept = r.swept;
      floors = λ j f h. upd_elim (λ j y. j < n → floor_of y.ph ≡ suc f → r.fl j ≡ r.row f) me i x
          (λ h g. r.floors i f h (sym e ∙ g)) (λ j _. r.floors j f) j h;
      rise = r.rise;
      source = r.source;
      reading = r.reading;
      storing_row = r.storing_row;
    }

    pub log_r_begins : n ≤ 16 → (i : ℕ) (x : Reader) → i < n → floor_of x.ph ≡ suc F → LogRel (grown log (row_of 3 (suc i) 0)) K D F wk (upd me i x) v
    log_r_begins few i x hi e = record {
      row = r.row;
      fl = upd r.fl i (r.row F);
      wr = r.wr;
      swept = read_begins (row_of 3 (suc i) 0) i (row_kind 3 (suc i) 0 (omega arith)) (row_processor 3 (suc i) 0 (omega arith)) r.swept;
      floors = λ j f. upd_elim (λ j y. j < n → floor_of y.ph ≡ suc f → upd r.fl i (r.row F) j ≡ r.row f) me i x
          (λ h g. upd_same r.fl i (r.row F) ∙ ap r.row (same f g)) (λ j ne h g. upd_other r.fl i (r.row F) j ne ∙ r.floors j f h g) j;
      rise = r.rise;
      source = λ p h. source_more log _ _ _ (r.source p h);
      reading = λ h. ((r.reading h).0, source_more log _ _ _ (r.reading h).1);
      storing_row = r.storing_row;
    }
      where
        same : (f : ℕ) → floor_of x.ph ≡ suc f → F ≡ f
        same f g = omega arith

    pub log_r_ends : n ≤ 16 → (i f m u : ℕ) (x : Reader) → i < n → floor_of (me i).ph ≡ suc f → x.ph ≡ rest → f ≤ m → m ≤ K → F ≤ K → u ≡ val m → u < 2 ^ 32
        → LogRel (grown log (row_of 4 (suc i) u)) K D (max F m) wk (upd me i x) v
    log_r_ends few i f m u x hi e ei fm mK FK eu low = record {
      row = r.row;
      fl = r.fl;
      wr = r.wr;
      swept =
          let above : r.fl i ≤ r.row m = omega (arith, r.floors i f hi e, r.rise f m fm mK) in
          let from : Source log (r.row m) (value_of (row_of 4 (suc i) u)) = rw (row_value 4 (suc i) u low, eu) (r.source m mK) in
          rw top
          (read_ends (row_of 4 (suc i) u) i (r.row m) (row_kind 4 (suc i) u (omega arith)) (row_processor 4 (suc i) u (omega arith)) from above r.swept);
      floors = λ j g. upd_elim (λ j y. j < n → floor_of y.ph ≡ suc g → r.fl j ≡ r.row g) me i x
          (λ h q. absurd (idle_not g q)) (λ j ne h q. r.floors j g h q) j;
      rise = r.rise;
      source = λ p h. source_more log _ _ _ (r.source p h);
      reading = λ h. ((r.reading h).0, source_more log _ _ _ (r.reading h).1);
      storing_row = r.storing_row;
    }
      where
        idle_not : (g : ℕ) → floor_of x.ph ≡ suc g → ⊥
        idle_not g q = let q' : 0 ≡ suc g = (rw ei at q) in omega arith

        top : r.row (max F m) ≡ max (r.row F) (r.row m)
        top = at (lt_or F m)
          where
            at : (F < m) ⊎ (m ≤ F) → r.row (max F m) ≡ max (r.row F) (r.row m)
            at (inl h) = let g : max F m ≡ m = omega arith in rw g (omega (arith, r.rise F m (omega arith) mK))
            at (inr h) = let g : max F m ≡ F = omega arith in rw g (omega (arith, r.rise m F h FK))

-- The log of the fresh register: the start counts as writes 0 and 1.
module _ (n : ℕ) (val : ℕ → ℕ) (v : ℕ) (low : v < 2 ^ 32) (is-0 : val 0 ≡ v) (is-1 : val 1 ≡ v) where
  start_source : (p : ℕ) → p ≤ 1 → Source (row_of 5 n v ∷ []) 0 (val p)
  unfolding event_at value_at
  start_source zero h = record { inside = omega arith; is = refl; shows = row_value 5 n v low ∙ sym is-0 }
  start_source (suc zero) h = record { inside = omega arith; is = refl; shows = row_value 5 n v low ∙ sym is-1 }
  start_source (suc (suc p)) h = absurd (omega arith)

  pub log_start : LogRel n val (row_of 5 n v ∷ []) 1 1 1 0 fresh_me 0
  log_start = record {
    row = λ _. 0;
    fl = λ _. 0;
    wr = 0;
    swept = starts _ (λ _. 0);
    floors = λ i f _ e. absurd (omega arith);
    rise = λ p q _ _. omega arith;
    source = start_source;
    reading = λ h. absurd (omega arith);
    storing_row = λ h. absurd (omega arith);
  }
