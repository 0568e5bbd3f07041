-- The sweep of the code goes on as that of judging/specs/Rowwise does, and what it finds at a row is within bounds.
use Prim.Native.Nat.{ℕ, ◌≤◌, ◌<◌, ◌+◌, max}
use native.Mathlib.Omega.{arith}
use mathlib.Core.Path.{◌≡◌, sym, ap, ◌∙◌}
use mathlib.Core.List.{List}
use lib.Dec.{T}
use lib.ListN.{length, get_or, set, get_or-map}
use borrow.Author.Tests.{lt-leb}
use Rattle.std.proofs.lemmas.List.{map-set}
use Rattle.history.specs.Rows.{processor_of}
use Rattle.history.specs.WellFormed.{well_formed}
use Rattle.judging.specs.Rowwise.{processors, open_after, place_row, row_place, floor_after, missing_after, sweep_to}
use Rattle.judging.specs.Answer.{begins_to}
use Rattle.judging.specs.Keys.{add_key, add_unended, keys_to, keys_of}
use Rattle.judging.proofs.Steps.{proc_in, begins_next, floors_next, top_next, missing_next, keys_suc}
use Rattle.judging.proofs.Room.{room_unended, begin_bound, place_bound, keys_of_lem}
use Rattle.judge.specs.Swept.{nothing_open, left_out, passed, Swept, Finds}
use Rattle.judge.specs.declared.sweep.Open.{Open}
use Rattle.judge.specs.declared.sweep.Sweep.{Sweep}
use Rattle.judge.specs.declared.sweep.Found.{Found}

-- The sweep after row k, of processor p, which raises the floor to q.
pub passed_is : (rows : List ℕ) (k : ℕ) (s : Sweep) {p q b g t : ℕ} → k < length rows → p ≡ processor_of (get_or rows k 0) → p < processors
    → q ≡ place_row rows k (get_or s.open p nothing_open).begin (get_or s.open p nothing_open).floor
    → b ≡ open_after (get_or rows k 0) k → g ≡ floor_after (get_or rows k 0) (get_or s.open p nothing_open).floor s.top → t ≡ max s.top q
    → ◌≡◌ {A = Sweep} (record { «open» = set s.open p (record { begin = b; floor = g }); top = t }) (passed rows k s)
unfolding left_out passed
passed_is rows k s inside e few f h i j = rw (lt-leb _ _ inside, ← e, lt-leb _ _ few, h, i, j, f)

module _ (log : List ℕ) (w : T (well_formed log)) (k : ℕ) (s : Sweep) (S : Swept log k s) where
  begin_at : (p : ℕ) → (get_or s.open p nothing_open).begin ≡ get_or (sweep_to log k).begins p 0
  begin_at p = sym (get_or-map (λ (o : Open). o.begin) s.open p nothing_open) ∙ ap (λ (l : List ℕ). get_or l p 0) S.begins

  floor_at : (p : ℕ) → (get_or s.open p nothing_open).floor ≡ get_or (sweep_to log k).floors p 0
  floor_at p = sym (get_or-map (λ (o : Open). o.floor) s.open p nothing_open) ∙ ap (λ (l : List ℕ). get_or l p 0) S.floors

  module _ (inside : k < length log) where
    -- At row k, of processor p, which raises the floor to q.
    module _ {p : ℕ} (e : p ≡ processor_of (get_or log k 0)) where
      pub processor_in : p < processors
      processor_in = rw e (proc_in log w k S.from inside)

      module _ {q : ℕ} (f : q ≡ place_row log k (get_or s.open p nothing_open).begin (get_or s.open p nothing_open).floor) where
        place_at : q ≡ row_place log (sweep_to log k) k
        unfolding row_place
        place_at = f ∙ rw (begin_at p, floor_at p, e)

        pub finds : Finds log k (record { «open» = get_or s.open p nothing_open; place = q })
        finds = record { begin = rw (← e) (begin_at p); floor = rw (← e) (floor_at p); place = place_at }

        pub swept_next : {b g t : ℕ} → b ≡ open_after (get_or log k 0) k → g ≡ floor_after (get_or log k 0) (get_or s.open p nothing_open).floor s.top → t ≡ max s.top q
            → Swept log (k + 1) (record { «open» = set s.open p (record { begin = b; floor = g }); top = t })
        swept_next {b} {g} {t} h i j = record {
          from = omega arith;
          upto = omega arith;
          begins = map-set (λ (o : Open). o.begin) s.open p _ ∙ rw (h, e, S.begins) (sym (begins_next log k S.from));
          floors = map-set (λ (o : Open). o.floor) s.open p _ ∙ rw (i, floor_at p, e, S.floors, S.top) (sym (floors_next log k S.from));
          top = j ∙ rw (place_at, S.top) (sym (top_next log k S.from));
        }

    -- What it finds.
    module _ (f : Found) (F : Finds log k f) where
      pub begin_in : f.open.begin ≤ k
      begin_in = rw F.begin (begin_bound log w k _ S.from S.upto (proc_in log w k S.from inside))

      pub place_in : f.place ≤ k
      place_in = rw F.place (place_bound log w k S.from inside)

      pub missing_step : {m n : ℕ} → m ≡ (sweep_to log k).missing → n ≡ missing_after (get_or log k 0) k f.place f.open.begin m → n ≡ (sweep_to log (k + 1)).missing
      missing_step g h = h ∙ rw (F.place, F.begin, g) (sym (missing_next log k S.from))

      pub keys_step : add_key (get_or log k 0) f.open.begin f.place (keys_to log k) ≡ keys_to log (k + 1)
      keys_step = rw (F.begin, F.place) (sym (keys_suc log k S.from))

  -- the writer's open operation, behind the last row
  pub writer_in : (get_or s.open 0 nothing_open).begin ≤ k
  writer_in = rw (begin_at 0) (begin_bound log w k 0 S.from S.upto (omega arith))

  module _ (last : k ≡ length log) where
    pub unended_room : 0 < (get_or s.open 0 nothing_open).begin → length (keys_to log k) < begins_to log (length log)
    unended_room a = rw last (room_unended log w (rw (begin_at 0, last) at a))

    pub unended_step : add_unended (get_or s.open 0 nothing_open).begin s.top (keys_to log k) ≡ keys_of log
    unended_step =
        rw (begin_at 0, S.top)
        (ap (λ (k : ℕ). add_unended (get_or (sweep_to log k).begins 0 0) (sweep_to log k).top (keys_to log k)) last ∙ sym (keys_of_lem log w))
