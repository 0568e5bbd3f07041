-- No call changes a retired reader's cells, and none takes it back.
use Prim.Native.Nat.{ℕ, ◌-◌, ◌≤◌}
use mathlib.Core.Path.{◌≡◌, refl, sym, subst, ap, ◌∙◌}
use mathlib.Core.Logic.{◌≢◌}
use mathlib.Core.Bool.{true, false}
use mathlib.Core.List.{List}
use native.Mathlib.Omega.{arith}
use lib.ListN.{length, get_or}
use lib.Seq.{get_or-set_other}
use Rattle.words.proofs.Laws.Choice.{pick_ind, eq_ind, never}
use Rattle.common.specs.Calls.{Call, write, read, step, retire}
use Rattle.common.specs.Effects.{OneWord, reads, stores, Stand}
use Rattle.common.specs.declared.State.{State}
use Rattle.common.specs.Head.{has_room}
use Rattle.common.specs.State.{reader_at, is_retired}
use Rattle.common.specs.Rules.{Rules, state_ok, InRange}
use Rattle.common.specs.SetUp.{Outcome}
use Rattle.common.specs.Register.{begin_write_of, begin_read_of, step_writer, step_reader, step_of, retire_of, call_of}
use Rattle.common.proofs.Lawful.{Wired}
use Rattle.common.proofs.Replaced.{retired_other}
use Rattle.common.proofs.Asked.{as_processor_lem}
use Rattle.common.proofs.Range.{test_range, reader_ok_lem}

module _ (R : Rules) (place : ℕ → ℕ → ℕ → ℕ) (Has : ℕ → ℕ → ℕ → Type 0) (D : Wired R place Has) (s : State) (t l : List ℕ) (p : ℕ)
    (gone : is_retired s p ≡ true) where
  abbrev n : ℕ
  n = s.head.n

  abbrev Out : Outcome → Type 0
  Out o = Stand (place n) (Has n) p t o.table × (is_retired o.state p ≡ true)

  same : Stand (place n) (Has n) p t t × (is_retired s p ≡ true)
  same = (λ _ _. refl, gone)

  another : (q : ℕ) → is_retired s q ≡ false → p ≢ q
  another q free e = never (sym (subst (λ (k : ℕ). is_retired s k ≡ true) e gone) ∙ free)

  -- A sub-step of another processor stores nowhere in p's row.
  word_stands : {A : Type 0} (q : ℕ) → p ≢ q → (next : List ℕ → A) (table : List ℕ → List ℕ) → OneWord (place n) (Has n) q next table
      → Stand (place n) (Has n) p t (table t)
  word_stands q ne next table (reads i v as_is d) j h = ap (λ (x : List ℕ). get_or x (place n p j) 0) (as_is t)
  word_stands q ne next table (stores i w v put d) j h =
      ap (λ (x : List ℕ). get_or x (place n p j) 0) (put t)
      ∙ get_or-set_other t (place n q i) (place n p j) w 0 (λ e. ne (D.one_owner n p j q i h v e))

  module _ (k : InRange R s (length t) (length l)) where
    writer_steps : s.writer.active ≡ true → Out (step_writer R s t l)
    unfolding step_writer
    writer_steps a = (word_stands 0 (another 0 refl) _ _ (D.write_word n s.writer k.head_good.n_low k.writer_passes a), gone)

    reader_steps : (q : ℕ) → 1 ≤ q → q ≤ n → is_retired s q ≡ false → (reader_at s (q - 1)).active ≡ true → Out (step_reader R s t l q)
    unfolding step_reader
    reader_steps q q1 qn free a =
        let ok = reader_ok_lem s q q1 free qn R _ _ k in (
          word_stands q (another q free) _ _ (D.read_word n q (reader_at s (q - 1)) q1 qn ok a),
          retired_other s q _ s.head q1 p (another q free) ∙ gone,
        )

  pub call_stands : (c : Call) → Stand (place n) (Has n) p t (call_of R s t l c).table × (is_retired (call_of R s t l c).state p ≡ true)
  unfolding call_of begin_write_of begin_read_of step_of retire_of
  call_stands (write v) =
      pick_ind Out (state_ok R s (length t) (length l)) _ _
      (λ _. pick_ind Out s.writer.active _ _ (λ _. same)
      (λ _. pick_ind Out (has_room s.head) _ _ (λ _. pick_ind Out (R.may_write s.writer) _ _ (λ _. same) (λ _. same)) (λ _. same)))
      (λ _. same)
  call_stands (read q) =
      pick_ind Out (state_ok R s (length t) (length l)) _ _
      (λ _. as_processor_lem Out s t l same same 1 q _ λ q1 _ free.
      pick_ind Out (reader_at s (q - 1)).active _ _ (λ _. same)
      (λ _. pick_ind Out (has_room s.head) _ _ (λ _. (same.0, retired_other s q _ s.head q1 p (another q free) ∙ gone)) (λ _. same)))
      (λ _. same)
  call_stands (step q) =
      pick_ind Out (state_ok R s (length t) (length l)) _ _
      (λ e.
      let k = test_range R s (length t) (length l) e in
      as_processor_lem Out s t l same same 0 q _ λ _ qn free. eq_ind Out q 0 _ _
      (λ _. pick_ind Out s.writer.active _ _ (writer_steps k) (λ _. same))
      (λ ne. pick_ind Out (reader_at s (q - 1)).active _ _ (reader_steps k q (omega arith) qn free) (λ _. same)))
      (λ _. same)
  call_stands (retire q) =
      pick_ind Out (state_ok R s (length t) (length l)) _ _
      (λ _. as_processor_lem Out s t l same same 1 q _ λ q1 _ free. (same.0, retired_other s q _ s.head q1 p (another q free) ∙ gone))
      (λ _. same)
