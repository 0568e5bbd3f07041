-- A list of calls made from words, one call at a time, for any rules.
use Prim.Native.Nat.{ℕ, suc, min, ◌+◌, ◌≤◌, ◌<◌}
use mathlib.Core.Path.{◌≡◌, refl, sym, ap, subst, ◌∙◌}
use mathlib.Core.Logic.{◌≢◌}
use mathlib.Core.List.{List, [], ◌∷◌, ◌++◌, map, append_assoc}
use mathlib.Core.Bool.{Bool, true, false, ◌&&◌}
use native.Mathlib.Omega.{arith}
use native.Mathlib.Decide.{dec_lt}
use native.Mathlib.Numerals.{add-one}
use lib.Dec.{T, leb}
use lib.ListN.{length, get_or, set, take, drop, take-append-drop, drop_of_length-le}
use lib.Seq.{drop-cons, take-suc-set, drop-set-lt}
use borrow.Author.Tests.{eq-eqb, ne_eqb}
use Rattle.words.proofs.Laws.Choice.{pick_ind, never}
use Rattle.history.specs.WellFormed.{well_formed}
use Rattle.history.specs.Bands.{NoBands}
use Rattle.history.specs.Linearization.{Orders}
use Rattle.history.proofs.Theorems.{never_older}
use Rattle.common.specs.declared.State.{State}
use Rattle.std.specs.Prelude.{Ok, Err}
use Rattle.std.specs.Result.{is_err}
use Rattle.common.specs.declared.Done.TheVariants.{Accepted, Moved}
use Rattle.common.specs.declared.Refusal.{Refusal}
use Rattle.common.specs.declared.Refusal.TheVariants.{Readers, Cells, Rows, Range, Processor, Busy, Full, Idle, Retired, Spent}
use Rattle.common.specs.Answers.{Answer, refusal_number}
use Rattle.common.specs.Calls.{LowCalls}
use Rattle.common.specs.declared.calls.Call.{Call}
use Rattle.common.specs.CallWords.{is_call, call_in, answer_word, calls_in}
use Rattle.common.specs.Rules.{Rules}
use Rattle.common.specs.SetUp.{Outcome, set_up_of}
use Rattle.common.specs.Register.{call_of, run_of}
use Rattle.common.specs.Book.{Telling}
use Rattle.common.specs.Whole.{AsBook}
use Rattle.common.proofs.Kind.{kind_kept}
use Rattle.common.proofs.CallWords.{low_calls, low_take}
use Rattle.register.specs.declared.calls.Called.{Called}
use Rattle.kinds.specs.Rules.{rules_of}
use Rattle.register.specs.Contract.{outcome}
use Rattle.lists.specs.Run.{MadeCalls, made_of, made_calls, run_words_of, WholeRun}

-- The kind of register is what set-up made it.
module _ (R : Rules) where
  pub kind_after : (s : State) (t l : List ℕ) (c : Call) (r : Called) (t' l' : List ℕ) → outcome r t' l' ≡ call_of R s t l c
      → r.state.head.counted ≡ s.head.counted
  kind_after s t l c r t' l' e = ap (λ (o : Outcome). o.state.head.counted) e ∙ kind_kept R s t l c

  kind_made : (n v fresh : ℕ) (t l : List ℕ) → (set_up_of R n v fresh t l).state.head.counted ≡ R.counted
  unfolding set_up_of
  kind_made n v fresh t l =
      let made : Outcome → Type 0 = λ o. o.state.head.counted ≡ R.counted in
      pick_ind made (leb 1 n && leb n 16) _ _
      (λ _. pick_ind made (leb (R.cells n) (length t)) _ _
      (λ _. pick_ind made (leb 3 (length l) && leb (length l) 4096) _ _ (λ _. refl) (λ _. refl)) (λ _. refl))
      (λ _. refl)

-- Set-up makes no sub-step, so its word is 0 just if it is not refused.
abbrev OfSetUp : Answer → Type 0
OfSetUp (Ok Accepted) = Unit {0}
OfSetUp (Ok (Moved k)) = ⊥
OfSetUp (Err why) = Unit {0}

set_up_answer : (R : Rules) (n v fresh : ℕ) (t l : List ℕ) → OfSetUp (set_up_of R n v fresh t l).answer
unfolding set_up_of
set_up_answer R n v fresh t l =
    let Fine : Outcome → Type 0 = λ o. OfSetUp o.answer in
    pick_ind Fine (leb 1 n && leb n 16) _ _
    (λ _. pick_ind Fine (leb (R.cells n) (length t)) _ _
    (λ _. pick_ind Fine (leb 3 (length l) && leb (length l) 4096) _ _ (λ _. tt) (λ _. tt)) (λ _. tt))
    (λ _. tt)

pub word_accepted : (a : Answer) → OfSetUp a → is_err a ≡ false → answer_word a ≡ 0
word_accepted (Ok Accepted) u i = omega arith
word_accepted (Ok (Moved k)) u i = absurd u
word_accepted (Err why) u i = never i

refusal_positive : (why : Refusal) → 1 ≤ refusal_number why
refusal_positive Readers = omega arith
refusal_positive Cells = omega arith
refusal_positive Rows = omega arith
refusal_positive Range = omega arith
refusal_positive Processor = omega arith
refusal_positive Busy = omega arith
refusal_positive Full = omega arith
refusal_positive Idle = omega arith
refusal_positive Retired = omega arith
refusal_positive Spent = omega arith

pub word_refused : (a : Answer) → is_err a ≡ true → answer_word a ≢ 0
word_refused (Ok done) i = never (sym i)
word_refused (Err why) i = λ z. omega (arith, refusal_positive why)

-- the rules of one kind are those of the same
pub as_rules : (b d : Bool) → b ≡ d → (o : Outcome) (s : State) (t l : List ℕ) (c : Call) → o ≡ call_of (rules_of b) s t l c → o ≡ call_of (rules_of d) s t l c
as_rules b d e o s t l c q = q ∙ ap (λ (k : Bool). call_of (rules_of k) s t l c) e

-- Where no call is made, and where the first word is one.
abbrev stopped : State → List ℕ → List ℕ → List ℕ → MadeCalls
stopped s t l places = record { made = 0; state = s; table = t; log = l; places = places }

-- m, behind i calls that filled the front
abbrev behind : ℕ → List ℕ → MadeCalls → MadeCalls
behind i front m = record {
  made = i + m.made;
  state = m.state;
  table = m.table;
  log = m.log;
  places = front ++ m.places;
}

moved_on_lem : (i : ℕ) (front : List ℕ) (a : ℕ) (m : MadeCalls) → behind i front (behind 1 (a ∷ []) m) ≡ behind (suc i) (front ++ (a ∷ [])) m
moved_on_lem i front a m =
    let e : i + (1 + m.made) ≡ suc i + m.made = omega arith in
    λ j. record {
      made = e j;
      state = m.state;
      table = m.table;
      log = m.log;
      places = sym (append_assoc front (a ∷ []) m.places) j;
    }

module _ (R : Rules) (s : State) (t l : List ℕ) where
  no_words : (places : List ℕ) → made_of R s t l [] places ≡ stopped s t l places
  unfolding made_of calls_in run_of
  no_words places = refl

  no_places : (w : ℕ) (ws : List ℕ) → made_of R s t l (w ∷ ws) [] ≡ stopped s t l []
  unfolding made_of calls_in run_of
  no_places w ws = refl

  no_call : (w : ℕ) (ws : List ℕ) (a : ℕ) (places : List ℕ) → is_call w ≡ false
      → made_of R s t l (w ∷ ws) (a ∷ places) ≡ stopped s t l (a ∷ places)
  unfolding made_of calls_in run_of
  no_call w ws a places e = rw e

  one_call : (w : ℕ) (ws : List ℕ) (a : ℕ) (places : List ℕ) → is_call w ≡ true
      → made_of R s t l (w ∷ ws) (a ∷ places)
      ≡ (let o = call_of R s t l (call_in w) in
      behind 1 (answer_word o.answer ∷ []) (made_of R o.state o.table o.log ws places))
  unfolding made_of calls_in run_of
  one_call w ws a places e =
      let o = call_of R s t l (call_in w) in
      let m = made_of R o.state o.table o.log ws places in
      let z : suc m.made ≡ 1 + m.made = omega arith in
      rw e (λ j. record {
        made = z j;
        state = m.state;
        table = m.table;
        log = m.log;
        places = answer_word o.answer ∷ m.places;
      })

-- The calls from place i on, where the places before it have their answers.
abbrev pub onward : Rules → State → List ℕ → List ℕ → List ℕ → List ℕ → ℕ → MadeCalls
onward R s t l words places i = behind i (take i places) (made_of R s t l (drop i words) (drop i places))

module _ (R : Rules) (s : State) (t l words places : List ℕ) where
  pub starts : onward R s t l words places 0 ≡ made_of R s t l words places
  starts =
      let m = made_of R s t l words places in
      let z : 0 + m.made ≡ m.made = omega arith in
      λ j. record { made = z j; state = m.state; table = m.table; log = m.log; places = m.places }

module _ (R : Rules) (s : State) (t l words places : List ℕ) (i : ℕ) where
  stops : made_of R s t l (drop i words) (drop i places) ≡ stopped s t l (drop i places)
      → onward R s t l words places i ≡ made_calls (record { made = i; state = s }) t l places
  stops e =
      rw (e, take-append-drop i places)
      (ap (λ (k : ℕ). made_calls (record { made = k; state = s }) t l places) (let z : i + 0 ≡ i = omega arith in z))

  stops_end : length words ≤ i → made_of R s t l (drop i words) (drop i places) ≡ stopped s t l (drop i places)
  stops_end h = rw (drop_of_length-le words h) (no_words R s t l (drop i places))

  stops_full : i < length words → length places ≤ i → made_of R s t l (drop i words) (drop i places) ≡ stopped s t l (drop i places)
  stops_full h k = rw (drop_of_length-le places k, drop-cons words i 0 h) (no_places R s t l _ _)

  -- at the end of the words or of the places
  pub stops_here : i ≡ min (length words) (length places)
      → onward R s t l words places i ≡ made_calls (record { made = i; state = s }) t l places
  stops_here e = stops (elim (dec_lt i (length words)) [ yes h ↦ stops_full h (omega arith) | no h ↦ stops_end (omega arith) ])

  module _ (h : i < length words) (k : i < length places) where
    -- at a word that is no call
    pub stops_word : is_call (get_or words i 0) ≡ false
        → onward R s t l words places i ≡ made_calls (record { made = i; state = s }) t l places
    stops_word e = stops (rw (drop-cons places i 0 k, drop-cons words i 0 h) (no_call R s t l _ _ _ _ e))

    goes_on : is_call (get_or words i 0) ≡ true
        → onward R s t l words places i
        ≡ (let o = call_of R s t l (call_in (get_or words i 0)) in
        onward R o.state o.table o.log words (set places i (answer_word o.answer)) (suc i))
    goes_on e =
        let o = call_of R s t l (call_in (get_or words i 0)) in
        let x = answer_word o.answer in
        let m = made_of R o.state o.table o.log (drop (suc i) words) (drop (suc i) places) in
        let once : made_of R s t l (drop i words) (drop i places) ≡ behind 1 (x ∷ []) m
        = rw (drop-cons places i 0 k, drop-cons words i 0 h) (one_call R s t l _ _ _ _ e) in
        ap (behind i (take i places)) once
        ∙ rw (take-suc-set places i x k, drop-set-lt (suc i) places i x (omega arith)) (moved_on_lem i (take i places) x m)

    -- one call further
    pub calls_next : is_call (get_or words i 0) ≡ true → (c : Called) (t' l' : List ℕ) (a : ℕ)
        → outcome c t' l' ≡ call_of R s t l (call_in (get_or words i 0)) → a ≡ answer_word c.answer
        → onward R c.state t' l' words (set places i a) (i + 1) ≡ onward R s t l words places i
    calls_next e c t' l' a o f =
        rw (f, add-one i)
        (ap (λ (o : Outcome). onward R o.state o.table o.log words (set places i (answer_word o.answer)) (suc i)) o
        ∙ sym (goes_on e))

-- A run: set-up, and its calls.
module _ (R : Rules) (n v fresh : ℕ) (t l : List ℕ) (c : Called) (t' l' : List ℕ) (o : outcome c t' l' ≡ set_up_of R n v fresh t l) where
  pub answer_set_up : OfSetUp c.answer
  answer_set_up = subst (λ (q : Outcome). OfSetUp q.answer) (sym o) (set_up_answer R n v fresh t l)

module _ (R : Rules) (n v fresh : ℕ) (t l words places : List ℕ) where
  module _ (c : Called) (t' l' : List ℕ) (o : outcome c t' l' ≡ set_up_of R n v fresh t l) where
    runs_on : answer_word c.answer ≡ 0 → made_of R c.state t' l' words places ≡ run_words_of R n v fresh words t l places
    unfolding run_words_of
    runs_on e = rw (← o, eq-eqb (answer_word c.answer) 0 e)

    pub runs_not : answer_word c.answer ≢ 0 → made_calls (record { made = 0; state = c.state }) t' l' places ≡ run_words_of R n v fresh words t l places
    unfolding run_words_of
    runs_not e = rw (← o, ne_eqb (answer_word c.answer) 0 e) (sym (no_words R c.state t' l' places))

  module _ {Stamp Cell : Type 0} (B : Telling Stamp Cell) (W : List Call → Type 0)
      (as_book : (cs : List Call) → LowCalls cs → AsBook R B n v fresh t l cs) (own : (cs : List Call) → LowCalls cs → W cs) where
    whole_made : WholeRun R B W n v fresh t l words places (let o = set_up_of R n v fresh t l in made_of R o.state o.table o.log words places)
    unfolding made_of
    whole_made =
        let w = as_book (calls_in words places) (low_calls words places) in
        record {
          made_is = refl;
          answers_are = ap (λ (a : List Answer). map answer_word a ++ drop (length (calls_in words places)) places) w.answers_are;
          cells_are = w.cells_are;
          used_is = w.used_is;
          rows_are = w.rows_are;
          retired_are = w.retired_are;
          opens_is = w.opens_is;
          opens_in_book = w.opens_in_book;
          cells_beyond = w.cells_beyond;
          rows_beyond = w.rows_beyond;
          ordered = subst (λ (rows : List ℕ). (o : List ℕ) × Orders rows o) (sym w.rows_are) w.ordered;
          no_bands = subst (λ (rows : List ℕ). NoBands rows) (sym w.rows_are) w.no_bands;
          never_older = never_older _ (subst (λ (rows : List ℕ). T (well_formed rows)) (sym w.rows_are) w.formed);
          whole = λ k. own (take k (calls_in words places)) (low_take k (calls_in words places) (low_calls words places));
        }

    pub whole_run : (m : MadeCalls) → m ≡ run_words_of R n v fresh words t l places → (set_up_of R n v fresh t l).answer ≡ Ok Accepted
        → WholeRun R B W n v fresh t l words places m
    unfolding run_words_of
    whole_run m q e =
        let o = set_up_of R n v fresh t l in
        let f : run_words_of R n v fresh words t l places ≡ made_of R o.state o.table o.log words places = rw e in
        subst (λ (m : MadeCalls). WholeRun R B W n v fresh t l words places m) (sym (q ∙ f)) whole_made

-- The calls of a set-up's state are those of its kind.
pub runs_kind : (R : Rules) → rules_of R.counted ≡ R → (n v fresh : ℕ) (t l words places : List ℕ) (c : Called) (t' l' : List ℕ)
    → outcome c t' l' ≡ set_up_of R n v fresh t l → answer_word c.answer ≡ 0
    → made_of (rules_of c.state.head.counted) c.state t' l' words places ≡ run_words_of R n v fresh words t l places
runs_kind R of_kind n v fresh t l words places c t' l' o e =
    let kind = ap (λ (x : Outcome). x.state.head.counted) o ∙ kind_made R n v fresh t l in
    ap (λ (d : Bool). made_of (rules_of d) c.state t' l' words places) kind
    ∙ ap (λ (Q : Rules). made_of Q c.state t' l' words places) of_kind
    ∙ runs_on R n v fresh t l words places c t' l' o e
