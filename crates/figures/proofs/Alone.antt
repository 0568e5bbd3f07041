-- Operations that run alone: from a book in which none is open, one behind the other, to one in which none is.
use Rattle.std.specs.Prelude.{Ok}
use Prim.Native.Nat.{ℕ, zero, suc, ◌+◌, ◌*◌, ◌≤◌}
use mathlib.Core.Path.{◌≡◌, refl, sym, ap, subst, ◌∙◌}
use mathlib.Core.Logic.{◌≢◌}
use mathlib.Core.Bool.{Bool, false}
use mathlib.Core.List.{List, []}
use native.Mathlib.Omega.{arith}
use native.Mathlib.Decide.{ℕ_discrete}
use native.Mathlib.Nat.{mul-add, mul-suc}
use Rattle.words.specs.Counting.{one}
use Rattle.words.proofs.Laws.Update.{upd_same, upd_other}
use Rattle.common.specs.Calls.{is_retirement}
use Rattle.common.specs.declared.calls.Call.{Call}
use Rattle.common.specs.declared.calls.Call.TheVariants.{Write as write, Read as read, Step as step}
use Rattle.common.specs.declared.Done.TheVariants.{Moved}
use Rattle.common.specs.Book.{Operation, idle, open_with, is_open, Model, Turn, Telling, Told, begun, entered, told, kept}
use Rattle.common.proofs.Counts.{write_told, read_told}
use Rattle.figures.specs.Counts.{NoRetirement, write_begun, writes_in}
use Rattle.figures.proofs.Lists.{Leads, nothing, call, join, counted_as, list_ind}
use Rattle.figures.proofs.Cases.{size, cases, write_begins, read_begins}
use Rattle.figures.proofs.Rows.{list_size}
use Rattle.figures.proofs.CostModel.{left, CostModel}
use Rattle.figures.proofs.Spending.{read_left, AllOk, call_spends, list_spends}

-- What holds of a book with so many writes to come, and lets each begin: the stamps last.
pub record Lasts {Stamp Cell : Type 0} (B : Telling Stamp Cell) (n len : ℕ) : Type 1 where
  pub Can : ℕ → Model Stamp Cell → Type 0
  pub can_begin : (g : ℕ) (b : Model Stamp Cell) → Can (suc g) b → is_open (b.op 0) ≡ false → B.spent (b.stamp 0) ≡ false
  pub can_call : (g : ℕ) (b : Model Stamp Cell) (c : Call) → is_retirement c ≡ false → Can (one (write_begun c (told B n len b c).answer) + g) b → Can g (told B n len b c).model

module _ {Stamp Cell : Type 0} (B : Telling Stamp Cell) (n len W R L : ℕ) (M : CostModel B n W R L) (S : Lasts B n len) where
  abbrev pub Lead : Model Stamp Cell → Model Stamp Cell → ℕ → ℕ → ℕ → Type 0
  Lead = Leads B n len

  abbrev next : Model Stamp Cell → Call → Model Stamp Cell
  next b c = (told B n len b c).model

  -- behind j begins, with g writes to come
  pub record At (g j : ℕ) (b : Model Stamp Cell) : Type 0 where
    pub ok : AllOk B n len W R L M b
    pub free : (p : ℕ) → b.retired p ≡ false
    pub can : S.Can g b
    pub size_is : size B n len b ≡ 1 + 2 * j

  same_retired : (b : Model Stamp Cell) (c : Call) → is_retirement c ≡ false → (next b c).retired ≡ b.retired
  same_retired b = cases B n len b (λ _ x. x.model.retired ≡ b.retired) (record {
    refused = λ _ _ _. refl;
    full = λ _ _. refl;
    write_begun_lem = λ _ _ _. refl;
    read_begun_lem = λ _ _ _ _ _ _. refl;
    write_moved = λ _ _ _ _. refl;
    read_moved = λ _ _ _ _ _ _ _ _. refl;
  })

  retired_list : (cs : List Call) (b : Model Stamp Cell) → NoRetirement cs → (kept B n len b cs).model.retired ≡ b.retired
  retired_list cs b h =
      (list_ind B n len (λ b b' w r x. b'.retired ≡ b.retired) (λ _. Unit {0}) (λ _. refl) (λ b c e _. (tt, same_retired b c e))
      (λ _ _ _ _ _ _ _ _ _ e f. f ∙ e) cs b h tt).1

  can_list : (cs : List Call) (b : Model Stamp Cell) → NoRetirement cs → (g : ℕ) → S.Can (writes_in cs (kept B n len b cs).answers + g) b → S.Can g (kept B n len b cs).model
  can_list cs b h =
      (list_ind B n len (λ b b' w r x. (g : ℕ) → S.Can (w + g) b → S.Can g b') (λ _. Unit {0}) (λ b g c. subst (λ (k : ℕ). S.Can k b) (omega arith) c)
      (λ b c e _. (tt, λ g z. S.can_call g b c e z))
      (λ b b' b'' w r x w' r' x' P Q g z. Q g (P (w' + g) (subst (λ (k : ℕ). S.Can k b) (omega arith) z))) cs b h tt).1

  pub at_led : {b b' : Model Stamp Cell} {w r x g j : ℕ} (g' j' : ℕ) → Lead b b' w r x → At g j b → g ≡ w + g' → j + w + r ≡ j' → At g' j' b'
  at_led {b} {b'} {w} {r} {x} {g} {j} g' j' P A e f = subst (At g' j') P.last_is (record {
    ok = (list_spends B n len W R L M P.cs b P.none_retired A.ok).0;
    free = λ p. ap (λ (f : ℕ → Bool). f p) (retired_list P.cs b P.none_retired) ∙ A.free p;
    can = can_list P.cs b P.none_retired g' (subst (λ (k : ℕ). S.Can k b) (e ∙ ap (λ (k : ℕ). k + g') (sym P.writes_are)) A.can);
    size_is = omega (arith, list_size B n len P.cs b P.none_retired, A.size_is, P.writes_are, P.reads_are);
  })

  -- from b by calls of processor p alone, behind which it is idle
  pub record Goes (p : ℕ) (b : Model Stamp Cell) (w r x : ℕ) : Type 0 where
    pub to : Model Stamp Cell
    pub lead : Lead b to w r x
    pub others : (q : ℕ) → q ≢ p → to.op q ≡ b.op q
    pub shut : is_open (to.op p) ≡ false

  -- a call in front
  in_front : (p : ℕ) {b d : Model Stamp Cell} {w r x w' r' x' : ℕ} → Lead b d w r x → ((q : ℕ) → q ≢ p → d.op q ≡ b.op q)
      → Goes p d w' r' x' → Goes p b (w + w') (r + r') (x + x')
  in_front p l same z = record { to = z.to; lead = join B n len l z.lead; others = λ q ne. z.others q ne ∙ same q ne; shut = z.shut }

  -- Processor p's operation, of which so many words are to come by a measure that each of its sub-steps lowers by one, runs to its end.
  module _ (p : ℕ) (toCome : Model Stamp Cell → ℕ) where
    record Steps (k : ℕ) (b : Model Stamp Cell) : Type 0 where
      number : ℕ
      turn : Turn Stamp Cell
      kind : ℕ
      told_is : told B n len b (step p) ≡ record { answer = Ok (Moved number); model = entered b p kind turn }
      to_come : toCome (entered b p kind turn) ≡ k

    module _ (ends : (b : Model Stamp Cell) → AllOk B n len W R L M b → toCome b ≡ 0 → is_open (b.op p) ≡ false)
        (turns : (k : ℕ) (b : Model Stamp Cell) → AllOk B n len W R L M b → ((q : ℕ) → b.retired q ≡ false) → toCome b ≡ suc k → Steps k b) where
      run : (k : ℕ) (b : Model Stamp Cell) → AllOk B n len W R L M b → ((q : ℕ) → b.retired q ≡ false) → toCome b ≡ k → Goes p b 0 0 k
      run zero b ok free e = record { to = b; lead = nothing B n len b; others = λ _ _. refl; shut = ends b ok e }
      run (suc k) b ok free e =
          let t = turns k b ok free e in
          let d = entered b p t.kind t.turn in
          subst (Goes p b 0 0) (omega arith)
          (in_front p (call B n len b (step p) _ refl t.told_is) (λ q ne. upd_other b.op p t.turn.op q ne)
          (run k d (subst (λ (z : Told Stamp Cell). AllOk B n len W R L M z.model) t.told_is (call_spends B n len W R L M b ok (step p) refl).0) free t.to_come))

  -- the writer's
  writer_ends_lem : (b : Model Stamp Cell) → AllOk B n len W R L M b → left W (b.op 0) ≡ 0 → is_open (b.op 0) ≡ false
  writer_ends_lem b ok e = at (b.op 0) ok.writer e
    where
      at : (o : Operation Cell) → M.WOk o → left W o ≡ 0 → is_open o ≡ false
      at idle is e = refl
      at (open_with v m cells) is e = absurd (omega (arith, M.write_left b.table (b.stamp 0) v m cells is))

  writer_turns_lem : (k : ℕ) (b : Model Stamp Cell) → AllOk B n len W R L M b → ((q : ℕ) → b.retired q ≡ false) → left W (b.op 0) ≡ suc k
      → Steps 0 (λ (d : Model Stamp Cell). left W (d.op 0)) k b
  writer_turns_lem k b ok free e = at (b.op 0) refl
    where
      at : (o : Operation Cell) → b.op 0 ≡ o → Steps 0 (λ (d : Model Stamp Cell). left W (d.op 0)) k b
      at idle i = absurd (omega (arith, ap (left W) i))
      at (open_with v m cells) i =
          let x = B.write_turn n b.table (b.stamp 0) v m cells in
          record {
            number = m + 1;
            turn = x;
            kind = 2;
            told_is = write_told B n len b _ (free 0) i;
            to_come = omega (arith, ap (left W) (upd_same b.op 0 x.op), ap (left W) i, M.write_left b.table (b.stamp 0) v m cells (subst M.WOk i ok.writer));
          }

  pub run_writer : (b : Model Stamp Cell) → AllOk B n len W R L M b → ((q : ℕ) → b.retired q ≡ false) → Goes 0 b 0 0 (left W (b.op 0))
  run_writer b ok free = run 0 (λ (d : Model Stamp Cell). left W (d.op 0)) writer_ends_lem writer_turns_lem (left W (b.op 0)) b ok free refl

  -- a reader's, with those of a second attempt that is to come
  module _ (p : ℕ) (p1 : 1 ≤ p) (pn : p ≤ n) where
    abbrev pub to_read : Model Stamp Cell → ℕ
    to_read b = read_left B n len W R L M p (b.op p) + L * M.stale p b.table (b.op p)

    reader_falls : (t : List ℕ) (s : Stamp) (v m : ℕ) (cells : List Cell) → M.ROk (open_with v m cells)
        → let x = B.read_turn n p t s m cells in
        read_left B n len W R L M p x.op + L * M.stale p x.table x.op + 1
        ≡ read_left B n len W R L M p (open_with v m cells) + L * M.stale p t (open_with v m cells)
    reader_falls t s v m cells is =
        let x = B.read_turn n p t s m cells in
        omega (
          arith,
          M.left_read p p1 pn t s v m cells is,
          ap (λ (k : ℕ). L * k) (M.read_stale p p1 pn t s v m cells is),
          mul-add L (M.late p t m cells) (M.stale p x.table x.op),
        )

    reader_ends : (b : Model Stamp Cell) → AllOk B n len W R L M b → to_read b ≡ 0 → is_open (b.op p) ≡ false
    reader_ends b ok e = at (b.op p) (ok.reader p p1 pn) e
      where
        at : (o : Operation Cell) → M.ROk o → read_left B n len W R L M p o + L * M.stale p b.table o ≡ 0 → is_open o ≡ false
        at idle is e = refl
        at (open_with v m cells) is e = absurd (omega (arith, reader_falls b.table (b.stamp p) v m cells is))

    reader_turns_lem : (k : ℕ) (b : Model Stamp Cell) → AllOk B n len W R L M b → ((q : ℕ) → b.retired q ≡ false) → to_read b ≡ suc k → Steps p to_read k b
    reader_turns_lem k b ok free e = at (b.op p) refl (ok.reader p p1 pn) e
      where
        at : (o : Operation Cell) → b.op p ≡ o → M.ROk o → read_left B n len W R L M p o + L * M.stale p b.table o ≡ suc k → Steps p to_read k b
        at idle i is e = absurd (omega (arith, ap (λ (k : ℕ). L * k) (M.stale_idle p b.table)))
        at (open_with v m cells) i is e =
            let x = B.read_turn n p b.table (b.stamp p) m cells in
            record {
              number = m + 1;
              turn = x;
              kind = 4;
              told_is = read_told B n len b p _ p1 pn (free p) i;
              to_come = rw (upd_same b.op p x.op) (omega (arith, reader_falls b.table (b.stamp p) v m cells is));
            }

    pub run_reader : (b : Model Stamp Cell) → AllOk B n len W R L M b → ((q : ℕ) → b.retired q ≡ false) → Goes p b 0 0 (to_read b)
    run_reader b ok free = run p to_read reader_ends reader_turns_lem (to_read b) b ok free refl

    -- a read alone
    pub read_alone : (g j : ℕ) (b : Model Stamp Cell) → At g j b → is_open (b.op p) ≡ false → 2 * j + 3 ≤ len → Goes p b 0 1 R
    read_alone g j b A shut room =
        let l = call B n len b (read p) _ refl (read_begins B n len b p p1 pn (A.free p) shut (omega (arith, A.size_is))) in
        let d = (begun b p 3 0).model in
        let A' = at_led g (j + 1) l A (omega arith) (omega arith) in
        let words : 0 + to_read d ≡ R = rw (upd_same b.op p (open_with 0 0 [])) (omega (arith, ap (λ (k : ℕ). L * k) M.second_begun, ap (λ (k : ℕ). L * k) (M.stale_begun p b.table))) in
        subst (Goes p b 0 1) words (in_front p l (λ q ne. upd_other b.op p (open_with 0 0 []) q ne) (run_reader d A'.ok A'.free))

  -- a write alone
  pub write_alone : (g j : ℕ) (b : Model Stamp Cell) → At (suc g) j b → is_open (b.op 0) ≡ false → 2 * j + 3 ≤ len → Goes 0 b 1 0 W
  write_alone g j b A shut room =
      let l = call B n len b (write 0) _ refl (write_begins B n len b 0 shut (omega (arith, A.size_is)) (S.can_begin g b A.can shut)) in
      let d = (begun b 0 1 0).model in
      let A' = at_led g (j + 1) l A (omega arith) (omega arith) in
      let words : 0 + left W (d.op 0) ≡ W = omega (arith, ap (left W) (upd_same b.op 0 (open_with 0 0 []))) in
      subst (Goes 0 b 1 0) words (in_front 0 l (λ q ne. upd_other b.op 0 (open_with 0 0 []) q ne) (run_writer d A'.ok A'.free))

  -- none is open
  abbrev pub Quiet : Model Stamp Cell → Type 0
  Quiet b = (p : ℕ) → p ≤ n → is_open (b.op p) ≡ false

  pub record Reaches (b : Model Stamp Cell) (w r x : ℕ) : Type 0 where
    pub to : Model Stamp Cell
    pub lead : Lead b to w r x
    pub quiet : Quiet to

  goes_quiet : (p : ℕ) (b : Model Stamp Cell) {w r x : ℕ} → Quiet b → (g : Goes p b w r x) → Quiet g.to
  goes_quiet p b Q g q h = elim (ℕ_discrete q p) [
    | yes e ↦ subst (λ (z : ℕ). is_open (g.to.op z) ≡ false) (sym e) g.shut
    | no e ↦ ap is_open (g.others q e) ∙ Q q h
  ]

  pub goes_on : {b : Model Stamp Cell} {w r x w' r' x' : ℕ} (d : Model Stamp Cell) → Lead b d w r x → Reaches d w' r' x' → Reaches b (w + w') (r + r') (x + x')
  goes_on d l z = record { to = z.to; lead = join B n len l z.lead; quiet = z.quiet }

  pub reaches_as : {b : Model Stamp Cell} {w r x : ℕ} (w' r' x' : ℕ) → Reaches b w r x → w ≡ w' → r ≡ r' → x ≡ x' → Reaches b w' r' x'
  reaches_as w' r' x' z e f g = record { to = z.to; lead = counted_as B n len w' r' x' z.lead e f g; quiet = z.quiet }

  -- one behind the other
  pub reads_alone : 1 ≤ n → (r j : ℕ) (b : Model Stamp Cell) → At 0 j b → Quiet b → 2 * (j + r) + 1 ≤ len → Reaches b 0 r (R * r)
  reads_alone pos zero j b A Q h = reaches_as 0 0 (R * 0) (record { to = b; lead = nothing B n len b; quiet = Q }) refl refl (omega arith)
  reads_alone pos (suc r) j b A Q h =
      let g = read_alone 1 (omega arith) pos 0 j b A (Q 1 pos) (omega arith) in
      let z = reads_alone pos r (j + 1) g.to (at_led 0 (j + 1) g.lead A (omega arith) (omega arith)) (goes_quiet 1 b Q g) (omega arith) in
      reaches_as 0 (suc r) (R * suc r) (goes_on g.to g.lead z) refl (omega arith) (omega (arith, mul-suc R r))

  pub writes_alone : (w j : ℕ) (b : Model Stamp Cell) → At w j b → Quiet b → 2 * (j + w) + 1 ≤ len → Reaches b w 0 (W * w)
  writes_alone zero j b A Q h = reaches_as 0 0 (W * 0) (record { to = b; lead = nothing B n len b; quiet = Q }) refl refl (omega arith)
  writes_alone (suc w) j b A Q h =
      let g = write_alone w j b A (Q 0 (omega arith)) (omega arith) in
      let z = writes_alone w (j + 1) g.to (at_led w (j + 1) g.lead A (omega arith) (omega arith)) (goes_quiet 0 b Q g) (omega arith) in
      reaches_as (suc w) 0 (W * suc w) (goes_on g.to g.lead z) (omega arith) refl (omega (arith, mul-suc W w))

  -- writes, and then reads
  pub all_alone : 1 ≤ n → (w r j : ℕ) (b : Model Stamp Cell) → At w j b → Quiet b → 2 * (j + w + r) + 1 ≤ len → Reaches b w r (W * w + R * r)
  all_alone pos w r j b A Q h =
      let y = writes_alone w j b A Q (omega arith) in
      let z = reads_alone pos r (j + w) y.to (at_led 0 (j + w) y.lead A (omega arith) (omega arith)) y.quiet (omega arith) in
      reaches_as w r (W * w + R * r) (goes_on y.to y.lead z) (omega arith) (omega arith) refl
