-- A turn of a reader: its record and the table against the book's.
use Prim.Native.Nat.{ℕ, ◌+◌, ◌-◌, ◌*◌, ◌≤◌, ◌<◌}
use mathlib.Core.Path.{◌≡◌, refl, sym, ap, ◌∙◌}
use mathlib.Core.List.{List, [], ◌∷◌, ◌++◌}
use native.Mathlib.Omega.{arith}
use lib.ListN.{length, length-set}
use Rattle.words.specs.declared.stamp.Stamp.{Stamp}
use Rattle.words.specs.declared.cell.Cell.{Cell}
use Rattle.words.specs.Choice.{pick}
use Rattle.words.specs.Cell.{unpack_cell}
use Rattle.words.specs.Index.{Pair, other}
use Rattle.words.proofs.Laws.Choice.{lt_two, eq_two, never}
use Rattle.words.proofs.Laws.Index.{other_valid}
use Rattle.common.specs.declared.Reader.{Reader}
use Rattle.common.specs.Rules.{ReadStep}
use Rattle.common.proofs.Lawful.{RTurnRel}
use Rattle.common.proofs.Places.{word_front, store_front}
use Rattle.protocol.specs.Table.{store}
use Rattle.protocol.specs.Read.{looks_first, moved_on, looks_again, looks_at_other, looks_third, word_at, attempt_step, result_step, since, read_step}
use Rattle.protocol.specs.Reference.{Turn, result_of, failed, reads_from, stores_to, attempt_turn, result_turn, read_turn, book}
use Rattle.protocol.specs.Rules.{ticket_rules}
use Rattle.protocol.proofs.Table.{places}
use Rattle.protocol.proofs.Seen.{failed_keep}
use Rattle.protocol.proofs.ReaderRel.{RRel, RIs}
use Rattle.protocol.proofs.WriterRel.{WIs}
use Rattle.protocol.proofs.ReaderAttempt.{rel_first, rel_announced, rel_again, rel_other, rel_third}

-- A store.
rel_put : (n : ℕ) (r : Reader) (m : ℕ) (cells : List Cell) (R : RRel n r m cells) → n + 3 ≤ R.l → RRel n (moved_on r) (m + 1) cells
rel_put n r m cells R h = record {
  late = R.late;
  l = R.l + 1;
  active_is = refl;
  moved_is = omega (arith, R.moved_is);
  second_is = R.second_is;
  failed_is = failed_keep n m cells R.late (omega (arith, R.at)) R.failed_is;
  at = omega (arith, R.at);
  trying = λ q. absurd (omega arith);
  storing = λ _. R.storing h;
}

module _ (n p : ℕ) (nl : 1 ≤ n) (p1 : 1 ≤ p) (pn : p ≤ n) (T X : List ℕ) (size : length T ≡ n * n + n) (r : Reader) (st : Stamp) (m : ℕ)
    (cells : List Cell) (R : RRel n r m cells) (stamp_is : r.stamp ≡ st) where
  abbrev P : ReadStep → Turn → Type 0
  P = RTurnRel ticket_rules book WIs RIs n X

  from_writer : word_at n (T ++ X) 0 p ≡ word_at n T 0 p
  from_writer = word_front (places n) T X size 0 p (omega arith)

  to_writer : Pair n p 0
  to_writer = omega arith

  -- A word read, in the longer table.
  looks : (f : Reader → ℕ → Reader) (q : ℕ) → word_at n (T ++ X) q p ≡ word_at n T q p → ((w : ℕ) → (f (moved_on r) w).stamp ≡ r.stamp)
      → ((w : ℕ) → RRel n (f (moved_on r) w) (m + 1) (cells ++ (unpack_cell w ∷ [])))
      → P (record { reader = f (moved_on r) (word_at n (T ++ X) q p); table = T ++ X }) (reads_from n p T st m cells q)
  looks f q e es k = rw e (record { table_is = refl; size_is = size; is = record { stamp_is = es _ ∙ stamp_is; op = k (word_at n T q p) }; value_is = λ e. never e })

  stores_word : (q : ℕ) (c d : Cell) → c ≡ d → Pair n p q → RRel n (moved_on r) (m + 1) cells
      → P (record { reader = moved_on r; table = store n (T ++ X) p q c }) (stores_to n p T st m cells q d)
  stores_word q c d e v R' = record {
    table_is = store_front (places n) T X size p q v c ∙ ap (λ (y : Cell). store n T p q y ++ X) e;
    size_is = simp length-set size;
    is = record { stamp_is = stamp_is; op = R' };
    value_is = λ e. never e;
  }

  tries : (h : R.l < n + 3) → P (attempt_step n p R.l r (T ++ X)) (attempt_turn n p T st m cells R.l (pick R.late (n + 2) 0))
  unfolding attempt_step attempt_turn
  tries h =
      eq_two P R.l 0 _ _ _ _ (λ z. looks looks_first 0 from_writer (λ _. refl) (λ w. rel_first n nl r m cells R h w z)) λ n0.
      eq_two P R.l 1 _ _ _ _
      (λ z.
      let e = (R.trying h).look_is (omega arith) in
      stores_word 0 _ _ (λ i. record { value = 0; stamp = stamp_is i; announced = (e i).stamp }) to_writer (rel_announced n nl r m cells R h z)) λ n1.
      eq_two P R.l 2 _ _ _ _ (λ z. looks looks_again 0 from_writer (λ _. refl) (λ w. rel_again n nl r m cells R h w z)) λ n2.
      lt_two P R.l (n + 2) _ _ _ _
      (λ g.
      let o = other_valid n p (R.l - 3) p1 pn (omega arith) in
      looks looks_at_other (other p (R.l - 3))
      (word_front (places n) T X size (other p (R.l - 3)) p (record { from = o.1; dest = pn; apart = λ e. o.2 (sym e) }))
      (λ _. refl) (λ w. rel_other n nl r m cells R h w (omega arith) g))
      (λ g. looks looks_third 0 from_writer (λ _. refl) (λ w. rel_third n nl r m cells R h w (omega arith)))

  puts : (h : n + 3 ≤ R.l)
      → P (result_step n p (R.l - (n + 3)) r (T ++ X))
      (result_turn n p T st m cells (R.l - (n + 3)) (result_of n cells (pick R.late (n + 2) 0)))
  unfolding result_step result_turn
  puts h =
      rw (← R.storing h)
      (lt_two P (R.l - (n + 3) + 1) n _ _ _ _
      (λ g.
      let o = other_valid n p (R.l - (n + 3)) p1 pn g in
      stores_word (other p (R.l - (n + 3))) _ _ refl (record { from = pn; dest = o.1; apart = o.2 }) (rel_put n r m cells R h))
      (λ g. record {
        table_is = store_front (places n) T X size p 0 to_writer _;
        size_is = simp length-set size;
        is = record { stamp_is = refl; op = refl };
        value_is = λ _. refl;
      }))

  since_is : since n r ≡ R.l
  since_is = rw (R.moved_is, R.second_is) (omega (arith, R.at))

  at_is : m - pick (failed n m cells) (n + 3) 0 ≡ R.l
  at_is = rw R.failed_is (omega (arith, R.at))

  pub turn_r_rel : P (read_step n p r (T ++ X)) (read_turn n p T st m cells)
  unfolding read_step read_turn
  turn_r_rel = rw (since_is, at_is, R.failed_is) (lt_two P R.l (n + 3) _ _ _ _ tries puts)
