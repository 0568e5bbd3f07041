-- The rows of a well-formed log by their fields, and a processor's open operation.
use Prim.Native.Nat.{ℕ, suc, zero, ◌≤◌, ◌<◌}
use native.Mathlib.Omega.{arith}
use native.Mathlib.Decide.{ℕ_discrete}
use mathlib.Core.Path.{◌≡◌, refl, ◌∙◌, sym}
use mathlib.Core.Bool.{Bool, not, ◌||◌}
use mathlib.Core.Logic.{◌⊎◌, inl, inr, ◌≢◌}
use mathlib.Core.List.{List}
use lib.Dec.{T, T_not, eqb, leb, eqb→eq, leb→le, ltb→lt}
use lib.ListN.{get_or}
use Rattle.words.specs.Choice.{pick}
use Rattle.words.proofs.Laws.Choice.{pick_T, eq→T, T-left, T-right, T→true, not→false}
use Rattle.history.specs.Rows.{kind_told, kind_of, kind_at, processor_at, zero_at, value_at, begins_at, begins}
use Rattle.history.specs.WellFormed.{open_at, is_reader, fields, fields_ok, alternates, row_ok, all}

-- What a well-formed row says.
pub record RowOk (log : List ℕ) (k : ℕ) : Type 0 where
  pub low : 1 ≤ kind_at log k
  pub high : kind_at log k ≤ 4
  pub clear : zero_at log k ≡ 0
  pub silent : 2 ≤ kind_at log k → kind_at log k ≤ 3 → value_at log k ≡ 0
  pub writer : kind_at log k ≤ 2 → processor_at log k ≡ 0
  pub reader : 3 ≤ kind_at log k → (1 ≤ processor_at log k) × (processor_at log k ≤ processor_at log 0)
  pub begins : (kind_at log k ≡ 1) ⊎ (kind_at log k ≡ 3) → open_at log (processor_at log k) k ≡ 0
  pub ends : (kind_at log k ≡ 2) ⊎ (kind_at log k ≡ 4) → 0 < open_at log (processor_at log k) k

-- A begin, by its kind.
pub begin_is : (log : List ℕ) (k : ℕ) → begins_at log k ≡ (eqb (kind_at log k) 1 || eqb (kind_at log k) 3)
unfolding begins kind_at
begin_is log k = refl

begin_T : (log : List ℕ) (k : ℕ) → (kind_at log k ≡ 1) ⊎ (kind_at log k ≡ 3) → T (begins_at log k)
begin_T log k (inl e) = rw (begin_is log k, e) tt
begin_T log k (inr e) = rw (begin_is log k, e) tt

end_T : (log : List ℕ) (k : ℕ) → (kind_at log k ≡ 2) ⊎ (kind_at log k ≡ 4) → T (not (begins_at log k))
end_T log k (inl e) = rw (begin_is log k, e) tt
end_T log k (inr e) = rw (begin_is log k, e) tt

-- What the fields say, by the kind that they tell.
pub record Fields (k p z v n : ℕ) : Type 0 where
  pub low : 1 ≤ k
  pub high : k ≤ 4
  pub clear : z ≡ 0
  pub silent : 2 ≤ k → k ≤ 3 → v ≡ 0
  pub writer : k ≤ 2 → p ≡ 0
  pub reader : 3 ≤ k → (1 ≤ p) × (p ≤ n)

reader→ : (p n : ℕ) → T (is_reader p n) → (1 ≤ p) × (p ≤ n)
reader→ p n t = (leb→le 1 p (T-left (leb 1 p) _ t), leb→le p n (T-right (leb 1 p) _ t))

end_fields : (p z v n : ℕ) → z ≡ 0 → T (is_reader p n) → Fields 4 p z v n
end_fields p z v n c t = record {
  low = omega arith;
  high = omega arith;
  clear = c;
  silent = λ x y. absurd (omega arith);
  writer = λ x. absurd (omega arith);
  reader = λ _. reader→ p n t;
}

pub fields→ : (k p z v n : ℕ) → T (fields k p z v n) → Fields (kind_told k) p z v n
unfolding fields
fields→ k p z v n t =
    let Says : Bool → Type 0 = λ b. T b → Fields (kind_told k) p z v n in
    let c : z ≡ 0 = eqb→eq z 0 (T-left (eqb z 0) _ t) in
    pick_T Says (eqb k 1)
    (λ e u. let d = eqb→eq p 0 u in rw (eqb→eq k 1 e)
    (record { low = omega arith; high = omega arith; clear = c; silent = λ x y. absurd (omega arith); writer = λ _. d; reader = λ x. absurd (omega arith) }))
    (λ _. pick_T Says (eqb k 2)
    (λ e u. let d = eqb→eq v 0 (T-left (eqb v 0) _ u) in let f = eqb→eq p 0 (T-right (eqb v 0) _ u) in rw (eqb→eq k 2 e)
    (record { low = omega arith; high = omega arith; clear = c; silent = λ _ _. d; writer = λ _. f; reader = λ x. absurd (omega arith) }))
    (λ _. pick_T Says (eqb k 3)
    (λ e u. let d = eqb→eq v 0 (T-left (eqb v 0) _ u) in let f : T (is_reader p n) = T-right (eqb v 0) _ u in rw (eqb→eq k 3 e)
    (record { low = omega arith; high = omega arith; clear = c; silent = λ _ _. d; writer = λ x. absurd (omega arith); reader = λ _. reader→ p n f }))
    (λ _. pick_T Says (eqb k 4)
    (λ e u. rw (eqb→eq k 4 e) (end_fields p z v n c u))
    (λ _. pick_T Says (eqb k 6)
    (λ e u. rw (eqb→eq k 6 e) (end_fields p z v n c (T-left (is_reader p n) _ u)))
    (λ _ u. absurd u)))))
    (T-right (eqb z 0) _ t)

alternates_begin : (x o : ℕ) → T (alternates x o) → T (begins x) → o ≡ 0
unfolding alternates
alternates_begin x o = pick_T (λ b. T b → T (begins x) → o ≡ 0) (begins x) (λ _ t _. eqb→eq o 0 t) (λ n _ b. absurd (T_not (begins x) n b))

alternates_end : (x o : ℕ) → T (alternates x o) → T (not (begins x)) → 0 < o
unfolding alternates
alternates_end x o = pick_T (λ b. T b → T (not (begins x)) → 0 < o) (begins x) (λ b _ n. absurd (T_not (begins x) n b)) (λ _ t _. ltb→lt 0 o t)

pub row→ : (log : List ℕ) (k : ℕ) → T (row_ok log k) → RowOk log k
unfolding row_ok kind_at kind_of processor_at zero_at value_at
row→ log k t =
    let f = fields→ _ _ _ _ _ (T-left (fields_ok (get_or log k 0) (processor_at log 0)) _ t) in
    let u : T (alternates (get_or log k 0) (open_at log (processor_at log k) k)) = T-right (fields_ok (get_or log k 0) (processor_at log 0)) _ t in
    record {
      low = f.low;
      high = f.high;
      clear = f.clear;
      silent = f.silent;
      writer = f.writer;
      reader = f.reader;
      begins = λ a. alternates_begin _ _ u (begin_T log k a);
      ends = λ a. alternates_end _ _ u (end_T log k a);
    }

pub all_at : (f : ℕ → Bool) (n k : ℕ) → T (all f n) → 0 < k → k < n → T (f k)
unfolding all
all_at f zero k t a b = absurd (omega arith)
all_at f (suc zero) k t a b = absurd (omega arith)
all_at f (suc (suc n)) k t a b = go (ℕ_discrete k (suc n)) (λ c. all_at f (suc n) k (T-left (all f (suc n)) _ t) a c)
  where
    go : Dec (k ≡ suc n) → (k < suc n → T (f k)) → T (f k)
    go (yes e) g = rw e (T-right (all f (suc n)) _ t)
    go (no m) g = g (omega arith)

-- Processor i's open operation before row k was begun at b.
pub record Opened (log : List ℕ) (i k b : ℕ) : Type 0 where
  pub real : 0 < b
  pub before : b < k
  pub begin : T (begins_at log b)
  pub own : processor_at log b ≡ i
  pub none : (j : ℕ) → b < j → j < k → processor_at log j ≢ i

pub open_suc : (log : List ℕ) (i k : ℕ) → 0 < k → open_at log i (suc k) ≡ pick (eqb (processor_at log k) i) (pick (begins_at log k) k 0) (open_at log i k)
unfolding open_at
open_suc log i zero a = absurd (omega arith)
open_suc log i (suc k) a = refl

pub open_le : (log : List ℕ) (i k : ℕ) → open_at log i k ≤ k
unfolding open_at
open_le log i zero = omega arith
open_le log i (suc zero) = omega arith
open_le log i (suc (suc k)) =
    pick_T (λ z. z ≤ suc (suc k)) (eqb (processor_at log (suc k)) i)
    (λ _. pick_T (λ z. z ≤ suc (suc k)) (begins_at log (suc k)) (λ _. omega arith) (λ _. omega arith))
    (λ _. omega (arith, open_le log i (suc k)))

pub open→ : (log : List ℕ) (i k : ℕ) → 0 < open_at log i k → Opened log i k (open_at log i k)
unfolding open_at
open→ log i zero = λ a. absurd (omega arith)
open→ log i (suc zero) = λ a. absurd (omega arith)
open→ log i (suc (suc k)) =
    pick_T (λ z. 0 < z → Opened log i (suc (suc k)) z) (eqb (processor_at log (suc k)) i)
    (λ t. pick_T (λ z. 0 < z → Opened log i (suc (suc k)) z) (begins_at log (suc k))
    (λ u a. record { real = a; before = omega arith; begin = u; own = eqb→eq _ _ t; none = λ j b c. absurd (omega arith) })
    (λ u a. absurd (omega arith)))
    (λ t a. let o = open→ log i (suc k) a in
    record { real = a; before = omega (arith, o.before); begin = o.begin; own = o.own; none = λ j b c. wider t o.none j b c (ℕ_discrete j (suc k)) })
  where
    wider : {b : ℕ} → T (not (eqb (processor_at log (suc k)) i)) → ((j : ℕ) → b < j → j < suc k → processor_at log j ≢ i)
        → (j : ℕ) → b < j → j < suc (suc k) → Dec (j ≡ suc k) → processor_at log j ≢ i
    wider t f j b c (yes e) q = T_not (eqb (processor_at log (suc k)) i) t (eq→T (processor_at log (suc k)) i (rw (← e) q))
    wider t f j b c (no n) q = f j b (omega arith) q

pub →open : (log : List ℕ) (i k b : ℕ) → Opened log i k b → open_at log i k ≡ b
→open log i zero b o = absurd (omega arith)
→open log i (suc k) b o = go (ℕ_discrete b k) (λ x. →open log i k b x)
  where
    go : Dec (b ≡ k) → (Opened log i k b → open_at log i k ≡ b) → open_at log i (suc k) ≡ b
    go (yes e) f =
        open_suc log i k (omega arith)
        ∙ rw (T→true (eqb (processor_at log k) i) (rw (← e) (eq→T _ _ o.own)), T→true (begins_at log k) (rw (← e) o.begin)) (sym e)
    go (no n) f =
        open_suc log i k (omega arith)
        ∙ rw (not→false (eqb (processor_at log k) i) (λ t. o.none k (omega arith) (omega arith) (eqb→eq _ _ t)))
        (f (record { real = o.real; before = omega arith; begin = o.begin; own = o.own; none = λ j c d. o.none j c (omega arith) }))
