-- The book's new ticket is the one that the papers' sentence names; it is unbarred and, behind n cells, at most 3n+2.
use Prim.Native.Nat.{ℕ, zero, suc, ◌+◌, ◌*◌, ◌≤◌, ◌<◌}
use mathlib.Core.Path.{◌≡◌, refl, sym, ap, ◌∙◌}
use mathlib.Core.Logic.{◌≢◌, inl, inr}
use mathlib.Core.Bool.{Bool, true, false, ◌||◌}
use mathlib.Core.List.Memᴰ
use mathlib.Core.List.{List, [], ◌∷◌, Memᴰ}
use native.Mathlib.Decide.{ℕ_discrete, dec_lt}
use native.Mathlib.Omega.{arith}
use lib.ListN.{length}
use lib.Dec.{leb, eqb}
use borrow.Author.Tests.{eq-eqb, ne_eqb, eqb-true, eqb-false}
use Rattle.words.specs.declared.stamp.Stamp.{Stamp}
use Rattle.words.specs.declared.cell.Cell.{Cell}
use Rattle.words.specs.Choice.{pick}
use Rattle.words.proofs.Laws.Choice.{pick_ind, le_ind, eq_ind, never}
use Rattle.protocol.specs.NewTicket.{Smallest, Above, Walks, on, round}
use Rattle.protocol.specs.Reference.{is_in, first_free, new_ticket, named_tickets, without_none, excluded_tickets, ticket_after}

-- the test, and membership
in→mem : (t : ℕ) (b : List ℕ) → is_in t b ≡ true → Memᴰ t b
unfolding is_in
in→mem t [] e = never (sym e)
in→mem t (x ∷ b) e = at (eqb t x) refl e (in→mem t b)
  where
    at : (c : Bool) → eqb t x ≡ c → (c || is_in t b) ≡ true → (is_in t b ≡ true → Memᴰ t b) → Memᴰ t (x ∷ b)
    at true q _ g = Memᴰ.head (eqb-true t x q)
    at false q f g = Memᴰ.tail (g f)

mem→in : (t : ℕ) (b : List ℕ) → Memᴰ t b → is_in t b ≡ true
unfolding is_in
mem→in t (x ∷ b) (Memᴰ.head e) = rw (eq-eqb t x e)
mem→in t (x ∷ b) (Memᴰ.tail m) = rw (mem→in t b m) (or_true (eqb t x))
  where
    or_true : (c : Bool) → (c || true) ≡ true
    or_true true = refl
    or_true false = refl
mem→in t [] x' = elim x' [ ]

-- b without one occurrence of k
drop_one : (k : ℕ) (b : List ℕ) → Memᴰ k b
    → (d : List ℕ) × (length b ≡ suc (length d)) × ((t : ℕ) → t ≢ k → Memᴰ t b → Memᴰ t d)
drop_one k (x ∷ b) (Memᴰ.head e) =
    (b, refl, λ t ne m. elim (Memᴰ.cases_cons m) [ inl g ↦ absurd (ne (g ∙ sym e)) | inr r ↦ r ])
drop_one k (x ∷ b) (Memᴰ.tail m) =
    let r = drop_one k b m in (
      x ∷ r.0,
      ap suc r.1,
      λ t ne m. elim (Memᴰ.cases_cons m) [
        | inl g ↦ Memᴰ.head g
        | inr q ↦ Memᴰ.tail (r.2 t ne q)
      ],
    )
drop_one k [] x' = elim x' [ ]

-- A list that holds all numbers below k has k places.
pigeon : (k : ℕ) (b : List ℕ) → ((t : ℕ) → t < k → Memᴰ t b) → k ≤ length b
pigeon zero b h = omega arith
pigeon (suc k) b h =
    let d = drop_one k b (h k (omega arith)) in
    omega (arith, d.1, pigeon k d.0 (λ t l. d.2 t (omega arith) (h t (omega arith))))

-- What is unbarred up to 3n+2 counts, and in what way that is told does not.
told_so : (n cur : ℕ) {P Q : ℕ → Type 0} → ((k : ℕ) → k ≤ 3 * n + 2 → P k → Q k) → {k : ℕ} → Above n cur P k → Above n cur Q k
told_so n cur to {k} a = record { unbarred = to k a.up_to a.unbarred; above = a.above; up_to = a.up_to }

-- The sentence names one ticket.
module _ (n cur : ℕ) {P Q : ℕ → Type 0} (to : (k : ℕ) → k ≤ 3 * n + 2 → P k → Q k) (back : (k : ℕ) → k ≤ 3 * n + 2 → Q k → P k) where
  pub one_walk : {t u : ℕ} → t ≤ 3 * n + 2 → u ≤ 3 * n + 2 → Walks n cur P t → Walks n cur Q u → t ≡ u
  one_walk {t} {u} _ _ (on x) (on y) = omega (arith, x.first u (told_so n cur back y.has), y.first t (told_so n cur to x.has))
  one_walk _ _ (on x) (round none _) = absurd (none _ (told_so n cur to x.has))
  one_walk _ _ (round none _) (on y) = absurd (none _ (told_so n cur back y.has))
  one_walk {t} {u} h g (round _ x) (round _ y) = omega (arith, x.first u (back u g y.has), y.first t (to t h x.has))

module _ (n cur : ℕ) {P : ℕ → Type 0} where
  -- How it is sought: up is the first unbarred one above cur, or past 3n+2; least is the smallest unbarred.
  pub seek : (up least top : ℕ) → top ≡ 3 * n + 2 → (up ≤ 3 * n + 2 → Above n cur P up) → ((k : ℕ) → Above n cur P k → up ≤ k)
      → Smallest P least → Walks n cur P (pick (leb up top) up least)
  seek up least top e above first small =
      le_ind (Walks n cur P) up top _ _ (λ h. on (record { has = above (omega arith); first = first }))
      (λ h. round (λ k a. absurd (omega (arith, first k a, a.up_to))) small)

  pub walks_unbarred : {t : ℕ} → Walks n cur P t → P t
  walks_unbarred (on x) = x.has.unbarred
  walks_unbarred (round _ x) = x.has

  -- It is at most 3n+2 where an unbarred one is.
  pub walks_low : (k : ℕ) → P k → k ≤ 3 * n + 2 → {t : ℕ} → Walks n cur P t → t ≤ 3 * n + 2
  walks_low k e h (on x) = x.has.up_to
  walks_low k e h (round _ x) = omega (arith, x.first k e)

-- The first of t, t + 1, .. outside the list, of r + 1 of them: those before it are in the list; it is not, unless it is the last.
record Sought (b : List ℕ) (t r f : ℕ) : Type 0 where
  pub from : t ≤ f
  pub at_most : f ≤ t + r
  pub passed : (k : ℕ) → t ≤ k → k < f → is_in k b ≡ true
  pub stops : f < t + r → is_in f b ≡ false

sought : (b : List ℕ) (t r : ℕ) → Sought b t r (first_free b t r)
unfolding first_free
sought b t zero = record {
  from = omega arith;
  at_most = omega arith;
  passed = λ k h g. absurd (omega arith);
  stops = λ h. absurd (omega arith);
}
sought b t (suc r) =
    pick_ind (Sought b t (suc r)) (is_in t b) _ _ (λ e. past e (sought b (suc t) r))
    (λ e. record { from = omega arith; at_most = omega arith; passed = λ k h g. absurd (omega arith); stops = λ _. e })
  where
    past : is_in t b ≡ true → {f : ℕ} → Sought b (suc t) r f → Sought b t (suc r) f
    past e z = record {
      from = omega (arith, z.from);
      at_most = omega (arith, z.at_most);
      passed = λ k h g. elim (ℕ_discrete k t) [ yes q ↦ rw q e | no q ↦ z.passed k (omega arith) g ];
      stops = λ h. z.stops (omega arith);
    }

module _ (b : List ℕ) where
  abbrev Free : ℕ → Type 0
  Free k = is_in k b ≡ false

  -- The smallest outside: one of the list's length is.
  abbrev least : ℕ
  least = first_free b 0 (length b)

  below : Sought b 0 (length b) least
  below = sought b 0 (length b)

  all_in : is_in least b ≡ true → (k : ℕ) → k < suc least → is_in k b ≡ true
  all_in e k h = elim (ℕ_discrete k least) [ yes q ↦ rw q e | no q ↦ below.passed k (omega arith) (omega arith) ]

  least_out : (c : Bool) → is_in least b ≡ c → c ≡ false
  least_out true e = elim (dec_lt least (0 + length b)) [
    | yes h ↦ sym e ∙ below.stops h
    | no h ↦ absurd (omega (arith, pigeon (suc least) b (λ k g. in→mem k b (all_in e k g))))
  ]
  least_out false e = refl

  -- No number that was passed is outside.
  first_of : {t r f : ℕ} → Sought b t r f → (k : ℕ) → t ≤ k → Free k → f ≤ k
  first_of {t} {r} {f} q k h e = elim (dec_lt k f) [ yes g ↦ never (sym (q.passed k h g) ∙ e) | no g ↦ omega arith ]

  smallest : Smallest Free least
  smallest = record { has = least_out (is_in least b) refl; first = λ k e. first_of below k (omega arith) e }

  -- From the first one above cur on, and past 3n+2.
  walk : (n cur t r top : ℕ) → cur < t → t ≤ cur + 1 → 3 * n + 2 < t + r → top ≡ 3 * n + 2
      → Walks n cur Free (pick (leb (first_free b t r) top) (first_free b t r) least)
  walk n cur t r top above next far e =
      let up = sought b t r in
      seek n cur (first_free b t r) least top e
      (λ h. record { unbarred = up.stops (omega arith); above = omega (arith, up.from); up_to = h })
      (λ k a. first_of up k (omega (arith, a.above)) a.unbarred) smallest

  pub walks : (n cur : ℕ) → Walks n cur Free (new_ticket n cur b)
  unfolding new_ticket
  walks n cur = walk n cur _ _ _ (omega arith) (omega arith) (omega arith) (omega arith)

  -- It is at most 3n+2 where no more are barred.
  few_low : (n cur : ℕ) → length b ≤ 3 * n + 2 → new_ticket n cur b ≤ 3 * n + 2
  few_low n cur h = walks_low n cur least smallest.has (omega (arith, below.at_most)) (walks n cur)

-- the rule's ticket is unbarred, by membership
pub new_ticket_new : (n cur : ℕ) (b : List ℕ) → ¬ Memᴰ (new_ticket n cur b) b
new_ticket_new n cur b m = never (sym (mem→in _ b m) ∙ walks_unbarred n cur (walks b n cur))

-- "None bars nothing": what is left when it is dropped.
pub kept_ticket : (t : ℕ) (b : List ℕ) → t ≢ 63 → Memᴰ t b → Memᴰ t (without_none b)
unfolding without_none
kept_ticket t (x ∷ b) ne (Memᴰ.head e) = rw (ne_eqb x 63 (λ z. ne (e ∙ z))) (Memᴰ.head e)
kept_ticket t (x ∷ b) ne (Memᴰ.tail m) =
    pick_ind (λ l. Memᴰ t l) (eqb x 63) _ _ (λ _. kept_ticket t b ne m) (λ _. Memᴰ.tail (kept_ticket t b ne m))
kept_ticket t [] ne x'' = elim x'' [ ]

pub was_ticket : (t : ℕ) (b : List ℕ) → Memᴰ t (without_none b) → (t ≢ 63) × Memᴰ t b
unfolding without_none
was_ticket t (x ∷ b) m = at (eqb x 63) refl m (was_ticket t b)
  where
    at : (c : Bool) → eqb x 63 ≡ c → Memᴰ t (pick c (without_none b) (x ∷ without_none b))
        → (Memᴰ t (without_none b) → (t ≢ 63) × Memᴰ t b) → (t ≢ 63) × Memᴰ t (x ∷ b)
    at true e m later = let r = later m in (r.0, Memᴰ.tail r.1)
    at false e m later =
        elim (Memᴰ.cases_cons m) [
          | inl g ↦ (λ z. eqb-false x 63 e (sym g ∙ z), Memᴰ.head g)
          | inr q ↦ let r = later q in (r.0, Memᴰ.tail r.1)
        ]
was_ticket t [] m = elim m [ ]

pub in_without : (t : ℕ) (b : List ℕ) → t ≢ 63 → is_in t (without_none b) ≡ is_in t b
unfolding without_none is_in
in_without t [] ne = refl
in_without t (x ∷ b) ne = eq_ind (λ l. is_in t l ≡ (eqb t x || is_in t b)) x 63 _ _
    (λ e. rw (ne_eqb t x (λ z. ne (z ∙ e))) (in_without t b ne)) (λ _. rw (in_without t b ne))

pub none_without : (b : List ℕ) → is_in 63 (without_none b) ≡ false
unfolding without_none is_in
none_without [] = refl
none_without (x ∷ b) = eq_ind (λ l. is_in 63 l ≡ false) x 63 _ _ (λ _. none_without b) (λ ne. rw (ne_eqb 63 x (λ z. ne (sym z))) (none_without b))

without_length : (b : List ℕ) → length (without_none b) ≤ length b
unfolding without_none
without_length [] = omega arith
without_length (x ∷ b) =
    pick_ind (λ l. length l ≤ suc (length b)) (eqb x 63) (without_none b) (x ∷ without_none b) (λ _. omega (arith, without_length b))
    (λ _. omega (arith, without_length b))

named_length : (s : Stamp) (cells : List Cell) → length (named_tickets s cells) ≡ 2 + 3 * length cells
unfolding named_tickets
named_length s [] = refl
named_length s (x ∷ cells) = omega (arith, named_length s cells)

barred_length : (s : Stamp) (cells : List Cell) → length (excluded_tickets s cells) ≤ 2 + 3 * length cells
unfolding excluded_tickets
barred_length s cells = omega (arith, without_length (named_tickets s cells), named_length s cells)

-- behind n cells it is one of the 3n+3 names
pub after_low : (n : ℕ) (s : Stamp) (cells : List Cell) → length cells ≤ n → ticket_after n s cells ≤ 3 * n + 2
after_low n s cells h = few_low (excluded_tickets s cells) n s.cur (omega (arith, barred_length s cells))
