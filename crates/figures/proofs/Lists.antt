-- Lists of calls in the book: two lists one behind the other, and what leads from one book to another.
use Prim.Native.Nat.{ℕ, ◌+◌}
use mathlib.Core.Path.{◌≡◌, refl, sym, ap, subst, ◌∙◌}
use mathlib.Core.Bool.{Bool, false}
use mathlib.Core.List.{List, [], ◌∷◌, ◌++◌}
use native.Mathlib.Omega.{arith}
use Rattle.words.specs.Counting.{one}
use Rattle.common.specs.Calls.{is_retirement}
use Rattle.common.specs.declared.calls.Call.{Call}
use Rattle.common.specs.Answers.{Answer}
use Rattle.common.specs.Book.{Telling, Model, Told, told, kept}
use Rattle.figures.specs.Counts.{NoRetirement, write_begun, read_begun, word_moved, tally, writes_in, reads_in, words_in}

no_retirement : (cs ds : List Call) → NoRetirement cs → NoRetirement ds → NoRetirement (cs ++ ds)
no_retirement [] ds a b = b
no_retirement (c ∷ cs) ds a b = (a.0, no_retirement cs ds a.1 b)

module _ {Stamp Cell : Type 0} (B : Telling Stamp Cell) (n len : ℕ) where
  model_join : (cs ds : List Call) (b : Model Stamp Cell) → (kept B n len b (cs ++ ds)).model ≡ (kept B n len (kept B n len b cs).model ds).model
  unfolding kept
  model_join [] ds b = refl
  model_join (c ∷ cs) ds b = model_join cs ds (told B n len b c).model

  tally_join : (f : Call → Answer → Bool) (cs ds : List Call) (b : Model Stamp Cell)
      → tally f (cs ++ ds) (kept B n len b (cs ++ ds)).answers ≡ tally f cs (kept B n len b cs).answers + tally f ds (kept B n len (kept B n len b cs).model ds).answers
  unfolding kept tally
  tally_join f [] ds b = omega arith
  tally_join f (c ∷ cs) ds b = omega (arith, tally_join f cs ds (told B n len b c).model)

  -- a list without retirements from b to b': so many writes and reads are begun, and so many words moved
  pub record Leads (b b' : Model Stamp Cell) (w r x : ℕ) : Type 0 where
    pub cs : List Call
    pub none_retired : NoRetirement cs
    pub last_is : (kept B n len b cs).model ≡ b'
    pub writes_are : writes_in cs (kept B n len b cs).answers ≡ w
    pub reads_are : reads_in cs (kept B n len b cs).answers ≡ r
    pub words_are : words_in cs (kept B n len b cs).answers ≡ x

  pub nothing : (b : Model Stamp Cell) → Leads b b 0 0 0
  unfolding kept tally
  nothing b = record { cs = []; none_retired = tt; last_is = refl; writes_are = refl; reads_are = refl; words_are = refl }

  -- one call, by what it comes to
  pub call : (b : Model Stamp Cell) (c : Call) (x : Told Stamp Cell) → is_retirement c ≡ false → told B n len b c ≡ x
      → Leads b x.model (one (write_begun c x.answer)) (one (read_begun c x.answer)) (one (word_moved c x.answer))
  unfolding kept tally
  call b c x e t = record {
    cs = c ∷ [];
    none_retired = (e, tt);
    last_is = ap (λ (z : Told Stamp Cell). z.model) t;
    writes_are = omega (arith, ap (λ (z : Told Stamp Cell). one (write_begun c z.answer)) t);
    reads_are = omega (arith, ap (λ (z : Told Stamp Cell). one (read_begun c z.answer)) t);
    words_are = omega (arith, ap (λ (z : Told Stamp Cell). one (word_moved c z.answer)) t);
  }

  pub join : {b b' b'' : Model Stamp Cell} {w r x w' r' x' : ℕ} → Leads b b' w r x → Leads b' b'' w' r' x' → Leads b b'' (w + w') (r + r') (x + x')
  join {b} {b'} {b''} {w} {r} {x} {w'} {r'} {x'} P Q = go (subst (λ (z : Model Stamp Cell). Leads z b'' w' r' x') (sym P.last_is) Q)
    where
      go : Leads (kept B n len b P.cs).model b'' w' r' x' → Leads b b'' (w + w') (r + r') (x + x')
      go Z = record {
        cs = P.cs ++ Z.cs;
        none_retired = no_retirement P.cs Z.cs P.none_retired Z.none_retired;
        last_is = model_join P.cs Z.cs b ∙ Z.last_is;
        writes_are = omega (arith, tally_join write_begun P.cs Z.cs b, P.writes_are, Z.writes_are);
        reads_are = omega (arith, tally_join read_begun P.cs Z.cs b, P.reads_are, Z.reads_are);
        words_are = omega (arith, tally_join word_moved P.cs Z.cs b, P.words_are, Z.words_are);
      }

  -- with the counts said otherwise
  pub counted_as : {b b' : Model Stamp Cell} {w r x : ℕ} (w' r' x' : ℕ) → Leads b b' w r x → w ≡ w' → r ≡ r' → x ≡ x' → Leads b b' w' r' x'
  counted_as w' r' x' P e f g = record {
    cs = P.cs;
    none_retired = P.none_retired;
    last_is = P.last_is;
    writes_are = P.writes_are ∙ e;
    reads_are = P.reads_are ∙ f;
    words_are = P.words_are ∙ g;
  }

  -- What every call without retirement keeps, with the counts of what it begins and moves, a list does.
  module _ (P : Model Stamp Cell → Model Stamp Cell → ℕ → ℕ → ℕ → Type 0) (I : Model Stamp Cell → Type 0)
      (none : (b : Model Stamp Cell) → P b b 0 0 0)
      (one_call : (b : Model Stamp Cell) (c : Call) → is_retirement c ≡ false → I b
      → let x = told B n len b c in I x.model × P b x.model (one (write_begun c x.answer)) (one (read_begun c x.answer)) (one (word_moved c x.answer)))
      (more : (b b' b'' : Model Stamp Cell) (w r x w' r' x' : ℕ) → P b b' w r x → P b' b'' w' r' x' → P b b'' (w + w') (r + r') (x + x')) where
    pub list_ind : (cs : List Call) (b : Model Stamp Cell) → NoRetirement cs → I b
        → let z = kept B n len b cs in I z.model × P b z.model (writes_in cs z.answers) (reads_in cs z.answers) (words_in cs z.answers)
    unfolding kept tally
    list_ind [] b h i = (i, none b)
    list_ind (c ∷ cs) b h i =
        let x = told B n len b c in
        let s = one_call b c h.0 i in
        let z = list_ind cs x.model h.1 s.0 in
        (z.0, more b x.model _ _ _ _ _ _ _ s.1 z.1)
