-- Question 4's tests of the writer and of a reader are their meaning.
use Prim.Native.Nat.{ℕ, ◌+◌, ◌*◌}
use mathlib.Core.Path.{◌≡◌, refl, sym, ◌∙◌}
use mathlib.Core.Bool.{Bool, true, ◌&&◌}
use lib.Dec.{ltb, leb}
use lib.Count.{ones}
use borrow.Author.Tests.{ltb-true, leb-true, leb-false, lt-ltb, le-leb, lt-leb}
use Rattle.words.specs.declared.stamp.Stamp.{Stamp}
use Rattle.words.specs.Choice.{pick}
use Rattle.words.specs.Stamp.{stamp_ok}
use Rattle.words.proofs.Laws.Choice.{pick_ind, pick_yes, pick_no, left, right, both}
use Rattle.common.specs.declared.Writer.{Writer}
use Rattle.common.specs.declared.Reader.{Reader}
use Rattle.protocol.specs.State.{excluded_by, tickets_ok, open_write_ok, writer_ok, reader_ok}
use Rattle.protocol.specs.InRange.{StampInRange, WriterInRange, ReaderInRange}

stamp_in_lem : (s : Stamp) → stamp_ok s ≡ true → StampInRange s
stamp_in_lem s e = record {
  cur_low = ltb-true _ _ (left (ltb s.cur 64) (ltb s.prev 64) e);
  prev_low = ltb-true _ _ (right (ltb s.cur 64) (ltb s.prev 64) e);
}

in_stamp : (s : Stamp) → StampInRange s → stamp_ok s ≡ true
in_stamp s k = both (ltb s.cur 64) _ (lt-ltb _ _ k.cur_low) (lt-ltb _ _ k.prev_low)

module _ (n : ℕ) (w : Writer) where
  pub writer_in : writer_ok n w ≡ true → WriterInRange n w
  unfolding writer_ok
  writer_in e =
      let o : open_write_ok n w ≡ true = right (stamp_ok w.stamp) _ e in
      let g : w.active ≡ true → (ltb w.moved (2 * n) && tickets_ok n w) ≡ true = λ a. sym (pick_yes w.active (ltb w.moved (2 * n) && tickets_ok n w) true a) ∙ o in
      let t : w.active ≡ true → tickets_ok n w ≡ true = λ a. right (ltb w.moved (2 * n)) _ (g a) in
      record {
        stamp_passes = stamp_in_lem w.stamp (left (stamp_ok w.stamp) _ e);
        moved_low = λ a. ltb-true _ _ (left (ltb w.moved (2 * n)) _ (g a));
        few = λ a h. leb-true _ _ (sym (pick_yes (leb w.moved n) (leb (ones (excluded_by w)) (2 + 3 * w.moved)) (ltb w.ticket 64) (le-leb _ _ h)) ∙ t a);
        ticket_low = λ a h. ltb-true _ _ (sym (pick_no (leb w.moved n) (leb (ones (excluded_by w)) (2 + 3 * w.moved)) (ltb w.ticket 64) (lt-leb _ _ h)) ∙ t a);
      }

  pub in_writer : WriterInRange n w → writer_ok n w ≡ true
  unfolding writer_ok
  in_writer k =
      both (stamp_ok w.stamp) _ (in_stamp w.stamp k.stamp_passes)
      (pick_ind (λ b. b ≡ true) w.active _ _
      (λ a. both (ltb w.moved (2 * n)) _ (lt-ltb _ _ (k.moved_low a))
      (pick_ind (λ b. b ≡ true) (leb w.moved n) _ _
      (λ h. le-leb _ _ (k.few a (leb-true _ _ h)))
      (λ h. lt-ltb _ _ (k.ticket_low a (leb-false _ _ h)))))
      (λ _. refl))

module _ (n : ℕ) (r : Reader) where
  abbrev late : Bool
  late = leb (n + 3) r.moved && leb r.moved (3 * n + 5)

  abbrev span : Bool
  span = pick r.second late (leb r.moved (2 * n + 2))

  pub reader_in : reader_ok n r ≡ true → ReaderInRange n r
  unfolding reader_ok
  reader_in e =
      let g : r.active ≡ true → span ≡ true = λ a. sym (pick_yes r.active span true a) ∙ right (stamp_ok r.stamp) _ e in
      record {
        stamp_passes = stamp_in_lem r.stamp (left (stamp_ok r.stamp) _ e);
        in_first = λ a h. leb-true _ _ (sym (pick_no r.second late (leb r.moved (2 * n + 2)) h) ∙ g a);
        in_second = λ a h.
            let q : late ≡ true = sym (pick_yes r.second late (leb r.moved (2 * n + 2)) h) ∙ g a in
            (leb-true _ _ (left (leb (n + 3) r.moved) _ q), leb-true _ _ (right (leb (n + 3) r.moved) _ q));
      }

  pub in_reader : ReaderInRange n r → reader_ok n r ≡ true
  unfolding reader_ok
  in_reader k =
      both (stamp_ok r.stamp) _ (in_stamp r.stamp k.stamp_passes)
      (pick_ind (λ b. b ≡ true) r.active _ _
      (λ a. pick_ind (λ b. b ≡ true) r.second _ _
      (λ h. both (leb (n + 3) r.moved) _ (le-leb _ _ (k.in_second a h).0) (le-leb _ _ (k.in_second a h).1))
      (λ h. le-leb _ _ (k.in_first a h)))
      (λ _. refl))
