-- The row of a byte is the one that it was stored for.
use Prim.Native.Nat.{ℕ, ◌<◌}
use mathlib.Core.Path.{◌≡◌, sym, ap, ◌∙◌}
use mathlib.Core.List.{List, ◌∷◌, map}
use lib.ListN.{length, get_or, take}
use Rattle.history.specs.Rows.{processor_of}
use Rattle.storing.specs.Gather.{strip, gather}
use Rattle.storing.specs.Strips.{back_at}
use Rattle.storing.proofs.Gathered.{strip_in, strip_at}
use Rattle.storing.proofs.Onward.{strip_count, map_take}
use Rattle.storing.proofs.Back.{processor_small, processor_at_lem}

pub own_row : (h : ℕ) (r : List ℕ) (i : ℕ) → i < length r → back_at (map processor_of r) (h ∷ gather processor_of 256 r) i ≡ get_or r i 0
unfolding back_at
own_row h r i a =
    let p = processor_of (get_or r i 0) in
    let c : length (strip (λ b. b) p (take i (map processor_of r))) ≡ length (strip processor_of p (take i r)) =
    ap (λ (l : List ℕ). length (strip (λ b. b) p l)) (sym (map_take processor_of i r)) ∙ sym (strip_count processor_of p (take i r)) in
    rw (processor_at_lem r i, strip_in processor_of p 256 r (processor_small (get_or r i 0)), c) (strip_at processor_of r i a)
