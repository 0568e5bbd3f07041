use native.Mathlib.Omega.{arith}
use mathlib.Core.Path.{◌≡◌, sym, ap, ◌∙◌}
use Prim.Native.Nat.{ℕ}
use mathlib.Core.List.{List, map}
use lib.ListN.{length, length-map}
use Rattle.history.specs.Listing.{listing}
use Rattle.judging.specs.Answer.{laid}
use Rattle.judging.specs.Keys.{keys_of, decode}
use Rattle.judging.proofs.Asked.{tested}
use Rattle.judging.proofs.Listed.{listed}
use Rattle.judging.proofs.Places.{laid_ge, decoded, decoded_laid}
use Rattle.judging.proofs.Said.{settled}
use Rattle.judge.proofs.rows.write_order.Goals as goal
use Rattle.judge.specs.Frame.{KeepsLittle}
use Rattle.judge.proofs.rows.write_order.Code.{function}

keeps_little : KeepsLittle function
keeps_little = record { small = tt; inside = tt }

pub put_keys-count-requires : goal.put_keys-count-requires
put_keys-count-requires c =
    let a = c.args in
    let R = (settled a.rows.now a.order.now c.requires).asked in
    (tested R.log_ok, R.log_ok.size.few, R.room)

pub decode_all-requires : goal.decode_all-requires
decode_all-requires c =
    let a = c.args in
    let p = c.put_keys-count.ensures in
    omega (arith, p.count, ap length p.there, laid_ge (keys_of a.rows.now) a.order.now)

pub returns : goal.returns
unfolding decoded
returns c =
    let r = c.args.rows.now in
    let o = c.args.order.now in
    let S = settled r o c.requires in
    let p = c.put_keys-count.ensures in
    let k : map decode (keys_of r) ≡ listing r = listed r (tested S.asked.log_ok) S.asked.log_ok.size.few S.placed in
    record {
      count = p.count ∙ sym (length-map (keys_of r) decode) ∙ ap length k;
      there =
          c.decode_all.ensures
          ∙ ap (λ (l : List ℕ). decoded l c.put_keys-count.result) p.there
          ∙ ap (decoded (laid (keys_of r) o)) p.count
          ∙ decoded_laid (keys_of r) o
          ∙ ap (λ (l : List ℕ). laid l o) k;
    }
