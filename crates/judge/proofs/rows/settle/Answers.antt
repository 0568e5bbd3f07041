use native.Mathlib.Omega.{arith}
use mathlib.Core.Path.{refl, sym, ap, ◌∙◌}
use Rattle.judging.specs.Answer.{no_order}
use Rattle.judging.proofs.Asked.{right→, wrong, formed_is, lacking, enough, no9, no10, no11, no12, none}
use Rattle.judging.proofs.Said.{settled_is}
use Rattle.judge.proofs.rows.settle.Goals as goal
use Rattle.judge.specs.Frame.{KeepsLittle, LentNothing}
use Rattle.judge.proofs.rows.settle.Code.{function}

keeps_little : KeepsLittle function
keeps_little = record { small = tt; inside = tt }

lent_nothing : LentNothing function
lent_nothing = record { read_only = refl }

pub returns-then-not-right_length : goal.returns-then-not-right_length
returns-then-not-right_length c =
    let r = c.args.rows.now in
    sym (settled_is r _ (no9 (wrong r (sym c.right_length.ensures ∙ c.if-not-right_length.true))))

pub returns-then-not-well_formed : goal.returns-then-not-well_formed
returns-then-not-well_formed c =
    let r = c.args.rows.now in
    let s = right→ r (rw (sym c.right_length.ensures ∙ c.if-not-right_length.false) tt) in
    sym (settled_is r _ (no10 s (sym c.well_formed-2.ensures ∙ c.if-not-well_formed.true)))

pub lacks_room-requires : goal.lacks_room-requires
lacks_room-requires c = (right→ c.args.rows.now (rw (sym c.right_length.ensures ∙ c.if-not-right_length.false) tt)).some

pub returns-then-lacks_room : goal.returns-then-lacks_room
returns-then-lacks_room c =
    let r = c.args.rows.now in
    let F = formed_is r c.right_length.ensures c.if-not-right_length.false c.well_formed-2.ensures c.if-not-well_formed.false in
    sym (settled_is r _ (no11 F (lacking c.lacks_room.ensures c.if-lacks_room.true)))

pub first_missing-requires : goal.first_missing-requires
first_missing-requires c = rw (sym c.well_formed-2.ensures ∙ c.if-not-well_formed.false) tt

pub returns-in-Some : goal.returns-in-Some
returns-in-Some c =
    let r = c.args.rows.now in
    let F = formed_is r c.right_length.ensures c.if-not-right_length.false c.well_formed-2.ensures c.if-not-well_formed.false in
    let m = c.in-Some.ensures in
    ap no_order m.0 ∙ sym (settled_is r _ (no12 F (enough c.lacks_room.ensures c.if-lacks_room.false) (omega (arith, m))))

pub returns-in-None : goal.returns-in-None
returns-in-None c =
    let r = c.args.rows.now in
    let F = formed_is r c.right_length.ensures c.if-not-right_length.false c.well_formed-2.ensures c.if-not-well_formed.false in
    sym (settled_is r _ (none F (enough c.lacks_room.ensures c.if-lacks_room.false) c.in-None.ensures))
