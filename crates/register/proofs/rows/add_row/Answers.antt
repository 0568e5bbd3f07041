use Rattle.register.proofs.rows.add_row.Goals as goal

pub returns : goal.returns
returns c = rw c.row_of.ensures
