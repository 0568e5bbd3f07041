use Rattle.steps.proofs.TicketLaws.{read_tries, read_puts, stores_left}
use Rattle.protocol.specs.Read.{attempt_step, result_step}
use Prim.Native.Nat.{ℕ, ◌+◌, ◌-◌}
use mathlib.Core.Path.{ap, ◌∙◌}
use native.Mathlib.Omega.{arith}
use Rattle.steps.proofs.read.read_step.Goals as goal

pub returns-then-l-n : goal.returns-then-l-n
returns-then-l-n c =
    let a = c.args in
    let w = c.words_since-l.ensures in
    c.attempt_step.ensures
    ∙ ap (λ (l : ℕ). attempt_step a.n a.p l a.r a.table.now) w
    ∙ read_tries a.n a.p a.r a.table.now (omega (arith, w, c.if-l-n.true))

pub result_step-requires : goal.result_step-requires
result_step-requires c =
    let a = c.args in
    let p = c.requires in
    rw c.words_since-l.ensures (p.0, p.1, stores_left a.n a.p a.r a.table.now p.1 p.0.n_low (omega (arith, c.if-l-n.false, c.words_since-l.ensures)))

pub returns : goal.returns
returns c =
    let a = c.args in
    let w = c.words_since-l.ensures in
    c.result_step.ensures
    ∙ ap (λ (l : ℕ). result_step a.n a.p (l - (a.n + 3)) a.r a.table.now) w
    ∙ read_puts a.n a.p a.r a.table.now (omega (arith, w, c.if-l-n.false))
