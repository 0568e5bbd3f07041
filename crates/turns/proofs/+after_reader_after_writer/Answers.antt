use native.Mathlib.Omega.{arith}
use mathlib.Core.Logic.{◌≢◌}
use Rattle.schedules.specs.Schedules.{after_writer, after_reader}
use Rattle.turns.proofs.Following.{writer_follows, reader_follows, put_end, put_writer, put_reader, put_both, low_w, low_r}
use Rattle.turns.proofs.+after_reader_after_writer.Goals as goal

pub after_reader-overflow_mul-d : goal.after_reader-overflow_mul-d
after_reader-overflow_mul-d t c =
    let z : c.args.b ≢ 0 = λ e. omega arith in
    omega (arith, (low_r c.args.a c.args.b c.args.d z c.requires).0)

pub after_reader-overflow_add-d : goal.after_reader-overflow_add-d
after_reader-overflow_add-d t c =
    let z : c.args.b ≢ 0 = λ e. omega arith in
    omega (arith, (low_r c.args.a c.args.b c.args.d z c.requires).0)

pub after_reader-after_reader-requires : goal.after_reader-after_reader-requires
after_reader-after_reader-requires t c =
    let z : c.args.b ≢ 0 = λ e. omega arith in
    (omega arith, (low_r c.args.a c.args.b c.args.d z c.requires).1)

pub after_reader-overflow_mul-d-in_default-eq0 : goal.after_reader-overflow_mul-d-in_default-eq0
after_reader-overflow_mul-d-in_default-eq0 t c =
    let y : c.args.a ≢ 0 = λ e. omega arith in
    omega (arith, (low_w c.args.a c.args.b c.args.d y c.requires).0)

pub after_reader-after_writer-requires : goal.after_reader-after_writer-requires
after_reader-after_writer-requires t c =
    let y : c.args.a ≢ 0 = λ e. omega arith in
    (omega arith, (low_w c.args.a c.args.b c.args.d y c.requires).1)

pub after_reader-overflow_mul-d-in_default : goal.after_reader-overflow_mul-d-in_default
after_reader-overflow_mul-d-in_default t c =
    let y : c.args.a ≢ 0 = λ e. omega arith in
    omega (arith, (low_w c.args.a c.args.b c.args.d y c.requires).0)

pub after_reader-after_writer-requires-in_default : goal.after_reader-after_writer-requires-in_default
after_reader-after_writer-requires-in_default t c =
    let y : c.args.a ≢ 0 = λ e. omega arith in
    (omega arith, (low_w c.args.a c.args.b c.args.d y c.requires).1)

pub after_reader-overflow_mul-d-in_default-2 : goal.after_reader-overflow_mul-d-in_default-2
after_reader-overflow_mul-d-in_default-2 t c =
    let z : c.args.b ≢ 0 = λ e. omega arith in
    omega (arith, (low_r c.args.a c.args.b c.args.d z c.requires).0)

pub after_reader-overflow_add-d-in_default : goal.after_reader-overflow_add-d-in_default
after_reader-overflow_add-d-in_default t c =
    let z : c.args.b ≢ 0 = λ e. omega arith in
    omega (arith, (low_r c.args.a c.args.b c.args.d z c.requires).0)

pub after_reader-after_reader-requires-in_default : goal.after_reader-after_reader-requires-in_default
after_reader-after_reader-requires-in_default t c =
    let z : c.args.b ≢ 0 = λ e. omega arith in
    (omega arith, (low_r c.args.a c.args.b c.args.d z c.requires).1)

pub after_reader-returns-in-0-eq0 : goal.after_reader-returns-in-0-eq0
after_reader-returns-in-0-eq0 t c =
    put_end after_reader reader_follows _ _ _ (omega arith) (omega arith) c.put.ensures

pub after_reader-returns-in-0-default : goal.after_reader-returns-in-0-default
after_reader-returns-in-0-default t c =
    let z : c.args.b ≢ 0 = λ e. omega arith in
    put_reader after_reader reader_follows _ _ _ z (omega arith) c.after_reader.ensures

pub after_reader-returns-in_default-eq0 : goal.after_reader-returns-in_default-eq0
after_reader-returns-in_default-eq0 t c =
    let y : c.args.a ≢ 0 = λ e. omega arith in
    put_writer after_reader reader_follows _ _ _ (omega arith) y c.after_writer.ensures

pub after_reader-returns-in_default : goal.after_reader-returns-in_default
after_reader-returns-in_default t c =
    let y : c.args.a ≢ 0 = λ e. omega arith in
    let z : c.args.b ≢ 0 = λ e. omega arith in
    put_both after_reader reader_follows _ _ _ z y c.after_writer-in_default.ensures c.after_reader-in_default.ensures

pub after_writer-overflow_mul-d : goal.after_writer-overflow_mul-d
after_writer-overflow_mul-d t c =
    let z : c.args.b ≢ 0 = λ e. omega arith in
    omega (arith, (low_r c.args.a c.args.b c.args.d z c.requires).0)

pub after_writer-overflow_add-d : goal.after_writer-overflow_add-d
after_writer-overflow_add-d t c =
    let z : c.args.b ≢ 0 = λ e. omega arith in
    omega (arith, (low_r c.args.a c.args.b c.args.d z c.requires).0)

pub after_writer-after_reader-requires : goal.after_writer-after_reader-requires
after_writer-after_reader-requires t c =
    let z : c.args.b ≢ 0 = λ e. omega arith in
    (omega arith, (low_r c.args.a c.args.b c.args.d z c.requires).1)

pub after_writer-overflow_mul-d-in_default-eq0 : goal.after_writer-overflow_mul-d-in_default-eq0
after_writer-overflow_mul-d-in_default-eq0 t c =
    let y : c.args.a ≢ 0 = λ e. omega arith in
    omega (arith, (low_w c.args.a c.args.b c.args.d y c.requires).0)

pub after_writer-after_writer-requires : goal.after_writer-after_writer-requires
after_writer-after_writer-requires t c =
    let y : c.args.a ≢ 0 = λ e. omega arith in
    (omega arith, (low_w c.args.a c.args.b c.args.d y c.requires).1)

pub after_writer-overflow_mul-d-in_default : goal.after_writer-overflow_mul-d-in_default
after_writer-overflow_mul-d-in_default t c =
    let y : c.args.a ≢ 0 = λ e. omega arith in
    omega (arith, (low_w c.args.a c.args.b c.args.d y c.requires).0)

pub after_writer-after_writer-requires-in_default : goal.after_writer-after_writer-requires-in_default
after_writer-after_writer-requires-in_default t c =
    let y : c.args.a ≢ 0 = λ e. omega arith in
    (omega arith, (low_w c.args.a c.args.b c.args.d y c.requires).1)

pub after_writer-overflow_mul-d-in_default-2 : goal.after_writer-overflow_mul-d-in_default-2
after_writer-overflow_mul-d-in_default-2 t c =
    let z : c.args.b ≢ 0 = λ e. omega arith in
    omega (arith, (low_r c.args.a c.args.b c.args.d z c.requires).0)

pub after_writer-overflow_add-d-in_default : goal.after_writer-overflow_add-d-in_default
after_writer-overflow_add-d-in_default t c =
    let z : c.args.b ≢ 0 = λ e. omega arith in
    omega (arith, (low_r c.args.a c.args.b c.args.d z c.requires).0)

pub after_writer-after_reader-requires-in_default : goal.after_writer-after_reader-requires-in_default
after_writer-after_reader-requires-in_default t c =
    let z : c.args.b ≢ 0 = λ e. omega arith in
    (omega arith, (low_r c.args.a c.args.b c.args.d z c.requires).1)

pub after_writer-returns-in-0-eq0 : goal.after_writer-returns-in-0-eq0
after_writer-returns-in-0-eq0 t c =
    put_end after_writer writer_follows _ _ _ (omega arith) (omega arith) c.put.ensures

pub after_writer-returns-in-0-default : goal.after_writer-returns-in-0-default
after_writer-returns-in-0-default t c =
    let z : c.args.b ≢ 0 = λ e. omega arith in
    put_reader after_writer writer_follows _ _ _ z (omega arith) c.after_reader.ensures

pub after_writer-returns-in_default-eq0 : goal.after_writer-returns-in_default-eq0
after_writer-returns-in_default-eq0 t c =
    let y : c.args.a ≢ 0 = λ e. omega arith in
    put_writer after_writer writer_follows _ _ _ (omega arith) y c.after_writer.ensures

pub after_writer-returns-in_default : goal.after_writer-returns-in_default
after_writer-returns-in_default t c =
    let y : c.args.a ≢ 0 = λ e. omega arith in
    let z : c.args.b ≢ 0 = λ e. omega arith in
    put_both after_writer writer_follows _ _ _ z y c.after_writer-in_default.ensures c.after_reader-in_default.ensures
