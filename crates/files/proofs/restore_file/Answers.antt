use native.Mathlib.Omega.{arith}
use mathlib.Core.Path.{sym, ◌∙◌}
use Rattle.files.proofs.Parts.{whole→, file_long, file_apart, rest_part, rest_size, file_made, filed}
use Rattle.files.proofs.restore_file.Goals as goal

pub returns-then-file-gt65536 : goal.returns-then-file-gt65536
returns-then-file-gt65536 c = let f = c.args.file.now in
    filed f (file_long f c.if-file-gt65536.true)

pub returns-then-not-is_whole : goal.returns-then-not-is_whole
returns-then-not-is_whole c =
    let f = c.args.file.now in
    filed f (file_apart f c.if-file-gt65536.false (sym c.is_whole.ensures ∙ c.if-not-is_whole.true))

pub count_in-requires : goal.count_in-requires
count_in-requires c = (whole→ c.args.file.now (sym c.is_whole.ensures ∙ c.if-not-is_whole.false)).head

pub overflow_add-end : goal.overflow_add-end
overflow_add-end c =
    let f = c.args.file.now in
    let W = whole→ f (sym c.is_whole.ensures ∙ c.if-not-is_whole.false) in
    omega (arith, W.room, c.count_in.ensures, c.if-file-gt65536.false)

pub slice_bounds-put_restored-end : goal.slice_bounds-put_restored-end
slice_bounds-put_restored-end c =
    let f = c.args.file.now in
    let W = whole→ f (sym c.is_whole.ensures ∙ c.if-not-is_whole.false) in
    omega (arith, W.head, W.room, c.count_in.ensures)

pub slice_bounds-put_restored-count-2 : goal.slice_bounds-put_restored-count-2
slice_bounds-put_restored-count-2 c =
    let f = c.args.file.now in
    let W = whole→ f (sym c.is_whole.ensures ∙ c.if-not-is_whole.false) in
    omega (arith, W.head, W.room, c.count_in.ensures)

pub slice_bounds-put_restored-start-2 : goal.slice_bounds-put_restored-start-2
slice_bounds-put_restored-start-2 c =
    let f = c.args.file.now in
    let W = whole→ f (sym c.is_whole.ensures ∙ c.if-not-is_whole.false) in
    omega (arith, W.head, W.room, c.count_in.ensures)

pub put_restored-requires : goal.put_restored-requires
put_restored-requires c =
    let f = c.args.file.now in
    let W = whole→ f (sym c.is_whole.ensures ∙ c.if-not-is_whole.false) in
    rw (rest_part f c.count_in.ensures) (rest_size f W c.if-file-gt65536.false)

pub returns : goal.returns
returns c =
    let f = c.args.file.now in
    let e = sym c.is_whole.ensures ∙ c.if-not-is_whole.false in
    filed f (file_made f c.if-file-gt65536.false e c.count_in.ensures c.put_restored.ensures)
