-- Question 4 of the counted register's writer and readers.
use Rattle.std.specs.Prelude.{ℕ, ◌-◌, ◌*◌, Bool, true, ◌&&◌, ltb}
use Rattle.words.specs.Choice.{pick}
use Rattle.common.specs.declared.Writer.{Writer}
use Rattle.common.specs.declared.Reader.{Reader}

-- "stamp 4,294,967,295"
abbrev pub last_stamp : ℕ
last_stamp = 4294967295

-- "at most n−1 words moved in an open write", "and the stamp before an open write below 4,294,967,295"
unfoldable pub writer_ok : ℕ → Writer → Bool
writer_ok n w = pick w.active (ltb w.moved n && ltb w.count last_stamp) true

-- "2n−2 in an open read"
unfoldable pub reader_ok : ℕ → Reader → Bool
reader_ok n r = pick r.active (ltb r.moved (2 * n - 1)) true
