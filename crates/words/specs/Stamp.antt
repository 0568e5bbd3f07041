-- Stamps. "A stamp is a pair (cur, prev): the write's own ticket and that of the write before."
use Rattle.std.specs.Prelude.{Bool, ◌&&◌, eqb, ltb}
use Rattle.words.specs.declared.stamp.Stamp.{Stamp}

-- "63 means none, and stamp none is (63,63) only"
abbrev pub none : Stamp
none = record { cur = 63; prev = 63 }

-- equal stamps: both tickets are
abbrev pub same : Stamp → Stamp → Bool
same a b = eqb a.cur b.cur && eqb a.prev b.prev

abbrev pub is_none : Stamp → Bool
is_none s = same s none

-- "tickets 0 to 63"
abbrev pub stamp_ok : Stamp → Bool
stamp_ok s = ltb s.cur 64 && ltb s.prev 64
