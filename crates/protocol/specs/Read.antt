-- A sub-step of a read: "A read by reader i".
use Rattle.std.specs.Prelude.{ℕ, ◌+◌, ◌-◌, List, true, false, not, ◌&&◌, ◌||◌, ltb, eqb, get_or}
use Rattle.words.specs.declared.stamp.Stamp.{Stamp}
use Rattle.words.specs.declared.cell.Cell.{Cell}
use Rattle.words.specs.Choice.{pick}
use Rattle.words.specs.Stamp.{none, same, is_none}
use Rattle.words.specs.Cell.{pack_cell, unpack_cell}
use Rattle.words.specs.Index.{index, other}
use Rattle.common.specs.declared.Reader.{Reader}
use Rattle.common.specs.State.{value_in}
use Rattle.common.specs.Rules.{ReadStep}
use Rattle.protocol.specs.Table.{store, plain}

-- the stamp in a cell's word
abbrev pub stamp_in : ℕ → Stamp
stamp_in w = (unpack_cell w).stamp

-- a word more moved by the read
abbrev pub moved_on : Reader → Reader
moved_on r = record r { active = true; moved = r.moved + 1 }

-- "read the writer's cell (first look)"
abbrev pub looks_first : Reader → ℕ → Reader
looks_first r w = record r { look = w; agree = true; found = false }

-- "read the writer's cell (second look)"
abbrev pub looks_again : Reader → ℕ → Reader
looks_again r w = record r { agree = same (stamp_in r.look) (stamp_in w) }

-- "read the other readers' cells to i": of those "whose prev equals the third look's cur" the first is kept. It is sought by the
-- first look's cur, and used only if the looks are equal.
abbrev pub looks_at_other : Reader → ℕ → Reader
looks_at_other r w = record r {
  found = r.found || eqb (stamp_in w).prev (stamp_in r.look).cur;
  result = pick r.found r.result (pick (eqb (stamp_in w).prev (stamp_in r.look).cur) w r.result);
}

-- "All three looks have equal stamps: result is the first of the other readers' cells whose prev equals the third look's cur, with
-- its reading and stamp; if there is none, the third look's. Otherwise, on the first attempt, a second attempt. On the second, the
-- result is the second attempt's first look's reading, with stamp none."
abbrev pub looks_third : Reader → ℕ → Reader
looks_third r w =
    let equal = r.agree && same (stamp_in r.look) (stamp_in w) in
    record r {
      second = r.second || not equal;
      result = pick equal (pick r.found r.result w) (pack_cell (plain (value_in r.look) none));
    }

-- "The read ends there": the result's stamp is the reader's own
abbrev pub read_ends : Reader → Reader
read_ends r = record r { active = false; stamp = stamp_in r.result }

-- "store that stamp as announced in the own cell to the writer, beside the reader's own stamp as the state has it"
abbrev pub announcing : Stamp → ℕ → Cell
announcing own w = record { value = 0; stamp = own; announced = stamp_in w }

-- "to the other readers in rising order the result (for stamp none, reading 0)"
abbrev pub showing : ℕ → Cell
showing w = plain (pick (is_none (stamp_in w)) 0 (value_in w)) (stamp_in w)

-- the word from q to p
abbrev pub word_at : ℕ → List ℕ → ℕ → ℕ → ℕ
word_at n t q p = get_or t (index n q p) 0

-- sub-step l, from 0, of an attempt of reader p
unfoldable pub attempt_step : ℕ → ℕ → ℕ → Reader → List ℕ → ReadStep
attempt_step n p l r t =
    pick (eqb l 0) (record { reader = looks_first (moved_on r) (word_at n t 0 p); table = t })
    (pick (eqb l 1) (record { reader = moved_on r; table = store n t p 0 (announcing r.stamp r.look) })
    (pick (eqb l 2) (record { reader = looks_again (moved_on r) (word_at n t 0 p); table = t })
    (pick (ltb l (n + 2)) (record { reader = looks_at_other (moved_on r) (word_at n t (other p (l - 3)) p); table = t })
    (record { reader = looks_third (moved_on r) (word_at n t 0 p); table = t }))))

-- store k, from 0: "and last of all to the writer reading 0, the result's stamp, announced none. The read ends there."
unfoldable pub result_step : ℕ → ℕ → ℕ → Reader → List ℕ → ReadStep
result_step n p k r t =
    pick (ltb (k + 1) n) (record { reader = moved_on r; table = store n t p (other p k) (showing r.result) })
    (record { reader = read_ends (moved_on r); table = store n t p 0 (plain 0 (stamp_in r.result)) })

-- the words moved in the attempt
abbrev pub since : ℕ → Reader → ℕ
since n r = r.moved - pick r.second (n + 3) 0

-- "One attempt has n+3 sub-steps and always runs through", "Then n sub-steps store"
unfoldable pub read_step : ℕ → ℕ → Reader → List ℕ → ReadStep
read_step n p r t =
    pick (ltb (since n r) (n + 3)) (attempt_step n p (since n r) r t) (result_step n p (since n r - (n + 3)) r t)
