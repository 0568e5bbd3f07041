-- What the figures of a drill mean, in document 02's words, over the books of both registers.
use Rattle.std.specs.Prelude.{ℕ, ◌+◌, ◌^◌, ◌≤◌, ◌<◌, ◌≡◌, ◌≢◌, ◌⊎◌, Bool, true, false, List, Ok, Err}
use Rattle.common.specs.Answers.{number_of}
use Rattle.common.specs.declared.calls.Call.{Call}
use Rattle.common.specs.declared.calls.Call.TheVariants.{Write as write, Read as read}
use Rattle.common.specs.SetUp.{readers_fit, rows_fit}
use Rattle.common.specs.Book.{Telling, Kept, is_open, told, kept, fresh_model}
use Rattle.protocol.specs.Reference as Tickets
use Rattle.counted.specs.Reference as Counted
use Rattle.counted.specs.State.{last_stamp}
use Rattle.figures.specs.declared.Figures.{Figures}
use Rattle.figures.specs.Sizing.{Sizing}
use Rattle.figures.specs.declared.NoFigures.TheVariants.{Refused, Larger, TooLong}
use Rattle.figures.specs.Counts.{NoRetirement, writes_in, reads_in, words_in}

-- A register of n readers with a log of len rows, its start reading and, of the counted register, its fresh stamp.
module _ {Stamp Cell : Type 0} (B : Telling Stamp Cell) (n v fresh len : ℕ) where
  abbrev pub book_of : List Call → Kept Stamp Cell
  book_of cs = kept B n len (fresh_model B n v fresh) cs

  -- a list of calls without retirement that begins so many writes and reads. The schedule, and how the reads are shared among the readers,
  -- are the list's.
  pub record Begins (writes reads : ℕ) (cs : List Call) : Type 0 where
    pub none_retired : NoRetirement cs
    pub writes_are : writes_in cs (book_of cs).answers ≡ writes
    pub reads_are : reads_in cs (book_of cs).answers ≡ reads

  -- the number of the answer to the call that follows a list
  abbrev pub number_next : List Call → Call → ℕ
  number_next cs c = number_of (told B n len (book_of cs).model c).answer

  -- "no begin is refused 7 .. for every schedule": none of a write or read that is still to be begun, behind whatever list
  pub record NoneFull (writes reads : ℕ) : Type 0 where
    pub of_writes : (w r : ℕ) (cs : List Call) → Begins w r cs → w < writes → r ≤ reads → (u : ℕ) → number_next cs (write u) ≢ 7
    pub of_reads : (w r : ℕ) (cs : List Call) → Begins w r cs → w ≤ writes → r < reads → (p : ℕ) → number_next cs (read p) ≢ 7

  -- "words moved if all end": so many writes and reads are begun, all have ended, and so many words were moved
  pub record Ends (writes reads words : ℕ) (cs : List Call) : Type 0 where
    pub begins : Begins writes reads cs
    pub all_end : (p : ℕ) → p ≤ n → is_open ((book_of cs).model.op p) ≡ false
    pub words_are : words_in cs (book_of cs).answers ≡ words

module _ {Stamp Cell : Type 0} (B : Telling Stamp Cell) (n v fresh writes reads : ℕ) (f : Figures) where
  -- "the log rows with which no begin is refused 7"; "the least and most words moved if all end, over every schedule and every sharing of the
  -- reads among the readers"
  pub record Hold : Type 0 where
    pub enough : (len : ℕ) → f.rows ≤ len → NoneFull B n v fresh len writes reads
    pub between : (len words : ℕ) (cs : List Call) → Ends B n v fresh len writes reads words cs → (f.least ≤ words) × (words ≤ f.most)

  -- "the fewest that set-up takes and that do so for every schedule"; the least and the most words are those of some list
  pub record Sharp : Type 0 where
    pub fewest : (len : ℕ) → rows_fit len ≡ true → NoneFull B n v fresh len writes reads → f.rows ≤ len
    pub least_reached : (len : ℕ) → f.rows ≤ len → (cs : List Call) × Ends B n v fresh len writes reads f.least cs
    pub most_reached : (len : ℕ) → f.rows ≤ len → (cs : List Call) × Ends B n v fresh len writes reads f.most cs

-- The figures of the first register, or of the counted one: for every start reading and, of the counted register, every fresh stamp. They are
-- sharp where its stamps last for the writes.
abbrev pub Mean : Bool → ℕ → ℕ → ℕ → Figures → Type 0
Mean false n writes reads f = (v : ℕ) → v < 2 ^ 32 → Hold Tickets.book n v 0 writes reads f × Sharp Tickets.book n v 0 writes reads f
Mean true n writes reads f =
    (v fresh : ℕ) → v < 2 ^ 32 → Hold Counted.book n v fresh writes reads f × (fresh + writes ≤ last_stamp → Sharp Counted.book n v fresh writes reads f)

-- "more rows than 4,096": with no log that set-up takes is it so that no begin is refused 7
abbrev pub NoLog : Bool → ℕ → ℕ → ℕ → Type 0
NoLog false n writes reads = (v len : ℕ) → v < 2 ^ 32 → rows_fit len ≡ true → NoneFull Tickets.book n v 0 len writes reads → ⊥
NoLog true n writes reads =
    (v fresh len : ℕ) → v < 2 ^ 32 → fresh + writes ≤ last_stamp → rows_fit len ≡ true → NoneFull Counted.book n v fresh len writes reads → ⊥

-- "writes and reads up to 2,000 each"
abbrev pub UpTo2000 : ℕ → ℕ → Type 0
UpTo2000 writes reads = (writes ≤ 2000) × (reads ≤ 2000)

-- What each answer says: "Question 1 comes first; then larger numbers, then more rows than 4,096, each get a plain answer of their own"
abbrev pub Says : Bool → ℕ → ℕ → ℕ → Sizing → Type 0
Says counted n writes reads (Err Refused) = (n < 1) ⊎ (16 < n)
Says counted n writes reads (Err Larger) = (readers_fit n ≡ true) × ((2000 < writes) ⊎ (2000 < reads))
Says counted n writes reads (Err TooLong) = (readers_fit n ≡ true) × UpTo2000 writes reads × NoLog counted n writes reads
Says counted n writes reads (Ok f) =
    (readers_fit n ≡ true) × UpTo2000 writes reads × (rows_fit f.rows ≡ true) × Mean counted n writes reads f
