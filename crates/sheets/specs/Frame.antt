-- What the sheet keeps while it works: as the judge of rows, no array of more than 64 elements, read off its code.
use Rattle.std.specs.Prelude.{List, ◌∷◌}
use mir.Syntax.{Symbol, Fn}
use Rattle.judge.specs.Frame.{of_rows, KeepsLittleAmong}

-- `sheet`, and what it calls; the rest is of the judge of rows
abbrev pub of_sheet : List Symbol
of_sheet =
    "sheets::rows::sheet"
    ∷ "sheets::fill::figures"
    ∷ "sheets::fill::lines"
    ∷ "sheets::add::with_write"
    ∷ "sheets::add::rank_from"
    ∷ "sheets::add::one_read"
    ∷ "sheets::add::lag_of"
    ∷ "sheets::add::over_readers"
    ∷ of_rows

-- Each of its functions says so of its code, in its proof file.
abbrev pub KeepsLittle : Fn → Type 0
KeepsLittle f = KeepsLittleAmong of_sheet f
