-- What is printed of a check.
use Rattle.std.specs.Prelude.{ℕ, ◌/◌, Bool, cond, List, [], length, Some, None, Ok, Err, Option, Result, ◌==◌, unwrap_or}
use Rattle.std.specs.List.{filter_map}
use Rattle.srecord.specs.declared.FaultAt.{FaultAt}
use Rattle.srecord.specs.Reading.{Handed, coming_of}
use Rattle.loader.specs.declared.file.Refusal.{Refusal}
use Rattle.file_check.specs.declared.rows.Row.{Row}

-- the line at fault, or 0 where none is
abbrev pub line_shown : Result (Unit {0}) Refusal → ℕ
line_shown (Ok u) = 0
line_shown (Err f) = unwrap_or f.line 0

-- two digits are a byte
abbrev pub row_of : Handed → Row
row_of h = record { line = h.line; address = h.address; bytes = length h.digits / 2 }

-- the row of a record, if it has data
abbrev pub data_row : Handed → Option Row
data_row h = cond (length h.digits == 0) None (Some (row_of h))

-- the row of a record with data that is handed out; a fault has none
abbrev pub row_for : Result Handed FaultAt → Option Row
row_for (Ok h) = data_row h
row_for (Err f) = None

-- a row for each record with data, in order
abbrev pub rows_of : List Handed → List Row
rows_of hs = filter_map data_row hs

-- the rows of a text that is taken, unless only the outcome is asked for
abbrev pub printed_of : Bool → Result (Unit {0}) Refusal → List ℕ → List Row
printed_of quiet (Ok u) text = cond quiet [] (rows_of (coming_of text).records)
printed_of quiet (Err f) text = []
