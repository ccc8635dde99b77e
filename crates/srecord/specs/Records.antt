-- What the records of a text are as an iterator.
use Rattle.std.specs.Prelude.{List, [], Some, None, Ok, Err, Option, Result}
use Rattle.srecord.specs.declared.reader.FaultAt.{FaultAt}
use Rattle.srecord.specs.declared.reader.Reader.{Reader}
use Rattle.srecord.specs.declared.reader.Record.{Record}
use Rattle.srecord.specs.declared.reader.Records.{Records}
use Rattle.srecord.specs.Reading.{Handed, handed_by, coming, items_of}

-- a record that was handed out, with the borrowed digits as a list, or a fault
abbrev pub handed_or_fault : Result Record FaultAt → Result Handed FaultAt
handed_or_fault (Ok r) = Ok (handed_by r)
handed_or_fault (Err f) = Err f

-- what is left of a reader, which may have ended
abbrev pub left_by : Option Reader → List (Result Handed FaultAt)
left_by None = []
left_by (Some r) = items_of (coming r)

-- what is left of the iterator
abbrev pub left_of : Records → List (Result Handed FaultAt)
left_of r = left_by r.reader
