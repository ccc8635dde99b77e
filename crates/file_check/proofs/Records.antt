-- The rows of what is handed out one by one. Assumes nothing.
use Rattle.std.proofs.Common.{◌≡◌, List, [], ◌∷◌, ◌++◌, map, Some, None, Ok, Option, refl, ap}
use Rattle.std.specs.List.{filter_map, cons_option}
use Rattle.srecord.specs.declared.reader.FaultAt.{FaultAt}
use Rattle.srecord.specs.Reading.{Handed, Coming, fault_item, items_of}
use Rattle.file_check.specs.Printed.{data_row, row_for, rows_of}

-- they are those of the records, since a fault has none
pub rows_of-items : (c : Coming) → filter_map row_for (items_of c) ≡ rows_of c.records
rows_of-items c = go c.records
  where
    none : (f : Option FaultAt) → filter_map row_for (fault_item f) ≡ []
    none None = refl
    none (Some f) = refl

    go : (hs : List Handed) → filter_map row_for (map Ok hs ++ fault_item c.fault) ≡ rows_of hs
    go [] = none c.fault
    go (h ∷ hs) = ap (cons_option (data_row h)) (go hs)
