use Rattle.std.proofs.Common.{◌≡◌, drop}
use Rattle.geometry.specs.Rows.{row_in}
use Rattle.geometry.proofs.rows.find_row.Given as goal

-- the entries that were passed have not the part ID
abbrev pub invariant-loop-entry : goal.invariant-loop-entry
invariant-loop-entry l = row_in l.listed l.part_id ≡ row_in (drop l.entry-index l.listed) l.part_id
