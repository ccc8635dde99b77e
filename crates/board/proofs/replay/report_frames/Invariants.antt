use Rattle.std.proofs.Common.{◌≡◌, ◌++◌, drop, string_bytes}
use Rattle.board.proofs.Rows.{entry_rows}
use Rattle.board.proofs.replay.report_frames.Given as goal

abbrev pub invariant-loop-entry : goal.invariant-loop-entry
invariant-loop-entry l = string_bytes l.report ++ entry_rows (drop l.entry-index l.entries) ≡ entry_rows l.entries
