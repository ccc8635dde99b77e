use Rattle.std.proofs.Common.{◌∙◌}
use Rattle.board.proofs.Rows.{rows_more, rows_end}
use Rattle.board.proofs.replay.report_frames.Goals as goal

pub loop-entry-preserved : goal.loop-entry-preserved
loop-entry-preserved c =
    rows_more _ _ c.loop-entry.entry-index _ _ c.loop-entry-test.true c.in_ok-report_entry.ensures ∙ c.loop-entry.invariant

pub returns : goal.returns
returns c = rows_end _ c.loop-entry.entry-index _ c.loop-entry-test.false ∙ c.loop-entry.invariant
