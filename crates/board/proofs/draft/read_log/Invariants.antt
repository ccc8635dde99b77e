use Rattle.std.proofs.Common.{◌≡◌, length, drop}
use Rattle.script.specs.Line.{lines_of}
use Rattle.board.specs.Log.{log_from, log_of, draft_by}
use Rattle.board.proofs.draft.read_log.Given as goal

abbrev pub invariant-loop-index : goal.invariant-loop-index
invariant-loop-index l =
    log_from (length l.yielded) (draft_by l.draft) (drop (length l.yielded) (lines_of l.text)) ≡ log_of l.text
