use Rattle.std.proofs.Common.{◌≡◌, drop, map}
use Rattle.board.specs.Log.{checked}
use Rattle.board.specs.Stage.{told_by}
use Rattle.board.proofs.draft.check_starts.Given as goal

abbrev pub invariant-loop-start : goal.invariant-loop-start
invariant-loop-start l = checked l.plan (map told_by (drop l.start-index l.starts)) ≡ checked l.plan (map told_by l.starts)
