use Rattle.std.proofs.Common.{◌≡◌, drop, map}
use Rattle.board.specs.Log.{is_told}
use Rattle.board.specs.Stage.{told_by}
use Rattle.board.proofs.draft.is_told.Given as goal

abbrev pub invariant-loop-start : goal.invariant-loop-start
invariant-loop-start l = is_told l.memory (map told_by (drop l.start-index l.starts)) ≡ is_told l.memory (map told_by l.starts)
