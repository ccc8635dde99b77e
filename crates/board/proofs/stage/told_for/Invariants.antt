use Rattle.std.proofs.Common.{◌≡◌, drop, map}
use Rattle.board.specs.Stage.{told_for, told_by}
use Rattle.board.proofs.stage.told_for.Given as goal

abbrev pub invariant-loop-start : goal.invariant-loop-start
invariant-loop-start l =
    told_for l.memory (map told_by (drop l.start-index l.starts)) ≡ told_for l.memory (map told_by l.starts)
