use Rattle.std.proofs.Common.{◌≡◌, take, string_bytes}
use Rattle.std.specs.List.{flat_map}
use Rattle.script.specs.Report.{reply_line}
use Rattle.script.proofs.report.play.Given as goal

abbrev pub invariant-loop-answer : goal.invariant-loop-answer
invariant-loop-answer g l = string_bytes l.report ≡ flat_map reply_line (take l.answer-index l.answer-items)
