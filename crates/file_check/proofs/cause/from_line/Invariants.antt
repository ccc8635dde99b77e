use Rattle.std.proofs.Common.{◌≡◌, ◌-◌}
use Rattle.file_check.specs.Causes.{behind_lines}
use Rattle.file_check.proofs.cause.from_line.Given as goal

abbrev pub invariant-loop : goal.invariant-loop
invariant-loop l = behind_lines (l.line - l.counter) l.rest ≡ behind_lines (l.line - 1) l.text
