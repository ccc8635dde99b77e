use Rattle.std.proofs.Common.{◌≡◌, length, drop}
use Rattle.script.specs.Line.{lines_of}
use Rattle.script.specs.Text.{script_from, script_of}
use Rattle.script.proofs.text.read_script.Given as goal

abbrev pub invariant-loop-index : goal.invariant-loop-index
invariant-loop-index l =
    script_from (length l.yielded) (record { setup = l.setup; actions = l.actions.items }) (drop (length l.yielded) (lines_of l.text)) ≡ script_of l.text
