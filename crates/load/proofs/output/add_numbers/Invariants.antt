use Rattle.std.proofs.Common.{◌≡◌, ◌++◌, drop, string_bytes}
use Rattle.load.specs.Output.{numbers_shown}
use Rattle.load.proofs.output.add_numbers.Given as goal

abbrev pub invariant-loop-number : goal.invariant-loop-number
invariant-loop-number l =
    string_bytes l.output ++ numbers_shown (drop l.number-index l.numbers) ≡ string_bytes l.fn.output ++ numbers_shown l.numbers
