use Rattle.std.proofs.Common.{◌≡◌, ◌++◌, drop, string_bytes}
use Rattle.std.specs.List.{flat_map}
use Rattle.load.specs.Output.{exchange_line}
use Rattle.load.proofs.output.output_of.Given as goal

abbrev pub invariant-loop-exchange : goal.invariant-loop-exchange
invariant-loop-exchange l =
    string_bytes l.output ++ flat_map exchange_line (drop l.exchange-index l.exchanges) ≡ flat_map exchange_line l.exchanges
