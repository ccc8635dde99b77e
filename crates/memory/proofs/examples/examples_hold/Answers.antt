use Rattle.std.proofs.Common.{refl}
use Rattle.memory.proofs.Worked.{crc_examples, flash_examples, layout_examples, call_examples, crossing_examples, seal_examples}
use Rattle.memory.proofs.examples.examples_hold.Goals as goal

pub returns : goal.returns
returns c = record { crc = crc_examples; flash = flash_examples; layout = layout_examples; calls = call_examples; widths = (refl, refl); crossing = crossing_examples; seal = seal_examples }
