use Rattle.srecord.proofs.Worked.{examples}
use Rattle.srecord.proofs.examples.examples_hold.Goals as goal

pub returns : goal.returns
returns c = examples
