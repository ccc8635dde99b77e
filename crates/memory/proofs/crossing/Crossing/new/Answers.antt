use Rattle.memory.proofs.Crossings.{crossed_sectors}
use Rattle.memory.proofs.crossing.Crossing.new.Goals as goal

pub returns-clause-law : goal.returns-clause-law
returns-clause-law g c = crossed_sectors
