use Rattle.std.proofs.Common.{rules}
use Rattle.loader.proofs.Judging.{judged}
use Rattle.loader.proofs.file.check_for.Goals as goal

pub returns-clause-law : goal.returns-clause-law
returns-clause-law c = judged _ _ _ _ (search rules)
