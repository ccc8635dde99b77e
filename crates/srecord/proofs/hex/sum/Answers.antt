use Rattle.std.proofs.Common.{◌∙◌, rules}
use Rattle.srecord.proofs.Pairs.{add_low, fold-add_low}
use Rattle.srecord.proofs.hex.sum.Goals as goal

pub returns : goal.returns
returns c = c.fold_bytes.ensures add_low (λ s b t k. search rules) ∙ fold-add_low c.args.digits.now
