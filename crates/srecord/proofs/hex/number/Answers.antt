use Rattle.std.proofs.Common.{◌∙◌, rules}
use Rattle.srecord.proofs.Pairs.{add_wide, fold-add_wide}
use Rattle.srecord.proofs.hex.number.Goals as goal

pub returns : goal.returns
returns c = c.fold_bytes.ensures add_wide (λ s b t k. search rules) ∙ fold-add_wide c.args.digits.now c.requires
