use Rattle.std.proofs.Common.{ap, rules, not}
use Rattle.std.proofs.lemmas.Iterator.Adapters.{YieldsList-from_bytes}
use Rattle.std.proofs.lemmas.Iterator.Search.{any_from_yields_List}
use borrow.Author.Tests.{tests}
use Rattle.file_check.specs.Names.{is_control}
use Rattle.file_check.proofs.advice.is_plain.Goals as goal

pub returns : goal.returns
returns c =
    ap not (any_from_yields_List is_control _ _ _ c.any.ensures.ran (YieldsList-from_bytes c.args.name.now cc) (λ x b q k. search (rules, tests)))
