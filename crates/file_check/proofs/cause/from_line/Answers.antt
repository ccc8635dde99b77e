use Rattle.std.proofs.Common.{◌≡◌, ◌-◌, cond, eqb, ltb, length, Some, None, rules, arith}
use Rattle.std.proofs.lemmas.Bool.Decides.{nat_tests}
use Rattle.std.proofs.lemmas.Iterator.{YieldsList-from_slice}
use Rattle.std.proofs.lemmas.Iterator.Search.{position_from_yields_List}
use Rattle.std.proofs.lemmas.List.{take_rest}
use borrow.Author.Tests.{tests}
use Rattle.file_check.proofs.Lines.{feed_of, behind_feed}
use Rattle.file_check.proofs.cause.from_line.Goals as goal
use Rattle.file_check.proofs.cause.from_line.Goals.{After-position}

-- the place that was found is that of the first LF
found : (c : After-position) → c.position.result ≡ cond (ltb (feed_of c.loop.rest.now) (length c.loop.rest.now)) (Some (feed_of c.loop.rest.now)) None
found c =
    position_from_yields_List (λ x. eqb x 10) _ _ c.position.result c.position.ensures.ran (YieldsList-from_slice c.loop.rest.now cc) (λ x b q k. search (rules, tests))

pub returns-in_default : goal.returns-in_default
returns-in_default c =
    let f = found (goal.at.returns-in_default c).After-position in
    grind (arith, nat_tests, f, behind_feed (c.args.line - c.loop.counter - 1) c.loop.rest.now)

pub loop-preserved : goal.loop-preserved
loop-preserved c =
    let f = found (goal.at.loop-preserved c).After-position in
    grind (arith, nat_tests, take_rest, f, behind_feed (c.args.line - c.loop.counter - 1) c.loop.rest.now)
