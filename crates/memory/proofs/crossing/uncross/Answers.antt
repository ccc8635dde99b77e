use Rattle.std.proofs.Common.{ap, ◌∙◌, sym, rules, ◌≡◌}
use Rattle.memory.proofs.Crossings.{contents-twice, shapes-twice}
use Rattle.memory.proofs.crossing.uncross.Goals as goal

pub returns-clause-contents : goal.returns-clause-contents
returns-clause-contents g c =
    let p = c.args.twice.below.below in
    let same : c.into_inner-2.result ≡ p = search rules in
    contents-twice (g.P.ReadablePart.contents p) ∙ ap g.P.ReadablePart.contents (sym same)

pub returns-clause-shape : goal.returns-clause-shape
returns-clause-shape g c =
    let p = c.args.twice.below.below in
    let same : c.into_inner-2.result ≡ p = search rules in
    shapes-twice (g.P.ReadablePart.contents p) (g.P.WritablePart.shape p) ∙ ap g.P.WritablePart.shape (sym same)
