use Rattle.std.proofs.Common.{arith}
use Rattle.loading.proofs.Leading.{load_bounded}
use Rattle.loading.proofs.Telling.{tells}
use Rattle.loading.proofs.delivery.load_through.Goals as goal

pub returns-clause-bounded : goal.returns-clause-bounded
returns-clause-bounded g c =
    let before = c.exchanges-before.ensures in
    let after = c.exchanges.ensures in
    load_bounded g.P.Port.exchanged c.args.target g.P.Port.exchanges g.met.P.Port.counted c.args.port.now (g.S.Source.records c.args.source) _ c.run-done.new.port
    (omega (arith, c.exchanges.type_inv))
    (record { done = c.run-done.result.0; runs = c.run-done.ensures; outcome = c.of.ensures; frames = omega (arith, before, after, c.exchanges.type_inv, c.exchanges-before.type_inv) })

pub returns-clause-told : goal.returns-clause-told
returns-clause-told g c =
    let before = c.exchanges-before.ensures in
    let after = c.exchanges.ensures in
    tells g.P.Port.exchanged c.args.target g.P.Port.exchanges c.args.port.now (g.S.Source.records c.args.source) _ c.run-done.new.port
    (record { done = c.run-done.result.0; runs = c.run-done.ensures; outcome = c.of.ensures; frames = omega (arith, before, after, c.exchanges.type_inv, c.exchanges-before.type_inv) })
