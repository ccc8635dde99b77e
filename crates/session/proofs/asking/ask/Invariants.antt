use Rattle.session.specs.Session.{Silent}
use Rattle.session.proofs.asking.ask.Given as goal

abbrev pub invariant-loop : goal.invariant-loop
invariant-loop g l = Silent g.P.Port.exchanged l.fn.port l.frame l.counter l.port
