use Rattle.std.proofs.Common.{take}
use Rattle.session.specs.Session.{Delivered}
use Rattle.session.proofs.connection.Connection.send_all.Given as goal

abbrev pub invariant-loop-command : goal.invariant-loop-command
invariant-loop-command g l = Delivered g.P.Port.exchanged l.fn.port l.fn.self.counter (take l.command-index l.commands) l.port l.self.counter
