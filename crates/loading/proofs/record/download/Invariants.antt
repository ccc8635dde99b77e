use Rattle.std.specs.Prelude.{ℕ, Result, length}
use Rattle.session.specs.declared.failure.Failure.{Failure}
use Rattle.loading.specs.Record.{downloads}
use Rattle.session.specs.Session.{SentAll}
use Rattle.loading.proofs.record.download.Given as goal

abbrev pub invariant-loop-left : goal.invariant-loop-left
invariant-loop-left g l =
    (r : Result (Unit {0}) Failure) (q : g.row.P.Denot) (d : ℕ) → SentAll g.P.Port.exchanged l.port l.connection.counter (downloads l.left) r q d
    → SentAll g.P.Port.exchanged l.fn.port l.fn.connection.counter (downloads l.fn.bytes) r q d

abbrev pub decreases-loop-left : goal.decreases-loop-left
decreases-loop-left g l = length l.left
