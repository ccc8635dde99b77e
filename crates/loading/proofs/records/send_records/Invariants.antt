use Rattle.std.specs.Prelude.{ℕ, Result, length}
use Rattle.session.specs.declared.failure.Failure.{Failure}
use Rattle.loading.specs.Record.{commands_for}
use Rattle.session.specs.Session.{SentAll}
use Rattle.loading.proofs.records.send_records.Given as goal

abbrev pub invariant-loop-record : goal.invariant-loop-record
invariant-loop-record g l =
    (r : Result (Unit {0}) Failure) (q : g.row.P.Denot) (d : ℕ) → SentAll g.P.Port.exchanged l.port l.connection.counter (commands_for l.extension (g.S.Source.records l.source)) r q d
    → SentAll g.P.Port.exchanged l.fn.port l.fn.connection.counter (commands_for l.extension (g.S.Source.records l.fn.source)) r q d

abbrev pub decreases-loop-record : goal.decreases-loop-record
decreases-loop-record g l = length (g.S.Source.records l.source)
