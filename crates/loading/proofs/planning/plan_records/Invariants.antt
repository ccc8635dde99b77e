use Rattle.std.specs.Prelude.{◌≡◌, length}
use Rattle.loading.specs.Plan.{plan_from, empty_plan}
use Rattle.loading.proofs.planning.plan_records.Given as goal

abbrev pub invariant-loop-record : goal.invariant-loop-record
invariant-loop-record g l = plan_from l.target l.row l.plan (g.S.Source.records l.source) ≡ plan_from l.fn.target l.fn.row empty_plan (g.S.Source.records l.fn.source)

abbrev pub decreases-loop-record : goal.decreases-loop-record
decreases-loop-record g l = length (g.S.Source.records l.source)
