use Rattle.std.proofs.Common.{arith, ap, sym, ◌∙◌}
use Rattle.std.proofs.lemmas.Result.{err_from_is_err_and}
use Rattle.std.specs.Option.{option_map}
use Rattle.loading.specs.Source.{record_by}
use Rattle.loading.proofs.Plans.{plan_stops, plan_goes, plan_ends}
use Rattle.loading.proofs.planning.plan_records.Goals as goal

pub returns-in_err-plan : goal.returns-in_err-plan
returns-in_err-plan g c =
    let l = c.loop-record in
    let p = err_from_is_err_and c.from_residual.result c.from_residual.ensures.1 in
    rw (p.1, p.2)
    (plan_stops c.args.target c.args.row l.plan (g.S.Source.records l.source) (record_by c.in-Some.record) c.in_err-plan.field-0.0 (ap (option_map record_by) (sym c.in-Some.is) ∙ c.next_record.ensures.answer)
    c.in_err-plan.ensures ∙ l.invariant)

pub loop-record-preserved : goal.loop-record-preserved
loop-record-preserved g c =
    let l = c.loop-record in
    plan_goes c.args.target c.args.row l.plan (g.S.Source.records l.source) (g.S.Source.records c.next_record.new.self) (record_by c.in-Some.record) c.in_ok-plan.plan
    (ap (option_map record_by) (sym c.in-Some.is) ∙ c.next_record.ensures.answer) c.next_record.ensures.after c.in_ok-plan.ensures ∙ l.invariant

pub returns : goal.returns
returns g c =
    let l = c.loop-record in
    plan_ends c.args.target c.args.row l.plan (g.S.Source.records l.source) (sym (sym c.next_record.ensures.answer ∙ (ap (option_map record_by) c.in_default.is ∙ (grind arith)))) ∙ l.invariant
