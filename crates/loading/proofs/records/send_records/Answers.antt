use Rattle.std.proofs.Common.{Err, ap, sym, ◌∙◌}
use Rattle.std.proofs.lemmas.Result.{err_from_is_err_and}
use Rattle.std.specs.Option.{option_map}
use Rattle.loading.specs.Source.{record_by}
use Rattle.loading.proofs.Sending.{records_on, records_stop}
use Rattle.loading.proofs.records.send_records.Goals as goal

pub returns-in_err-send_one : goal.returns-in_err-send_one
returns-in_err-send_one g c =
    let l = c.loop-record in
    let p = err_from_is_err_and c.from_residual.result c.from_residual.ensures.1 in
    rw (p.1, p.2)
    (l.invariant (Err c.in_err-send_one.field-0.0) c.send_one.new.port c.send_one.new.connection.counter
    (records_stop g.P.Port.exchanged c.args.extension (g.S.Source.records l.source) (record_by c.in-Some.record) l.port l.connection.counter c.in_err-send_one.field-0.0
    c.send_one.new.port c.send_one.new.connection.counter (ap (option_map record_by) (sym c.in-Some.is) ∙ c.next_record.ensures.answer) c.in_err-send_one.ensures))

pub loop-record-preserved : goal.loop-record-preserved
loop-record-preserved g c = λ r q d h.
    let l = c.loop-record in
    l.invariant r q d
    (records_on g.P.Port.exchanged c.args.extension (g.S.Source.records l.source) (record_by c.in-Some.record) (g.S.Source.records c.next_record.new.self) l.port l.connection.counter
    c.send_one.new.port c.send_one.new.connection.counter r q d (ap (option_map record_by) (sym c.in-Some.is) ∙ c.next_record.ensures.answer) c.next_record.ensures.after c.in_ok-send_one.ensures h)
