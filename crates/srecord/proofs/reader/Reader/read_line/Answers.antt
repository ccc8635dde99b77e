use Rattle.std.proofs.Common.{◌≡◌, sym, refl, rules}
use Rattle.std.proofs.lemmas.Result.{err_from_is_err_and}
use Rattle.srecord.proofs.Arrivals.{reads_fault, reads_misplaced, reads_line, record_of}
use Rattle.srecord.proofs.reader.Reader.read_line.Goals as goal
use Rattle.srecord.proofs.reader.Reader.read_line.Goals.{in-Data, in-Header}

pub returns-in_err-line : goal.returns-in_err-line
returns-in_err-line c =
    let p = err_from_is_err_and c.from_residual.result c.from_residual.ensures.1 in
    rw (p.1, p.2) (reads_fault c.args.self.now c.in_err-line.field-0.0 c.in_err-line.ensures)

pub returns-in_err-phase : goal.returns-in_err-phase
returns-in_err-phase c =
    let p = err_from_is_err_and c.from_residual-in_err-phase.result c.from_residual-in_err-phase.ensures.1 in
    rw (p.1, p.2) (reads_misplaced c.args.self.now c.in_ok-line.line c.in_ok-line.rest c.in_ok-line.ensures c.in_err-phase.field-0.0 (sym c.in_err-phase.ensures))

pub returns : goal.returns
returns c =
    let is : record_of c.args.self.now c.in_ok-line.line ≡ c.match-line.result = elim c.match-line.branch [ in-Data w ↦ search rules | in-Header w ↦ search rules ] in
    rw (← is)
    (reads_line c.args.self.now c.in_ok-line.line c.in_ok-line.rest c.in_ok-phase.phase _ c.in_ok-line.ensures (sym c.in_ok-phase.ensures) refl refl c.records_with.ensures refl)
