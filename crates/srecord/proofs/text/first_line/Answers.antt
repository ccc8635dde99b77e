use Rattle.std.proofs.Common.{sym, subst}
use Rattle.srecord.specs.Text.{CutsLine, ReadsFirst}
use Rattle.srecord.proofs.Firsts.{first_read, first-misshapen, first-fault}
use Rattle.srecord.proofs.Passing.{err_passed, none_passed}
use Rattle.srecord.proofs.text.first_line.Goals as goal
use Rattle.srecord.proofs.text.first_line.Goals.{In_ok-line}

pub returns-in_err-line : goal.returns-in_err-line
returns-in_err-line c =
    let none = subst (CutsLine c.args.text.now) c.in_err-line.ensures.ok_part c.cut_line.ensures in
    subst (ReadsFirst c.args.text.now)
    (sym (none_passed c.from_residual.result c.cut_line.result c.from_residual.ensures.1 c.in_err-line.ensures.value))
    (first-misshapen c.args.text.now c.requires (λ l r m. absurd (none l r m)))

pub returns-in_err-parse_line : goal.returns-in_err-parse_line
returns-in_err-parse_line c =
    subst (ReadsFirst c.args.text.now)
    (sym (err_passed c.from_residual-in_err-parse_line.result c.from_residual-in_err-parse_line.ensures.1))
    (first-fault c.args.text.now c.in_ok-line.line.now c.in_ok-line.rest.now _ c.requires
    (subst (CutsLine c.args.text.now) c.in_ok-line.ensures.ok_part c.cut_line.ensures) (sym c.in_err-parse_line.ensures))

pub returns : goal.returns
returns c =
    first_read c.args.text.now c.in_ok-line.line.now c.in_ok-line.rest c.in_ok-parse_line.field-0
    (subst (CutsLine c.args.text.now) c.in_ok-line.ensures.ok_part c.cut_line.ensures) (sym c.in_ok-parse_line.ensures)
