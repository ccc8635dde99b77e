use Rattle.std.proofs.Common.{sym, subst}
use Rattle.srecord.specs.File.{ReadsLine}
use Rattle.srecord.proofs.Writing.{reads-line}
use Rattle.srecord.proofs.line.read_line.Goals as goal

pub returns : goal.returns
returns c =
    record { answer = c.parse_line.ensures; law = subst (ReadsLine c.args.line.now) (sym c.parse_line.ensures) (reads-line c.args.line.now) }
