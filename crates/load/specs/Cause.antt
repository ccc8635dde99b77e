-- Why a file was not loaded.
use Rattle.std.specs.Prelude.{None, Some, Option}
use Rattle.loading.specs.declared.report.Outcome.{Outcome}
use Rattle.loading.specs.declared.report.Outcome.TheVariants as outcome
use Rattle.load.specs.declared.cause.Cause.{Cause}
use Rattle.load.specs.declared.cause.Cause.TheVariants.{File, Outside, Unlisted, Refused, Silent}

-- by how the load ended; nothing where the file is in the board
abbrev pub cause_of : Outcome → Option Cause
cause_of outcome.Loaded = None
cause_of (outcome.File refusal) = Some (File refusal)
cause_of (outcome.Outside line) = Some (Outside line)
cause_of outcome.Unlisted = Some Unlisted
cause_of (outcome.Refused command code) = Some (Refused command code)
cause_of (outcome.Silent command) = Some (Silent command)
