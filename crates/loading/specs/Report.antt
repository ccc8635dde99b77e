-- The report of a load, as seven numbers.
use Rattle.std.specs.Prelude.{ℕ, cond, Bool, List, [], ◌∷◌, Result, Ok, Err, unwrap_or}
use Rattle.session.specs.declared.failure.Failure.TheVariants as why
use Rattle.loader.specs.Verdict.{outcome_number as file_number}
use Rattle.loading.specs.declared.planning.Plan.{Plan}
use Rattle.loading.specs.declared.planning.Stop.{Stop}
use Rattle.loading.specs.declared.planning.Stop.TheVariants.{NoRow, Outside, Sending}
use Rattle.loading.specs.declared.report.Outcome.{Outcome}
use Rattle.loading.specs.declared.report.Outcome.TheVariants as outcome
use Rattle.loading.specs.declared.report.Report.{Report}

-- what is told of how a load ended
abbrev pub outcome_by : Result Plan Stop → Outcome
outcome_by (Ok plan) = outcome.Loaded
outcome_by (Err NoRow) = outcome.Unlisted
outcome_by (Err (Outside line)) = outcome.Outside line
outcome_by (Err (Sending (why.Refused command code))) = outcome.Refused command code
outcome_by (Err (Sending (why.Silent command))) = outcome.Silent command

-- the number of an outcome; 1 to 9 are those of the file check
abbrev pub outcome_number : Outcome → ℕ
outcome_number outcome.Loaded = 0
outcome_number (outcome.File refusal) = file_number refusal.reason
outcome_number (outcome.Outside line) = 10
outcome_number outcome.Unlisted = 11
outcome_number (outcome.Refused command code) = 12
outcome_number (outcome.Silent command) = 13

-- the line at fault, from 1; 0 where none is
abbrev pub outcome_line : Outcome → ℕ
outcome_line outcome.Loaded = 0
outcome_line (outcome.File refusal) = unwrap_or refusal.line 0
outcome_line (outcome.Outside line) = line
outcome_line outcome.Unlisted = 0
outcome_line (outcome.Refused command code) = 0
outcome_line (outcome.Silent command) = 0

-- the code of the command that ended a run
abbrev pub outcome_command : Outcome → ℕ
outcome_command outcome.Loaded = 0
outcome_command (outcome.File refusal) = 0
outcome_command (outcome.Outside line) = 0
outcome_command outcome.Unlisted = 0
outcome_command (outcome.Refused command code) = command
outcome_command (outcome.Silent command) = command

-- and the code of the reply that refused it
abbrev pub outcome_code : Outcome → ℕ
outcome_code outcome.Loaded = 0
outcome_code (outcome.File refusal) = 0
outcome_code (outcome.Outside line) = 0
outcome_code outcome.Unlisted = 0
outcome_code (outcome.Refused command code) = code
outcome_code (outcome.Silent command) = 0

abbrev pub one_if : Bool → ℕ
one_if b = cond b 1 0

-- a report as its seven numbers
abbrev pub numbers_of : Report → List ℕ
numbers_of r =
    outcome_number r.outcome ∷ outcome_line r.outcome ∷ outcome_command r.outcome ∷ outcome_code r.outcome
    ∷ r.frames ∷ r.sectors ∷ one_if r.acknowledged ∷ []
