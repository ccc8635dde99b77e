-- The verdict on a file, and the number of each outcome.
use Rattle.std.specs.Prelude.{ℕ, ◌+◌, ◌/◌, ◌%◌, Bool, true, false, cond, List, [], ◌∷◌, length, Some, None, Ok, Err, Option, Result, ◌==◌, nat_lt}
use Rattle.srecord.specs.declared.FaultAt.{FaultAt}
use Rattle.srecord.specs.Line.{fault_number}
use Rattle.srecord.specs.Reading.{Handed, Coming, coming_of}
use Rattle.loader.specs.declared.file.Reason.{Reason}
use Rattle.loader.specs.declared.file.Reason.TheVariants.{Target, TextSize, File, NotRising, NotWhole, NoData}
use Rattle.loader.specs.declared.file.Refusal.{Refusal}
use Rattle.loader.specs.Target.{bytes_per_address}

-- the number by which an outcome is reported
abbrev pub outcome_number : Reason → ℕ
outcome_number Target = 1
outcome_number TextSize = 2
outcome_number (File f) = fault_number f
outcome_number NotRising = 7
outcome_number NotWhole = 8
outcome_number NoData = 9

-- the number of a verdict: 0 where the file is accepted
abbrev pub outcome_of : Result (Unit {0}) Refusal → ℕ
outcome_of (Ok u) = 0
outcome_of (Err x) = outcome_number x.reason

-- a refusal for this reason on this line, or on none
abbrev pub refusal_at : Reason → Option ℕ → Refusal
refusal_at reason line = record { reason = reason; line = line }

-- the refusal for a fault of the text
abbrev pub refusal_for : FaultAt → Refusal
refusal_for at = refusal_at (File at.fault) at.line

-- the verdict that refuses so
abbrev pub refused_at : Reason → Option ℕ → Result (Unit {0}) Refusal
refused_at reason line = Err (refusal_at reason line)

-- how many bytes a record has
abbrev pub byte_count : Handed → ℕ
byte_count r = length r.digits / 2

-- where a record with data ends, in addresses of w bytes, after records that end at e: it fills whole
-- addresses, which is looked at first, and does not start below e; the end is not reduced
abbrev pub end_after : ℕ → ℕ → Handed → Result ℕ Reason
end_after w e r =
    cond (byte_count r % w == 0)
    (cond (nat_lt r.address e) (Err NotRising) (Ok (r.address + byte_count r / w)))
    (Err NotWhole)

-- what follows from the check of a record on a line
abbrev pub goes_on : (ℕ → Result (Unit {0}) Refusal) → ℕ → Result ℕ Reason → Result (Unit {0}) Refusal
goes_on go line (Ok e) = go e
goes_on go line (Err reason) = refused_at reason (Some line)

-- what is said once all records have passed: the fault at which the file stopped, or that no record
-- had data
abbrev pub at_last : Bool → Option FaultAt → Result (Unit {0}) Refusal
at_last any (Some f) = Err (refusal_for f)
at_last any None = cond any (Ok tt) (refused_at NoData None)

-- whether records suit a target with w bytes an address, after records that end at e, any of which
-- had data; records without data are passed over
unfoldable pub suits_from : ℕ → ℕ → Bool → List Handed → Option FaultAt → Result (Unit {0}) Refusal
suits_from w e any [] f = at_last any f
suits_from w e any (r ∷ rs) f =
    cond (byte_count r == 0) (suits_from w e any rs f)
    (goes_on (λ next. suits_from w next true rs f) r.line (end_after w e r))

-- whether what comes of a text suits a target with w bytes an address
abbrev pub suits : ℕ → Coming → Result (Unit {0}) Refusal
suits w c = suits_from w 0 false c.records c.fault

-- the verdict for a target with so many bytes an address, if there is one
abbrev pub verdict_for : List ℕ → Option ℕ → Result (Unit {0}) Refusal
verdict_for text None = refused_at Target None
verdict_for text (Some w) = cond (nat_lt 4194304 (length text)) (refused_at TextSize None) (suits w (coming_of text))

-- the verdict on a text for a target of a size: the target is looked at first, then how long the
-- text is, then the lines in their order
abbrev pub verdict : List ℕ → ℕ → ℕ → Result (Unit {0}) Refusal
verdict text target size = verdict_for text (bytes_per_address target size)
