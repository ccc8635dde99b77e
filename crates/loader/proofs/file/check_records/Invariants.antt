use Rattle.std.proofs.Common.{◌≡◌, is_some, unwrap_or}
use Rattle.srecord.specs.Reading.{coming_of}
use Rattle.srecord.specs.Records.{left_of}
use Rattle.loader.specs.Verdict.{suits}
use Rattle.loader.proofs.Suiting.{suits_items}
use Rattle.loader.proofs.file.check_records.Given as goal

-- what is left suits the target as the whole does
abbrev pub invariant-loop-record : goal.invariant-loop-record
invariant-loop-record l =
    suits_items l.width (unwrap_or l.end 0) (is_some l.end) (left_of l.record-iterator) ≡ suits l.width (coming_of l.text)
