use Rattle.std.proofs.Common.{◌≡◌, length}
use Rattle.srecord.specs.Reading.{coming}
use Rattle.srecord.proofs.reader.Reader.next_record.Given as goal

-- what is to come has not changed
abbrev pub invariant-loop-line : goal.invariant-loop-line
invariant-loop-line l = (coming l.self ≡ coming l.ahead) × (l.self ≡ l.initial.self)

abbrev pub decreases-loop-line : goal.decreases-loop-line
decreases-loop-line l = length l.ahead.rest.now
