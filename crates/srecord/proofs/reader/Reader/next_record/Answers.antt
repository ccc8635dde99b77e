use Rattle.std.proofs.Common.{◌≡◌, sym, ap, ◌∙◌, true-eqb}
use Rattle.std.proofs.lemmas.List.{nil_from_length}
use Rattle.srecord.specs.Reading.{coming, coming_from, stopped, at_last, next_of}
use Rattle.srecord.specs.Text.{lines_of}
use Rattle.srecord.proofs.Arrivals.{coming-none, at_last-open, next_of-stopped, rest_of-stopped}
use Rattle.srecord.proofs.reader.Reader.next_record.Goals as goal
use Rattle.srecord.proofs.reader.Reader.next_record.Goals.{After-loop-line}

same : (c : After-loop-line) → coming c.args.self.now ≡ coming c.loop-line.ahead
same c = sym (ap coming c.loop-line.invariant.1) ∙ c.loop-line.invariant.0

-- what is to come at the end of the text
last : (c : After-loop-line) → coming c.args.self.now ≡ stopped (at_last c.loop-line.ahead.phase)
last c =
    same c
    ∙ ap (λ t. coming_from c.loop-line.ahead.phase c.loop-line.ahead.records c.loop-line.ahead.lines (lines_of t)) (nil_from_length _ (true-eqb _ 0 c.loop-line-test.ensures))
    ∙ coming-none _ _ _

pub returns-in-Ended : goal.returns-in-Ended
returns-in-Ended c =
    let e = last (goal.at.returns-in-Ended c).After-loop-line ∙ ap (λ p. stopped (at_last p)) c.in-Ended.is in
    record { answer = sym (ap next_of e); after = rest_of-stopped _ _ _ (ap coming c.loop-line.invariant.1) e }

pub returns-in_default-phase : goal.returns-in_default-phase
returns-in_default-phase c =
    let e = last (goal.at.returns-in_default-phase c).After-loop-line ∙ ap stopped (at_last-open _ c.in_default-phase.not-Ended) in
    record { answer = next_of-stopped _ _ e; after = rest_of-stopped _ _ _ (ap coming c.loop-line.invariant.1) e }
