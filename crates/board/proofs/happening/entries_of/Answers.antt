use Rattle.std.proofs.Common.{ap, ◌∙◌, arith}
use Rattle.board.specs.Replay.{event_by}
use Rattle.board.proofs.Rows.{entries_more, entries_all}
use Rattle.board.proofs.happening.entries_of.Goals as goal

pub loop-happening-preserved : goal.loop-happening-preserved
loop-happening-preserved c =
    record {
      len = omega arith;
      room = omega arith;
      events = rw (c.push_reserved.ensures.items) (entries_more _ _ c.loop-happening.happening-index _ c.happening-item.result c.loop-happening-test.true (c.event.ensures ∙ ap event_by c.happening-item.is) ∙ c.loop-happening.invariant.events);
    }

pub returns : goal.returns
returns c = entries_all _ c.loop-happening.happening-index _ c.loop-happening-test.false ∙ c.loop-happening.invariant.events
