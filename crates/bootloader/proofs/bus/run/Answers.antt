use Rattle.std.proofs.Common.{◌<◌, length, sym, ◌∙◌, arith}
use Rattle.bootloader.proofs.Buses.{bus_log, behind_more, replied_more, same_more, behind_all, replied_all}
use Rattle.bootloader.proofs.bus.run.Goals as goal

pub loop-entry-preserved : goal.loop-entry-preserved
loop-entry-preserved g c =
    let inv = c.loop-entry.invariant in
    let i = c.loop-entry.entry-index in
    let now = g.D.Device.board c.loop-entry.device in
    let here : i < length c.loop-entry.entries = omega arith in
    record {
      same = same_more i c.loop-entry.entries _ _ inv.same here _;
      replies = rw (c.happen-entry.ensures.answer, c.happen-entry.ensures.after) (replied_more i c.loop-entry.entries _ _ inv.same here now ∙ inv.replies);
      after = rw (c.happen-entry.ensures.after) (behind_more i c.loop-entry.entries _ _ inv.same here now ∙ inv.after);
    }

pub returns-clause-replies : goal.returns-clause-replies
returns-clause-replies g c =
    sym (replied_all c.loop-entry.entry-index c.args.entries.now c.loop-entry.entries c.loop-entry.auto.entries c.loop-entry-test.false (g.D.Device.board c.loop-entry.device))
    ∙ c.loop-entry.invariant.replies

pub returns-clause-after : goal.returns-clause-after
returns-clause-after g c =
    sym (behind_all c.loop-entry.entry-index c.args.entries.now c.loop-entry.entries c.loop-entry.auto.entries c.loop-entry-test.false (g.D.Device.board c.loop-entry.device))
    ∙ c.loop-entry.invariant.after

pub returns-clause-law : goal.returns-clause-law
returns-clause-law g c = bus_log _ _
