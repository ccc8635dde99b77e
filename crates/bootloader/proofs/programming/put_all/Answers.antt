use Rattle.std.proofs.Common.{rules, sym, ◌∙◌}
use Rattle.bootloader.proofs.Puts.{one_put, others_taken, others_put, puts_from-end}
use Rattle.bootloader.proofs.programming.put_all.Goals as goal

pub unwrap-requires : goal.unwrap-requires
unwrap-requires g c =
    let inv = c.loop-byte.invariant in
    let done = one_put (g.P.WritablePart.shape c.args.part.now) (g.P.ReadablePart.contents c.loop-byte.part) c.loop-byte.offset c.loop-byte.byte-index c.args.bytes.now c.loop-byte-test.true inv.taken in
    search (rules, done, inv.same)

pub loop-byte-preserved : goal.loop-byte-preserved
loop-byte-preserved g c =
    let inv = c.loop-byte.invariant in
    let s = g.P.WritablePart.shape c.args.part.now in
    let xs = g.P.ReadablePart.contents c.loop-byte.part in
    let taken = others_taken s xs c.loop-byte.offset c.loop-byte.byte-index c.args.bytes.now c.loop-byte-test.true inv.taken in
    let after = others_put s xs c.loop-byte.offset c.loop-byte.byte-index c.args.bytes.now c.loop-byte-test.true inv.taken in
    record {
      same = c.put.ensures.same ∙ inv.same;
      taken = rw (c.put.ensures.after, inv.same) taken;
      after = rw (c.put.ensures.after, inv.same) (after ∙ inv.after);
    }

pub returns-clause-after : goal.returns-clause-after
returns-clause-after g c =
    let inv = c.loop-byte.invariant in
    sym (puts_from-end (g.P.WritablePart.shape c.args.part.now) (g.P.ReadablePart.contents c.loop-byte.part) c.loop-byte.offset c.loop-byte.byte-index c.args.bytes.now c.loop-byte-test.false) ∙ inv.after
