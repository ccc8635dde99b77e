use Rattle.std.proofs.Common.{rules}
use Rattle.bootloader.proofs.Puts.{takes_from-more, takes_from-end}
use Rattle.bootloader.proofs.programming.takes_all.Goals as goal

pub returns-then-ne : goal.returns-then-ne
returns-then-ne g c =
    let inv = c.loop-byte.invariant in
    let more = takes_from-more (g.P.WritablePart.shape c.args.part.now) (g.P.ReadablePart.contents c.args.part.now) c.loop-byte.offset c.loop-byte.byte-index c.args.bytes.now c.loop-byte-test.true in
    search (rules, more)

pub loop-byte-preserved : goal.loop-byte-preserved
loop-byte-preserved g c =
    let inv = c.loop-byte.invariant in
    let more = takes_from-more (g.P.WritablePart.shape c.args.part.now) (g.P.ReadablePart.contents c.args.part.now) c.loop-byte.offset c.loop-byte.byte-index c.args.bytes.now c.loop-byte-test.true in
    search (rules, more)

pub returns : goal.returns
returns g c =
    let end = takes_from-end (g.P.WritablePart.shape c.args.part.now) (g.P.ReadablePart.contents c.args.part.now) c.loop-byte.offset c.loop-byte.byte-index c.args.bytes.now c.loop-byte-test.false in
    search (rules, end)
