use Rattle.std.proofs.Common.{◌≡◌, ◌+◌, drop}
use Rattle.bootloader.specs.Memories.{takes_from}
use Rattle.bootloader.proofs.programming.takes_all.Given as goal

abbrev pub invariant-loop-byte : goal.invariant-loop-byte
invariant-loop-byte g l =
    let s = g.P.WritablePart.shape l.part in
    let xs = g.P.ReadablePart.contents l.part in
    (l.offset ≡ l.start + l.byte-index) × (takes_from s xs l.offset (drop l.byte-index l.bytes) ≡ takes_from s xs l.start l.bytes)
