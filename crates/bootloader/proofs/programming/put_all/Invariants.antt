use Rattle.std.proofs.Common.{◌≡◌, true, drop}
use Rattle.memory.specs.Changes.{changed_all}
use Rattle.bootloader.specs.Memories.{takes_from, puts_from}
use Rattle.bootloader.proofs.programming.put_all.Given as goal

abbrev pub invariant-loop-byte : goal.invariant-loop-byte
invariant-loop-byte g l =
    let s = g.P.WritablePart.shape l.initial.part in
    let rest = drop l.byte-index l.bytes in
    record {
      same : g.P.WritablePart.shape l.part ≡ s;
      taken : takes_from s (g.P.ReadablePart.contents l.part) l.offset rest ≡ true;
      after : changed_all s (puts_from l.offset rest) (g.P.ReadablePart.contents l.part) ≡ changed_all s (puts_from l.start l.bytes) (g.P.ReadablePart.contents l.initial.part);
    }
