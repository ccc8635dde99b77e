use Rattle.std.proofs.Common.{◌≡◌}
use Rattle.memory.specs.Changes.{changed_all}
use Rattle.bootloader.specs.Memories.{clears_below}
use Rattle.bootloader.proofs.programming.clear_units.Given as goal

abbrev pub invariant-loop-unit : goal.invariant-loop-unit
invariant-loop-unit g l =
    let s = g.P.WritablePart.shape l.initial.part in
    record {
      same : g.P.WritablePart.shape l.part ≡ s;
      after : g.P.ReadablePart.contents l.part ≡ changed_all s (clears_below l.mask l.unit) (g.P.ReadablePart.contents l.initial.part);
    }
