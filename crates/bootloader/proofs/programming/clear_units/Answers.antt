use Rattle.std.proofs.Common.{rules, sym, refl}
use Rattle.bootloader.proofs.Clears.{clears_below-none, clears_below-named, clears_below-passed}
use Rattle.bootloader.proofs.programming.clear_units.Goals as goal
use Rattle.bootloader.proofs.programming.clear_units.Goals.{then-names, else-names}

pub loop-unit-init : goal.loop-unit-init
loop-unit-init g c = record {
  same = refl;
  after = sym (clears_below-none (g.P.WritablePart.shape c.args.part.now) c.args.mask (g.P.ReadablePart.contents c.args.part.now));
}

pub loop-unit-preserved : goal.loop-unit-preserved
loop-unit-preserved g c =
    let inv = c.loop-unit.invariant in
    let s = g.P.WritablePart.shape c.args.part.now in
    let xs = g.P.ReadablePart.contents c.args.part.now in
    elim c.if-names.branch [
      | then-names w ↦ let done = clears_below-named s c.args.mask xs c.loop-unit.unit in search (rules, done)
      | else-names w ↦ let passed = clears_below-passed s c.args.mask xs c.loop-unit.unit in search (rules, passed)
    ]
