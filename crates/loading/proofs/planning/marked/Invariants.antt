use Rattle.std.specs.Prelude.{◌≡◌}
use Rattle.loading.specs.Mask.{marked}
use Rattle.loading.proofs.planning.marked.Given as goal

abbrev pub invariant-loop-step : goal.invariant-loop-step
invariant-loop-step l = l.mask ≡ marked l.fn.mask l.fn.low l.step
