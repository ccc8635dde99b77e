use Rattle.std.proofs.Common.{◌≡◌, ℕ, drop}
use Rattle.srecord.specs.Hex.{Follows}
use Rattle.srecord.proofs.Pairs.{fold_pairs}
use Rattle.srecord.proofs.hex.fold_bytes.Given as goal

abbrev pub invariant-loop-high : goal.invariant-loop-high
invariant-loop-high g l =
    (f : _ → ℕ → _) → Follows (λ s b t. goal.F-post g l.step s b t) f → fold_pairs f l.total (drop l.high-index l.high-items) ≡ fold_pairs f l.fn.start l.high-items
