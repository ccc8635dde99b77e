use Rattle.std.proofs.Common.{◌≡◌, [], length, take, drop}
use Rattle.srecord.proofs.Pairs.{fold_pairs, add_last}
use Rattle.srecord.proofs.reader.Record.bytes.Given as goal

abbrev pub invariant-loop-at : goal.invariant-loop-at
invariant-loop-at l =
    (fold_pairs add_last (take l.at l.bytes) (drop l.at l.pairs) ≡ fold_pairs add_last [] l.pairs) × (length l.bytes ≡ 252)
