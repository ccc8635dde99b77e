use Rattle.std.proofs.Common.{◌≡◌, ◌≤◌, take, vec_items, vec_len, vec_capacity}
use Rattle.memory.proofs.reading.read_all.Given as goal

abbrev pub invariant-loop-offset : goal.invariant-loop-offset
invariant-loop-offset g l =
    (vec_len l.bytes ≡ l.offset)
    × (l.len ≤ vec_capacity l.bytes)
    × (vec_items l.bytes ≡ take l.offset (g.P.ReadablePart.contents l.part))
