-- The tables are what the rule makes of each byte, which antt computes.
use Rattle.std.proofs.Common.{ℕ, suc, List, map, get_or, ap, ◌∙◌, arith, rules}
use Rattle.std.specs.List.{range_with_len}
use Rattle.std.proofs.lemmas.List.FromFn.{get_or-map-range_with_len}
use Rattle.memory.specs.Crc.{crc_bits, crc_zeros}
use Rattle.memory.proofs.crc.tables.with_zeros.Goals as goal

pub returns : goal.returns
unfolding crc_bits
returns c =
    rw c.from.ensures (ap (λ (row : List ℕ). get_or row c.args.byte 0)
    (get_or-map-range_with_len (λ k. map (crc_zeros (suc k)) (range_with_len 0 256)) 0 8 c.args.after c.args.after _ c.requires (omega arith))
    ∙ get_or-map-range_with_len (crc_zeros (suc c.args.after)) 0 256 c.args.byte c.args.byte 0 (search rules) (omega arith))
