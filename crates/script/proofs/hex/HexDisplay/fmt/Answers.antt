use Rattle.std.proofs.Common.{rules}
use Rattle.std.proofs.Output.{has_written_append, has_written_of_eq}
use Rattle.script.proofs.Glyphs.{byte_more}
use Rattle.script.proofs.hex.HexDisplay.fmt.Goals as goal

pub loop-byte-preserved : goal.loop-byte-preserved
loop-byte-preserved g c =
    λ p. has_written_of_eq _ _ _ _ _ (byte_more _ _ c.loop-byte-test.true (search rules)) (has_written_append _ _ _ _ _ _ (c.loop-byte.invariant p) (search rules))
