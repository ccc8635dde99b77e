-- The bytes of a record, decoded from its digits.
use Rattle.std.specs.Prelude.{ℕ, cond, List, length, take, None, Option, nat_le}
use Rattle.srecord.specs.declared.bytes.RecordBytes.{RecordBytes}
use Rattle.srecord.specs.Hex.{bytes_of}

-- the bytes that are in use
abbrev pub bytes_in : RecordBytes → List ℕ
bytes_in b = take b.len b.bytes

-- the bytes that digits spell; none where they are no pairs, or are more than 252 pairs
abbrev pub decoded : List ℕ → Option (List ℕ)
decoded ds = cond (nat_le (length ds) 504) (bytes_of ds) None
