-- The mask of the sectors that pieces touch.
use Rattle.std.specs.Prelude.{ℕ, ◌+◌, ◌-◌, ◌/◌, ◌^◌, zero, suc, List, length, bit_or}

-- bytes from an offset on
pub record Piece : Type 0 where
  pub at : ℕ
  pub bytes : List ℕ

-- n bits, from one on, are set in a mask
unfoldable pub marked : ℕ → ℕ → ℕ → ℕ
marked mask low zero = mask
marked mask low (suc n) = bit_or (marked mask low n) (2 ^ (low + n))

-- the unit of an offset where so many sectors have so many bytes each: sector 0 has the highest offsets
abbrev pub unit_in : ℕ → ℕ → ℕ → ℕ
unit_in sectors size o = sectors - 1 - o / size

-- the sectors of a piece are set: from that of its last byte to that of its first
abbrev pub marking : ℕ → ℕ → ℕ → Piece → ℕ
marking sectors size mask e =
    let low : ℕ = unit_in sectors size (e.at + length e.bytes - 1) in
    marked mask low (unit_in sectors size e.at + 1 - low)
