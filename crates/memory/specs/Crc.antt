-- The CRC-16 of the protocol: polynomial 0xA001 in reflected form, lowest bit first.
use Rattle.std.specs.Prelude.{◌≡◌, ℕ, zero, suc, ◌/◌, ◌%◌, cond, List, ◌++◌, fold, ◌==◌, bit_xor}

-- one bit: the value is shifted down, and takes the polynomial where a one fell out
abbrev pub crc_bit : ℕ → ℕ
crc_bit c = cond (c % 2 == 1) (bit_xor (c / 2) 0xA001) (c / 2)

-- the eight bits of a byte that stand in the low half of the value
unfoldable pub crc_bits : ℕ → ℕ
crc_bits c = crc_bit (crc_bit (crc_bit (crc_bit (crc_bit (crc_bit (crc_bit (crc_bit c)))))))

-- one byte more, after those that gave c
abbrev pub crc_byte : ℕ → ℕ → ℕ
crc_byte c b = crc_bits (bit_xor c b)

-- the CRC over bytes, continued from c
abbrev pub crc_from : ℕ → List ℕ → ℕ
crc_from c bs = fold crc_byte c bs

-- n zero bytes more, after those that gave c
abbrev pub crc_zeros : ℕ → ℕ → ℕ
crc_zeros zero c = c
crc_zeros (suc n) c = crc_zeros n (crc_bits c)

-- r is the CRC over the bytes also where it is taken over their front first, and then continued
-- over the others, wherever the bytes are cut
abbrev pub Continues : ℕ → List ℕ → ℕ → Type 0
Continues from bytes r = (xs ys : List ℕ) → bytes ≡ xs ++ ys → r ≡ crc_from (crc_from from xs) ys
