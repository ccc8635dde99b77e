-- A CRC has two bytes. Assumes nothing.
use Rattle.std.proofs.Common.{ℕ, Bool, true, false, cond, ◌/◌, ◌%◌, ◌<◌, List, [], ◌∷◌, arith}
use Rattle.std.specs.Prelude.{◌==◌, bit_xor}
use Rattle.std.specs.List.{AllByRecursion}
use Rattle.std.proofs.lemmas.Nat.{xor_lt}
use Rattle.memory.specs.Crc.{crc_bit, crc_bits, crc_byte, crc_from}

crc_bit_small : (c : ℕ) → c < 65536 → crc_bit c < 65536
crc_bit_small c h = by (c % 2 == 1)
  where
    by : (t : Bool) → cond t (bit_xor (c / 2) 0xA001) (c / 2) < 65536
    by true = xor_lt 16 (c / 2) 0xA001 (omega (arith, h)) (omega arith)
    by false = omega (arith, h)

crc_bits_small : (c : ℕ) → c < 65536 → crc_bits c < 65536
unfolding crc_bits
crc_bits_small c h =
    crc_bit_small _ (crc_bit_small _ (crc_bit_small _ (crc_bit_small _ (crc_bit_small _ (crc_bit_small _ (crc_bit_small _ (crc_bit_small c h)))))))

pub crc_small : (c : ℕ) (bs : List ℕ) → c < 65536 → AllByRecursion (λ v. v < 256) bs → crc_from c bs < 65536
crc_small c [] h a = h
crc_small c (b ∷ bs) h a = crc_small (crc_byte c b) bs (crc_bits_small (bit_xor c b) (xor_lt 16 c b h (omega (arith, a.0)))) a.1
