-- The CRC works on each bit of a value apart: what it makes of x xor y is what it makes of x, xor what it
-- makes of y. Assumes nothing.
use Rattle.std.proofs.Common.{◌≡◌, ℕ, zero, suc, ◌*◌, ◌/◌, ◌%◌, ◌<◌, cond, eqb, sym, refl, ap, ◌∙◌, ap₂, mod-lt, mul_assoc, div-add-mod', mul-div_cancel, arith, lit<}
use native.Mathlib.Nat.{mul-mod_left}
use lib.Bits.{bit_xor, xor_assoc, xor_comm, xor_mod, xor_shifted, xor_shr, xor_zero_r}
use Rattle.std.proofs.lemmas.Bool.Decides.{nat_tests}
use Rattle.memory.specs.Crc.{crc_bit, crc_bits, crc_zeros}

-- f of a xor is the xor of what f makes of both
abbrev Linear : (ℕ → ℕ) → Type 0
Linear f = (x y : ℕ) → f (bit_xor x y) ≡ bit_xor (f x) (f y)

-- f takes a factor m away
abbrev Undoes : ℕ → (ℕ → ℕ) → Type 0
Undoes m f = (x : ℕ) → f (x * m) ≡ x

-- both hold of a function that is used twice, where they hold of it used once
linear_twice : (f : ℕ → ℕ) → Linear f → Linear (λ x. f (f x))
linear_twice f lf x y = ap f (lf x y) ∙ lf (f x) (f y)

undoes_twice : (m : ℕ) (f : ℕ → ℕ) → Undoes m f → Undoes (m * m) (λ x. f (f x))
undoes_twice m f u x = ap (λ n. f (f n)) (sym (mul_assoc x m m)) ∙ ap f (u (x * m)) ∙ u x

-- what a bit that fell out adds
abbrev taken : ℕ → ℕ
taken p = cond (eqb p 1) 0xA001 0

taken-xor : (p q : ℕ) → p < 2 → q < 2 → taken (bit_xor p q) ≡ bit_xor (taken p) (taken q)
taken-xor p q lp lq = grind (arith, nat_tests)

crc_bit-taken : (c : ℕ) → crc_bit c ≡ bit_xor (c / 2) (taken (c % 2))
crc_bit-taken c = grind (arith, nat_tests, xor_zero_r)

-- the two in the middle change places
exchange : (a b c d : ℕ) → bit_xor (bit_xor a b) (bit_xor c d) ≡ bit_xor (bit_xor a c) (bit_xor b d)
exchange a b c d = grind (arith, xor_assoc, xor_comm)

crc_bit-xor : Linear crc_bit
crc_bit-xor x y =
    crc_bit-taken (bit_xor x y)
    ∙ ap₂ bit_xor (xor_shr x y 1) (ap taken (xor_mod x y 1) ∙ taken-xor (x % 2) (y % 2) (mod-lt x (lit< tt)) (mod-lt y (lit< tt)))
    ∙ exchange (x / 2) (y / 2) (taken (x % 2)) (taken (y % 2))
    ∙ sym (ap₂ bit_xor (crc_bit-taken x) (crc_bit-taken y))

crc_bit-even : Undoes 2 crc_bit
crc_bit-even x =
    crc_bit-taken (x * 2)
    ∙ ap₂ (λ h p. bit_xor h (taken p)) (mul-div_cancel x (lit< tt)) (mul-mod_left x 2)
    ∙ xor_zero_r x

-- two bits, and four
abbrev crc_bits2 : ℕ → ℕ
crc_bits2 c = crc_bit (crc_bit c)

abbrev crc_bits4 : ℕ → ℕ
crc_bits4 c = crc_bits2 (crc_bits2 c)

pub crc_bits-xor : Linear crc_bits
unfolding crc_bits
crc_bits-xor = linear_twice crc_bits4 (linear_twice crc_bits2 (linear_twice crc_bit crc_bit-xor))

pub crc_bits-high : Undoes 256 crc_bits
unfolding crc_bits
crc_bits-high = undoes_twice 16 crc_bits4 (undoes_twice 4 crc_bits2 (undoes_twice 2 crc_bit crc_bit-even))

pub crc_zeros-xor : (n : ℕ) → Linear (crc_zeros n)
crc_zeros-xor zero x y = refl
crc_zeros-xor (suc n) x y = ap (crc_zeros n) (crc_bits-xor x y) ∙ crc_zeros-xor n (crc_bits x) (crc_bits y)

-- the high half is only shifted down
pub crc_bits-halves : (c : ℕ) → crc_bits c ≡ bit_xor (c / 256) (crc_bits (c % 256))
crc_bits-halves c =
    ap crc_bits (sym (div-add-mod' c 256) ∙ sym (xor_shifted (c / 256) 8 (c % 256) (mod-lt c (lit< tt))))
    ∙ crc_bits-xor (c / 256 * 256) (c % 256)
    ∙ ap (λ h. bit_xor h (crc_bits (c % 256))) (crc_bits-high (c / 256))
