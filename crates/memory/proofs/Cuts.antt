-- The CRC over bytes that are taken several at a time. Assumes nothing.
use Rattle.std.proofs.Common.{◌≡◌, ℕ, zero, suc, ◌+◌, ◌*◌, ◌/◌, ◌%◌, ◌<◌, List, [], ◌∷◌, map, length, get_or, take, drop, sym, refl, ap, fold, ◌∙◌, ap₂, add_comm, arith}
use lib.Bits.{bit_xor, xor_assoc, xor_comm, xor_shifted, xor_zero_r}
use Rattle.std.specs.List.{range_with_len}
use Rattle.std.proofs.iter.runs.Lists.{fold-append}
use Rattle.std.proofs.lemmas.List.FromFn.{fill_by_all}
use Rattle.std.proofs.lemmas.List.{drop-drop, take-append-drop}
use Rattle.std.proofs.lemmas.Nat.{xor_lt}
use Rattle.std.specs.Simd.{first_chunks}
use Rattle.memory.specs.Crc.{crc_bits, crc_byte, crc_from, crc_zeros, Continues}
use Rattle.memory.proofs.Linear.{crc_bits-halves, crc_bits-high, crc_bits-xor, crc_zeros-xor}

-- the value that bytes are continued from adds what bytes of zero would make of it
pub crc_from-zeros : (c : ℕ) (bs : List ℕ) → crc_from c bs ≡ bit_xor (crc_zeros (length bs) c) (crc_from 0 bs)
crc_from-zeros c [] = sym (xor_zero_r c)
crc_from-zeros c (b ∷ bs) =
    grind (arith, crc_from-zeros (crc_byte c b) bs, crc_from-zeros (crc_bits b) bs, crc_zeros-xor (suc (length bs)) c b, xor_assoc)

-- four bytes with n bytes of zero after them: each adds what it comes to with zeros in place of those after it
pub four_apart : (n w x y z : ℕ) → crc_zeros n (crc_from 0 (w ∷ x ∷ y ∷ z ∷ []))
    ≡ bit_xor (bit_xor (bit_xor (crc_zeros (suc (n + 3)) w) (crc_zeros (suc (n + 2)) x)) (crc_zeros (suc (n + 1)) y)) (crc_zeros (suc n) z)
four_apart n w x y z =
    let one : suc n ≡ n + 1 = omega arith in
    let two : suc (suc n) ≡ n + 2 = omega arith in
    let three : suc (suc (suc n)) ≡ n + 3 = omega arith in
    crc_zeros-xor (suc n) (crc_from 0 (w ∷ x ∷ y ∷ [])) z
    ∙ ap (λ v. bit_xor v (crc_zeros (suc n) z))
    (crc_zeros-xor (suc (suc n)) (crc_from 0 (w ∷ x ∷ [])) y
    ∙ ap₂ (λ v k. bit_xor v (crc_zeros (suc k) y))
    (crc_zeros-xor (suc (suc (suc n))) (crc_byte 0 w) x ∙ ap₂ (λ j k. bit_xor (crc_zeros (suc j) w) (crc_zeros (suc k) x)) three two)
    one)

-- the value that bytes are continued from can be taken in with the first two, its low half with the first
pub crc_from-met : (c w x : ℕ) (bs : List ℕ) → w < 256
    → crc_from c (w ∷ x ∷ bs) ≡ crc_from 0 (bit_xor c (w + x * 256) % 256 ∷ bit_xor c (w + x * 256) / 256 ∷ bs)
crc_from-met c w x bs h =
    let met = bit_xor c (w + x * 256) in
    ap (λ v. crc_from (crc_bits v) bs)
    (ap (bit_xor (crc_byte c w)) (sym (crc_bits-high x))
    ∙ sym (crc_bits-xor (bit_xor c w) (x * 256))
    ∙ ap crc_bits (xor_assoc c w (x * 256) ∙ ap (bit_xor c) (xor_comm w (x * 256) ∙ xor_shifted x 8 w h ∙ add_comm (x * 256) w))
    ∙ crc_bits-halves met
    ∙ xor_comm (met / 256) (crc_bits (met % 256)))

-- the same with the high half as a byte, where the value has 16 bits
pub crc_from-met_bytes : (c w x : ℕ) (bs : List ℕ) → c < 65536 → w < 256 → x < 256
    → crc_from c (w ∷ x ∷ bs) ≡ crc_from 0 (bit_xor c (w + x * 256) % 256 ∷ bit_xor c (w + x * 256) / 256 % 256 ∷ bs)
crc_from-met_bytes c w x bs g h k =
    let small : bit_xor c (w + x * 256) < 65536 = xor_lt 16 c (w + x * 256) g (omega arith) in
    crc_from-met c w x bs h ∙ ap (λ v. crc_from 0 (bit_xor c (w + x * 256) % 256 ∷ v ∷ bs)) (omega (arith, small))

-- the CRC over eight bytes, from that of each four apart
module _ (c : ℕ) (xs : List ℕ) where
  abbrev pub met : ℕ
  met = bit_xor c (get_or xs 0 0 + get_or xs 1 0 * 256)

  -- n of the bytes, from place i on
  span : ℕ → ℕ → List ℕ
  span i n = map (λ k. get_or xs k 0) (range_with_len i n)

  pub crc_from-eight : c < 65536 → get_or xs 0 0 < 256 → get_or xs 1 0 < 256 → length xs ≡ 8
      → bit_xor (crc_zeros 4 (crc_from 0 (met % 256 ∷ met / 256 % 256 ∷ get_or xs 2 0 ∷ get_or xs 3 0 ∷ []))) (crc_from 0 (get_or xs 4 0 ∷ get_or xs 5 0 ∷ get_or xs 6 0 ∷ get_or xs 7 0 ∷ [])) ≡ crc_from c xs
  unfolding span
  crc_from-eight g h k e =
      ap (λ v. bit_xor (crc_zeros 4 v) (crc_from 0 (span 4 4))) (sym (crc_from-met_bytes c (get_or xs 0 0) (get_or xs 1 0) (span 2 2) g h k))
      ∙ sym (crc_from-zeros (crc_from c (span 0 4)) (span 4 4)) ∙ ap (crc_from c) (sym (fill_by_all (λ k. get_or xs k 0) xs 8 0 e (λ k l. refl)))

-- the CRC over the first k chunks of n bytes in turn, and then over the bytes after them
pub crc_from-chunks : (n k c : ℕ) (xs : List ℕ) → crc_from (fold crc_from c (first_chunks n k xs)) (drop (k * n) xs) ≡ crc_from c xs
crc_from-chunks n zero c xs = grind arith
crc_from-chunks n (suc k) c xs =
    grind (arith, crc_from-chunks n k (crc_from c (take n xs)) (drop n xs), fold-append crc_byte c (take n xs) (drop n xs), take-append-drop n xs, drop-drop (k * n) n xs)

-- the CRC over all is the CRC over both parts in turn
pub continues : (from : ℕ) (bytes : List ℕ) (r : ℕ) → r ≡ crc_from from bytes → Continues from bytes r
continues from bytes r e xs ys cut = e ∙ ap (crc_from from) cut ∙ fold-append crc_byte from xs ys

pub ruleset crcs = (crc_bits-halves, four_apart, crc_from-eight, crc_from-chunks, continues)
