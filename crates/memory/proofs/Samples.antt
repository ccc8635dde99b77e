-- Every 128th address of a part. Assumes nothing.
use Rattle.std.proofs.Common.{◌≡◌, ℕ, zero, suc, ◌+◌, ◌-◌, ◌*◌, ◌%◌, ◌<◌, ◌≤◌, min, cond, List, [], ◌++◌, map, length, fold, get_or, refl, ap, ◌∙◌, append-nil, arith}
use Rattle.std.specs.List.{range_with_len}
use Rattle.std.proofs.lemmas.List.FromFn.{fill_by_all, map-range_with_len_more}
use Rattle.std.proofs.lemmas.Bool.{ne_eqb}
use Rattle.std.proofs.lemmas.Bool.Decides.{nat_tests}
use Rattle.std.proofs.iter.runs.Lists.{fold-append}
use Rattle.memory.specs.Crc.{crc_byte, crc_from}
use Rattle.memory.specs.Seal.{address_bytes, sampled}

module _ (w : ℕ) (xs : List ℕ) where
  sampled_here : (a : ℕ) → a % 128 ≡ 0 → sampled w xs (suc a) ≡ sampled w xs a ++ address_bytes w xs a
  unfolding sampled
  sampled_here a e = grind (arith, nat_tests)

  sampled_between : (a k : ℕ) → a % 128 ≡ 0 → k < 128 → sampled w xs (suc (a + k)) ≡ sampled w xs (suc a)
  unfolding sampled
  sampled_between a zero e h = let n : a + 0 ≡ a = omega arith in ap (λ k. sampled w xs (suc k)) n
  sampled_between a (suc k) e h =
      let n : a + suc k ≡ suc (a + k) = omega arith in
      let d : ((a + suc k) % 128 ≡ 0 → ⊥) = λ z. omega arith in
      ap (λ b. sampled w xs (a + suc k) ++ cond b (address_bytes w xs (a + suc k)) []) (ne_eqb ((a + suc k) % 128) 0 d)
      ∙ append-nil (sampled w xs (a + suc k)) ∙ ap (sampled w xs) n ∙ sampled_between a k e (omega arith)

  -- one address in the sample, and the others up to the next one or the last
  pub sampled_more : (a n : ℕ) → a % 128 ≡ 0 → a < n → sampled w xs (min (a + 128) n) ≡ sampled w xs a ++ address_bytes w xs a
  sampled_more a n e h =
      let k = min (a + 128) n - suc a in
      let m : min (a + 128) n ≡ suc (a + k) = omega arith in
      ap (sampled w xs) m ∙ sampled_between a k e (omega arith) ∙ sampled_here a e

  -- the CRC with the bytes of an address more
  abbrev pub with_address : ℕ → ℕ → ℕ
  with_address c a = crc_from c (address_bytes w xs a)

  over_strides : (m n : ℕ) → m * 128 < n + 128 → fold with_address 0xFFFF (map (λ k. k * 128) (range_with_len 0 m)) ≡ crc_from 0xFFFF (sampled w xs (min (m * 128) n))
  unfolding sampled
  over_strides zero n h = grind arith
  over_strides (suc m) n h =
      grind (arith, over_strides m n, map-range_with_len_more (λ k. k * 128) 0 m m, fold-append with_address 0xFFFF, fold-append crc_byte 0xFFFF (sampled w xs (m * 128)), sampled_more (m * 128) n)

  -- the CRC over the addresses zs, which are every 128th below n
  pub crc_from-sampled : (n : ℕ) (zs : List ℕ) → n ≤ length zs * 128 → length zs * 128 < n + 128 → ((k : ℕ) → k < length zs → get_or zs k 0 ≡ k * 128)
      → fold with_address 0xFFFF zs ≡ crc_from 0xFFFF (sampled w xs n)
  crc_from-sampled n zs le lt at =
      let all : min (length zs * 128) n ≡ n = omega arith in
      ap (fold with_address 0xFFFF) (fill_by_all (λ k. k * 128) zs (length zs) 0 refl at) ∙ over_strides (length zs) n lt ∙ ap (λ k. crc_from 0xFFFF (sampled w xs k)) all
