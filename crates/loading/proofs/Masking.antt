-- The mask of the sectors that pieces touch names just these. Assumes nothing.
use Rattle.std.proofs.Common.{◌≡◌, ◌≢◌, ℕ, Bool, true, false, ◌+◌, ◌-◌, ◌*◌, ◌/◌, ◌^◌, ◌≤◌, ◌<◌, ◌⊎◌, List, [], ◌∷◌, length, refl, ap, ◌∙◌, inl, inr, arith}
use Rattle.std.specs.Prelude.{zero, suc, ◌==◌, nat_lt, nat_le, bit_or, Some}
use Rattle.std.specs.Int.{bit_at}
use Rattle.std.specs.List.{AllByRecursion}
use Rattle.std.proofs.lemmas.Bool.Decides.{nat_tests}
use Rattle.std.proofs.lemmas.Nat.Bits.{bit_at_or, bit_at-pow_same, bit_at-pow_other, bit_at-zero}
use Rattle.std.proofs.lemmas.Nat.{le-div, or_lt, pow_pos, pow_below}
use Rattle.std.proofs.Math.Nat.{div-mul-le_self, mul-div_left, mul-le-mul_left}
use Rattle.bootloader.specs.Memories.{names}
use Rattle.loading.specs.Mask.{Piece}
use Rattle.loading.specs.Mask.{marked, unit_in, marking}
use Rattle.loading.proofs.Masks.{mask_from, mask_of, TouchesUnit, SomeTouches, InSectors}

bit_small : (a i : ℕ) → bit_at a i ≤ 1
bit_small a i = omega arith

-- a bit of a mask with more bits set
kept_bit : (mask low n u : ℕ) → bit_at mask u ≡ 1 → bit_at (marked mask low n) u ≡ 1
unfolding marked
kept_bit mask low zero u h = h
kept_bit mask low (suc n) u h = omega (arith, bit_at_or (marked mask low n) (2 ^ (low + n)) u, kept_bit mask low n u h, bit_small (2 ^ (low + n)) u)

set_bit : (mask low n u : ℕ) → low ≤ u → u < low + n → bit_at (marked mask low n) u ≡ 1
unfolding marked
set_bit mask low zero u h l = absurd (omega (arith, h, l))
set_bit mask low (suc n) u h l = by (set_bit mask low n u h) (u == low + n) refl
  where
    by : (u < low + n → bit_at (marked mask low n) u ≡ 1) → (t : Bool) → (u == low + n) ≡ t → bit_at (bit_or (marked mask low n) (2 ^ (low + n))) u ≡ 1
    by go true q =
        let e : u ≡ low + n = grind (arith, nat_tests) in
        let one : bit_at (2 ^ (low + n)) u ≡ 1 = ap (bit_at (2 ^ (low + n))) e ∙ bit_at-pow_same (low + n) in
        omega (arith, bit_at_or (marked mask low n) (2 ^ (low + n)) u, one, bit_small (marked mask low n) u)
    by go false q =
        let before : u < low + n = grind (arith, nat_tests, l) in
        omega (arith, bit_at_or (marked mask low n) (2 ^ (low + n)) u, go before, bit_small (2 ^ (low + n)) u)

further : (mask low n u : ℕ) → (bit_at mask u ≡ 1) ⊎ ((low ≤ u) × (u < low + n)) → (bit_at mask u ≡ 1) ⊎ ((low ≤ u) × (u < low + suc n))
further mask low n u (inl x) = inl x
further mask low n u (inr x) = inr (x.0, omega (arith, x.1))

only_bits : (mask low n u : ℕ) → bit_at (marked mask low n) u ≡ 1 → (bit_at mask u ≡ 1) ⊎ ((low ≤ u) × (u < low + n))
unfolding marked
only_bits mask low zero u h = inl h
only_bits mask low (suc n) u h = by (only_bits mask low n u) (u == low + n) refl
  where
    by : (bit_at (marked mask low n) u ≡ 1 → (bit_at mask u ≡ 1) ⊎ ((low ≤ u) × (u < low + n))) → (t : Bool) → (u == low + n) ≡ t → (bit_at mask u ≡ 1) ⊎ ((low ≤ u) × (u < low + suc n))
    by go true q = let e : u ≡ low + n = grind (arith, nat_tests) in inr (omega (arith, e), omega (arith, e))
    by go false q =
        let other : u ≢ low + n = grind (arith, nat_tests) in
        let none : bit_at (2 ^ (low + n)) u ≡ 0 = bit_at-pow_other (low + n) u other in
        further mask low n u (go (omega (arith, h, bit_at_or (marked mask low n) (2 ^ (low + n)) u, none)))

-- no other bits than those below k
marked_below : (mask low n k : ℕ) → mask < 2 ^ k → low + n ≤ k → marked mask low n < 2 ^ k
unfolding marked
marked_below mask low zero k h l = h
marked_below mask low (suc n) k h l =
    or_lt k (marked mask low n) (2 ^ (low + n)) (marked_below mask low n k h (omega (arith, l))) (pow_below (low + n) k (omega (arith, l)))

module _ (sectors size : ℕ) (full : 0 < size) where
  -- the units of a piece's first and last byte
  abbrev top : Piece → ℕ
  top e = unit_in sectors size e.at

  abbrev bottom : Piece → ℕ
  bottom e = unit_in sectors size (e.at + length e.bytes - 1)

  mul_mono : (a b : ℕ) → a ≤ b → a * size ≤ b * size
  mul_mono a b h = omega (arith, mul-le-mul_left size h)

  div_below : (o : ℕ) → o < sectors * size → o / size < sectors
  div_below o h = by (nat_lt (o / size) sectors) refl
    where
      by : (t : Bool) → nat_lt (o / size) sectors ≡ t → o / size < sectors
      by true q = grind (arith, nat_tests)
      by false q =
          let high : sectors ≤ o / size = grind (arith, nat_tests) in
          absurd (omega (arith, h, mul_mono sectors (o / size) high, div-mul-le_self o size))

  div_mono : (a b : ℕ) → a ≤ b → a / size ≤ b / size
  div_mono a b h = le-div (a / size) b size full (omega (arith, h, div-mul-le_self a size))

  -- a unit between those of the ends is touched
  between : (e : Piece) (u : ℕ) → InSectors sectors size e → bottom e ≤ u → u < sectors → u ≤ top e → TouchesUnit sectors size u e
  between e u i l s h = by (nat_le ((sectors - 1 - u) * size) e.at) refl
    where
      t : ℕ
      t = sectors - 1 - u

      last : ℕ
      last = e.at + length e.bytes - 1

      first_low : e.at / size ≤ t
      first_low = omega (arith, h, s, div_below e.at (omega (arith, i.some, i.inside)))

      last_high : t ≤ last / size
      last_high = omega (arith, l, s, div_below last (omega (arith, i.some, i.inside)))

      begins : t * size ≤ last
      begins = omega (arith, div-mul-le_self last size, mul_mono t (last / size) last_high)

      by : (q : Bool) → nat_le (t * size) e.at ≡ q → TouchesUnit sectors size u e
      by true q =
          let high : t ≤ e.at / size = le-div t e.at size full (grind (arith, nat_tests)) in
          let zero_more : e.at + 0 ≡ e.at = omega arith in
          record { index = 0; inside = i.some; unit = ap (unit_in sectors size) zero_more ∙ omega (arith, high, first_low, s) }
      by false q =
          let later : e.at < t * size = grind (arith, nat_tests) in
          let there : e.at + (t * size - e.at) ≡ t * size = omega (arith, later) in
          let inside : t * size - e.at < length e.bytes = omega (arith, later, begins, i.some) in
          let back : t * size / size ≡ t = mul-div_left t full in
          record { index = t * size - e.at; inside = inside; unit = ap (unit_in sectors size) there ∙ (ap (λ z. sectors - 1 - z) back ∙ omega (arith, s)) }

  -- a byte of a piece lies in a unit between those of its ends
  unit_between : (e : Piece) (u : ℕ) → TouchesUnit sectors size u e → (bottom e ≤ u) × (u ≤ top e)
  unit_between e u t =
      let low : e.at / size ≤ (e.at + t.index) / size = div_mono e.at (e.at + t.index) (omega arith) in
      let high : (e.at + t.index) / size ≤ (e.at + length e.bytes - 1) / size = div_mono (e.at + t.index) (e.at + length e.bytes - 1) (omega (arith, t.inside)) in
      (omega (arith, high, t.unit), omega (arith, low, t.unit))

  top_below : (e : Piece) → InSectors sectors size e → top e < sectors
  top_below e i = omega (arith, div_below e.at (omega (arith, i.some, i.inside)))

  bottom_top : (e : Piece) → InSectors sectors size e → bottom e ≤ top e
  bottom_top e i = omega (arith, div_mono e.at (e.at + length e.bytes - 1) (omega (arith, i.some)))

  -- the bits that a piece sets
  marking_kept : (mask : ℕ) (e : Piece) (u : ℕ) → bit_at mask u ≡ 1 → bit_at (marking sectors size mask e) u ≡ 1
  marking_kept mask e u h = kept_bit mask (bottom e) (top e + 1 - bottom e) u h

  marking_sets : (mask : ℕ) (e : Piece) (u : ℕ) → TouchesUnit sectors size u e → bit_at (marking sectors size mask e) u ≡ 1
  marking_sets mask e u t = let b = unit_between e u t in set_bit mask (bottom e) (top e + 1 - bottom e) u b.0 (omega (arith, b.0, b.1))

  marking_only : (mask : ℕ) (e : Piece) (u : ℕ) → InSectors sectors size e → bit_at (marking sectors size mask e) u ≡ 1 → (bit_at mask u ≡ 1) ⊎ TouchesUnit sectors size u e
  marking_only mask e u i h = by (only_bits mask (bottom e) (top e + 1 - bottom e) u h)
    where
      by : (bit_at mask u ≡ 1) ⊎ ((bottom e ≤ u) × (u < bottom e + (top e + 1 - bottom e))) → (bit_at mask u ≡ 1) ⊎ TouchesUnit sectors size u e
      by (inl x) = inl x
      by (inr x) = inr (between e u i x.0 (omega (arith, x.1, bottom_top e i, top_below e i)) (omega (arith, x.1, bottom_top e i)))

  mask_kept : (mask : ℕ) (es : List Piece) (u : ℕ) → bit_at mask u ≡ 1 → bit_at (mask_from sectors size mask es) u ≡ 1
  mask_kept mask [] u h = h
  mask_kept mask (e ∷ es) u h = mask_kept (marking sectors size mask e) es u (marking_kept mask e u h)

  mask_sets : (mask : ℕ) (es : List Piece) (u : ℕ) → SomeTouches sectors size u es → bit_at (mask_from sectors size mask es) u ≡ 1
  mask_sets mask [] u t = absurd t
  mask_sets mask (e ∷ es) u (inl t) = mask_kept (marking sectors size mask e) es u (marking_sets mask e u t)
  mask_sets mask (e ∷ es) u (inr t) = mask_sets (marking sectors size mask e) es u t

  mask_only : (mask : ℕ) (es : List Piece) (u : ℕ) → AllByRecursion (InSectors sectors size) es → bit_at (mask_from sectors size mask es) u ≡ 1 → (bit_at mask u ≡ 1) ⊎ SomeTouches sectors size u es
  mask_only mask [] u i h = inl h
  mask_only mask (e ∷ es) u i h = by (mask_only (marking sectors size mask e) es u i.1 h)
    where
      again : (bit_at mask u ≡ 1) ⊎ TouchesUnit sectors size u e → (bit_at mask u ≡ 1) ⊎ SomeTouches sectors size u (e ∷ es)
      again (inl x) = inl x
      again (inr x) = inr (inl x)

      by : (bit_at (marking sectors size mask e) u ≡ 1) ⊎ SomeTouches sectors size u es → (bit_at mask u ≡ 1) ⊎ SomeTouches sectors size u (e ∷ es)
      by (inl x) = again (marking_only mask e u i.0 x)
      by (inr x) = inr (inr x)

  mask_below : (mask : ℕ) (es : List Piece) → AllByRecursion (InSectors sectors size) es → mask < 2 ^ sectors → mask_from sectors size mask es < 2 ^ sectors
  mask_below mask [] i h = h
  mask_below mask (e ∷ es) i h =
      mask_below (marking sectors size mask e) es i.1 (marked_below mask (bottom e) (top e + 1 - bottom e) sectors h (omega (arith, bottom_top e i.0, top_below e i.0)))

  -- the mask of pieces names the units in which they have bytes, and no others
  pub mask_names : (es : List Piece) (u : ℕ) → SomeTouches sectors size u es → names (Some (mask_of sectors size es)) u ≡ true
  mask_names es u t = let one : bit_at (mask_of sectors size es) u ≡ 1 = mask_sets 0 es u t in grind (arith, nat_tests, one)

  pub named_touched : (es : List Piece) (u : ℕ) → AllByRecursion (InSectors sectors size) es → names (Some (mask_of sectors size es)) u ≡ true → SomeTouches sectors size u es
  named_touched es u i h = by (mask_only 0 es u i (grind (arith, nat_tests, h)))
    where
      by : (bit_at 0 u ≡ 1) ⊎ SomeTouches sectors size u es → SomeTouches sectors size u es
      by (inl x) = absurd (omega (arith, x, bit_at-zero u))
      by (inr x) = x

  -- and it names some, and none from their number on
  pub mask_bounds : (es : List Piece) → AllByRecursion (InSectors sectors size) es → mask_of sectors size es < 2 ^ sectors
  mask_bounds es i = mask_below 0 es i (pow_pos sectors)

  pub mask_some : (e : Piece) (es : List Piece) → InSectors sectors size e → 0 < mask_of sectors size (e ∷ es)
  mask_some e es i =
      let here : TouchesUnit sectors size (unit_in sectors size (e.at + 0)) e = record { index = 0; inside = i.some; unit = refl } in
      let one : bit_at (mask_of sectors size (e ∷ es)) (unit_in sectors size (e.at + 0)) ≡ 1 = mask_sets 0 (e ∷ es) (unit_in sectors size (e.at + 0)) (inl here) in
      positive (mask_of sectors size (e ∷ es)) (unit_in sectors size (e.at + 0)) one
    where
      positive : (n i : ℕ) → bit_at n i ≡ 1 → 0 < n
      positive zero i h = absurd (omega (arith, h, bit_at-zero i))
      positive (suc n) i h = omega arith
