-- Lane crossing: the bytes of each pair of offsets change places.
use Rattle.std.specs.Prelude.{◌≡◌, ℕ, ◌<◌, ◌+◌, ◌-◌, ◌%◌, cond, List, map, length, ◌==◌, nat_lt, slice_index}
use Rattle.std.specs.List.{range_with_len}
use Rattle.memory.specs.declared.layout.Layout.{Layout}
use Rattle.memory.specs.Flash.{flash_length, flash_shape}
use Rattle.memory.specs.Part.{Shape}

-- the offset below, in a part of length n: the odd one of a pair for the even one and the even one for the odd one; a
-- last offset without a pair, and one outside, is itself
abbrev pub crossed : ℕ → ℕ → ℕ
crossed n o = cond (o % 2 == 0) (cond (nat_lt (o + 1) n) (o + 1) o) (cond (nat_lt o n) (o - 1) o)

-- the byte at an offset is the one at the offset below
abbrev pub crossed_contents : List ℕ → List ℕ
crossed_contents xs = map (λ o. slice_index xs (crossed (length xs) o)) (range_with_len 0 (length xs))

-- the units and the rule are those of the offset below, in a part of length n
abbrev pub crossed_shape : ℕ → Shape → Shape
crossed_shape n s = record { units = s.units; unit_of = λ o. s.unit_of (crossed n o); takes = λ o. s.takes (crossed n o) }

-- the meaning of a part: what it holds, and how it takes changes
pub record Meaning : Type 0 where
  pub contents : List ℕ
  pub shape : Shape

-- the meaning of a crossing, by that of the part below
abbrev pub crossed_meaning : Meaning → Meaning
crossed_meaning m = record { contents = crossed_contents m.contents; shape = crossed_shape (length m.contents) m.shape }

-- crossing twice is the part itself
abbrev pub CrossedTwice : Type 0
CrossedTwice = (m : Meaning) → crossed_meaning (crossed_meaning m) ≡ m

-- over a flash whose sectors are whole words each offset stays in its sector, so that the crossing has the units of the flash
abbrev pub KeepsSectors : Type 0
KeepsSectors = (l : Layout) (o : ℕ) → l.size % 2 ≡ 0 → o < flash_length l
    → (crossed_shape (flash_length l) (flash_shape l)).unit_of o ≡ (flash_shape l).unit_of o
