-- Flash: equal sectors, counted from the highest offsets down, whose bits can only be turned from one to zero.
use Rattle.std.specs.Prelude.{ℕ, ◌-◌, ◌*◌, ◌/◌, min, Bool, cond, ◌&&◌, List, take, ◌==◌, bit_and, nat_le}
use Rattle.memory.specs.declared.layout.Layout.{Layout}
use Rattle.memory.specs.Part.{Shape}

-- the bytes of all sectors
abbrev pub flash_length : Layout → ℕ
flash_length l = l.sectors * l.size

-- there are 1 to 32 sectors, and all their bytes lie in the buffer and within the limit of a part
abbrev pub is_layout : ℕ → Layout → Bool
is_layout buffer l = nat_le 1 l.sectors && (nat_le l.sectors 32 && nat_le (flash_length l) (min buffer 1048576))

-- sectors of so many words of two bytes
abbrev pub word_layout : ℕ → ℕ → Layout
word_layout sectors words = record { sectors = sectors; size = words * 2 }

-- sectors over a buffer of so many bytes; where they do not fit there is one sector of no bytes
abbrev pub layout_of : ℕ → ℕ → ℕ → Layout
layout_of buffer sectors words =
    cond (is_layout buffer (word_layout sectors words)) (word_layout sectors words) (record { sectors = 1; size = 0 })

-- the contents are the bytes of all sectors; the rest of the buffer is unused
abbrev pub flash_contents : Layout → List ℕ → List ℕ
flash_contents l buffer = take (flash_length l) buffer

-- a value is taken if it has no one where the old value has a zero
abbrev pub flash_takes : ℕ → ℕ → Bool
flash_takes old new = bit_and new old == new

-- a unit is a sector; sector A is unit 0 and has the highest offsets
abbrev pub flash_shape : Layout → Shape
flash_shape l = record { units = l.sectors; unit_of = λ o. l.sectors - 1 - o / l.size; takes = λ o old new. flash_takes old new }

-- the offset at which a sector begins
abbrev pub sector_start : Layout → ℕ → ℕ
sector_start l u = (l.sectors - 1 - u) * l.size
