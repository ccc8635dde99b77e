-- The EEPROM: one unit, and every value is taken.
use Rattle.std.specs.Prelude.{ℕ, true, List, take}
use Rattle.memory.specs.Part.{Shape}

-- one unit, in which every offset lies; any value is taken over any other
abbrev pub eeprom_shape : Shape
eeprom_shape = record { units = 1; unit_of = λ o. 0; takes = λ o old new. true }

-- a buffer is used up to the limit of a part
abbrev pub eeprom_contents : List ℕ → List ℕ
eeprom_contents buffer = take 1048576 buffer
