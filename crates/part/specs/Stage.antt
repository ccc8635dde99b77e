-- The part that a script is for, and what is printed of the script.
use Rattle.std.specs.Prelude.{ℕ, Bool, cond, List, replicate}
use Rattle.memory.specs.declared.layout.Layout.{Layout}
use Rattle.memory.specs.declared.script.Action.{Action}
use Rattle.memory.specs.Crossing.{Meaning, crossed_meaning}
use Rattle.memory.specs.Eeprom.{eeprom_shape, eeprom_contents}
use Rattle.memory.specs.Flash.{layout_of, flash_shape, flash_contents}
use Rattle.script.specs.declared.setup.PartKind.{PartKind}
use Rattle.script.specs.declared.setup.PartKind.TheVariants.{Flash, Eeprom}
use Rattle.script.specs.declared.setup.Setup.{Setup}
use Rattle.script.specs.Report.{report_of}

-- a flash of these sectors over a buffer
abbrev pub flash_over : Layout → List ℕ → Meaning
flash_over l buffer = record { contents = flash_contents l buffer; shape = flash_shape l }

-- an EEPROM over a buffer
abbrev pub eeprom_over : List ℕ → Meaning
eeprom_over buffer = record { contents = eeprom_contents buffer; shape = eeprom_shape }

-- the part of a kind, over a buffer of so many bytes 0xFF
abbrev pub part_of : PartKind → Meaning
part_of (Flash s w b) = flash_over (layout_of b s w) (replicate b 255)
part_of (Eeprom b) = eeprom_over (replicate b 255)

-- how many bytes an address of the part stands for
abbrev pub width_of : PartKind → ℕ
width_of (Flash s w b) = 2
width_of (Eeprom b) = 1

-- the part, or a lane crossing over it
abbrev pub crossed_if : Bool → Meaning → Meaning
crossed_if c m = cond c (crossed_meaning m) m

-- what is printed of actions on a part of this meaning, with w bytes an address
abbrev pub report_on : ℕ → Meaning → List Action → List ℕ
report_on w m more = report_of w m.shape m.contents more

-- what is printed of actions on the part that a script is for
abbrev pub played_of : Setup → List Action → List ℕ
played_of s more = report_on (width_of s.kind) (crossed_if s.crossed (part_of s.kind)) more
