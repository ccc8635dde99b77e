-- The targets of a file.
use Rattle.std.specs.Prelude.{ℕ, cond, ◌&&◌, ◌||◌, Some, None, Option, ◌==◌, nat_le}
use Rattle.loader.specs.declared.target.Target.{Target}
use Rattle.loader.specs.declared.target.Target.TheVariants.{Flash, Boot, Data}

-- target 0 is the flash, with two bytes an address; 2 and 3 are EEPROMs of 1 to 1,048,576 bytes,
-- with one byte an address; nothing else is a target
abbrev pub bytes_per_address : ℕ → ℕ → Option ℕ
bytes_per_address target size =
    cond (target == 0) (Some 2)
    (cond ((target == 2 || target == 3) && (nat_le 1 size && nat_le size 1048576)) (Some 1) None)

-- the number of a target
abbrev pub number_of : Target → ℕ
number_of Flash = 0
number_of (Boot size) = 2
number_of (Data size) = 3

-- its size, where it has one
abbrev pub size_of : Target → ℕ
size_of Flash = 0
size_of (Boot size) = size
size_of (Data size) = size

-- the target of a number, with this size if it has one; none where no target has the number
abbrev pub target_of : ℕ → ℕ → Option Target
target_of number size =
    cond (number == 0) (Some Flash)
    (cond (number == 2) (Some (Boot size))
    (cond (number == 3) (Some (Data size)) None))
