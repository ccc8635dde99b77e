-- What a board is made of, and what its memories hold at the start.
use Rattle.std.specs.Prelude.{ℕ, ◌*◌, Bool, cond, ◌&&◌, Some, None, Option, ◌==◌, nat_le}
use Rattle.bootloader.specs.declared.state.Wait.TheVariants.{TwoSeconds}
use Rattle.geometry.specs.declared.rows.Row.{Row}
use Rattle.board.specs.declared.plan.Memory.{Memory}
use Rattle.board.specs.declared.plan.Memory.TheVariants.{Flash, Boot, Data}
use Rattle.board.specs.declared.plan.Plan.{Plan}

-- the memory of an address space
abbrev pub memory_at : ℕ → Option Memory
memory_at n =
    cond (n == 0) (Some Flash)
    (cond (n == 2) (Some Boot)
    (cond (n == 3) (Some Data) None))

-- the number of the address space of a memory
abbrev pub space_number : Memory → ℕ
space_number Flash = 0
space_number Boot = 2
space_number Data = 3

-- a flash has 1 to 32 sectors, each of at least one word of two bytes, and at most 1,048,576 bytes
abbrev pub has_flash : Plan → Bool
has_flash p =
    (nat_le 1 p.sectors && nat_le p.sectors 32)
    && ((nat_le 1 p.words && nat_le p.words 1048576) && nat_le (p.sectors * (p.words * 2)) 1048576)

-- how many bytes a memory has
abbrev pub length_of : Plan → Memory → ℕ
length_of p Flash = cond (has_flash p) (p.sectors * (p.words * 2)) 0
length_of p Boot = p.boot
length_of p Data = p.eeprom

-- the bench board, which counts where a log says nothing else
abbrev pub bench : Plan
bench = record {
  setup = record { base = 0x1000; part_id = 1; major = 1; minor = 0; wait = TwoSeconds };
  sectors = 4;
  words = 16;
  boot = 64;
  eeprom = 64;
}

-- where the flash of the bench board begins, and its sectors
abbrev pub bench_row : Row
bench_row = record { base = bench.setup.base; sectors = bench.sectors; words = bench.words }
