-- Blank boards, which nothing has reached.
use Rattle.std.specs.Prelude.{ℕ, ◌*◌, replicate}
use Rattle.memory.specs.Crossing.{Meaning, crossed_meaning}
use Rattle.memory.specs.Eeprom.{eeprom_shape, eeprom_contents}
use Rattle.memory.specs.Flash.{layout_of, flash_shape, flash_contents}
use Rattle.bootloader.specs.Memories.{Memory, memory_of}
use Rattle.bootloader.specs.Board.{Board, fresh_board}
use Rattle.loading_tests.specs.declared.boards.Making.{Making}

-- a flash under its lane crossing, of so many sectors of so many words, whose bytes are all 0xFF
abbrev pub blank_flash : ℕ → ℕ → Meaning
blank_flash sectors words =
    let bytes : ℕ = sectors * (words * 2) in
    let l = layout_of bytes sectors words in
    crossed_meaning (record { contents = flash_contents l (replicate bytes 255); shape = flash_shape l })

-- an EEPROM whose bytes are all 0xFF
abbrev pub blank_eeprom : ℕ → Memory
blank_eeprom bytes = memory_of 0 1 eeprom_shape (eeprom_contents (replicate bytes 255))

-- a board of these
abbrev pub blank_board : Making → Board
blank_board m =
    let flash : Meaning = blank_flash m.sectors m.words in
    fresh_board m.setup (memory_of m.setup.base 2 flash.shape flash.contents) (blank_eeprom m.boot) (blank_eeprom m.eeprom)
