-- A board that is made with blank memories, and the replies to frames that reach it.
use Rattle.std.specs.Prelude.{ℕ, List, [], ◌∷◌, length, unwrap_or, replicate}
use Rattle.memory.specs.Flash.{layout_of, flash_contents, flash_shape}
use Rattle.memory.specs.Eeprom.{eeprom_shape, eeprom_contents}
use Rattle.memory.specs.Crossing.{crossed_contents, crossed_shape}
use Rattle.memory.specs.declared.layout.Layout.{Layout}
use Rattle.bootloader.specs.declared.state.Wait.TheVariants.{TwoSeconds}
use Rattle.bootloader.specs.Memories.{Memory, memory_of}
use Rattle.bootloader.specs.Board.{Board, Turn, fresh_board, stepped}
use Rattle.capi.specs.declared.replay.Plan.{Plan}

-- n blank bytes
abbrev pub blanks : ℕ → List ℕ
blanks n = replicate n 0xFF

-- a blank flash of such sectors, crossed, which begins at a base
abbrev pub blank_flash : ℕ → ℕ → Layout → Memory
blank_flash base n l =
    let bytes : List ℕ = flash_contents l (blanks n) in
    memory_of base 2 (crossed_shape (length bytes) (flash_shape l)) (crossed_contents bytes)

-- a blank EEPROM of so many bytes
abbrev pub blank_eeprom : ℕ → Memory
blank_eeprom n = memory_of 0 1 eeprom_shape (eeprom_contents (blanks n))

-- a board after a plan that nothing has reached yet
abbrev pub blank_board : Plan → Board
blank_board p =
    fresh_board (record { base = p.base; part_id = p.part_id; major = 1; minor = 0; wait = TwoSeconds })
    (blank_flash p.base p.flash (layout_of p.flash p.sectors p.words))
    (blank_eeprom p.boot)
    (blank_eeprom p.eeprom)

-- frames that reach a board, one after the other, with the reply to each in its place; one that is not answered stays there
unfoldable pub exchanged : Board → List (List ℕ) → List (List ℕ)
exchanged b [] = []
exchanged b (f ∷ fs) =
    let t : Turn = stepped b 8 0x0B081880 f in
    unwrap_or t.reply f ∷ exchanged t.board fs
