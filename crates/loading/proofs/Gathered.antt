-- A record is gathered by a board.
use Rattle.std.specs.Prelude.{◌≡◌, ℕ, ◌≤◌, true, List, ◌++◌}
use Rattle.bootloader.specs.declared.space.Space.{Space}
use Rattle.bootloader.specs.declared.space.Space.TheVariants.{Flash, Register, Boot, Data}
use Rattle.bootloader.specs.declared.state.State.TheVariants.{Connected}
use Rattle.bootloader.specs.Memories.{Memory, place}
use Rattle.bootloader.specs.Dialog.{is_unlocked, is_place}
use Rattle.bootloader.specs.Board.{Board}
use Rattle.bootloader.specs.Laws.{SameMemories}
use Rattle.session.specs.Laws.{Carries}
use Rattle.loading.specs.Record.{downloads}

-- the memory of a space; the password register has none of its own
abbrev pub memory_in : Board → Space → Memory
memory_in b Flash = b.flash
memory_in b Register = b.flash
memory_in b Boot = b.boot
memory_in b Data = b.eeprom

-- a board takes bytes for a record: it is connected, the selected memory is unlocked, and n bytes from the selected address on
-- lie in it and are no more than a record may have
pub record TakesBytes (b : Board) (n : ℕ) : Type 0 where
  pub connected : b.session.state ≡ Connected
  pub unlocked : is_unlocked b.session.dialog.unlocked b.session.dialog.space ≡ true
  pub few : n ≤ 252
  pub inside : is_place (place (memory_in b b.session.dialog.space) b.session.dialog.address n) ≡ true

-- a board that has gathered more bytes, and is else as it was
pub record Gathered (b : Board) (more : List ℕ) (d : Board) : Type 0 where
  pub setup : d.setup ≡ b.setup
  pub state : d.session.state ≡ b.session.state
  pub dialog : d.session.dialog ≡ record (b.session.dialog) { bytes = record { items = b.session.dialog.bytes.items ++ more } }
  pub memories : SameMemories d b

-- bytes are downloaded
pub record Downloads (b : Board) (c : ℕ) (bytes : List ℕ) : Type 0 where
  pub after : Board
  pub carried : Carries b c (downloads bytes) after
  pub gathered : Gathered b bytes after
