-- Boards that frames and ticks lead to, and what holds of each of them.
use Rattle.std.specs.Prelude.{◌≡◌, ◌<◌, ◌≤◌, List, length}
use Rattle.std.specs.List.{AllByRecursion}
use Rattle.memory.specs.Part.{IsShape, IsWidth}
use Rattle.bootloader.specs.Memories.{Memory}
use Rattle.bootloader.specs.Board.{Board, fresh_board}
use Rattle.bootloader.specs.Events.{Event, IsOfBytes, board_behind}
use Rattle.bootloader.specs.Laws.{FreshAfterConnect}

-- a memory is lawful: it is one that a part can mean. An address stands for one byte or two, the shape is that of a part of this
-- length, there are at most 1,048,576 bytes, and they are bytes
pub record IsLawful (m : Memory) : Type 0 where
  pub width : IsWidth m.width
  pub shape : IsShape (length m.contents) m.shape
  pub limited : length m.contents ≤ 1048576
  pub small : AllByRecursion (λ v. v < 256) m.contents

-- a board is reached: frames and ticks led to it from a fresh one over lawful memories
pub record IsReached (b : Board) : Type 0 where
  pub first : Board
  pub fresh : first ≡ fresh_board b.setup first.flash first.boot first.eeprom
  pub flash : IsLawful first.flash
  pub boot : IsLawful first.boot
  pub eeprom : IsLawful first.eeprom
  pub events : List Event
  pub bytes : AllByRecursion IsOfBytes events
  pub came : board_behind first events ≡ b

-- what holds of each reached board: its memories are lawful, and where it answered a Connect last, it is as Connect left it
pub record IsSound (b : Board) : Type 0 where
  pub connected : FreshAfterConnect b
  pub flash : IsLawful b.flash
  pub boot : IsLawful b.boot
  pub eeprom : IsLawful b.eeprom

-- what no frame and no tick changes: what a board was made with, and of each memory its base, its bytes an address, its shape and
-- its length
pub record SameMake (m n : Memory) : Type 0 where
  pub base : n.base ≡ m.base
  pub width : n.width ≡ m.width
  pub shape : n.shape ≡ m.shape
  pub long : length n.contents ≡ length m.contents

pub record SameBoard (b c : Board) : Type 0 where
  pub setup : c.setup ≡ b.setup
  pub flash : SameMake b.flash c.flash
  pub boot : SameMake b.boot c.boot
  pub eeprom : SameMake b.eeprom c.eeprom
