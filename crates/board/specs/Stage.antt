-- The board that a log is for, as it is at the start, and what is printed of the log.
use Rattle.std.specs.Prelude.{ℕ, Bool, true, false, cond, List, [], ◌∷◌, ◌++◌, length, map, take, replicate}
use Rattle.memory.specs.Crossing.{Meaning, crossed_meaning, crossed_contents}
use Rattle.memory.specs.Eeprom.{eeprom_shape, eeprom_contents}
use Rattle.memory.specs.Flash.{layout_of, flash_shape, flash_contents}
use Rattle.bootloader.specs.Memories.{memory_of}
use Rattle.bootloader.specs.Board.{Board, fresh_board}
use Rattle.bootloader.specs.Events.{Event}
use Rattle.board.specs.declared.draft.Log.{Log}
use Rattle.board.specs.declared.draft.Start.{Start}
use Rattle.board.specs.declared.plan.Memory.{Memory}
use Rattle.board.specs.declared.plan.Memory.TheVariants.{Flash, Boot, Data}
use Rattle.board.specs.declared.plan.Plan.{Plan}
use Rattle.board.specs.Plan.{length_of}
use Rattle.board.specs.Replay.{event_by, report_of}

-- what a memory is told to show at the start, by the line of a number
pub record Told : Type 0 where
  pub line : ℕ
  pub memory : Memory
  pub bytes : List ℕ

-- a log as it is meant: the board, what its memories show at the start, and what reaches it
pub record Meant : Type 0 where
  pub plan : Plan
  pub starts : List Told
  pub events : List Event

-- two memories are the same
abbrev pub is_memory : Memory → Memory → Bool
is_memory Flash Flash = true
is_memory Boot Boot = true
is_memory Data Data = true
is_memory m n = false

-- what is told of a memory; nothing where no line tells it
unfoldable pub told_for : Memory → List Told → List ℕ
told_for m [] = []
told_for m (t ∷ ts) = cond (is_memory t.memory m) t.bytes (told_for m ts)

-- so many bytes: those that are told, and blank ones behind them
abbrev pub filled : ℕ → List ℕ → List ℕ
filled n told = take n (told ++ replicate n 255)

-- what a memory shows at the start
abbrev pub shown_at_start : Meant → Memory → List ℕ
shown_at_start g m = filled (length_of g.plan m) (told_for m g.starts)

-- a flash that shows these bytes through its lane crossing: the array below has the bytes of each pair in each other's place
abbrev pub flash_showing : Plan → List ℕ → Meaning
flash_showing p xs =
    let l = layout_of (length xs) p.sectors p.words in
    crossed_meaning (record { contents = flash_contents l (crossed_contents xs); shape = flash_shape l })

-- the board before anything reaches it
abbrev pub board_at_start : Meant → Board
board_at_start g =
    let flash : Meaning = flash_showing g.plan (shown_at_start g Flash) in
    fresh_board g.plan.setup
    (memory_of g.plan.setup.base 2 flash.shape flash.contents)
    (memory_of 0 1 eeprom_shape (eeprom_contents (shown_at_start g Boot)))
    (memory_of 0 1 eeprom_shape (eeprom_contents (shown_at_start g Data)))

-- what is printed of a log
abbrev pub replayed : Meant → List ℕ
replayed g = report_of (board_at_start g) g.events

-- what the code was handed
abbrev pub told_by : Start → Told
told_by s = record { line = s.line; memory = s.memory; bytes = s.bytes.items }

abbrev pub meant_by : Log → Meant
meant_by g = record { plan = g.plan; starts = map told_by g.starts.items; events = map event_by g.happenings.items }
