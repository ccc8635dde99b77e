-- What is printed of what reaches a board.
use Rattle.std.specs.Prelude.{ℕ, List, [], ◌∷◌, ◌++◌, Some, None, codes, Option, decimal}
use Rattle.std.specs.List.{flat_map}
use Rattle.bootloader.specs.declared.state.State.{State}
use Rattle.bootloader.specs.declared.state.State.TheVariants.{Waiting, Connected, Idle, Running}
use Rattle.bootloader.specs.Board.{Board}
use Rattle.bootloader.specs.Events.{Event, frame, tick, happened, board_behind}
use Rattle.script.specs.Hex.{hex_byte}
use Rattle.board.specs.declared.happening.Happening.{Happening}
use Rattle.board.specs.declared.happening.Happening.TheVariants.{Frame, Tick}
use Rattle.board.specs.declared.plan.Memory.{Memory}
use Rattle.board.specs.declared.plan.Memory.TheVariants as space
use Rattle.board.specs.Plan.{space_number}

-- bytes in hex digits
abbrev pub shown : List ℕ → List ℕ
shown bytes = flat_map hex_byte bytes

-- a reply as it is printed, and a dash where there is none
abbrev pub reply_shown : Option (List ℕ) → List ℕ
reply_shown None = codes "-"
reply_shown (Some reply) = shown reply

-- a line for a frame, with its reply; none for a tick
abbrev pub frame_line : Event → Option (List ℕ) → List ℕ
frame_line tick reply = []
frame_line (frame id bytes places) reply = codes "F\t" ++ (shown bytes ++ (codes "\t" ++ (reply_shown reply ++ codes "\n")))

-- the lines for all that reaches a board
unfoldable pub frame_lines : Board → List Event → List ℕ
frame_lines b [] = []
frame_lines b (e ∷ es) = frame_line e (happened b e).reply ++ frame_lines (happened b e).board es

-- the name of a state
abbrev pub state_name : State → List ℕ
state_name (Waiting left) = codes "Waiting"
state_name Connected = codes "Connected"
state_name Idle = codes "Idle"
state_name Running = codes "Running"

-- a line with the contents of a memory
abbrev pub memory_line : Memory → List ℕ → List ℕ
memory_line m xs = codes "M\t" ++ (decimal (space_number m) ++ (codes "\t" ++ (shown xs ++ codes "\n")))

-- the lines for a board that is left: its state, and its memories
abbrev pub ending : Board → List ℕ
ending b =
    codes "S\t" ++ (state_name b.session.state ++ (codes "\n"
    ++ (memory_line space.Flash b.flash.contents
    ++ (memory_line space.Boot b.boot.contents
    ++ memory_line space.Data b.eeprom.contents))))

-- what is printed of all that reaches a board
abbrev pub report_of : Board → List Event → List ℕ
report_of b es = frame_lines b es ++ ending (board_behind b es)

-- an event that the code keeps, with eight places for the reply
abbrev pub event_by : Happening → Event
event_by Tick = tick
event_by (Frame id bytes) = frame id bytes.items 8

-- the lines for events with the replies to them
unfoldable pub rows : List Event → List (Option (List ℕ)) → List ℕ
rows [] replies = []
rows (e ∷ es) [] = []
rows (e ∷ es) (r ∷ rs) = frame_line e r ++ rows es rs
