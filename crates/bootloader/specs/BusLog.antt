-- The bus log that events leave, what a listener has of it, and the law of it.
use Rattle.std.specs.Prelude.{◌≡◌, ℕ, false, Bool, cond, if◌then◌else◌, List, map, [], ◌∷◌, ◌++◌, Some, None, Option, is_some}
use Rattle.memory.specs.Changes.{ByLast}
use Rattle.bootloader.specs.declared.space.Space.{Space}
use Rattle.bootloader.specs.declared.space.Space.TheVariants.{Flash, Boot, Data}
use Rattle.bootloader.specs.declared.command.Command.{Command}
use Rattle.bootloader.specs.declared.bus.Event as lent
use Rattle.bootloader.specs.declared.bus.Event.TheVariants.{Frame, Tick}
use Rattle.bootloader.specs.declared.bus.Entry.{Entry}
use Rattle.bootloader.specs.Frames.{command_of}
use Rattle.bootloader.specs.Memories.{Memory, Placed, changes_in}
use Rattle.bootloader.specs.Board.{Board}
use Rattle.bootloader.specs.Events.{Event, frame, tick, happened, board_behind, replies_to}
use Rattle.bootloader.specs.Laws.{SameMemories, listener_of}
use Rattle.bootloader.specs.Listener.{Listener, heard, is_last, is_accepted, changes_told}

-- an event that the code was handed
abbrev pub event_of : lent.Event → Event
event_of Tick = tick
event_of (Frame id bytes places) = frame id bytes.now places

-- the events of entries, and the replies that they hold
abbrev pub events_of : List Entry → List Event
events_of es = map (λ e. event_of e.event) es

abbrev pub replies_of : List Entry → List (Option (List ℕ))
replies_of es = map (λ e. e.reply) es

-- a line of the bus log: a frame, and its reply if there was one
pub record Line : Type 0 where
  pub frame : List ℕ
  pub reply : Option (List ℕ)

-- the lines that an event leaves on the bus; a tick leaves none
abbrev pub lines_of : Event → Option (List ℕ) → List Line
lines_of (frame id bytes places) reply = record { frame = bytes; reply = reply } ∷ []
lines_of tick reply = []

-- the bus log of events and of the replies to them
unfoldable pub log_of : List Event → List (Option (List ℕ)) → List Line
log_of [] rs = []
log_of (e ∷ es) [] = []
log_of (e ∷ es) (r ∷ rs) = lines_of e r ++ log_of es rs

-- the bus log of events that reach a board
abbrev pub log_behind : Board → List Event → List Line
log_behind b es = log_of es (replies_to b es)

-- a listener after the lines of a bus log
unfoldable pub heard_all : Listener → List Line → Listener
heard_all l [] = l
heard_all l (x ∷ xs) = heard_all (heard l x.frame x.reply) xs

-- the last frame that was answered, behind the lines of a bus log; where none was, the one before them
unfoldable pub last_answered : Option (List ℕ) → List Line → Option (List ℕ)
last_answered last [] = last
last_answered last (x ∷ xs) = last_answered (if is_some x.reply then Some x.frame else last) xs

-- the changes of a command that was accepted
abbrev pub changes_by : Listener → Option Command → List Placed
changes_by l None = []
changes_by l (Some c) = changes_told l c

-- the changes that a listener learns from a line: those of a command that was accepted, where the frame is not repeated
abbrev pub changes_heard : Listener → List ℕ → Option (List ℕ) → List Placed
changes_heard l f None = []
changes_heard l f (Some reply) = cond (is_last l.last f) [] (cond (is_accepted reply) (changes_by l (command_of f)) [])

-- the changes that a listener learns from a bus log, in their order: clears, records and seals that were accepted
unfoldable pub changes_all : Listener → List Line → List Placed
changes_all l [] = []
changes_all l (x ∷ xs) = changes_heard l x.frame x.reply ++ changes_all (heard l x.frame x.reply) xs

-- what a listener has that began with what the board had, and heard the bus log of these events
abbrev pub heard_behind : Board → List Event → Listener
heard_behind b es = heard_all (listener_of b) (log_behind b es)

-- the changes that it learned
abbrev pub changes_behind : Board → List Event → List Placed
changes_behind b es = changes_all (listener_of b) (log_behind b es)

-- the frame that a board answered last, behind events
abbrev pub last_behind : Board → List Event → Option (List ℕ)
last_behind b es = last_answered (listener_of b).last (log_behind b es)

-- a reply accepts its frame; one that is not there does not
abbrev pub accepts : Option (List ℕ) → Bool
accepts None = false
accepts (Some reply) = is_accepted reply

-- an event changes no memory, where these reached the board before it
abbrev pub KeepsMemories : Board → List Event → Event → Type 0
KeepsMemories b before e =
    SameMemories (board_behind b (before ++ (e ∷ []))) (board_behind b before)

-- each byte of a memory is as the last of these changes that covers it left it, or else as it was
abbrev pub ByLastIn : Space → List Placed → Memory → Memory → Type 0
ByLastIn s changes m n = ByLast m.shape (changes_in s changes) m.contents n.contents

-- The law of the bus log, for events that reach a board, with places for their replies of any length.
pub record BusLog (b : Board) (es : List Event) : Type 0 where
  -- the memories that are left are what the listener works out
  pub flash : (board_behind b es).flash ≡ (heard_behind b es).flash
  pub boot : (board_behind b es).boot ≡ (heard_behind b es).boot
  pub eeprom : (board_behind b es).eeprom ≡ (heard_behind b es).eeprom
  -- each byte of them is as the last accepted clear, record or seal that covers it left it
  pub flash_by_last : ByLastIn Flash (changes_behind b es) b.flash (board_behind b es).flash
  pub boot_by_last : ByLastIn Boot (changes_behind b es) b.boot (board_behind b es).boot
  pub eeprom_by_last : ByLastIn Data (changes_behind b es) b.eeprom (board_behind b es).eeprom
  -- a frame that is, in all its bytes, the last one that was answered changes no memory
  pub repeated : (before after : List Event) (id places : ℕ) (f : List ℕ)
      → es ≡ before ++ (frame id f places ∷ after)
      → last_behind b before ≡ Some f → KeepsMemories b before (frame id f places)
  -- and neither does an event that is refused or has no reply
  pub refused : (before after : List Event) (e : Event) → es ≡ before ++ (e ∷ after)
      → accepts (happened (board_behind b before) e).reply ≡ false → KeepsMemories b before e
