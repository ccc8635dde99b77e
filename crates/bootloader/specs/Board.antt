-- The board as a value, and what a frame and a tick make of it.
use Rattle.std.specs.Prelude.{ℕ, ◌-◌, Bool, true, false, cond, ◌&&◌, ◌||◌, not, List, [], ◌∷◌, length, take, Some, None, Ok, Err, Option, Result, ◌==◌, nat_le, slice_index}
use Rattle.std.specs.Str.{bytes_eq}
use Rattle.memory.specs.Changes.{Change}
use Rattle.memory.specs.Seal.{seal_of, seal_valid}
use Rattle.bootloader.specs.declared.board.TheConstants.{FRAME_ID, ACTION_SERVICE}
use Rattle.bootloader.specs.declared.session.TheConstants.{SET_RATE}
use Rattle.bootloader.specs.declared.space.Space.{Space}
use Rattle.bootloader.specs.declared.space.Space.TheVariants.{Flash, Register, Boot, Data}
use Rattle.bootloader.specs.declared.rate.BitRate.{BitRate}
use Rattle.bootloader.specs.declared.rate.BitRate.TheVariants.{Kbit250}
use Rattle.bootloader.specs.declared.refusal.Refusal.{Refusal}
use Rattle.bootloader.specs.declared.refusal.Refusal.TheVariants.{Unknown, Syntax, OutOfRange, Denied, Unavailable, Failed}
use Rattle.bootloader.specs.declared.state.State.{State}
use Rattle.bootloader.specs.declared.state.State.TheVariants.{Waiting, Connected, Idle, Running}
use Rattle.bootloader.specs.declared.command.Command.{Command}
use Rattle.bootloader.specs.declared.command.Command.TheVariants.{Connect, SetMta, Unlock, Clear, Download, DownloadSix, BuildChecksum, Disconnect}
use Rattle.bootloader.specs.declared.dialog.Dialog.{Dialog}
use Rattle.bootloader.specs.declared.session.Exchange.{Exchange}
use Rattle.bootloader.specs.declared.session.Session.{Session}
use Rattle.bootloader.specs.declared.session.Setup.{Setup}
use Rattle.bootloader.specs.Frames.{command_of, refusal_code, rate_of, wait_ticks, two, high, low}
use Rattle.bootloader.specs.Memories.{Memory, seal_puts, made_by, placed_in}
use Rattle.bootloader.specs.Dialog.{Effect, fresh_dialog, nothing, leaves, space_and_crc, unlocked_for, mta_effect, unlock_effect, download_effect, clear_effect, record_effect, payload_of, contents_after}

-- a board: what it was made with, its talk with a host, and its three memories
pub record Board : Type 0 where
  pub setup : Setup
  pub session : Session
  pub flash : Memory
  pub boot : Memory
  pub eeprom : Memory

-- the talk with a host before anything is heard
abbrev pub fresh_session : Setup → Session
fresh_session setup =
    record { state = Waiting (wait_ticks setup.wait); dialog = fresh_dialog; rate = Kbit250; stored = None }

-- a board that nothing has reached, over these memories
abbrev pub fresh_board : Setup → Memory → Memory → Memory → Board
fresh_board setup flash boot eeprom =
    record { setup = setup; session = fresh_session setup; flash = flash; boot = boot; eeprom = eeprom }

-- the stored seal of the flash is its own
abbrev pub is_sealed : Board → Bool
is_sealed b = seal_valid b.flash.width b.flash.contents b.boot.contents

-- the state that a board goes to without a host: the application is started where the flash is sealed
abbrev pub launched : Board → State
launched b = cond (is_sealed b) Running Idle

-- what a command does to the selected memory; the password register is none
abbrev pub in_space : Board → Space → (Memory → Result Effect Refusal) → Result Effect Refusal
in_space b Flash act = act b.flash
in_space b Register act = Err Unavailable
in_space b Boot act = act b.boot
in_space b Data act = act b.eeprom

-- the mask of a Clear counts for the flash; in the EEPROMs every unit is cleared
abbrev pub mask_for : Space → ℕ → Option ℕ
mask_for Flash mask = Some mask
mask_for Register mask = None
mask_for Boot mask = None
mask_for Data mask = None

-- the changes that store the seal of the flash in the EEPROM of the bootloader, if it takes them
abbrev pub seal_changes : Board → Option (List Change)
seal_changes b = seal_puts (seal_of b.flash.width b.flash.contents) b.boot.shape b.boot.contents

-- the image is whole, with these changes in the EEPROM of the bootloader; without them, that memory has no place for the seal or
-- does not take it
abbrev pub imaging : Dialog → Option (List Change) → Result Effect Refusal
imaging d None = Err Unavailable
imaging d (Some changes) = Ok (record { payload = space_and_crc d.space d.image_crc; dialog = d; changes = placed_in Boot changes })

-- an image of the flash is sealed; one of an EEPROM changes nothing
abbrev pub seal_for : Board → Space → Option (List Change)
seal_for b Flash = seal_changes b
seal_for b Register = Some []
seal_for b Boot = Some []
seal_for b Data = Some []

-- the board with those changes in the EEPROM of the bootloader
abbrev pub sealed_by : Board → Option (List Change) → Board
sealed_by b cs = record b { boot = record (b.boot) { contents = made_by b.boot.shape b.boot.contents cs } }

-- Build Checksum of the image: no record is half gathered, and the CRC that is told is that over all records
abbrev pub image_effect : Board → ℕ → Result Effect Refusal
image_effect b crc =
    let d : Dialog = b.session.dialog in
    unlocked_for d
    (cond (length d.bytes.items == 0)
    (cond (d.image_crc == crc) (imaging d (seal_for b d.space)) (Err Failed))
    (Err Syntax))

-- what the reply to Connect carries: the revision and the part ID
abbrev pub identity : Setup → List ℕ
identity s = s.major ∷ s.minor ∷ high s.part_id ∷ low s.part_id ∷ 0 ∷ []

-- what Build Checksum of a record does in the selected memory
abbrev pub record_at : Board → ℕ → Result Effect Refusal
record_at b crc = in_space b b.session.dialog.space (λ m. record_effect b.session.dialog m crc)

-- what bytes that are downloaded do for the selected memory
abbrev pub download_at : Board → List ℕ → Result Effect Refusal
download_at b bytes = in_space b b.session.dialog.space (λ m. download_effect b.session.dialog m bytes)

-- what a command does, in the states in which it is allowed
abbrev pub effect_of : Board → Command → Result Effect Refusal
effect_of b Connect = Ok (leaves (identity b.setup) fresh_dialog)
effect_of b (SetMta number extension address) = mta_effect b.session.dialog number extension address
effect_of b (Unlock size password) = unlock_effect b.session.dialog size password
effect_of b (Clear mask) = in_space b b.session.dialog.space (λ m. clear_effect b.session.dialog m (mask_for b.session.dialog.space mask))
effect_of b (Download size bytes) =
    cond (nat_le 1 size && nat_le size 5)
    (download_at b (take size bytes))
    (Err Syntax)
effect_of b (DownloadSix bytes) = download_at b bytes
effect_of b (BuildChecksum size crc) =
    cond (size == 0) (image_effect b crc) (record_at b crc)
effect_of b (Disconnect kind) = cond (kind == 1) (Ok (leaves nothing b.session.dialog)) (Err OutOfRange)

-- the state after a command that was accepted
abbrev pub state_after : Board → Command → State
state_after b Connect = Connected
state_after b (Disconnect kind) = launched b
state_after b (SetMta number extension address) = b.session.state
state_after b (Unlock size password) = b.session.state
state_after b (Clear mask) = b.session.state
state_after b (Download size bytes) = b.session.state
state_after b (DownloadSix bytes) = b.session.state
state_after b (BuildChecksum size crc) = b.session.state

-- a host is connected
abbrev pub is_connected : State → Bool
is_connected (Waiting left) = false
is_connected Connected = true
is_connected Idle = false
is_connected Running = false

-- the application runs
abbrev pub is_running : State → Bool
is_running (Waiting left) = false
is_running Connected = false
is_running Idle = false
is_running Running = true

-- a command that is allowed without a connection
abbrev pub is_connect : Command → Bool
is_connect Connect = true
is_connect (SetMta number extension address) = false
is_connect (Unlock size password) = false
is_connect (Clear mask) = false
is_connect (Download size bytes) = false
is_connect (DownloadSix bytes) = false
is_connect (BuildChecksum size crc) = false
is_connect (Disconnect kind) = false

-- whether a frame's command is accepted, and what it does
abbrev pub judged : Board → Option Command → Result Effect Refusal
judged b None = Err Unknown
judged b (Some c) = cond (is_connected b.session.state || is_connect c) (effect_of b c) (Err Denied)

-- the memory of a space after a command
abbrev pub memory_after : Space → Memory → Result Effect Refusal → Memory
memory_after s m r = record m { contents = contents_after s m r }

-- the talk with a host after a command
abbrev pub session_after : Board → Option Command → Result Effect Refusal → Session
session_after b None r = b.session
session_after b (Some c) (Err e) = b.session
session_after b (Some c) (Ok e) = record (b.session) { state = state_after b c; dialog = e.dialog }

-- the board after a command; one that is refused changes nothing
abbrev pub board_after : Board → Option Command → Result Effect Refusal → Board
board_after b c r = record b {
  session = session_after b c r;
  flash = memory_after Flash b.flash r;
  boot = memory_after Boot b.boot r;
  eeprom = memory_after Data b.eeprom r;
}

-- a reply: whether the command is accepted, the counter of its frame, and what the command tells
abbrev pub reply_with : ℕ → Result (List ℕ) Refusal → List ℕ
reply_with counter (Ok payload) = 0xFF ∷ 0x00 ∷ counter ∷ payload
reply_with counter (Err r) = 0xFF ∷ refusal_code r ∷ counter ∷ nothing

-- the reply to a frame, whose second byte is its counter
abbrev pub reply_to : List ℕ → Result Effect Refusal → List ℕ
reply_to f r = reply_with (slice_index f 1) (payload_of r)

-- the reply that is stored for a frame, if the frame is the last one that was answered, in all its bytes
abbrev pub stored_reply : Option Exchange → List ℕ → Option (List ℕ)
stored_reply None f = None
stored_reply (Some x) f = cond (bytes_eq x.frame f) (Some x.reply) None

-- what comes of a frame: the board afterwards, and the reply if there is one
pub record Turn : Type 0 where
  pub board : Board
  pub reply : Option (List ℕ)

-- a frame and its reply are stored
abbrev pub storing : Board → List ℕ → List ℕ → Board
storing b f reply = record b { session = record (b.session) { stored = Some (record { frame = f; reply = reply }) } }

-- a frame is answered by what its command does, and stored with its reply
abbrev pub answered_anew : Board → List ℕ → Turn
answered_anew b f =
    let r : Result Effect Refusal = judged b (command_of f) in
    record { board = storing (board_after b (command_of f) r) f (reply_to f r); reply = Some (reply_to f r) }

-- a repeated frame gets the stored reply, and does nothing else
abbrev pub answered_from : Board → List ℕ → Option (List ℕ) → Turn
answered_from b f None = answered_anew b f
answered_from b f (Some reply) = record { board = b; reply = Some reply }

-- a frame that is answered: by what is stored for it, or by what its command does
abbrev pub answered : Board → List ℕ → Turn
answered b f = answered_from b f (stored_reply b.session.stored f)

-- the rate of a number, or the one that is there
abbrev pub rate_or : BitRate → Option BitRate → BitRate
rate_or rate None = rate
rate_or rate (Some asked) = asked

-- Action Service asks for a bit rate by its type
abbrev pub served : Session → List ℕ → Session
served s f =
    let byte : ℕ → ℕ = slice_index f in
    cond (two (byte 2) (byte 3) == SET_RATE) (record s { rate = rate_or s.rate (rate_of (two (byte 4) (byte 5))) }) s

-- a frame of eight bytes, while the application does not run; Action Service has no reply
abbrev pub admitted : Board → List ℕ → Turn
admitted b f =
    cond (slice_index f 0 == ACTION_SERVICE) (record { board = record b { session = served b.session f }; reply = None }) (answered b f)

-- what comes of a frame with this identifier and these bytes, where a reply has so many places
abbrev pub stepped : Board → ℕ → ℕ → List ℕ → Turn
stepped b places id f =
    cond (places == 8 && (id == FRAME_ID && (length f == 8 && not (is_running b.session.state))))
    (admitted b f)
    (record { board = b; reply = None })

-- the state after a tick, which is a millisecond: only waiting comes to an end
abbrev pub state_ticked : Board → State → State
state_ticked b (Waiting left) = cond (nat_le left 1) (launched b) (Waiting (left - 1))
state_ticked b Connected = Connected
state_ticked b Idle = Idle
state_ticked b Running = Running

-- the board after a tick
abbrev pub ticked : Board → Board
ticked b = record b { session = record (b.session) { state = state_ticked b b.session.state } }

-- what comes of a frame that a host sends, with the eight places of a reply
abbrev pub taken : Board → List ℕ → Turn
taken b f = stepped b 8 FRAME_ID f
