-- What one who listens on the bus works out of the memories: from frames and their replies alone, and from what the memories
-- held at the start.
use Rattle.std.specs.Prelude.{ℕ, ◌+◌, ◌-◌, ◌*◌, ◌/◌, ◌%◌, ◌^◌, Bool, false, cond, List, [], ◌∷◌, ◌++◌, length, take, Some, None, Option, ◌==◌, slice_index, unwrap_or}
use Rattle.std.specs.Str.{bytes_eq}
use Rattle.memory.specs.Changes.{Change, changed_all}
use Rattle.memory.specs.Seal.{seal_of}
use Rattle.bootloader.specs.declared.space.Space.{Space}
use Rattle.bootloader.specs.declared.space.Space.TheVariants.{Flash, Register, Boot, Data}
use Rattle.bootloader.specs.declared.command.Command.{Command}
use Rattle.bootloader.specs.declared.command.Command.TheVariants.{Connect, SetMta, Unlock, Clear, Download, DownloadSix, BuildChecksum, Disconnect}
use Rattle.bootloader.specs.Frames.{command_of, space_of, high, low}
use Rattle.bootloader.specs.Memories.{Memory, Placed, puts_from, clears_below, placed_in, changes_in}

-- what a listener keeps: the memories as it has them, the space and the address that are selected, the bytes that were downloaded
-- for them, and the last frame that was answered
pub record Listener : Type 0 where
  pub flash : Memory
  pub boot : Memory
  pub eeprom : Memory
  pub space : Space
  pub address : ℕ
  pub bytes : List ℕ
  pub last : Option (List ℕ)

-- before the first frame
abbrev pub listening : Memory → Memory → Memory → Listener
listening flash boot eeprom =
    record { flash = flash; boot = boot; eeprom = eeprom; space = Flash; address = 0; bytes = []; last = None }

-- bytes are put into a memory from an address on
abbrev pub puts_told : Memory → ℕ → List ℕ → List Change
puts_told m address bytes = puts_from ((address - m.base) * m.width) bytes

-- the seal of the flash is put into the last two bytes of the bootloader's EEPROM, high byte first
abbrev pub seal_told : Listener → List Change
seal_told l =
    let seal : ℕ = seal_of l.flash.width l.flash.contents in
    puts_from (length l.boot.contents - 2) (high seal ∷ low seal ∷ [])

-- the changes of a record that is put
abbrev pub record_told : Listener → Space → List Placed
record_told l Flash = placed_in Flash (puts_told l.flash l.address l.bytes)
record_told l Register = []
record_told l Boot = placed_in Boot (puts_told l.boot l.address l.bytes)
record_told l Data = placed_in Data (puts_told l.eeprom l.address l.bytes)

-- the changes of an image that is whole: one of the flash is sealed
abbrev pub image_told : Listener → Space → List Placed
image_told l Flash = placed_in Boot (seal_told l)
image_told l Register = []
image_told l Boot = []
image_told l Data = []

-- the changes of a Clear: in the flash the units of the mask, in an EEPROM every unit
abbrev pub clear_told : Listener → Space → ℕ → List Placed
clear_told l Flash mask = placed_in Flash (clears_below (Some mask) l.flash.shape.units)
clear_told l Register mask = []
clear_told l Boot mask = placed_in Boot (clears_below None l.boot.shape.units)
clear_told l Data mask = placed_in Data (clears_below None l.eeprom.shape.units)

-- the changes that an accepted command makes
abbrev pub changes_told : Listener → Command → List Placed
changes_told l Connect = []
changes_told l (SetMta number extension address) = []
changes_told l (Unlock size password) = []
changes_told l (Clear mask) = clear_told l l.space mask
changes_told l (Download size bytes) = []
changes_told l (DownloadSix bytes) = []
changes_told l (BuildChecksum size crc) = cond (size == 0) (image_told l l.space) (record_told l l.space)
changes_told l (Disconnect kind) = []

-- the space that is selected after an accepted command
abbrev pub space_told : Listener → Command → Space
space_told l Connect = Flash
space_told l (SetMta number extension address) = unwrap_or (space_of extension) l.space
space_told l (Unlock size password) = l.space
space_told l (Clear mask) = l.space
space_told l (Download size bytes) = l.space
space_told l (DownloadSix bytes) = l.space
space_told l (BuildChecksum size crc) = l.space
space_told l (Disconnect kind) = l.space

-- how many bytes an address of a space stands for
abbrev pub width_in : Listener → Space → ℕ
width_in l Flash = l.flash.width
width_in l Register = 1
width_in l Boot = l.boot.width
width_in l Data = l.eeprom.width

-- the address that is selected after an accepted command: a record moves it past its bytes
abbrev pub address_told : Listener → Command → ℕ
address_told l Connect = 0
address_told l (SetMta number extension address) = address
address_told l (Unlock size password) = l.address
address_told l (Clear mask) = l.address
address_told l (Download size bytes) = l.address
address_told l (DownloadSix bytes) = l.address
address_told l (BuildChecksum size crc) = cond (size == 0) l.address ((l.address + length l.bytes / width_in l l.space) % 2 ^ 32)
address_told l (Disconnect kind) = l.address

-- the bytes that are gathered after an accepted command
abbrev pub bytes_told : Listener → Command → List ℕ
bytes_told l Connect = []
bytes_told l (SetMta number extension address) = []
bytes_told l (Unlock size password) = l.bytes
bytes_told l (Clear mask) = []
bytes_told l (Download size bytes) = l.bytes ++ take size bytes
bytes_told l (DownloadSix bytes) = l.bytes ++ bytes
bytes_told l (BuildChecksum size crc) = cond (size == 0) l.bytes []
bytes_told l (Disconnect kind) = l.bytes

-- a memory after changes in several spaces
abbrev pub changed_memory : Space → List Placed → Memory → Memory
changed_memory s ps m = record m { contents = changed_all m.shape (changes_in s ps) m.contents }

-- after an accepted command
abbrev pub told : Listener → Command → Listener
told l c = record l {
  flash = changed_memory Flash (changes_told l c) l.flash;
  boot = changed_memory Boot (changes_told l c) l.boot;
  eeprom = changed_memory Data (changes_told l c) l.eeprom;
  space = space_told l c;
  address = address_told l c;
  bytes = bytes_told l c;
}

-- after a frame that was answered: only what was accepted counts
abbrev pub told_by : Listener → Option Command → Bool → Listener
told_by l None accepted = l
told_by l (Some c) accepted = cond accepted (told l c) l

-- the frame is the last one that was answered
abbrev pub is_last : Option (List ℕ) → List ℕ → Bool
is_last None f = false
is_last (Some last) f = bytes_eq last f

-- a reply says that the command was accepted
abbrev pub is_accepted : List ℕ → Bool
is_accepted reply = slice_index reply 1 == 0

-- after a frame with its reply, or with none; a frame that is repeated changes nothing
abbrev pub heard : Listener → List ℕ → Option (List ℕ) → Listener
heard l f None = l
heard l f (Some reply) =
    cond (is_last l.last f) l (told_by (record l { last = Some f }) (command_of f) (is_accepted reply))
