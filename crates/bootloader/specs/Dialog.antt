-- The dialog with a host: what its commands answer, and what they leave.
use Rattle.std.specs.Prelude.{ℕ, ◌+◌, ◌/◌, ◌%◌, ◌^◌, Bool, true, false, cond, ◌&&◌, List, [], ◌∷◌, ◌++◌, length, Some, None, Ok, Err, Option, Result, ◌==◌, nat_le}
use Rattle.memory.specs.Changes.{Change, changed_all}
use Rattle.memory.specs.Crc.{crc_from}
use Rattle.bootloader.specs.declared.space.Space.{Space}
use Rattle.bootloader.specs.declared.space.Space.TheVariants.{Flash, Register, Boot, Data}
use Rattle.bootloader.specs.declared.refusal.Refusal.{Refusal}
use Rattle.bootloader.specs.declared.refusal.Refusal.TheVariants.{Syntax, OutOfRange, Denied, Locked, Unavailable, Failed}
use Rattle.bootloader.specs.declared.dialog.Unlocked.{Unlocked}
use Rattle.bootloader.specs.declared.dialog.Dialog.{Dialog}
use Rattle.bootloader.specs.Frames.{space_of, extension_of, password_of, high, low}
use Rattle.bootloader.specs.Memories.{Memory, Placed, place, puts_taken, clears_below, is_mask, placed_in, changes_in}

-- flash and address 0 are selected, no record is gathered, everything is locked, and the CRC has seen no record
abbrev pub fresh_dialog : Dialog
fresh_dialog =
    record {
      space = Flash;
      address = 0;
      bytes = record { items = [] };
      unlocked = record { flash = false; boot = false; «data» = false };
      image_crc = 0xFFFF;
    }

-- what an accepted command leaves: the five bytes that its reply carries, the dialog, and the changes that it makes
pub record Effect : Type 0 where
  pub payload : List ℕ
  pub dialog : Dialog
  pub changes : List Placed

-- five bytes that say nothing
abbrev pub nothing : List ℕ
nothing = 0 ∷ 0 ∷ 0 ∷ 0 ∷ 0 ∷ []

-- the dialog is all that changes
abbrev pub leaves : List ℕ → Dialog → Effect
leaves payload d = record { payload = payload; dialog = d; changes = [] }

-- a space and a number of two bytes, or of four
abbrev pub space_and_crc : Space → ℕ → List ℕ
space_and_crc s n = extension_of s ∷ high n ∷ low n ∷ 0 ∷ 0 ∷ []

abbrev pub space_and_address : Space → ℕ → List ℕ
space_and_address s a = extension_of s ∷ high (a / 65536) ∷ low (a / 65536) ∷ high a ∷ low a ∷ []

-- the dialog without a record
abbrev pub emptied : Dialog → Dialog
emptied d = record d { bytes = record { items = [] } }

-- an address of a space is selected, and the record is emptied
abbrev pub selecting : Dialog → Option Space → ℕ → Result Effect Refusal
selecting d None a = Err OutOfRange
selecting d (Some s) a = Ok (leaves nothing (record d { space = s; address = a; bytes = record { items = [] } }))

-- Set MTA: there is one selected address, which has the number 0
abbrev pub mta_effect : Dialog → ℕ → ℕ → ℕ → Result Effect Refusal
mta_effect d number extension address = cond (number == 0) (selecting d (space_of extension) address) (Err OutOfRange)

-- the password register is selected
abbrev pub is_register : Space → Bool
is_register Flash = false
is_register Register = true
is_register Boot = false
is_register Data = false

-- the lock of a space is open; the password register is no memory
abbrev pub is_unlocked : Unlocked → Space → Bool
is_unlocked u Flash = u.flash
is_unlocked u Register = false
is_unlocked u Boot = u.boot
is_unlocked u Data = u.«data»

-- a number is a password, where there is one
abbrev pub fits : ℕ → Option ℕ → Bool
fits n None = false
fits n (Some password) = n == password

-- the locks, with one opened by its password; the others stay as they are
abbrev pub opened : Unlocked → ℕ → Option Unlocked
opened u n =
    cond (fits n (password_of Flash)) (Some (record u { flash = true }))
    (cond (fits n (password_of Boot)) (Some (record u { boot = true }))
    (cond (fits n (password_of Data)) (Some (record u { «data» = true })) None))

-- the reply to a password that fits
abbrev pub unlocking : Dialog → Option Unlocked → Result Effect Refusal
unlocking d None = Err Locked
unlocking d (Some u) = Ok (leaves (1 ∷ 0 ∷ 0 ∷ 0 ∷ 2 ∷ []) (record d { unlocked = u }))

-- Unlock: two bytes are written to the password register
abbrev pub unlock_effect : Dialog → ℕ → ℕ → Result Effect Refusal
unlock_effect d size password =
    cond (size == 2)
    (cond (is_register d.space && d.address == 0) (unlocking d (opened d.unlocked password)) (Err Denied))
    (Err Syntax)

-- what is done to the selected memory, if there is one and it is unlocked
abbrev pub unlocked_for : {A : Type 0} → Dialog → Result A Refusal → Result A Refusal
unlocked_for d done =
    cond (is_register d.space) (Err Unavailable)
    (cond (is_unlocked d.unlocked d.space) done (Err Locked))

-- the address behind n bytes from the selected one on, rounded down; addresses are numbers of 32 bits
abbrev pub address_behind : Memory → Dialog → ℕ → ℕ
address_behind m d n = (d.address + n / m.width) % 2 ^ 32

-- there is such an offset
abbrev pub is_place : Option ℕ → Bool
is_place None = false
is_place (Some offset) = true

-- Download: bytes join the record, which has at most 252 bytes and lies in the memory
abbrev pub download_effect : Dialog → Memory → List ℕ → Result Effect Refusal
download_effect d m more =
    let bytes : List ℕ = d.bytes.items ++ more in
    unlocked_for d
    (cond (nat_le (length bytes) 252 && is_place (place m d.address (length bytes)))
    (Ok (leaves (space_and_address d.space (address_behind m d (length bytes))) (record d { bytes = record { items = bytes } })))
    (Err OutOfRange))

-- Clear: units become blank, the record is emptied, and the CRC begins again
abbrev pub clear_effect : Dialog → Memory → Option ℕ → Result Effect Refusal
clear_effect d m mask =
    unlocked_for d
    (cond (is_mask mask m.shape.units)
    (Ok (record {
      payload = nothing;
      dialog = record d { bytes = record { items = [] }; image_crc = 0xFFFF };
      changes = placed_in d.space (clears_below mask m.shape.units);
    }))
    (Err OutOfRange))

-- bytes are put where they all are taken. Without an offset they lie outside, and none is; downloads let that never come about
abbrev pub puts_at : Memory → Option ℕ → List ℕ → Option (List Change)
puts_at m None bytes = None
puts_at m (Some offset) bytes = puts_taken m.shape m.contents offset bytes

-- the record was put: the address moves behind it, it is emptied, and its bytes continue the CRC
abbrev pub recording : Dialog → Memory → Option (List Change) → Result Effect Refusal
recording d m None = Err Unavailable
recording d m (Some changes) =
    let bytes : List ℕ = d.bytes.items in
    Ok (record {
      payload = space_and_crc d.space (crc_from 0xFFFF bytes);
      dialog = record d { address = address_behind m d (length bytes); bytes = record { items = [] }; image_crc = crc_from d.image_crc bytes };
      changes = placed_in d.space changes;
    })

-- Build Checksum of a record: it has bytes, whole addresses of them, the CRC that is told, and the memory takes them all
abbrev pub record_effect : Dialog → Memory → ℕ → Result Effect Refusal
record_effect d m crc =
    let bytes : List ℕ = d.bytes.items in
    unlocked_for d
    (cond (length bytes == 0) (Err Syntax)
    (cond (length bytes % m.width == 0)
    (cond (crc_from 0xFFFF bytes == crc) (recording d m (puts_at m (place m d.address (length bytes)) bytes)) (Err Failed))
    (Err OutOfRange)))

-- what a command answers: the bytes that its reply carries, or why it is refused
abbrev pub payload_of : Result Effect Refusal → Result (List ℕ) Refusal
payload_of (Ok e) = Ok e.payload
payload_of (Err r) = Err r

-- the dialog after a command; one that is refused leaves it as it was
abbrev pub dialog_after : Dialog → Result Effect Refusal → Dialog
dialog_after d (Ok e) = e.dialog
dialog_after d (Err r) = d

-- the contents of the memory of a space after a command; one that is refused leaves them as they were
abbrev pub contents_after : Space → Memory → Result Effect Refusal → List ℕ
contents_after s m (Ok e) = changed_all m.shape (changes_in s e.changes) m.contents
contents_after s m (Err r) = m.contents
