-- Frames and what their bytes say: commands, spaces, bit rates, and the codes of refusals.
use Rattle.std.specs.Prelude.{◌≡◌, ℕ, ◌+◌, ◌*◌, ◌/◌, ◌%◌, ◌^◌, ◌<◌, cond, List, [], ◌∷◌, length, Some, None, Option, ◌==◌, slice_index}
use Rattle.bootloader.specs.declared.space.Space.{Space}
use Rattle.bootloader.specs.declared.space.Space.TheVariants.{Flash, Register, Boot, Data}
use Rattle.bootloader.specs.declared.rate.BitRate.{BitRate}
use Rattle.bootloader.specs.declared.rate.BitRate.TheVariants.{Kbit1000, Kbit500, Kbit250, Kbit125, Kbit100, Kbit50}
use Rattle.bootloader.specs.declared.refusal.Refusal.{Refusal}
use Rattle.bootloader.specs.declared.refusal.Refusal.TheVariants.{Unknown, Syntax, OutOfRange, Denied, Locked, Unavailable, Failed}
use Rattle.bootloader.specs.declared.state.Wait.{Wait}
use Rattle.bootloader.specs.declared.state.Wait.TheVariants.{TwoSeconds, SixteenSeconds}
use Rattle.bootloader.specs.declared.command.TheConstants.{CONNECT, SET_MTA, DOWNLOAD, DISCONNECT, BUILD_CHECKSUM, CLEAR, UNLOCK, DOWNLOAD_SIX, END}
use Rattle.bootloader.specs.declared.command.Command.{Command}
use Rattle.bootloader.specs.declared.command.Command.TheVariants.{Connect, SetMta, Unlock, Clear, Download, DownloadSix, BuildChecksum, Disconnect}

-- the space of an address extension
abbrev pub space_of : ℕ → Option Space
space_of n =
    cond (n == 0) (Some Flash)
    (cond (n == 1) (Some Register)
    (cond (n == 2) (Some Boot)
    (cond (n == 3) (Some Data) None)))

-- the address extension of a space
abbrev pub extension_of : Space → ℕ
extension_of Flash = 0
extension_of Register = 1
extension_of Boot = 2
extension_of Data = 3

-- the number that unlocks the memory of a space; the password register is no memory, and has none
abbrev pub password_of : Space → Option ℕ
password_of Flash = Some 0x1234
password_of Register = None
password_of Boot = Some 0xABCD
password_of Data = Some 0x9876

-- the bit rate of a number
abbrev pub rate_of : ℕ → Option BitRate
rate_of n =
    cond (n == 0) (Some Kbit1000)
    (cond (n == 1) (Some Kbit500)
    (cond (n == 2) (Some Kbit250)
    (cond (n == 3) (Some Kbit125)
    (cond (n == 4) (Some Kbit100)
    (cond (n == 5) (Some Kbit50) None)))))

-- the number of a bit rate
abbrev pub rate_number : BitRate → ℕ
rate_number Kbit1000 = 0
rate_number Kbit500 = 1
rate_number Kbit250 = 2
rate_number Kbit125 = 3
rate_number Kbit100 = 4
rate_number Kbit50 = 5

-- the code of a refusal in a reply
abbrev pub refusal_code : Refusal → ℕ
refusal_code Unknown = 0x30
refusal_code Syntax = 0x31
refusal_code OutOfRange = 0x32
refusal_code Denied = 0x33
refusal_code Locked = 0x35
refusal_code Unavailable = 0x36
refusal_code Failed = 0x7F

-- how many ticks of a millisecond a fresh bootloader waits
abbrev pub wait_ticks : Wait → ℕ
wait_ticks TwoSeconds = 2000
wait_ticks SixteenSeconds = 16000

-- the number of two bytes, and of four, high byte first
abbrev pub two : ℕ → ℕ → ℕ
two high low = high * 256 + low

abbrev pub four : ℕ → ℕ → ℕ → ℕ → ℕ
four a b c d = two (two (two a b) c) d

-- the command of a frame, by its first byte; the second is its counter
abbrev pub command_of : List ℕ → Option Command
command_of f =
    let byte : ℕ → ℕ = slice_index f in
    let number : ℕ = four (byte 2) (byte 3) (byte 4) (byte 5) in
    let code : ℕ = byte 0 in
    cond (code == CONNECT) (Some Connect)
    (cond (code == SET_MTA) (Some (SetMta (byte 2) (byte 3) (four (byte 4) (byte 5) (byte 6) (byte 7))))
    (cond (code == DOWNLOAD) (Some (Download (byte 2) (byte 3 ∷ byte 4 ∷ byte 5 ∷ byte 6 ∷ byte 7 ∷ [])))
    (cond (code == DISCONNECT) (Some (Disconnect (byte 2)))
    (cond (code == BUILD_CHECKSUM) (Some (BuildChecksum number (two (byte 6) (byte 7))))
    (cond (code == CLEAR) (Some (Clear number))
    (cond (code == UNLOCK) (Some (Unlock (byte 2) (two (byte 3) (byte 4))))
    (cond (code == DOWNLOAD_SIX) (Some (DownloadSix (byte 2 ∷ byte 3 ∷ byte 4 ∷ byte 5 ∷ byte 6 ∷ byte 7 ∷ []))) None)))))))

-- the high and the low byte of a number of two bytes
abbrev pub high : ℕ → ℕ
high n = n / 256 % 256

abbrev pub low : ℕ → ℕ
low n = n % 256

-- a number in four bytes, high byte first, before other bytes
abbrev pub four_before : ℕ → List ℕ → List ℕ
four_before n rest = high (n / 65536) ∷ low (n / 65536) ∷ high n ∷ low n ∷ rest

-- the frame of a command with this counter; bytes that no command names are 0, and Disconnect has a 1 in byte 4, which asks for
-- the end of the session
abbrev pub frame_of : ℕ → Command → List ℕ
frame_of counter Connect = CONNECT ∷ counter ∷ 0 ∷ 0 ∷ 0 ∷ 0 ∷ 0 ∷ 0 ∷ []
frame_of counter (SetMta number extension address) = SET_MTA ∷ counter ∷ number ∷ extension ∷ four_before address []
frame_of counter (Unlock size password) = UNLOCK ∷ counter ∷ size ∷ high password ∷ low password ∷ 0 ∷ 0 ∷ 0 ∷ []
frame_of counter (Clear mask) = CLEAR ∷ counter ∷ four_before mask (0 ∷ 0 ∷ [])
frame_of counter (Download size bytes) = DOWNLOAD ∷ counter ∷ size ∷ bytes
frame_of counter (DownloadSix bytes) = DOWNLOAD_SIX ∷ counter ∷ bytes
frame_of counter (BuildChecksum size crc) = BUILD_CHECKSUM ∷ counter ∷ four_before size (high crc ∷ low crc ∷ [])
frame_of counter (Disconnect kind) = DISCONNECT ∷ counter ∷ kind ∷ 0 ∷ END ∷ 0 ∷ 0 ∷ 0 ∷ []

-- the numbers of a command have their sizes, and its bytes are as many as it carries
abbrev pub IsCommand : Command → Type 0
IsCommand Connect = Unit {0}
IsCommand (SetMta number extension address) = address < 2 ^ 32
IsCommand (Unlock size password) = password < 2 ^ 16
IsCommand (Clear mask) = mask < 2 ^ 32
IsCommand (Download size bytes) = length bytes ≡ 5
IsCommand (DownloadSix bytes) = length bytes ≡ 6
IsCommand (BuildChecksum size crc) = (size < 2 ^ 32) × (crc < 2 ^ 16)
IsCommand (Disconnect kind) = Unit {0}
