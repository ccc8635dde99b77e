-- Frames at a board of the bench, with what the definitions make of them.
use Rattle.std.specs.Prelude.{◌≡◌, ℕ, zero, suc, List, [], ◌∷◌, ◌++◌, replicate, take, drop, Some, None, Option, slice_index}
use Rattle.memory.specs.Flash.{flash_shape, word_layout}
use Rattle.memory.specs.Crossing.{crossed_shape}
use Rattle.memory.specs.Eeprom.{eeprom_shape}
use Rattle.bootloader.specs.declared.state.Wait.TheVariants.{TwoSeconds}
use Rattle.bootloader.specs.declared.state.State.TheVariants.{Waiting, Idle, Running}
use Rattle.bootloader.specs.declared.rate.BitRate.TheVariants.{Kbit1000}
use Rattle.bootloader.specs.declared.command.Command.TheVariants.{Unlock, Disconnect}
use Rattle.bootloader.specs.Frames.{frame_of}
use Rattle.bootloader.specs.Memories.{Memory, memory_of}
use Rattle.bootloader.specs.Board.{Board, Turn, fresh_board, stepped, ticked}

-- a blank flash of 4 sectors of 16 words under a lane crossing, and a blank EEPROM of 64 bytes
abbrev pub bench_flash : Memory
bench_flash = memory_of 0x1000 2 (crossed_shape 128 (flash_shape (word_layout 4 16))) (replicate 128 255)

abbrev pub bench_eeprom : Memory
bench_eeprom = memory_of 0 1 eeprom_shape (replicate 64 255)

-- the board of the bench, which nothing has reached
abbrev pub bench : Board
bench =
    fresh_board (record { base = 0x1000; part_id = 0x0001; major = 1; minor = 0; wait = TwoSeconds }) bench_flash bench_eeprom bench_eeprom

-- what comes of a frame from a host; its identifier is written out here
abbrev pub taken : Board → List ℕ → Turn
taken b f = stepped b 8 0x0B081880 f

-- the board behind frames
abbrev pub behind : Board → List (List ℕ) → Board
behind b [] = b
behind b (f ∷ fs) = behind (taken b f).board fs

-- the frames of the session in which two bytes are loaded at the start of the flash, one by one
abbrev pub connect : List ℕ
connect = 0x01 ∷ 0x00 ∷ 0x00 ∷ 0x00 ∷ 0x00 ∷ 0x00 ∷ 0x00 ∷ 0x00 ∷ []

abbrev pub select_register : List ℕ
select_register = 0x02 ∷ 0x01 ∷ 0x00 ∷ 0x01 ∷ 0x00 ∷ 0x00 ∷ 0x00 ∷ 0x00 ∷ []

abbrev pub unlock_flash : List ℕ
unlock_flash = 0x13 ∷ 0x02 ∷ 0x02 ∷ 0x12 ∷ 0x34 ∷ 0x00 ∷ 0x00 ∷ 0x00 ∷ []

abbrev pub select_flash : List ℕ
select_flash = 0x02 ∷ 0x03 ∷ 0x00 ∷ 0x00 ∷ 0x00 ∷ 0x00 ∷ 0x00 ∷ 0x00 ∷ []

abbrev pub clear_lowest_sector : List ℕ
clear_lowest_sector = 0x10 ∷ 0x04 ∷ 0x00 ∷ 0x00 ∷ 0x00 ∷ 0x08 ∷ 0x00 ∷ 0x00 ∷ []

abbrev pub select_start : List ℕ
select_start = 0x02 ∷ 0x05 ∷ 0x00 ∷ 0x00 ∷ 0x00 ∷ 0x00 ∷ 0x10 ∷ 0x00 ∷ []

abbrev pub download_two : List ℕ
download_two = 0x03 ∷ 0x06 ∷ 0x02 ∷ 0x12 ∷ 0x34 ∷ 0x00 ∷ 0x00 ∷ 0x00 ∷ []

abbrev pub check_record : List ℕ
check_record = 0x0E ∷ 0x07 ∷ 0x00 ∷ 0x00 ∷ 0x00 ∷ 0x02 ∷ 0xC7 ∷ 0x0C ∷ []

abbrev pub check_image : List ℕ
check_image = 0x0E ∷ 0x08 ∷ 0x00 ∷ 0x00 ∷ 0x00 ∷ 0x00 ∷ 0xC7 ∷ 0x0C ∷ []

abbrev pub disconnect : List ℕ
disconnect = 0x07 ∷ 0x09 ∷ 0x01 ∷ 0x00 ∷ 0x01 ∷ 0x00 ∷ 0x00 ∷ 0x00 ∷ []

-- masks of sectors: bit 0 is the one with the highest offsets
abbrev pub clear_sectors_2_and_3 : List ℕ
clear_sectors_2_and_3 = 0x10 ∷ 0x20 ∷ 0x00 ∷ 0x00 ∷ 0x00 ∷ 0x0C ∷ 0x00 ∷ 0x00 ∷ []

abbrev pub clear_sectors_0_to_2 : List ℕ
clear_sectors_0_to_2 = 0x10 ∷ 0x20 ∷ 0x00 ∷ 0x00 ∷ 0x00 ∷ 0x07 ∷ 0x00 ∷ 0x00 ∷ []

-- the board behind so many ticks
abbrev pub after_ticks : ℕ → Board → Board
after_ticks zero b = b
after_ticks (suc n) b = after_ticks n (ticked b)

-- the board when the flash is unlocked and its start is selected
abbrev pub unlocked : Board
unlocked = behind bench (connect ∷ select_register ∷ unlock_flash ∷ select_flash ∷ clear_lowest_sector ∷ select_start ∷ [])

-- the board when two bytes were put
abbrev pub recorded : Board
recorded = behind unlocked (download_two ∷ check_record ∷ [])

-- the board when the image was sealed
abbrev pub sealed : Board
sealed = behind recorded (check_image ∷ [])

-- the replies of that session: each begins with FF, the code and the counter
pub record SessionExamples : Type 0 where
  pub connected : (taken bench connect).reply ≡ Some (0xFF ∷ 0x00 ∷ 0x00 ∷ 0x01 ∷ 0x00 ∷ 0x00 ∷ 0x01 ∷ 0x00 ∷ [])
  pub opened : (taken (behind bench (connect ∷ select_register ∷ [])) unlock_flash).reply
      ≡ Some (0xFF ∷ 0x00 ∷ 0x02 ∷ 0x01 ∷ 0x00 ∷ 0x00 ∷ 0x00 ∷ 0x02 ∷ [])
  pub cleared : (taken (behind bench (connect ∷ select_register ∷ unlock_flash ∷ select_flash ∷ [])) clear_lowest_sector).reply
      ≡ Some (0xFF ∷ 0x00 ∷ 0x04 ∷ 0x00 ∷ 0x00 ∷ 0x00 ∷ 0x00 ∷ 0x00 ∷ [])
  pub downloaded : (taken unlocked download_two).reply
      ≡ Some (0xFF ∷ 0x00 ∷ 0x06 ∷ 0x00 ∷ 0x00 ∷ 0x00 ∷ 0x10 ∷ 0x01 ∷ [])
  pub put : (taken (behind unlocked (download_two ∷ [])) check_record).reply
      ≡ Some (0xFF ∷ 0x00 ∷ 0x07 ∷ 0x00 ∷ 0xC7 ∷ 0x0C ∷ 0x00 ∷ 0x00 ∷ [])
  pub whole : (taken recorded check_image).reply ≡ Some (0xFF ∷ 0x00 ∷ 0x08 ∷ 0x00 ∷ 0xC7 ∷ 0x0C ∷ 0x00 ∷ 0x00 ∷ [])
  pub ended : (taken sealed disconnect).reply ≡ Some (0xFF ∷ 0x00 ∷ 0x09 ∷ 0x00 ∷ 0x00 ∷ 0x00 ∷ 0x00 ∷ 0x00 ∷ [])
  pub started : (taken sealed disconnect).board.session.state ≡ Running
  pub not_started : (taken recorded disconnect).board.session.state ≡ Idle

-- Action Service, which asks for 1000 kbit/s
abbrev pub ask_for_rate : List ℕ
ask_for_rate = 0x21 ∷ 0x01 ∷ 0x00 ∷ 0x81 ∷ 0x00 ∷ 0x00 ∷ 0x00 ∷ 0x00 ∷ []

-- a download of five bytes passes and one of six has a fault of syntax; a password with its bytes swapped opens no lock
pub record FrameExamples : Type 0 where
  pub five : (taken unlocked (0x03 ∷ 0x06 ∷ 0x05 ∷ 0x12 ∷ 0x34 ∷ 0x00 ∷ 0x00 ∷ 0x00 ∷ [])).reply
      ≡ Some (0xFF ∷ 0x00 ∷ 0x06 ∷ 0x00 ∷ 0x00 ∷ 0x00 ∷ 0x10 ∷ 0x02 ∷ [])
  pub six : (taken unlocked (0x03 ∷ 0x06 ∷ 0x06 ∷ 0x12 ∷ 0x34 ∷ 0x00 ∷ 0x00 ∷ 0x00 ∷ [])).reply
      ≡ Some (0xFF ∷ 0x31 ∷ 0x06 ∷ 0x00 ∷ 0x00 ∷ 0x00 ∷ 0x00 ∷ 0x00 ∷ [])
  pub swapped : (taken (behind bench (connect ∷ select_register ∷ [])) (0x13 ∷ 0x02 ∷ 0x02 ∷ 0x34 ∷ 0x12 ∷ 0x00 ∷ 0x00 ∷ 0x00 ∷ [])).reply
      ≡ Some (0xFF ∷ 0x35 ∷ 0x02 ∷ 0x00 ∷ 0x00 ∷ 0x00 ∷ 0x00 ∷ 0x00 ∷ [])
  -- Action Service sets the bit rate, and has no reply
  pub rate : (taken bench ask_for_rate).board.session.rate ≡ Kbit1000
  pub silent : (taken bench ask_for_rate).reply ≡ None
  -- the frames that are written for two commands
  pub written : frame_of 2 (Unlock 2 0x1234) ≡ unlock_flash
  pub ending : frame_of 9 (Disconnect 1) ≡ disconnect

-- the memories in that session: two bytes are put at the start of the flash, high byte first, and the seal at the end of the
-- EEPROM; without a host the wait ends with tick 2,000
pub record MemoryExamples : Type 0 where
  pub put : take 3 recorded.flash.contents ≡ 0x12 ∷ 0x34 ∷ 0xFF ∷ []
  pub no_seal : drop 62 recorded.boot.contents ≡ 0xFF ∷ 0xFF ∷ []
  pub seal : drop 62 sealed.boot.contents ≡ 0xC7 ∷ 0x0C ∷ []
  pub other : sealed.eeprom.contents ≡ replicate 64 0xFF
  pub cleared : take 3 (behind sealed (clear_sectors_2_and_3 ∷ [])).flash.contents ≡ 0xFF ∷ 0xFF ∷ 0xFF ∷ []
  pub kept : take 3 (behind sealed (clear_sectors_0_to_2 ∷ [])).flash.contents ≡ 0x12 ∷ 0x34 ∷ 0xFF ∷ []
  pub waiting : (after_ticks 1999 bench).session.state ≡ Waiting 1
  pub waited : (after_ticks 2000 bench).session.state ≡ Idle

-- the same frame with another counter, which is its second byte
abbrev pub counted : ℕ → List ℕ → List ℕ
counted n f = take 1 f ++ n ∷ drop 2 f

-- the code of a reply, if there is one
abbrev pub code_of : Option (List ℕ) → Option ℕ
code_of None = None
code_of (Some reply) = Some (slice_index reply 1)

-- a flash of 512 bytes, unlocked, with address 0x1000 selected
abbrev pub large : Board
large =
    behind (record bench { flash = memory_of 0x1000 2 (flash_shape (word_layout 4 64)) (replicate 512 255) })
    (connect ∷ select_register ∷ unlock_flash ∷ select_start ∷ [])

-- so many downloads of six bytes
abbrev pub sixes : ℕ → List (List ℕ)
sixes zero = []
sixes (suc n) = (0x23 ∷ n ∷ 0x01 ∷ 0x02 ∷ 0x03 ∷ 0x04 ∷ 0x05 ∷ 0x06 ∷ []) ∷ sixes n

abbrev pub download_one : List ℕ
download_one = 0x03 ∷ 0x80 ∷ 0x01 ∷ 0x12 ∷ 0x00 ∷ 0x00 ∷ 0x00 ∷ 0x00 ∷ []

-- the passwords of the two EEPROMs
abbrev pub unlock_boot : List ℕ
unlock_boot = 0x13 ∷ 0x02 ∷ 0x02 ∷ 0xAB ∷ 0xCD ∷ 0x00 ∷ 0x00 ∷ 0x00 ∷ []

abbrev pub unlock_data : List ℕ
unlock_data = 0x13 ∷ 0x02 ∷ 0x02 ∷ 0x98 ∷ 0x76 ∷ 0x00 ∷ 0x00 ∷ 0x00 ∷ []

abbrev pub select_boot : List ℕ
select_boot = 0x02 ∷ 0x03 ∷ 0x00 ∷ 0x02 ∷ 0x00 ∷ 0x00 ∷ 0x00 ∷ 0x00 ∷ []

abbrev pub select_data : List ℕ
select_data = 0x02 ∷ 0x03 ∷ 0x00 ∷ 0x03 ∷ 0x00 ∷ 0x00 ∷ 0x00 ∷ 0x00 ∷ []

-- Build Checksum of the image, with a CRC
abbrev pub check_image_of : ℕ → ℕ → List ℕ
check_image_of high low = 0x0E ∷ 0x90 ∷ 0x00 ∷ 0x00 ∷ 0x00 ∷ 0x00 ∷ high ∷ low ∷ []

-- the codes of replies where two rules meet, and where a rule is seen only later
pub record CodeExamples : Type 0 where
  -- a record has 252 bytes at most
  pub full : code_of (taken (behind large (sixes 41)) (counted 0x80 (0x23 ∷ 0 ∷ 1 ∷ 2 ∷ 3 ∷ 4 ∷ 5 ∷ 6 ∷ []))).reply ≡ Some 0x00
  pub over_full : code_of (taken (behind large (sixes 42)) download_one).reply ≡ Some 0x32
  -- the password register is no memory, rather than a locked one
  pub register : code_of (taken (behind bench (connect ∷ select_register ∷ [])) download_one).reply ≡ Some 0x36
  pub register_image : code_of (taken (behind bench (connect ∷ select_register ∷ [])) (check_image_of 0xFF 0xFF)).reply ≡ Some 0x36
  -- each password opens its own memory
  pub boot_opened : code_of (taken (behind bench (connect ∷ select_register ∷ unlock_boot ∷ select_boot ∷ [])) download_one).reply ≡ Some 0x00
  pub data_locked : code_of (taken (behind bench (connect ∷ select_register ∷ unlock_boot ∷ select_data ∷ [])) download_one).reply ≡ Some 0x35
  pub data_opened : code_of (taken (behind bench (connect ∷ select_register ∷ unlock_data ∷ select_data ∷ [])) download_one).reply ≡ Some 0x00
  -- an unknown code is answered as such without a host, and a known one is denied
  pub unknown : code_of (taken bench (counted 0x80 (0x99 ∷ 0 ∷ 0 ∷ 0 ∷ 0 ∷ 0 ∷ 0 ∷ 0 ∷ []))).reply ≡ Some 0x30
  pub denied : code_of (taken bench download_one).reply ≡ Some 0x33
  -- nothing is answered while the application runs
  pub running : (taken (taken sealed disconnect).board (counted 0x80 connect)).reply ≡ None
  -- the image CRC runs over all records, here 12 34 12 34, and a Clear sets it back
  pub two_records : code_of (taken (behind recorded (counted 0x80 download_two ∷ counted 0x81 check_record ∷ [])) (check_image_of 0xE5 0x49)).reply ≡ Some 0x00
  pub one_record : code_of (taken (behind recorded (counted 0x80 download_two ∷ counted 0x81 check_record ∷ [])) (check_image_of 0xC7 0x0C)).reply ≡ Some 0x7F
  pub begun_anew : code_of (taken (behind recorded (counted 0x80 clear_lowest_sector ∷ [])) (check_image_of 0xFF 0xFF)).reply ≡ Some 0x00
  -- a Clear empties the record
  pub emptied : code_of (taken (behind unlocked (download_two ∷ counted 0x80 clear_lowest_sector ∷ [])) (counted 0x81 check_record)).reply ≡ Some 0x31
