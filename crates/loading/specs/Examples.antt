-- Boards that meet what the promises of a load ask for: the bench board, and one with odd rules.
use Rattle.std.specs.Prelude.{true, [], ◌∷◌, Some, ◌≡◌, ℕ, ◌%◌, ◌==◌, ◌||◌, Bool, false, List, replicate}
use Rattle.memory.specs.Crossing.{crossed_shape}
use Rattle.memory.specs.Flash.{flash_shape}
use Rattle.memory.specs.Eeprom.{eeprom_shape}
use Rattle.bootloader.specs.declared.state.Wait.TheVariants.{TwoSeconds}
use Rattle.bootloader.specs.declared.session.Setup.{Setup}
use Rattle.bootloader.specs.Memories.{Memory}
use Rattle.bootloader.specs.Board.{Board, fresh_board, is_running}
use Rattle.bootloader.specs.Reach.{IsReached}
use Rattle.loader.specs.declared.target.Target.{Target}
use Rattle.loader.specs.declared.target.Target.TheVariants.{Flash, Boot, Data}
use Rattle.srecord.specs.declared.Fault.TheVariants as fault
use Rattle.loader.specs.declared.file.Reason.TheVariants as why
use Rattle.loader.specs.Verdict.{refusal_at}
use Rattle.loading.specs.declared.report.Outcome.TheVariants as result
use Rattle.loading.specs.Load.{sectors_of}
use Rattle.loading.specs.Report.{numbers_of}
use Rattle.loading.specs.Loaded.{IsListed, CanSeal, LiesIn, memory_at}
use Rattle.loading.specs.Plan.{width_at}
use Rattle.loading.specs.Source.{SourceRecord, AreLoadable}

-- a board of the part ID 1, which has 4 sectors of 16 words from address 0x1000 on
abbrev pub bench_setup : Setup
bench_setup = record { base = 0x1000; major = 1; minor = 0; part_id = 1; wait = TwoSeconds }

-- the bench board: a flash under a lane crossing and two EEPROMs of 64 bytes, all blank
abbrev pub bench_flash : Memory
bench_flash = record { base = 0x1000; width = 2; shape = crossed_shape 128 (flash_shape (record { sectors = 4; size = 32 })); contents = replicate 128 255 }

abbrev pub bench_eeprom : Memory
bench_eeprom = record { base = 0; width = 1; shape = eeprom_shape; contents = replicate 64 255 }

abbrev pub bench : Board
bench = fresh_board bench_setup bench_flash bench_eeprom bench_eeprom

-- an odd board: bytes of its flash are put once, no byte of it is blank at the start, and its EEPROMs have several units, which
-- take turns from byte to byte
abbrev pub put_once : ℕ → ℕ → ℕ → Bool
put_once o old new = old == 255 || old == new

abbrev pub odd_flash : Memory
odd_flash = record { base = 0x1000; width = 2; shape = record { units = 4; unit_of = (flash_shape (record { sectors = 4; size = 32 })).unit_of; takes = put_once }; contents = replicate 128 0x5A }

abbrev pub odd_eeprom : ℕ → Memory
odd_eeprom units = record { base = 0; width = 1; shape = record { units = units; unit_of = λ o. o % units; takes = put_once }; contents = replicate 64 255 }

abbrev pub odd : Board
odd = fresh_board bench_setup odd_flash (odd_eeprom 2) (odd_eeprom 3)

-- a board meets what `loaded` and `completes` ask for, for a target and records; and there are such records
pub record CanBeLoaded (t : Target) (b : Board) : Type 0 where
  pub listed : IsListed t b
  pub reached : IsReached b
  pub awake : is_running b.session.state ≡ false
  pub sealed : (rs : List SourceRecord) → CanSeal rs t b
  pub records : List SourceRecord
  pub loadable : AreLoadable (width_at t) records
  pub inside : LiesIn records (memory_at t b)

-- reports as their seven numbers, and how many sectors are told
pub record ReportExamples : Type 0 where
  pub loaded : numbers_of (record { outcome = result.Loaded; frames = 10; sectors = 1; acknowledged = true }) ≡ 0 ∷ 0 ∷ 0 ∷ 0 ∷ 10 ∷ 1 ∷ 1 ∷ []
  pub file : numbers_of (record { outcome = result.File (refusal_at (why.File fault.Checksum) (Some 3)); frames = 0; sectors = 0; acknowledged = false }) ≡ 4 ∷ 3 ∷ 0 ∷ 0 ∷ 0 ∷ 0 ∷ 0 ∷ []
  pub outside : numbers_of (record { outcome = result.Outside 5; frames = 2; sectors = 0; acknowledged = true }) ≡ 10 ∷ 5 ∷ 0 ∷ 0 ∷ 2 ∷ 0 ∷ 1 ∷ []
  pub unlisted : numbers_of (record { outcome = result.Unlisted; frames = 2; sectors = 0; acknowledged = true }) ≡ 11 ∷ 0 ∷ 0 ∷ 0 ∷ 2 ∷ 0 ∷ 1 ∷ []
  pub refused : numbers_of (record { outcome = result.Refused 0x13 0x35; frames = 4; sectors = 0; acknowledged = true }) ≡ 12 ∷ 0 ∷ 0x13 ∷ 0x35 ∷ 4 ∷ 0 ∷ 1 ∷ []
  pub silent : numbers_of (record { outcome = result.Silent 0x10; frames = 7; sectors = 0; acknowledged = false }) ≡ 13 ∷ 0 ∷ 0x10 ∷ 0 ∷ 7 ∷ 0 ∷ 0 ∷ []
  pub two : sectors_of Flash (record { mask = 10; image_crc = 0 }) ≡ 2
  pub one : sectors_of (Data 64) (record { mask = 0; image_crc = 0 }) ≡ 1

pub record LoadExamples : Type 0 where
  pub reports : ReportExamples
  pub bench_flash : CanBeLoaded Flash bench
  pub bench_boot : CanBeLoaded (Boot 64) bench
  pub bench_data : CanBeLoaded (Data 64) bench
  pub odd_flash : CanBeLoaded Flash odd
  pub odd_boot : CanBeLoaded (Boot 64) odd
  pub odd_data : CanBeLoaded (Data 64) odd
