-- The commands of a record.
use Rattle.std.specs.Prelude.{ℕ, cond, ◌==◌, List, [], ◌∷◌, ◌++◌, length}
use Rattle.memory.specs.Crc.{crc_from}
use Rattle.bootloader.specs.declared.command.Command.{Command}
use Rattle.loading.specs.Source.{SourceRecord}
use Rattle.bootloader.specs.declared.command.Command.TheVariants.{SetMta, Download, DownloadSix, BuildChecksum}

-- bytes are downloaded by sixes, and then the rest
abbrev pub downloads : List ℕ → List Command
downloads [] = []
downloads (a ∷ []) = Download 1 (a ∷ 0 ∷ 0 ∷ 0 ∷ 0 ∷ []) ∷ []
downloads (a ∷ b ∷ []) = Download 2 (a ∷ b ∷ 0 ∷ 0 ∷ 0 ∷ []) ∷ []
downloads (a ∷ b ∷ c ∷ []) = Download 3 (a ∷ b ∷ c ∷ 0 ∷ 0 ∷ []) ∷ []
downloads (a ∷ b ∷ c ∷ d ∷ []) = Download 4 (a ∷ b ∷ c ∷ d ∷ 0 ∷ []) ∷ []
downloads (a ∷ b ∷ c ∷ d ∷ e ∷ []) = Download 5 (a ∷ b ∷ c ∷ d ∷ e ∷ []) ∷ []
downloads (a ∷ b ∷ c ∷ d ∷ e ∷ f ∷ rest) = DownloadSix (a ∷ b ∷ c ∷ d ∷ e ∷ f ∷ []) ∷ downloads rest

-- a record with these bytes: its place is selected, it is downloaded, and it is programmed
abbrev pub record_commands : ℕ → ℕ → List ℕ → List Command
record_commands extension address bytes =
    SetMta 0 extension address ∷ (downloads bytes ++ BuildChecksum (length bytes) (crc_from 0xFFFF bytes) ∷ [])

-- a record without bytes is passed over
abbrev pub send_one : ℕ → SourceRecord → List Command
send_one extension r = cond (length r.bytes == 0) [] (record_commands extension r.address r.bytes)

-- the commands of all records
abbrev pub commands_for : ℕ → List SourceRecord → List Command
commands_for extension [] = []
commands_for extension (r ∷ rs) = send_one extension r ++ commands_for extension rs
