-- A load over a wire on which nothing is lost, as a caller of C sees it.
use Rattle.std.specs.Prelude.{◌≡◌, ℕ, List, Option, ⊤}
use Rattle.memory.specs.Crc.{crc_from}
use Rattle.bootloader.specs.Board.{Board}
use Rattle.loading.specs.declared.report.Report.{Report}
use Rattle.loading.specs.Report.{numbers_of}
use Rattle.loading.specs.Texts.{LoadsText, Promised}

module _ {P : Type 0} (exchanged : P → List ℕ → Option (List ℕ) → P → Type 0) (exchanges : P → ℕ) (board : P → Board) where
  -- a text is loaded through a new port to a board that is b, which is c then; what is promised of it holds where nothing is lost
  pub record LoadsOver (text : List ℕ) (target size : ℕ) (b : Board) (told : Report) (c : Board) : Type 0 where
    pub port : P
    pub made : board port ≡ b
    pub unused : exchanges port ≡ 0
    pub later : P
    pub loads : LoadsText exchanged exchanges text target size port told later
    pub left : c ≡ board later
    pub promised : Promised text target size ⊤ told (board port) (board later)

  -- the same, told by the seven numbers of the report and the CRC over the flash that the board has then
  pub record TellsLoad (text : List ℕ) (target size : ℕ) (b : Board) (numbers : List ℕ) (crc : ℕ) : Type 0 where
    pub told : Report
    pub left : Board
    pub loads : LoadsOver text target size b told left
    pub seven : numbers ≡ numbers_of told
    pub flash : crc ≡ crc_from 0xFFFF left.flash.contents
