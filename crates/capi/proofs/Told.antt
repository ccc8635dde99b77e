-- What is told of a load, put together from its parts. Assumes nothing.
use Rattle.std.proofs.Common.{◌≡◌, ℕ, List, ap, ◌∙◌}
use Rattle.std.specs.Prelude.{Option}
use Rattle.memory.specs.Crc.{crc_from}
use Rattle.bootloader.specs.Board.{Board}
use Rattle.loading.specs.declared.report.Report.{Report}
use Rattle.loading.specs.Report.{numbers_of}
use Rattle.capi.specs.Load.{LoadsOver, TellsLoad}

module _ {P : Type 0} (exchanged : P → List ℕ → Option (List ℕ) → P → Type 0) (exchanges : P → ℕ) (board : P → Board) where
  pub tells : (text : List ℕ) (target size : ℕ) (b d : Board) (told : Report) (c : Board) (numbers bytes : List ℕ) (crc : ℕ)
      → LoadsOver exchanged exchanges board text target size d told c → d ≡ b → numbers ≡ numbers_of told → bytes ≡ c.flash.contents → crc ≡ crc_from 0xFFFF bytes
      → TellsLoad exchanged exchanges board text target size b numbers crc
  tells text target size b d told c numbers bytes crc l same seven all flash = record {
    told = told;
    left = c;
    loads = record {
      port = l.port;
      made = l.made ∙ same;
      unused = l.unused;
      later = l.later;
      loads = l.loads;
      left = l.left;
      promised = l.promised;
    };
    seven = seven;
    flash = flash ∙ ap (λ xs. crc_from 0xFFFF xs) all;
  }
