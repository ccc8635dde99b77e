-- A load of a text: the file check first, and then the records of the text.
use Rattle.std.specs.Prelude.{◌≡◌, ℕ, ◌≤◌, ◌⊎◌, false, List, length, Option, Some, None, Result, Ok, Err}
use Rattle.bootloader.specs.Board.{Board}
use Rattle.srecord.specs.File.{File, WritesFile, HandsFile}
use Rattle.srecord.specs.Reading.{coming_of}
use Rattle.loader.specs.declared.file.Reason.TheVariants as why
use Rattle.loader.specs.declared.file.Refusal.{Refusal}
use Rattle.loader.specs.declared.target.Target.{Target}
use Rattle.loader.specs.Law.{IsTarget, Suits, Refuses, Judges}
use Rattle.loader.specs.Target.{target_of, number_of, size_of}
use Rattle.loader.specs.Verdict.{verdict, refusal_at}
use Rattle.loading.specs.declared.report.Outcome.TheVariants as result
use Rattle.loading.specs.declared.report.Report.{Report}
use Rattle.loading.specs.Load.{Loads, IsBounded, IsTold}
use Rattle.loading.specs.Promises.{Promises}
use Rattle.loading.specs.Plan.{width_at}
use Rattle.loading.specs.Source.{AreLoadable, records_in}

-- the report of a file that is refused: nothing was sent
abbrev pub refused_report : Refusal → Report
refused_report x = record { outcome = result.File x; frames = 0; sectors = 0; acknowledged = false }

module _ {P : Type 0} (exchanged : P → List ℕ → Option (List ℕ) → P → Type 0) where
  -- a file that is refused leaves the port as it was; the records of one that is accepted are loaded
  abbrev pub LoadsChecked : (P → ℕ) → List ℕ → Target → Result (Unit {0}) Refusal → P → Report → P → Type 0
  LoadsChecked exchanges text t (Err x) p told q = (told ≡ refused_report x) × (q ≡ p)
  LoadsChecked exchanges text t (Ok u) p told q = Loads exchanged t exchanges p (records_in text) told q

  abbrev pub LoadsFor : (P → ℕ) → List ℕ → Option Target → P → Report → P → Type 0
  LoadsFor exchanges text None p told q = (told ≡ refused_report (refusal_at why.Target None)) × (q ≡ p)
  LoadsFor exchanges text (Some t) p told q = LoadsChecked exchanges text t (verdict text (number_of t) (size_of t)) p told q

  -- a text is loaded for the target of a number, with a size if it is an EEPROM
  abbrev pub LoadsText : (P → ℕ) → List ℕ → ℕ → ℕ → P → Report → P → Type 0
  LoadsText exchanges text target size p told q = LoadsFor exchanges text (target_of target size) p told q

  -- nothing is sent of a file that is refused, and a load of one that is accepted is bounded
  abbrev pub IsBoundedText : List ℕ → P → Report → P → Type 0
  IsBoundedText text p told q = ((x : Refusal) × (told ≡ refused_report x) × (q ≡ p)) ⊎ IsBounded exchanged p (records_in text) told q

  -- what is told is what was exchanged
  abbrev pub IsToldText : ℕ → ℕ → P → Report → P → Type 0
  IsToldText number size p told q =
      ((x : Refusal) × (told ≡ refused_report x) × (q ≡ p)) ⊎ ((t : Target) × (target_of number size ≡ Some t) × IsTold exchanged t p told q)

-- what a refusal says of a text for a target: for none, that there is none
abbrev pub RefusesFor : List ℕ → Option Target → Refusal → Type 0
RefusesFor text None x = x ≡ refusal_at why.Target None
RefusesFor text (Some t) x = Refuses text (number_of t) (size_of t) x

-- what the verdict of the file check means, for the target of a number
abbrev pub IsJudged : List ℕ → Option Target → Type 0
IsJudged text None = Unit {0}
IsJudged text (Some t) = Judges text (number_of t) (size_of t) (verdict text (number_of t) (size_of t))

-- a text writes a file that suits a target
pub record WritesSuited (text : List ℕ) (t : Target) (f : File) : Type 0 where
  pub width : ℕ
  pub target : IsTarget (number_of t) (size_of t) width
  pub short : length text ≤ 4194304
  pub writes : WritesFile f text
  pub suits : Suits width f.records

-- What is promised of a load of a text, over a link. A refusal is that of the file check; nothing is sent, and the board is as it was. Otherwise
-- the text writes a file that suits the target, the records that are handed out are those of that file, on their lines, and what is
-- promised of records holds of them. A file that suits its target is never refused, and it is that file's records that are.
pub record Promised (text : List ℕ) (number size : ℕ) (lossless : Type 0) (told : Report) (b c : Board) : Type 0 where
  pub refused : (x : Refusal) → told.outcome ≡ result.File x → RefusesFor text (target_of number size) x × (c ≡ b)
      × (told.frames ≡ 0) × (told.sectors ≡ 0) × (told.acknowledged ≡ false)
  pub accepted : ((x : Refusal) × (told.outcome ≡ result.File x))
      ⊎ ((t : Target) × (f : File) × (target_of number size ≡ Some t) × WritesSuited text t f × HandsFile (coming_of text).records f × AreLoadable (width_at t) (records_in text)
      × Promises (records_in text) t lossless told b c)
  pub suited : (t : Target) (f : File) → target_of number size ≡ Some t → WritesSuited text t f
      → ((x : Refusal) → told.outcome ≡ result.File x → ⊥) × HandsFile (coming_of text).records f
