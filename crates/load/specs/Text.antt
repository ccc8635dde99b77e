-- What came of the load of a text into the bench board.
use Rattle.std.specs.Prelude.{◌≡◌, ℕ, ◌<◌, ◌≤◌, ◌⊎◌, List, [], ◌∷◌, length, map, None, Option, string_bytes}
use Rattle.bootloader.specs.Board.{Board, taken}
use Rattle.loader.specs.declared.file.Reason.TheVariants.{TextSize}
use Rattle.loader.specs.Verdict.{refusal_at}
use Rattle.loading.specs.declared.report.Report.{Report}
use Rattle.loading.specs.Load.{Exchange, Led}
use Rattle.loading.specs.Texts.{refused_report, LoadsText}
use Rattle.load.specs.declared.text.Loaded.{Loaded}
use Rattle.link.specs.declared.trace.TracedFrame.{TracedFrame}
use Rattle.loading.specs.Examples.{bench}
use Rattle.load.specs.Cause.{cause_of}
use Rattle.load.specs.Output.{output_of}

-- frames, with what a board replies to them, one after the other
unfoldable pub answered : Board → List (List ℕ) → List TracedFrame
answered b [] = []
answered b (f ∷ fs) = record { frame = f; reply = (taken b f).reply } ∷ answered (taken b f).board fs

-- the same as exchanges over a port
abbrev pub exchanges_of : List TracedFrame → List Exchange
exchanges_of xs = map (λ x. record { frame = x.frame; reply = x.reply }) xs

-- the board behind them
unfoldable pub behind : Board → List (List ℕ) → Board
behind b [] = b
behind b (f ∷ fs) = behind (taken b f).board fs

-- what is said of exchanges and the report behind them: their lines, and why the file was not loaded
pub record Tells (xs : List TracedFrame) (told : Report) (x : Loaded) : Type 0 where
  pub output : string_bytes x.output ≡ output_of xs told
  pub cause : x.cause ≡ cause_of told.outcome

-- a text over 65,536 bytes is refused for its size, and nothing is sent
pub record IsTooLong (text : List ℕ) (told : Report) (frames : List (List ℕ)) : Type 0 where
  pub long : 65536 < length text
  pub refused : told ≡ refused_report (refusal_at TextSize None)
  pub none : frames ≡ []

module _ {P : Type 0} (exchanged : P → List ℕ → Option (List ℕ) → P → Type 0) (exchanges : P → ℕ) (board : P → Board) where
  -- any other text is loaded for target 0, the flash, into the bench board at the far end of a port: these frames went out, and
  -- the replies that came are those of the board
  pub record LoadsBench (text : List ℕ) (told : Report) (frames : List (List ℕ)) : Type 0 where
    pub short : length text ≤ 65536
    pub before : P
    pub after : P
    pub fresh : board before ≡ bench
    pub loads : LoadsText exchanged exchanges text 0 0 before told after
    pub led : Led exchanged before (exchanges_of (answered bench frames)) after
    pub left : board after ≡ behind bench frames

  -- a text is loaded, and said of it is what came of it
  pub record LoadsInto (text : List ℕ) (x : Loaded) : Type 0 where
    pub told : Report
    pub frames : List (List ℕ)
    pub load : IsTooLong text told frames ⊎ LoadsBench text told frames
    pub tells : Tells (answered bench frames) told x
