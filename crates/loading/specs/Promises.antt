-- What is promised of a load: of a board that was b and is c, over a link.
use Rattle.std.specs.Prelude.{◌≡◌, ℕ, ◌%◌, ◌^◌, ◌<◌, ◌⊎◌, false, List, ◌++◌, map, Some, Result, Ok, Err, [], ◌∷◌, Option}
use Rattle.bootloader.specs.Board.{Board, fresh_board, is_running}
use Rattle.bootloader.specs.BusLog.{BusLog}
use Rattle.bootloader.specs.Events.{Event, frame, board_behind}
use Rattle.bootloader.specs.Laws.{SameMemories}
use Rattle.bootloader.specs.Reach.{IsReached}
use Rattle.geometry.specs.declared.rows.Row.{Row}
use Rattle.geometry.specs.Rows.{row_of}
use Rattle.session.specs.declared.failure.Failure.{Failure}
use Rattle.loader.specs.declared.target.Target.{Target}
use Rattle.loading.specs.declared.planning.Plan.{Plan}
use Rattle.loading.specs.declared.planning.Stop.{Stop}
use Rattle.loading.specs.declared.planning.Stop.TheVariants.{Outside, Sending}
use Rattle.loading.specs.declared.report.Outcome.TheVariants as result
use Rattle.loading.specs.declared.report.Report.{Report}
use Rattle.loading.specs.Load.{Exchange, Led}
use Rattle.loading.specs.Loaded.{IsListed, Loaded, LiesIn, CanSeal, frames_of, memory_at}
use Rattle.loading.specs.Plan.{plan_for, width_at, StopsAt}
use Rattle.loading.specs.Report.{outcome_by}
use Rattle.loading.specs.Source.{SourceRecord, AreLoadable}

-- frames as a host sends them: with the identifier of hosts, and the eight places of a reply
abbrev pub as_events : List (List ℕ) → List Event
as_events fs = map (λ f. frame 0x0B081880 f 8) fs

-- frames are some of those that were exchanged, in their order
abbrev pub AreAmong : List (List ℕ) → List Exchange → Type 0
AreAmong fs [] = fs ≡ []
AreAmong fs (e ∷ es) = AreAmong fs es ⊎ ((gs : List (List ℕ)) × (fs ≡ e.frame ∷ gs) × AreAmong gs es)

-- A load reaches the board by frames alone: some of those that were exchanged, in their order. So from a fresh board on, over all
-- that reached it before and these frames, the law of the bus log holds: each byte of each memory is what one who listens on the
-- bus works out from the frames and their replies alone, as put by the last accepted clear, record or seal that covers it, or
-- else as at the start.
pub record IsHeard {P : Type 0} (exchanged : P → List ℕ → Option (List ℕ) → P → Type 0) (board : P → Board) (p q : P) : Type 0 where
  pub made : List Exchange
  pub led : Led exchanged p made q
  pub frames : List (List ℕ)
  pub among : AreAmong frames made
  pub came : board_behind (board p) (as_events frames) ≡ board q
  pub log : (first : Board) (before : List Event) → first ≡ fresh_board first.setup first.flash first.boot first.eeprom → board_behind first before ≡ board p
      → (board_behind first (before ++ as_events frames) ≡ board q) × BusLog first (before ++ as_events frames)

-- what is told where there is no plan, and where there is one: it was carried out, or a command failed
abbrev pub Tells : Result Plan Stop → Report → Type 0
Tells (Err stop) told = told.outcome ≡ outcome_by (Err stop)
Tells (Ok plan) told = (told.outcome ≡ result.Loaded) ⊎ ((failure : Failure) × (told.outcome ≡ outcome_by (Err (Sending failure))))

-- What is told of a load is what the board and the records ask for, on a reached board with a part ID of two bytes.
pub record IsReported (rs : List SourceRecord) (t : Target) (told : Report) (b : Board) : Type 0 where
  -- if the part ID has no row, the board is not listed; else if a record lies outside of the target, it is told which is the first;
  -- else the plan was carried out, or a command failed. Only that Connect was not answered can come before.
  pub outcome : (told.outcome ≡ result.Silent 0x01) ⊎ Tells (plan_for t (row_of b.setup.part_id) rs) told
  -- the line that is told is that of the first record with data outside of the target
  pub outside : (line : ℕ) → told.outcome ≡ result.Outside line → (r : Row) × (row_of b.setup.part_id ≡ Some r) × StopsAt t r rs (Outside line)

-- of a load of records for a target
pub record Promises (rs : List SourceRecord) (t : Target) (lossless : Type 0) (told : Report) (b c : Board) : Type 0 where
  -- after `loaded` the image is there, whatever was lost
  pub loaded : AreLoadable (width_at t) rs → IsListed t b → IsReached b → told.outcome ≡ result.Loaded → Loaded rs t b c
  -- where nothing is lost, records that fit are loaded, in just the frames that they need
  pub completes : lossless → AreLoadable (width_at t) rs → IsListed t b → IsReached b → is_running b.session.state ≡ false → LiesIn rs (memory_at t b) → CanSeal rs t b
      → (told.outcome ≡ result.Loaded) × (told.frames ≡ frames_of rs % 2 ^ 64)
  -- refused before the run, a load leaves every memory as it was, on any board
  pub untouched : (told.outcome ≡ result.Unlisted) ⊎ ((line : ℕ) × (told.outcome ≡ result.Outside line)) → SameMemories c b
  pub reported : IsReached b → b.setup.part_id < 2 ^ 16 → IsReported rs t told b
