-- A load: what is sent, and what is told of it. Each relation is over what one exchange may make of a port.
use Rattle.std.specs.Prelude.{◌≡◌, ℕ, ◌+◌, ◌*◌, ◌%◌, ◌^◌, ◌≤◌, ◌⊎◌, cond, Bool, true, false, List, [], ◌∷◌, ◌++◌, length, Option, Result, Ok, Err, count_ones, ◌≢◌, slice_index}
use Rattle.bootloader.specs.declared.command.Command.{Command}
use Rattle.bootloader.specs.declared.command.Command.TheVariants.{Connect, BuildChecksum}
use Rattle.bootloader.specs.Frames.{frame_of, extension_of}
use Rattle.session.specs.declared.failure.Failure.{Failure}
use Rattle.session.specs.declared.failure.Failure.TheVariants as why
use Rattle.session.specs.Session.{Silent, Answered, Accepts, Sent, SentAll, Disconnects}
use Rattle.loader.specs.declared.target.Target.{Target}
use Rattle.loader.specs.declared.target.Target.TheVariants.{Flash, Boot, Data}
use Rattle.loading.specs.declared.planning.Plan.{Plan}
use Rattle.loading.specs.declared.planning.Stop.{Stop}
use Rattle.loading.specs.declared.planning.Stop.TheVariants.{NoRow, Outside, Sending}
use Rattle.loading.specs.declared.report.Outcome.TheVariants as result
use Rattle.loading.specs.declared.report.Report.{Report}
use Rattle.bootloader.specs.BoardLaws.{code_of}
use Rattle.loading.specs.Loaded.{frames_of}
use Rattle.loading.specs.Plan.{plan_of}
use Rattle.loading.specs.Prepared.{space_at, preparing}
use Rattle.loading.specs.Record.{commands_for}
use Rattle.loading.specs.Report.{outcome_by}
use Rattle.loading.specs.Source.{SourceRecord}

-- what is sent after Clear: the records, and the CRC over them all
abbrev pub closing : Target → Plan → List SourceRecord → List Command
closing t plan rs = commands_for (extension_of (space_at t)) rs ++ BuildChecksum 0 plan.image_crc ∷ []

-- all that is sent between Connect and Disconnect
abbrev pub load_commands : Target → Plan → List SourceRecord → List Command
load_commands t plan rs = preparing (space_at t) plan.mask ++ closing t plan rs

-- how many sectors an acknowledged Clear cleared: the ones of its mask in the flash, and one in an EEPROM
abbrev pub sectors_of : Target → Plan → ℕ
sectors_of Flash plan = count_ones plan.mask
sectors_of (Boot size) plan = 1
sectors_of (Data size) plan = 1

-- what came of the commands of a plan
abbrev pub done_by : Plan → Result (Unit {0}) Failure → Result Plan Stop
done_by plan (Ok u) = Ok plan
done_by plan (Err failure) = Err (Sending failure)

-- one exchange: a frame, and the reply to it or none
pub record Exchange : Type 0 where
  pub frame : List ℕ
  pub reply : Option (List ℕ)

module _ {P : Type 0} (exchanged : P → List ℕ → Option (List ℕ) → P → Type 0) where
  -- exchanges led from one state of a port to another, one after the other
  abbrev pub Led : P → List Exchange → P → Type 0
  Led p [] q = q ≡ p
  Led p (e ∷ es) q = (m : P) × exchanged p e.frame e.reply m × Led m es q

module _ {P : Type 0} (exchanged : P → List ℕ → Option (List ℕ) → P → Type 0) (t : Target) where
  -- what a plan needs is sent until a command fails; it is told whether all up to Clear was accepted
  abbrev pub Follows : P → ℕ → List SourceRecord → Plan → Result (Unit {0}) Failure → Bool → P → ℕ → Type 0
  Follows p c rs plan r true q d =
      (m : P) × (k : ℕ) × SentAll exchanged p c (preparing (space_at t) plan.mask) (Ok tt) m k × SentAll exchanged m k (closing t plan rs) r q d
  Follows p c rs plan r false q d =
      (failure : Failure) × (r ≡ Err failure) × SentAll exchanged p c (preparing (space_at t) plan.mask) (Err failure) q d

  -- a plan is followed, and its sectors are told where Clear was acknowledged
  pub record Sends (p : P) (c : ℕ) (rs : List SourceRecord) (plan : Plan) (r : Result Plan Stop) (s : ℕ) (q : P) (d : ℕ) : Type 0 where
    pub sent : Result (Unit {0}) Failure
    pub cleared : Bool
    pub follows : Follows p c rs plan sent cleared q d
    pub done : r ≡ done_by plan sent
    pub sectors : s ≡ cond cleared (sectors_of t plan) 0

  -- where there is no plan, nothing is sent
  abbrev pub Delivers : P → ℕ → List SourceRecord → Result Plan Stop → Result Plan Stop → ℕ → P → ℕ → Type 0
  Delivers p c rs (Err stop) r s q d = (r ≡ Err stop) × (s ≡ 0) × (q ≡ p) × (d ≡ c)
  Delivers p c rs (Ok plan) r s q d = Sends p c rs plan r s q d

  -- how a connection is ended: Disconnect is sent, but where the board was silent the connection is given up
  abbrev pub Ends : P → ℕ → Result Plan Stop → Bool → P → Type 0
  Ends p c (Ok plan) a q = Disconnects exchanged p c a q
  Ends p c (Err NoRow) a q = Disconnects exchanged p c a q
  Ends p c (Err (Outside line)) a q = Disconnects exchanged p c a q
  Ends p c (Err (Sending (why.Refused command code))) a q = Disconnects exchanged p c a q
  Ends p c (Err (Sending (why.Silent command))) a q = (q ≡ p) × (a ≡ false)

  -- a connection was opened, what the board needs was sent, and the connection was ended
  pub record RunsOpened (p : P) (rs : List SourceRecord) (r : Result Plan Stop) (s : ℕ) (a : Bool) (q : P) : Type 0 where
    pub opened : P
    pub reply : List ℕ
    pub connects : Accepts exchanged p (frame_of 0 Connect) reply opened
    pub between : P
    pub counter : ℕ
    pub delivers : Delivers opened 1 rs (plan_of t reply rs) r s between counter
    pub ends : Ends between counter r a q

  -- no connection was opened
  pub record NotOpened (p : P) (r : Result Plan Stop) (s : ℕ) (a : Bool) (q : P) : Type 0 where
    pub failure : Failure
    pub sent : Sent exchanged p (frame_of 0 Connect) (Err failure) q
    pub told : r ≡ Err (Sending failure)
    pub sectors : s ≡ 0
    pub unacknowledged : a ≡ false

  abbrev pub Runs : P → List SourceRecord → Result Plan Stop → ℕ → Bool → P → Type 0
  Runs p rs r s a q = RunsOpened p rs r s a q ⊎ NotOpened p r s a q

  -- a load, with its report: the frames are the rise of the port's number
  pub record Loads (exchanges : P → ℕ) (p : P) (rs : List SourceRecord) (told : Report) (q : P) : Type 0 where
    pub done : Result Plan Stop
    pub runs : Runs p rs done told.sectors told.acknowledged q
    pub outcome : told.outcome ≡ outcome_by done
    pub frames : exchanges q ≡ (exchanges p + told.frames) % 2 ^ 64

-- a load is bounded: at most three exchanges were made for each frame that it needs, and their number is told
pub record IsBounded {P : Type 0} (exchanged : P → List ℕ → Option (List ℕ) → P → Type 0) (p : P) (rs : List SourceRecord) (told : Report) (q : P) : Type 0 where
  pub made : List Exchange
  pub led : Led exchanged p made q
  pub few : length made ≤ 3 * frames_of rs
  pub frames : told.frames ≡ length made % 2 ^ 64

-- a frame with this first byte was answered, behind exchanges that led there, and led on from there
pub record WasAnswered {P : Type 0} (exchanged : P → List ℕ → Option (List ℕ) → P → Type 0) (p : P) (command code : ℕ) (q : P) : Type 0 where
  pub front : List Exchange
  pub place : P
  pub led : Led exchanged p front place
  pub frame : List ℕ
  pub reply : List ℕ
  pub answered : Answered exchanged place frame reply q
  pub sent : slice_index frame 0 ≡ command
  pub told : code_of reply ≡ code

-- a frame with this first byte was sent three times and not answered, and that was the end
pub record StayedSilent {P : Type 0} (exchanged : P → List ℕ → Option (List ℕ) → P → Type 0) (p : P) (command : ℕ) (q : P) : Type 0 where
  pub front : List Exchange
  pub place : P
  pub led : Led exchanged p front place
  pub frame : List ℕ
  pub silent : Silent exchanged place frame 3 q
  pub sent : slice_index frame 0 ≡ command

-- What is told of a load is what was exchanged. A refusal that is told is that of a reply, and only Disconnect can follow it; a
-- silence that is told is the end; sectors are told where Clear was accepted, and else
-- nothing was loaded; and a Disconnect that is told as acknowledged was accepted, and was the end.
pub record IsTold {P : Type 0} (exchanged : P → List ℕ → Option (List ℕ) → P → Type 0) (t : Target) (p : P) (told : Report) (q : P) : Type 0 where
  pub refused : (command code : ℕ) → told.outcome ≡ result.Refused command code
      → (m : P) × WasAnswered exchanged p command code m × (code ≢ 0) × ((q ≡ m) ⊎ ((c : ℕ) × Disconnects exchanged m c told.acknowledged q))
  pub silent : (command : ℕ) → told.outcome ≡ result.Silent command → StayedSilent exchanged p command q
  pub sectors : ((told.sectors ≡ 0) × (told.outcome ≢ result.Loaded))
      ⊎ ((plan : Plan) × (m : P) × (told.sectors ≡ sectors_of t plan) × WasAnswered exchanged p 0x10 0 m)
  pub acknowledged : told.acknowledged ≡ true → WasAnswered exchanged p 0x07 0 q
