-- The laws of sessions: a record of those over any port, which the contract of `port_laws` states, and one of those over a link,
-- which the contract of `session_laws` states.
use Rattle.std.specs.Prelude.{◌≡◌, ◌⊎◌, ℕ, true, ◌<◌, suc, List, length, Option, Some, Result, Err}
use Rattle.bootloader.specs.declared.command.Command.{Command}
use Rattle.bootloader.specs.declared.state.State.TheVariants.{Connected}
use Rattle.bootloader.specs.Frames.{frame_of}
use Rattle.bootloader.specs.Board.{Board, taken}
use Rattle.bootloader.specs.Dialog.{Effect}
use Rattle.bootloader.specs.BoardLaws.{TakesOnce, Accepted, code_of}
use Rattle.session.specs.declared.failure.Failure.{Failure}
use Rattle.session.specs.Session.{Silent, Answered, Asked, Sent, SentAll, Delivered, Stops}
use Rattle.session.specs.Laws.{TakesAll, Takes, AtMost, Rises, Carries, AreSaid, FirstIsNew, is_inner, AllInner, WentWell}

-- a frame takes at most three exchanges, whatever comes of it
pub record PortLaws {P : Type 0} (exchanged : P → List ℕ → Option (List ℕ) → P → Type 0) (exchanges : P → ℕ) : Type 0 where
  pub asked : (p : P) (f : List ℕ) (r : Option (List ℕ)) (q : P) → Asked exchanged p f r q → AtMost exchanges p 1 q
  pub sent : (p : P) (f : List ℕ) (r : Result (List ℕ) Failure) (q : P) → Sent exchanged p f r q → AtMost exchanges p 1 q
  -- so commands take at most three each, whether all are delivered or one fails
  pub delivered : (p : P) (c : ℕ) (xs : List Command) (q : P) (d : ℕ) → Delivered exchanged p c xs q d → AtMost exchanges p (length xs) q
  pub stops : (p : P) (c : ℕ) (xs : List Command) (failure : Failure) (q : P) (d : ℕ) → Stops exchanged p c xs failure q d → AtMost exchanges p (length xs) q

module _ {P : Type 0} (exchanged : P → List ℕ → Option (List ℕ) → P → Type 0) (exchanges : P → ℕ) (board : P → Board) (lossless : P → Type 0) where
  -- on a lossless link a frame to which the board has a reply is answered at once, with that reply
  pub record AnsweredAtOnce (p : P) (f reply other : List ℕ) (q : P) : Type 0 where
    pub same : other ≡ reply
    pub after : board q ≡ (taken (board p) f).board
    pub kept : lossless q
    pub rise : Rises (exchanges p) 1 (exchanges q)

  pub record SessionLaws : Type 0 where
    -- after silences the board has taken the frame once, or not at all
    pub silent : (p : P) (c : ℕ) (x : Command) (n : ℕ) (q : P) → Silent exchanged p (frame_of c x) n q
        → (board q ≡ board p) ⊎ (board q ≡ (taken (board p) (frame_of c x)).board)
    -- a command that is answered was taken exactly once, whatever was lost
    pub answered : (p : P) (c : ℕ) (x : Command) (reply : List ℕ) (q : P) → Answered exchanged p (frame_of c x) reply q
        → TakesOnce (board p) (frame_of c x) reply (board q)
    -- so were commands that are delivered, each once, in their order
    pub delivered : (p : P) (c : ℕ) (xs : List Command) (q : P) (d : ℕ) → Delivered exchanged p c xs q d → TakesAll (board p) c xs (board q)
    -- and a board carries out what it takes once each, where the first frame is new to it
    pub carried : (b : Board) (c : ℕ) (xs : List Command) (d : Board) → c < 256 → AreSaid xs → FirstIsNew b c xs → TakesAll b c xs d → Carries b c xs d
    -- a command between Connect and Disconnect keeps the state
    pub inner : (b : Board) (c : ℕ) (x : Command) (e : Effect) (d : Board) → is_inner x ≡ true → Accepted b c x e d → d.session.state ≡ b.session.state
    -- commands that are delivered take at most three exchanges each, and one on a lossless link
    pub counted : (p : P) (c : ℕ) (xs : List Command) (q : P) (d : ℕ) → Delivered exchanged p c xs q d → Takes exchanges lossless p (length xs) q
    -- on a lossless link a frame to which the board has a reply is answered at once, and does not fail if the reply accepts it
    pub at_once : (p : P) (f reply other : List ℕ) (q : P) → lossless p → (taken (board p) f).reply ≡ Some reply
        → Answered exchanged p f other q → AnsweredAtOnce p f reply other q
    pub never_silent : (p : P) (f reply : List ℕ) (n : ℕ) (q : P) → lossless p → (taken (board p) f).reply ≡ Some reply
        → Silent exchanged p f (suc n) q → ⊥
    pub never_fails : (p : P) (f reply : List ℕ) (failure : Failure) (q : P) → lossless p → (taken (board p) f).reply ≡ Some reply → code_of reply ≡ 0
        → Sent exchanged p f (Err failure) q → ⊥
    -- and commands that the board can carry out are sent, each once, and carried out
    pub well : (p : P) (b : Board) (c : ℕ) (xs : List Command) (d : Board) (r : Result (Unit {0}) Failure) (q : P) (e : ℕ)
        → board p ≡ b → lossless p → b.session.state ≡ Connected → c < 256 → AllInner xs → AreSaid xs → FirstIsNew b c xs → Carries b c xs d
        → SentAll exchanged p c xs r q e → WentWell exchanges board lossless p (length xs) d r q
