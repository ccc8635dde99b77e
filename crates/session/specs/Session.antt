-- What is sent through a port.
use Rattle.std.specs.Prelude.{◌≡◌, ◌≢◌, ℕ, ◌+◌, ◌%◌, ◌<◌, ◌⊎◌, Bool, true, false, List, [], ◌∷◌, Option, None, Some, Result, Ok, Err, zero, suc, slice_index}
use Rattle.bootloader.specs.declared.command.Command.{Command}
use Rattle.bootloader.specs.declared.command.Command.TheVariants.{Connect, Disconnect}
use Rattle.session.specs.declared.failure.Failure.{Failure}
use Rattle.session.specs.declared.failure.Failure.TheVariants as why
use Rattle.bootloader.specs.Frames.{frame_of}
use Rattle.bootloader.specs.BoardLaws.{code_of}

-- the counter of the next frame
abbrev pub next : ℕ → ℕ
next counter = (counter + 1) % 256

-- the frame that opens a session
abbrev pub opening : List ℕ
opening = frame_of 0 Connect

-- how a port may change in an exchange, with this frame and this reply or none
module _ {P : Type 0} (exchanged : P → List ℕ → Option (List ℕ) → P → Type 0) where
  -- a frame is sent n times, and no reply comes
  abbrev pub Silent : P → List ℕ → ℕ → P → Type 0
  Silent p f zero q = q ≡ p
  Silent p f (suc n) q = (m : P) × Silent p f n m × exchanged m f None q

  -- a frame is sent up to three times, until this reply comes
  pub record Answered (p : P) (f reply : List ℕ) (q : P) : Type 0 where
    pub silences : ℕ
    pub few : silences < 3
    pub between : P
    pub before : Silent p f silences between
    pub last : exchanged between f (Some reply) q

  -- a frame is sent up to three times, with this reply at last or with none
  abbrev pub Asked : P → List ℕ → Option (List ℕ) → P → Type 0
  Asked p f None q = Silent p f 3 q
  Asked p f (Some reply) q = Answered p f reply q

  -- a frame is sent and its reply refuses it
  pub record Refuses (p : P) (f : List ℕ) (sent told : ℕ) (q : P) : Type 0 where
    pub reply : List ℕ
    pub answered : Answered p f reply q
    pub refused : code_of reply ≢ 0
    pub code : told ≡ code_of reply
    pub command : sent ≡ slice_index f 0

  -- a frame is sent and its reply accepts it
  pub record Accepts (p : P) (f reply : List ℕ) (q : P) : Type 0 where
    pub answered : Answered p f reply q
    pub accepted : code_of reply ≡ 0

  -- no reply comes
  pub record StaysSilent (p : P) (f : List ℕ) (sent : ℕ) (q : P) : Type 0 where
    pub silent : Silent p f 3 q
    pub command : sent ≡ slice_index f 0

  -- what came of a frame
  abbrev pub Sent : P → List ℕ → Result (List ℕ) Failure → P → Type 0
  Sent p f (Ok reply) q = Accepts p f reply q
  Sent p f (Err (why.Refused command code)) q = Refuses p f command code q
  Sent p f (Err (why.Silent command)) q = StaysSilent p f command q

  -- commands are accepted, one after the other, from the counter c on; the next counter is d
  abbrev pub Delivered : P → ℕ → List Command → P → ℕ → Type 0
  Delivered p c [] q d = (q ≡ p) × (d ≡ c)
  Delivered p c (x ∷ xs) q d = (reply : List ℕ) × (m : P) × Accepts p (frame_of c x) reply m × Delivered m (next c) xs q d

  -- commands are accepted, up to one that fails
  abbrev pub Stops : P → ℕ → List Command → Failure → P → ℕ → Type 0
  Stops p c [] failure q d = ⊥
  Stops p c (x ∷ xs) failure q d =
      (Sent p (frame_of c x) (Err failure) q × (d ≡ next c))
      ⊎ ((reply : List ℕ) × (m : P) × Accepts p (frame_of c x) reply m × Stops m (next c) xs failure q d)

  -- commands are sent until one fails
  abbrev pub SentAll : P → ℕ → List Command → Result (Unit {0}) Failure → P → ℕ → Type 0
  SentAll p c xs (Ok u) q d = Delivered p c xs q d
  SentAll p c xs (Err failure) q d = Stops p c xs failure q d

  -- Disconnect is sent, and accepted or not
  abbrev pub Disconnects : P → ℕ → Bool → P → Type 0
  Disconnects p c true q = (reply : List ℕ) × Sent p (frame_of c (Disconnect 1)) (Ok reply) q
  Disconnects p c false q = (failure : Failure) × Sent p (frame_of c (Disconnect 1)) (Err failure) q
