-- The laws of boards, for whoever builds on them: one record, which the contract of `board_laws` states.
use Rattle.std.specs.Prelude.{◌≡◌, ℕ, true, false, List, ◌++◌, length, Some, None, Ok, slice_index}
use Rattle.bootloader.specs.declared.command.Command.{Command}
use Rattle.bootloader.specs.declared.command.Command.TheVariants.{Connect, Disconnect}
use Rattle.bootloader.specs.declared.state.State.TheVariants.{Connected}
use Rattle.bootloader.specs.Frames.{command_of, frame_of, IsCommand}
use Rattle.bootloader.specs.Dialog.{Effect, fresh_dialog}
use Rattle.bootloader.specs.Board.{Board, judged, board_after, storing, reply_with, stored_reply, identity, is_running, taken}
use Rattle.bootloader.specs.Events.{Event, board_behind}
use Rattle.bootloader.specs.Laws.{SameMemories, FreshAfterConnect, FrameLaws, TickLaws}
use Rattle.bootloader.specs.Reach.{IsReached, IsSound, SameBoard}

-- the code of a reply; 0 accepts
abbrev pub code_of : List ℕ → ℕ
code_of reply = slice_index reply 1

-- a board takes a frame once, and answers it with this reply
pub record TakesOnce (b : Board) (f reply : List ℕ) (c : Board) : Type 0 where
  pub after : c ≡ (taken b f).board
  pub answer : (taken b f).reply ≡ Some reply

-- the frame of a command says what the command is, in eight bytes, of which the second is the counter
pub record IsSaid (c : ℕ) (x : Command) : Type 0 where
  pub command : command_of (frame_of c x) ≡ Some x
  pub long : length (frame_of c x) ≡ 8
  pub counter : slice_index (frame_of c x) 1 ≡ c

-- a frame is not the one that a board answered last
abbrev pub IsNew : Board → List ℕ → Type 0
IsNew b f = stored_reply b.session.stored f ≡ None

-- a command is carried out: its effect is made, and its frame stored with the reply
pub record Accepted (b : Board) (c : ℕ) (x : Command) (e : Effect) (d : Board) : Type 0 where
  pub effect : judged b (Some x) ≡ Ok e
  pub after : d ≡ storing (board_after b (Some x) (Ok e)) (frame_of c x) (reply_with c (Ok e.payload))

-- a board as Connect leaves it: connected, with a fresh dialog, and its memories as before; the reply tells who it is, and is
-- stored with the frame
pub record Connects (b : Board) (c : ℕ) (reply : List ℕ) (d : Board) : Type 0 where
  pub setup : d.setup ≡ b.setup
  pub state : d.session.state ≡ Connected
  pub dialog : d.session.dialog ≡ fresh_dialog
  pub memories : SameMemories d b
  pub tells : reply ≡ reply_with c (Ok (identity b.setup))
  pub stored : d.session.stored ≡ Some (record { frame = frame_of c Connect; reply = reply })

-- a board with the memories of another, made alike
pub record Keeps (d b : Board) : Type 0 where
  pub setup : d.setup ≡ b.setup
  pub memories : SameMemories d b

pub record BoardLaws : Type 0 where
  -- what holds of each frame and of each tick
  pub frames : (b : Board) (places id : ℕ) (f : List ℕ) → FrameLaws b places id f
  pub ticks : (b : Board) → TickLaws b
  -- reading what was written gives the command and its counter back
  pub said : (c : ℕ) (x : Command) → IsCommand x → IsSaid c x
  -- a frame that is not the stored one is answered by its command: if the reply accepts it, its effect was made
  pub carried : (b : Board) (c : ℕ) (x : Command) (reply : List ℕ) (d : Board) → IsNew b (frame_of c x) → IsSaid c x
      → TakesOnce b (frame_of c x) reply d → code_of reply ≡ 0 → (e : Effect) × Accepted b c x e d
  -- and a command that can be carried out is, and is answered so
  pub answers : (b : Board) (c : ℕ) (x : Command) (e : Effect) (d : Board) → is_running b.session.state ≡ false → IsNew b (frame_of c x) → IsSaid c x
      → Accepted b c x e d → taken b (frame_of c x) ≡ record { board = d; reply = Some (reply_with c (Ok e.payload)) }
  -- what was answered is stored with its reply
  pub stored : (b : Board) (c : ℕ) (x : Command) (reply : List ℕ) (d : Board) → TakesOnce b (frame_of c x) reply d
      → d.session.stored ≡ Some (record { frame = frame_of c x; reply = reply })
  -- a Connect that is answered, repeated or not, leaves a board that is freshly connected
  pub connects : (b : Board) (c : ℕ) (reply : List ℕ) (d : Board) → FreshAfterConnect b → TakesOnce b (frame_of c Connect) reply d → Connects b c reply d
  -- Connect and Disconnect change no memory, in whatever state
  pub connect_keeps : (b : Board) (c : ℕ) → Keeps (taken b (frame_of c Connect)).board b
  pub disconnect_keeps : (b : Board) (c : ℕ) → Keeps (taken b (frame_of c (Disconnect 1))).board b
  -- a board comes to run the application by an accepted Disconnect alone, or by a tick
  pub starts : (b : Board) (f : List ℕ) → is_running b.session.state ≡ false → is_running (taken b f).board.session.state ≡ true
      → (kind : ℕ) × (reply : List ℕ) × (command_of f ≡ Some (Disconnect kind)) × ((taken b f).reply ≡ Some reply) × (code_of reply ≡ 0)
  -- over whole runs: two lists one after the other, what is kept, and what holds of each board that is reached
  pub joined : (b : Board) (es fs : List Event) → board_behind b (es ++ fs) ≡ board_behind (board_behind b es) fs
  pub same : (b : Board) (es : List Event) → SameBoard b (board_behind b es)
  pub sound : (b : Board) → IsReached b → IsSound b
