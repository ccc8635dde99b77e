-- What holds of each frame and each tick, at any board.
use Rattle.std.specs.Prelude.{◌≡◌, ℕ, false, List, None, Some, Ok, slice_index}
use Rattle.std.specs.Option.{option_map}
use Rattle.bootloader.specs.declared.state.State.TheVariants.{Connected}
use Rattle.bootloader.specs.declared.command.Command.TheVariants.{Connect}
use Rattle.bootloader.specs.declared.session.Exchange.{Exchange}
use Rattle.bootloader.specs.Frames.{command_of}
use Rattle.bootloader.specs.Dialog.{fresh_dialog}
use Rattle.bootloader.specs.Board.{Board, Turn, storing, stepped, ticked, is_running, identity, reply_with}
use Rattle.bootloader.specs.Listener.{Listener, heard, is_accepted}

-- a listener that has what the board has
abbrev pub listener_of : Board → Listener
listener_of b = record {
  flash = b.flash;
  boot = b.boot;
  eeprom = b.eeprom;
  space = b.session.dialog.space;
  address = b.session.dialog.address;
  bytes = b.session.dialog.bytes.items;
  last = option_map (λ x. x.frame) b.session.stored;
}

-- two boards have the same memories
pub record SameMemories (a b : Board) : Type 0 where
  pub flash : a.flash ≡ b.flash
  pub boot : a.boot ≡ b.boot
  pub eeprom : a.eeprom ≡ b.eeprom

-- where the last frame that was answered is a Connect, the board is as Connect left it
pub record FreshAfterConnect (b : Board) : Type 0 where
  pub state : (x : Exchange) → b.session.stored ≡ Some x → command_of x.frame ≡ Some Connect → b.session.state ≡ Connected
  pub dialog : (x : Exchange) → b.session.stored ≡ Some x → command_of x.frame ≡ Some Connect → b.session.dialog ≡ fresh_dialog
  pub reply : (x : Exchange) → b.session.stored ≡ Some x → command_of x.frame ≡ Some Connect → x.reply ≡ reply_with (slice_index x.frame 1) (Ok (identity b.setup))

-- what holds of a frame f with an identifier at a board b, by what came of it
pub record OfTurn (b : Board) (id : ℕ) (f : List ℕ) (t : Turn) : Type 0 where
  -- who has heard all so far has what the board has, from the frame and its reply
  pub listened : heard (listener_of b) f t.reply ≡ listener_of t.board
  -- without a reply no memory changes
  pub silent : t.reply ≡ None → SameMemories t.board b
  -- a frame that is repeated changes no memory
  pub repeated : (x : Exchange) → b.session.stored ≡ Some x → x.frame ≡ f → SameMemories t.board b
  -- and where it is answered, then with the stored reply, and nothing changes
  pub same_reply : (x : Exchange) → b.session.stored ≡ Some x → x.frame ≡ f → (reply : List ℕ) → t.reply ≡ Some reply
      → t ≡ record { board = b; reply = Some x.reply }
  -- a refused frame is stored with its reply, and changes nothing else
  pub refused : (reply : List ℕ) → t.reply ≡ Some reply → is_accepted reply ≡ false → t.board ≡ storing b f reply
  -- the same frame sent again at once gets the same reply and changes nothing, unless the application was started
  pub again : (reply : List ℕ) → t.reply ≡ Some reply → is_running t.board.session.state ≡ false
      → stepped t.board 8 id f ≡ record { board = t.board; reply = Some reply }
  -- a stored Connect stays that of a board that is freshly connected
  pub connected : FreshAfterConnect b → FreshAfterConnect t.board

-- what holds of each frame
abbrev pub FrameLaws : Board → ℕ → ℕ → List ℕ → Type 0
FrameLaws b places id f = OfTurn b id f (stepped b places id f)

-- what holds of each tick: a listener needs no ticks, and a stored Connect stays fresh
pub record TickLaws (b : Board) : Type 0 where
  pub listened : listener_of (ticked b) ≡ listener_of b
  pub silent : SameMemories (ticked b) b
  pub connected : FreshAfterConnect b → FreshAfterConnect (ticked b)
