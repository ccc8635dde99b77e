-- What reaches a board, and what comes of it.
use Rattle.std.specs.Prelude.{ℕ, ◌<◌, List, [], ◌∷◌, None, Option}
use Rattle.std.specs.List.{AllByRecursion}
use Rattle.bootloader.specs.Board.{Board, Turn, stepped, ticked}

-- a frame, with its identifier, its bytes and how many places there are for its reply; or a tick
pub data Event : Type 0 where
  frame : ℕ → List ℕ → ℕ → Event
  tick : Event

-- what comes of an event
abbrev pub happened : Board → Event → Turn
happened b (frame id bytes places) = stepped b places id bytes
happened b tick = record { board = ticked b; reply = None }

-- the board after events, one after the other
unfoldable pub board_behind : Board → List Event → Board
board_behind b [] = b
board_behind b (e ∷ es) = board_behind (happened b e).board es

-- the reply to each event, or none
unfoldable pub replies_to : Board → List Event → List (Option (List ℕ))
replies_to b [] = []
replies_to b (e ∷ es) = (happened b e).reply ∷ replies_to (happened b e).board es

-- the bytes of a frame are bytes
abbrev pub IsOfBytes : Event → Type 0
IsOfBytes (frame id bytes places) = AllByRecursion (λ v. v < 256) bytes
IsOfBytes tick = Unit {0}
