-- What a line of a log says.
use Rattle.std.specs.Prelude.{ℕ, Bool, cond, ◌&&◌, List, [], ◌∷◌, drop, Some, None, Ok, Err, codes, Option, Result, ◌==◌}
use Rattle.std.specs.List.{starts_with, ends_with}
use Rattle.std.specs.Str.{bytes_eq}
use Rattle.script.specs.Number.{number_of}
use Rattle.script.specs.Words.{missing, number_taken, ended}
use Rattle.script.specs.Line.{line_words}
use Rattle.bootloader.specs.Events.{Event}
use Rattle.board.specs.declared.line.Said.{Said}
use Rattle.board.specs.declared.line.Said.TheVariants as lent
use Rattle.board.specs.declared.plan.Memory.{Memory}
use Rattle.board.specs.declared.plan.Plan.{Plan}
use Rattle.board.specs.Plan.{memory_at}
use Rattle.board.specs.Fault.{WrongLine, not_text, wrong_word, no_memory, not_contents, after, reads, finds}
use Rattle.board.specs.Frame.{bytes_of, frame_of}
use Rattle.board.specs.Replay.{event_by}
use Rattle.board.specs.Settings.{board_of}

-- what a line says: nothing, what the board is made of, what a memory shows at the start, ticks, or a frame
pub data Saying : Type 0 where
  nothing : Saying
  board : Plan → Saying
  start : Memory → List ℕ → Saying
  ticks : ℕ → Saying
  happens : Event → Saying

-- something, if no word is left
abbrev pub alone : {A : Type 0} → List (List ℕ) → A → Result A WrongLine
alone ws x = reads (ended ws) (λ u. Ok x)

-- the number of ticks, and no other word
abbrev pub ticks_of : List (List ℕ) → Result ℕ WrongLine
ticks_of ws = reads (number_taken (codes "the number of ticks") ws) (λ n. alone (drop 1 ws) n)

-- the memory that a word names by the number of its space
abbrev pub memory_for : Option ℕ → Option Memory
memory_for None = None
memory_for (Some n) = memory_at n

-- the contents of a memory, and no other word
abbrev pub contents_of : Memory → List (List ℕ) → Result Saying WrongLine
contents_of m [] = Err (wrong_word (missing (codes "what the memory shows")))
contents_of m (w ∷ ws) = finds (bytes_of w) (not_contents w) (λ bytes. alone ws (start m bytes))

-- a memory and its contents
abbrev pub start_of : List (List ℕ) → Result Saying WrongLine
start_of [] = Err (wrong_word (missing (codes "the space")))
start_of (w ∷ ws) = finds (memory_for (number_of w)) (no_memory w) (λ m. contents_of m ws)

-- a frame, and no other word
abbrev pub frame_alone : List ℕ → List (List ℕ) → Result Saying WrongLine
frame_alone w ws = after (frame_of w) (λ h. alone ws (happens h))

-- a frame behind the name of an interface
abbrev pub frame_dumped : List (List ℕ) → Result Saying WrongLine
frame_dumped [] = Err (wrong_word (missing (codes "the interface")))
frame_dumped (i ∷ []) = Err (wrong_word (missing (codes "the frame")))
frame_dumped (i ∷ w ∷ ws) = frame_alone w ws

-- a time stands in brackets
abbrev pub is_time : List ℕ → Bool
is_time w = starts_with (λ a b. a == b) w (codes "(") && ends_with (λ a b. a == b) w (codes ")")

-- what the words of a line say
abbrev pub words_say : List (List ℕ) → Result Saying WrongLine
words_say [] = Ok nothing
words_say (w ∷ ws) =
    cond (bytes_eq w (codes "tick")) (after (ticks_of ws) (λ n. Ok (ticks n)))
    (cond (bytes_eq w (codes "board")) (after (board_of ws) (λ p. Ok (board p)))
    (cond (bytes_eq w (codes "memory")) (start_of ws)
    (cond (is_time w) (frame_dumped ws) (frame_alone w ws))))

-- what a line says, if it is text
abbrev pub text_says : Option (List (List ℕ)) → Result Saying WrongLine
text_says None = Err not_text
text_says (Some ws) = words_say ws

abbrev pub said_of : List ℕ → Result Saying WrongLine
said_of line = text_says (line_words line)

-- what the code answered of a line
abbrev pub saying_by : Said → Saying
saying_by lent.Nothing = nothing
saying_by (lent.Board p) = board p
saying_by (lent.Start m bytes) = start m bytes.items
saying_by (lent.Ticks n) = ticks n
saying_by (lent.Frame e) = happens (event_by e)
