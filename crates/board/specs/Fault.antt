-- Why a log is refused, with its words as lists.
use Rattle.std.specs.Prelude.{ℕ, List, Some, None, Ok, Err, Option, Result}
use Rattle.std.specs.Result.{result_map_both}
use Rattle.script.specs.Words.{WrongWord, fault_by}
use Rattle.board.specs.declared.fault.Fault.{Fault}
use Rattle.board.specs.declared.fault.Fault.TheVariants as lent
use Rattle.board.specs.declared.fault.LineError.{LineError}
use Rattle.board.specs.declared.fault.LineError.TheVariants as line
use Rattle.board.specs.declared.plan.Memory.{Memory}

-- what is wrong with a line
pub data WrongLine : Type 0 where
  not_text : WrongLine
  wrong_word : WrongWord → WrongLine
  no_command : List ℕ → WrongLine
  not_id : List ℕ → WrongLine
  remote : List ℕ → WrongLine
  flexible : List ℕ → WrongLine
  not_bytes : List ℕ → WrongLine
  no_setting : List ℕ → WrongLine
  not_value : List ℕ → List ℕ → WrongLine
  set_twice : List ℕ → WrongLine
  no_flash : WrongLine
  no_memory : List ℕ → WrongLine
  not_contents : List ℕ → WrongLine
  too_long : Memory → WrongLine
  late : WrongLine
  second_board : WrongLine
  told_twice : Memory → WrongLine
  too_many_ticks : WrongLine

-- what follows a value, or its fault
abbrev pub after : {E A B : Type 0} → Result A E → (A → Result B E) → Result B E
after (Ok x) f = f x
after (Err e) f = Err e

-- what follows a word that was read, or the fault of the word
abbrev pub reads : {A B : Type 0} → Result A WrongWord → (A → Result B WrongLine) → Result B WrongLine
reads (Ok x) f = f x
reads (Err e) f = Err (wrong_word e)

-- what follows a value that is there, or this fault
abbrev pub finds : {A B : Type 0} → Option A → WrongLine → (A → Result B WrongLine) → Result B WrongLine
finds (Some x) e f = f x
finds None e f = Err e

-- a fault that the code answered
abbrev pub wrong_by : Fault → WrongLine
wrong_by lent.NotText = not_text
wrong_by (lent.Word f) = wrong_word (fault_by f)
wrong_by (lent.NoCommand w) = no_command w.now
wrong_by (lent.NotId w) = not_id w.now
wrong_by (lent.Remote w) = remote w.now
wrong_by (lent.Flexible w) = flexible w.now
wrong_by (lent.NotBytes w) = not_bytes w.now
wrong_by (lent.NoSetting w) = no_setting w.now
wrong_by (lent.NotValue m w) = not_value m.now w.now
wrong_by (lent.SetTwice w) = set_twice w.now
wrong_by lent.NoFlash = no_flash
wrong_by (lent.NoMemory w) = no_memory w.now
wrong_by (lent.NotContents w) = not_contents w.now
wrong_by (lent.TooLong m) = too_long m
wrong_by lent.Late = late
wrong_by lent.SecondBoard = second_board
wrong_by (lent.ToldTwice m) = told_twice m
wrong_by lent.TooManyTicks = too_many_ticks

-- the value or the fault that the code answered
abbrev pub read_by : {A : Type 0} → Result A Fault → Result A WrongLine
read_by r = result_map_both (λ x. x) wrong_by r

-- the same of a line, with the value as it is meant; nothing for want of memory
abbrev pub line_by : {A B : Type 0} → (A → B) → Result A LineError → Option (Result B WrongLine)
line_by f (Ok x) = Some (Ok (f x))
line_by f (Err (line.Wrong e)) = Some (Err (wrong_by e))
line_by f (Err (line.Memory e)) = None
