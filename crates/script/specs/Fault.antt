-- Why a script is refused, with its words as lists.
use Rattle.std.specs.Prelude.{ℕ, List, Ok, Err, Result}
use Rattle.std.specs.Result.{result_map_both}
use Rattle.script.specs.declared.fault.Fault.{Fault}
use Rattle.script.specs.declared.fault.Fault.TheVariants as lent
use Rattle.script.specs.declared.fault.Refusal.{Refusal}
use Rattle.script.specs.declared.fault.Refusal.TheVariants as refused
use Rattle.script.specs.Words.{WrongWord, fault_by}

-- what is wrong with a line
pub data WrongLine : Type 0 where
  not_text : WrongLine
  no_part : List ℕ → WrongLine
  no_command : List ℕ → WrongLine
  wrong_word : WrongWord → WrongLine

-- what is wrong with a script: a line, counted from 1, or that none names a part
pub data WrongScript : Type 0 where
  at_line : ℕ → WrongLine → WrongScript
  no_line : WrongScript

-- what follows a value that was read, or the fault of its word
abbrev pub reads : {A B : Type 0} → Result A WrongWord → (A → Result B WrongLine) → Result B WrongLine
reads (Ok x) f = f x
reads (Err e) f = Err (wrong_word e)

-- a fault that the code answered
abbrev pub wrong_by : Fault → WrongLine
wrong_by lent.NotText = not_text
wrong_by (lent.NoPart w) = no_part w.now
wrong_by (lent.NoCommand w) = no_command w.now
wrong_by (lent.Word f) = wrong_word (fault_by f)

-- a refusal that the code answered
abbrev pub refusal_by : Refusal → WrongScript
refusal_by (refused.Line n f) = at_line n (wrong_by f)
refusal_by refused.Empty = no_line

-- the value or the fault that the code answered
abbrev pub read_by : {A : Type 0} → Result A Fault → Result A WrongLine
read_by r = result_map_both (λ x. x) wrong_by r
