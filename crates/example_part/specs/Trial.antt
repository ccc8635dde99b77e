-- A script that is carried out on a blank flash.
use Rattle.std.specs.Prelude.{ℕ, List, Some, None, Ok, Err, Option, Result, replicate, string_bytes}
use Rattle.std.specs.declared.alloc.Global.{Global}
use Rattle.std.specs.declared.string.String.{String}
use Rattle.memory.specs.Part.{Shape}
use Rattle.script.specs.declared.fault.ScriptError.{ScriptError}
use Rattle.script.specs.declared.fault.ScriptError.TheVariants.{Refused, Memory}
use Rattle.script.specs.Fault.{WrongScript, refusal_by}
use Rattle.script.specs.Report.{report_of}
use Rattle.script.specs.Text.{Meant}
use Rattle.example_part.specs.Once.{once_shape, word_pages}

-- a flash of two pages of four words
abbrev pub trial_shape : Shape
trial_shape = once_shape (word_pages 2 4)

-- what is printed of a script: that of its actions on sixteen blank bytes, with two bytes an address
abbrev pub tried : Result Meant WrongScript → Result (List ℕ) WrongScript
tried (Ok m) = Ok (report_of 2 trial_shape (replicate 16 255) m.actions)
tried (Err e) = Err e

-- what the code answered; nothing for want of memory
abbrev pub tried_by : Result (String Global) ScriptError → Option (Result (List ℕ) WrongScript)
tried_by (Ok t) = Some (Ok (string_bytes t))
tried_by (Err (Refused r)) = Some (Err (refusal_by r))
tried_by (Err (Memory e)) = None
