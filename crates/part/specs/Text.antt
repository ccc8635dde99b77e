-- What is printed of a text, or why it is refused.
use Rattle.std.specs.Prelude.{ℕ, cond, List, length, Some, None, Ok, Err, Option, Result, string_bytes, nat_lt}
use Rattle.std.specs.declared.string.String.{String}
use Rattle.std.specs.declared.alloc.Global.{Global}
use Rattle.script.specs.declared.fault.ScriptError.{ScriptError}
use Rattle.script.specs.declared.fault.ScriptError.TheVariants as script
use Rattle.script.specs.Fault.{WrongScript, refusal_by}
use Rattle.script.specs.Text.{Meant, script_of}
use Rattle.part.specs.declared.text.TextError.{TextError}
use Rattle.part.specs.declared.text.TextError.TheVariants.{TooLong, Refused, Memory}
use Rattle.part.specs.Stage.{played_of}

-- what is wrong with a text: it is over 67,108,864 bytes, or no script
pub data WrongText : Type 0 where
  too_long : WrongText
  wrong_script : WrongScript → WrongText

-- what is printed of a script
abbrev pub printed_for : Result Meant WrongScript → Result (List ℕ) WrongText
printed_for (Ok m) = Ok (played_of m.setup m.actions)
printed_for (Err e) = Err (wrong_script e)

-- what is printed of a text, or what is wrong with it
abbrev pub printed_of : List ℕ → Result (List ℕ) WrongText
printed_of text = cond (nat_lt 67108864 (length text)) (Err too_long) (printed_for (script_of text))

-- why there is no script, as told of a text
abbrev pub told_of : ScriptError → TextError
told_of (script.Refused r) = Refused r
told_of (script.Memory e) = Memory

-- what the code answered; nothing for want of memory
abbrev pub printed_by : Result (String Global) TextError → Option (Result (List ℕ) WrongText)
printed_by (Ok t) = Some (Ok (string_bytes t))
printed_by (Err TooLong) = Some (Err too_long)
printed_by (Err (Refused r)) = Some (Err (wrong_script (refusal_by r)))
printed_by (Err Memory) = None
