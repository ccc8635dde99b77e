-- What is printed of a text, or why it is refused.
use Rattle.std.specs.Prelude.{ℕ, cond, List, length, Some, None, Ok, Err, Option, Result, string_bytes, nat_lt}
use Rattle.std.specs.declared.string.String.{String}
use Rattle.std.specs.declared.alloc.Global.{Global}
use Rattle.board.specs.declared.draft.LogError.{LogError}
use Rattle.board.specs.declared.draft.LogError.TheVariants as log
use Rattle.board.specs.declared.text.TextError.{TextError}
use Rattle.board.specs.declared.text.TextError.TheVariants.{TooLong, Refused, Memory}
use Rattle.board.specs.Log.{WrongLog, log_of, refusal_by}
use Rattle.board.specs.Stage.{Meant, replayed}

-- what is wrong with a text: it is over 67,108,864 bytes, or no log
pub data WrongText : Type 0 where
  too_long : WrongText
  wrong_log : WrongLog → WrongText

-- what is printed of a log
abbrev pub printed_for : Result Meant WrongLog → Result (List ℕ) WrongText
printed_for (Ok g) = Ok (replayed g)
printed_for (Err e) = Err (wrong_log e)

-- what is printed of a text, or what is wrong with it
abbrev pub printed_of : List ℕ → Result (List ℕ) WrongText
printed_of text = cond (nat_lt 67108864 (length text)) (Err too_long) (printed_for (log_of text))

-- why there is no log, as told of a text
abbrev pub told_of : LogError → TextError
told_of (log.Refused r) = Refused r
told_of (log.Memory e) = Memory

-- what the code answered; nothing for want of memory
abbrev pub printed_by : Result (String Global) TextError → Option (Result (List ℕ) WrongText)
printed_by (Ok t) = Some (Ok (string_bytes t))
printed_by (Err TooLong) = Some (Err too_long)
printed_by (Err (Refused r)) = Some (Err (wrong_log (refusal_by r)))
printed_by (Err Memory) = None
