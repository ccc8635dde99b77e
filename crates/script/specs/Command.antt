-- A line that asks for an action.
use Rattle.std.specs.Prelude.{ℕ, cond, List, drop, Ok, Err, codes, Result}
use Rattle.std.specs.Str.{bytes_eq}
use Rattle.memory.specs.declared.script.Action.{Action}
use Rattle.memory.specs.declared.script.Action.TheVariants.{Read, Question, Put, Clear}
use Rattle.script.specs.Words.{number_taken, byte_taken, ended}
use Rattle.script.specs.Fault.{WrongLine, no_command, reads}

-- an action, if no word is left
abbrev pub alone : List (List ℕ) → Action → Result Action WrongLine
alone ws a = reads (ended ws) (λ u. Ok a)

-- an action with an offset
abbrev pub at_offset : (ℕ → Action) → List (List ℕ) → Result Action WrongLine
at_offset f ws = reads (number_taken (codes "the offset") ws) (λ o. alone (drop 1 ws) (f o))

-- an action with an offset and a value
abbrev pub with_value : (ℕ → ℕ → Action) → List (List ℕ) → Result Action WrongLine
with_value f ws =
    reads (number_taken (codes "the offset") ws) (λ o.
    reads (byte_taken (codes "the value") (drop 1 ws)) (λ v. alone (drop 1 (drop 1 ws)) (f o v)))

-- an action with a unit
abbrev pub at_unit : (ℕ → Action) → List (List ℕ) → Result Action WrongLine
at_unit f ws = reads (number_taken (codes "the unit") ws) (λ u. alone (drop 1 ws) (f u))

-- the action that a command asks for, with what the words behind it say
abbrev pub action_of : List ℕ → List (List ℕ) → Result Action WrongLine
action_of command ws =
    cond (bytes_eq command (codes "read")) (at_offset Read ws)
    (cond (bytes_eq command (codes "question")) (with_value Question ws)
    (cond (bytes_eq command (codes "put")) (with_value Put ws)
    (cond (bytes_eq command (codes "clear")) (at_unit Clear ws) (Err (no_command command)))))
