-- The text of a script: the part, and then the actions on it.
use Rattle.std.specs.Prelude.{ℕ, ◌+◌, Bool, cond, List, [], ◌∷◌, ◌++◌, Some, None, Ok, Err, Option, Result, is_some}
use Rattle.std.specs.Result.{result_map_both}
use Rattle.memory.specs.declared.script.Action.{Action}
use Rattle.script.specs.declared.setup.Setup.{Setup}
use Rattle.script.specs.declared.text.Script.{Script}
use Rattle.script.specs.declared.text.Said.{Said}
use Rattle.script.specs.declared.text.Said.TheVariants.{Nothing, Part, Act}
use Rattle.script.specs.declared.fault.Fault.{Fault}
use Rattle.script.specs.declared.fault.ScriptError.{ScriptError}
use Rattle.script.specs.declared.fault.ScriptError.TheVariants.{Refused, Memory}
use Rattle.script.specs.Fault.{WrongLine, not_text, WrongScript, at_line, no_line, refusal_by, read_by}
use Rattle.script.specs.Line.{lines_of, line_words}
use Rattle.script.specs.Setup.{setup_of}
use Rattle.script.specs.Command.{action_of}

-- what the words of a line say, behind one that names the part or not
abbrev pub words_say : Bool → List (List ℕ) → Result Said WrongLine
words_say named [] = Ok Nothing
words_say named (w ∷ ws) =
    cond named (result_map_both Act (λ e. e) (action_of w ws)) (result_map_both Part (λ e. e) (setup_of w ws))

-- what a line says, if it is text
abbrev pub text_says : Bool → Option (List (List ℕ)) → Result Said WrongLine
text_says named (Some ws) = words_say named ws
text_says named None = Err not_text

-- what a line says
abbrev pub said_of : Bool → List ℕ → Result Said WrongLine
said_of named line = text_says named (line_words line)

-- what the lines so far have said: the part, if one has named it, and the actions on it
pub record Draft : Type 0 where
  pub setup : Option Setup
  pub actions : List Action

-- with what one line more says
abbrev pub drafted : Draft → Said → Draft
drafted d Nothing = d
drafted d (Part p) = record { setup = Some p; actions = d.actions }
drafted d (Act a) = record { setup = d.setup; actions = d.actions ++ (a ∷ []) }

-- a script, as it is meant
pub record Meant : Type 0 where
  pub setup : Setup
  pub actions : List Action

-- at the end of the lines a part must have been named
abbrev pub completed : Draft → Option Setup → Result Meant WrongScript
completed d (Some p) = Ok (record { setup = p; actions = d.actions })
completed d None = Err no_line

-- what follows a line that is right, or the line and what is wrong with it
abbrev pub goes_on : ℕ → (Said → Result Meant WrongScript) → Result Said WrongLine → Result Meant WrongScript
goes_on n go (Ok s) = go s
goes_on n go (Err e) = Err (at_line n e)

-- lines that follow n others, which have said d
unfoldable pub script_from : ℕ → Draft → List (List ℕ) → Result Meant WrongScript
script_from n d [] = completed d d.setup
script_from n d (l ∷ ls) = goes_on (n + 1) (λ s. script_from (n + 1) (drafted d s) ls) (said_of (is_some d.setup) l)

-- the script that a text means, or the first line that is wrong
abbrev pub script_of : List ℕ → Result Meant WrongScript
script_of text = script_from 0 (record { setup = None; actions = [] }) (lines_of text)

-- what the code answered of a line
abbrev pub said_by : Result Said Fault → Result Said WrongLine
said_by r = read_by r

-- a script that the code answered
abbrev pub meant_by : Script → Meant
meant_by s = record { setup = s.setup; actions = s.actions.items }

-- what the code answered of a text; nothing for want of memory
abbrev pub script_by : Result Script ScriptError → Option (Result Meant WrongScript)
script_by (Ok s) = Some (Ok (meant_by s))
script_by (Err (Refused r)) = Some (Err (refusal_by r))
script_by (Err (Memory e)) = None
