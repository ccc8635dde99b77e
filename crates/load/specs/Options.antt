-- What the words of the command line ask for.
use Rattle.std.specs.Prelude.{ℕ, if◌then◌else◌, ◌||◌, List, [], ◌∷◌, Ok, Err, codes, Result}
use Rattle.std.specs.Result.{result_map_both}
use Rattle.std.specs.Str.{bytes_eq}
use Rattle.load.specs.declared.options.Command.{Command}
use Rattle.load.specs.declared.options.Command.TheVariants.{Help, Load}
use Rattle.load.specs.declared.options.UnknownWord.{UnknownWord}

-- help is the only thing that a word asks for
abbrev pub word_asks : List ℕ → Result Command (List ℕ)
word_asks w = if bytes_eq w (codes "-h") || bytes_eq w (codes "--help") then Ok Help else Err w

-- without a word a file is loaded, and otherwise the first word decides
abbrev pub command_of : List (List ℕ) → Result Command (List ℕ)
command_of [] = Ok Load
command_of (w ∷ ws) = word_asks w

-- what the code answered, with the word as a list
abbrev pub command_by : Result Command UnknownWord → Result Command (List ℕ)
command_by r = result_map_both (λ c. c) (λ u. u.0.now) r
