-- Which command a list of words means, and which misuse it is.
use Rattle.std.specs.Prelude.{ℕ, Bool, true, false, List, [], ◌∷◌, Some, None, Ok, Err, codes, Option, Result}
use Rattle.std.specs.Option.{option_map, ok_or, unwrap_or}
use Rattle.std.specs.Result.{result_map_both}
use Rattle.loader.specs.declared.target.Target.{Target}
use Rattle.loader.specs.declared.target.Target.TheVariants as target
use Rattle.file_check.specs.declared.words.TargetName.{TargetName}
use Rattle.file_check.specs.declared.words.TargetName.TheVariants.{Flash, Boot, Data}
use Rattle.file_check.specs.declared.options.Command.{Command}
use Rattle.file_check.specs.declared.options.Command.TheVariants.{Help, Check}
use Rattle.file_check.specs.declared.options.Parse.{Parse}
use Rattle.file_check.specs.declared.failure.Misuse.{Misuse}
use Rattle.file_check.specs.declared.failure.Misuse.TheVariants as lent
use Rattle.file_check.specs.Words.{Said, be_quiet, help, target_next, size_next, files_next, target_is, size_is, file_is, unknown, word_of, target_of, size_of}

-- what is wrong with a list of words, and the word at fault
pub data Wrong : Type 0 where
  unknown_option : List ℕ → Wrong
  unknown_target : List ℕ → Wrong
  no_number : List ℕ → Wrong
  second_file : List ℕ → Wrong
  no_target : Wrong
  no_size : Wrong
  size_wanted : TargetName → Wrong

-- what the next word is; behind the word that asks for help no word counts
pub data Next : Type 0 where
  any_word : Next
  target_name : Next
  size_number : Next
  file_name : Next
  nothing : Next

-- what the words so far have said
pub record Settings : Type 0 where
  pub quiet : Bool
  pub target : TargetName
  pub size : Option ℕ
  pub file : Option (List ℕ)

-- a check that is asked for
pub record Asked : Type 0 where
  pub quiet : Bool
  pub target : Target
  pub size : Option ℕ
  pub file : List ℕ

-- help, or a check
pub data Meaning : Type 0 where
  help_asked : Meaning
  check_asked : Asked → Meaning

-- before the first word: the target is flash, and nothing is left out of the output
abbrev pub begun : Settings
begun = record { quiet = false; target = Flash; size = None; file = None }

-- a later target takes the place of an earlier one
abbrev pub target_taken : Settings → List ℕ → Result Settings Wrong
target_taken s w =
    result_map_both (λ t. record { quiet = s.quiet; target = t; size = s.size; file = s.file }) (λ e. e) (ok_or (target_of w) (unknown_target w))

-- a later size takes the place of an earlier one, if the word is a number
abbrev pub size_taken : Settings → List ℕ → Result Settings Wrong
size_taken s w =
    result_map_both (λ n. record { quiet = s.quiet; target = s.target; size = Some n; file = s.file }) (λ e. e) (ok_or (size_of w) (no_number w))

-- a file, unless there is one already
abbrev pub file_after : Settings → List ℕ → Option (List ℕ) → Result Settings Wrong
file_after s w (Some f) = Err (second_file w)
file_after s w None = Ok (record { quiet = s.quiet; target = s.target; size = s.size; file = Some w })

-- a file more
abbrev pub file_taken : Settings → List ℕ → Result Settings Wrong
file_taken s w = file_after s w s.file

-- what has been said, with what the next word is
abbrev pub awaiting : Next → Result Settings Wrong → Result (Next × Settings) Wrong
awaiting n r = result_map_both (λ s. (n, s)) (λ e. e) r

-- what a word says where an option or a file may stand
abbrev pub any_taken : Settings → Said → Result (Next × Settings) Wrong
any_taken s be_quiet = Ok (any_word, record { quiet = true; target = s.target; size = s.size; file = s.file })
any_taken s help = Ok (nothing, s)
any_taken s target_next = Ok (target_name, s)
any_taken s size_next = Ok (size_number, s)
any_taken s files_next = Ok (file_name, s)
any_taken s (target_is w) = awaiting any_word (target_taken s w)
any_taken s (size_is w) = awaiting any_word (size_taken s w)
any_taken s (file_is w) = awaiting any_word (file_taken s w)
any_taken s (unknown w) = Err (unknown_option w)

-- what is said with one word more, by what it is
abbrev pub taken : Next → Settings → List ℕ → Result (Next × Settings) Wrong
taken any_word s w = any_taken s (word_of w)
taken target_name s w = awaiting any_word (target_taken s w)
taken size_number s w = awaiting any_word (size_taken s w)
taken file_name s w = awaiting file_name (file_taken s w)
taken nothing s w = Ok (nothing, s)

-- the target of a name and a size: the EEPROMs want a size, and flash has no use for one
abbrev pub target_for : TargetName → Option ℕ → Result Target Wrong
target_for Flash n = Ok target.Flash
target_for Boot (Some n) = Ok (target.Boot n)
target_for Boot None = Err (size_wanted Boot)
target_for Data (Some n) = Ok (target.Data n)
target_for Data None = Err (size_wanted Data)

-- the check that is asked for, unless a size is wanting; without a file the text is standard input,
-- whose name is a dash; a size that was told stays told, for flash too
abbrev pub asked : Settings → Result Meaning Wrong
asked s =
    result_map_both (λ t. check_asked (record { quiet = s.quiet; target = t; size = s.size; file = unwrap_or s.file (codes "-") })) (λ e. e) (target_for s.target s.size)

-- what is asked for at the end of the words, by what was to come
abbrev pub ended : Next → Settings → Result Meaning Wrong
ended any_word s = asked s
ended target_name s = Err no_target
ended size_number s = Err no_size
ended file_name s = asked s
ended nothing s = Ok help_asked

-- what follows, unless there is a misuse
abbrev pub goes_on : (Next → Settings → Result Meaning Wrong) → Result (Next × Settings) Wrong → Result Meaning Wrong
goes_on go (Ok t) = go t.0 t.1
goes_on go (Err e) = Err e

-- what words mean behind those that said s: the first misuse counts
unfoldable pub meaning_from : Next → Settings → List (List ℕ) → Result Meaning Wrong
meaning_from n s [] = ended n s
meaning_from n s (w ∷ ws) = goes_on (λ m t. meaning_from m t ws) (taken n s w)

-- what the words behind the program's name mean
abbrev pub meaning_of : List (List ℕ) → Result Meaning Wrong
meaning_of ws = meaning_from any_word begun ws

-- what the code answered, with the borrowed words as lists
abbrev pub settings_by : Parse → Settings
settings_by p = record { quiet = p.quiet; target = p.target; size = p.size; file = option_map (λ f. f.now) p.file }

-- a misuse that the code answered, with its word as a list
abbrev pub wrong_by : Misuse → Wrong
wrong_by (lent.UnknownOption w) = unknown_option w.now
wrong_by (lent.UnknownTarget w) = unknown_target w.now
wrong_by (lent.NoNumber w) = no_number w.now
wrong_by (lent.SecondFile w) = second_file w.now
wrong_by lent.NoTarget = no_target
wrong_by lent.NoSize = no_size
wrong_by (lent.SizeWanted t) = size_wanted t

-- a command that the code answered, with its words as lists
abbrev pub meant_by : Command → Meaning
meant_by Help = help_asked
meant_by (Check o) = check_asked (record { quiet = o.quiet; target = o.target; size = o.size; file = o.file.now })

-- the value or the misuse that the code answered
abbrev pub read_by : {A : Type 0} → Result A Misuse → Result A Wrong
read_by r = result_map_both (λ x. x) wrong_by r

-- the settings or the misuse that the code answered
abbrev pub step_by : Result Parse Misuse → Result Settings Wrong
step_by r = result_map_both settings_by wrong_by r

-- the command or the misuse that the code answered
abbrev pub answer_by : Result Command Misuse → Result Meaning Wrong
answer_by r = result_map_both meant_by wrong_by r
