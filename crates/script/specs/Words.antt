-- The words of a text, and what they are read as.
use Rattle.std.specs.Prelude.{◌≡◌, ℕ, ◌==◌, List, [], ◌∷◌, length, take, drop, filter, Some, None, Ok, Err, Option, Result, cond, nat_lt}
use Rattle.std.specs.Bool.{MatchBool}
use Rattle.std.specs.Char.{is_ascii_whitespace}
use Rattle.std.specs.List.{slice_split, prefix_len, position_or_len}
use Rattle.std.specs.Option.{ok_or}
use Rattle.std.specs.Result.{result_map_both}
use Rattle.script.specs.declared.words.Words.{Words}
use Rattle.script.specs.declared.words.WordFault.{WordFault}
use Rattle.script.specs.declared.words.WordFault.TheVariants as lent
use Rattle.script.specs.Number.{number_of, behind}

-- the parts of a text between white space that are not empty
abbrev pub words_of : List ℕ → List (List ℕ)
words_of text = filter (λ w. nat_lt 0 (length w)) (slice_split is_ascii_whitespace text)

-- a text without the white space that it begins with
abbrev pub behind_blanks : List ℕ → List ℕ
behind_blanks text = drop (prefix_len is_ascii_whitespace text) text

-- the first word of a text, empty where there is none
abbrev pub first_word : List ℕ → List ℕ
first_word text = take (position_or_len is_ascii_whitespace (behind_blanks text)) (behind_blanks text)

-- what follows the first word
abbrev pub behind_word : List ℕ → List ℕ
behind_word text = drop (position_or_len is_ascii_whitespace (behind_blanks text)) (behind_blanks text)

-- w is the first of the words and ws are the others; where there is none w is empty
abbrev pub IsNextWord : List (List ℕ) → List ℕ → List (List ℕ) → Type 0
IsNextWord all w ws = MatchBool (length w == 0) ((all ≡ []) × (ws ≡ [])) (all ≡ w ∷ ws)

-- the words that are left
abbrev pub words_left : Words → List (List ℕ)
words_left w = words_of w.rest.now

-- what is wrong with a word: what was wanted in its place, and the word
pub data WrongWord : Type 0 where
  missing : List ℕ → WrongWord
  not_number : List ℕ → List ℕ → WrongWord
  not_byte : List ℕ → List ℕ → WrongWord
  not_named : List ℕ → List ℕ → WrongWord
  too_many : List ℕ → WrongWord

-- the first word as a number
abbrev pub number_taken : List ℕ → List (List ℕ) → Result ℕ WrongWord
number_taken wanted [] = Err (missing wanted)
number_taken wanted (w ∷ ws) = ok_or (number_of w) (not_number wanted w)

-- a number that a word writes, if a byte holds it
abbrev pub byte_in : List ℕ → List ℕ → Option ℕ → Result ℕ WrongWord
byte_in wanted w None = Err (not_number wanted w)
byte_in wanted w (Some n) = cond (nat_lt n 256) (Ok n) (Err (not_byte wanted w))

-- the first word as a number that a byte holds
abbrev pub byte_taken : List ℕ → List (List ℕ) → Result ℕ WrongWord
byte_taken wanted [] = Err (missing wanted)
byte_taken wanted (w ∷ ws) = byte_in wanted w (number_of w)

-- the number that a word writes behind its name
abbrev pub number_behind : List ℕ → List ℕ → Option (List ℕ) → Result ℕ WrongWord
number_behind name w None = Err (not_named name w)
number_behind name w (Some ds) = ok_or (number_of ds) (not_number name w)

-- the number behind a name in the first word
abbrev pub named_taken : List ℕ → List (List ℕ) → Result ℕ WrongWord
named_taken name [] = Err (missing name)
named_taken name (w ∷ ws) = number_behind name w (behind name w)

-- no word is left
abbrev pub ended : List (List ℕ) → Result (Unit {0}) WrongWord
ended [] = Ok tt
ended (w ∷ ws) = Err (too_many w)

-- a fault that the code answered, with its words as lists
abbrev pub fault_by : WordFault → WrongWord
fault_by (lent.Missing m) = missing m.now
fault_by (lent.NotNumber m w) = not_number m.now w.now
fault_by (lent.NotByte m w) = not_byte m.now w.now
fault_by (lent.NotNamed m w) = not_named m.now w.now
fault_by (lent.TooMany w) = too_many w.now

-- the value or the fault that the code answered
abbrev pub taken_by : {A : Type 0} → Result A WordFault → Result A WrongWord
taken_by r = result_map_both (λ x. x) fault_by r
