-- The lines of a text, and which of them count.
use Rattle.std.specs.Prelude.{ℕ, Bool, false, cond, List, [], ◌∷◌, Some, None, Option, Result, ◌==◌}
use Rattle.std.specs.List.{slice_split}
use Rattle.std.specs.Result.{result_ok}
use Rattle.std.specs.Option.{option_map}
use Rattle.std.specs.Str.{is_utf8}
use Rattle.script.specs.declared.words.Words.{Words}
use Rattle.script.specs.declared.line.NotText.{NotText}
use Rattle.script.specs.Words.{words_of, words_left}

-- the lines of a text, each ended by LF; the last may lack it, and where it has one, an empty line follows
abbrev pub lines_of : List ℕ → List (List ℕ)
lines_of text = slice_split (λ b. b == 10) text

-- a comment begins with #
abbrev pub is_comment : List ℕ → Bool
is_comment [] = false
is_comment (c ∷ cs) = c == 35

-- the words of a line, of which a comment has none; none at all where the line is not UTF-8
abbrev pub line_words : List ℕ → Option (List (List ℕ))
line_words line = cond (is_utf8 line) (Some (cond (is_comment line) [] (words_of line))) None

-- the words that the code answered
abbrev pub line_by : Result Words NotText → Option (List (List ℕ))
line_by r = option_map words_left (result_ok r)
