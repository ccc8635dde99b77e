-- What is printed of a script that is carried out on a part.
use Rattle.std.specs.Prelude.{ℕ, ◌/◌, ◌%◌, cond, List, [], ◌∷◌, ◌++◌, Ok, Err, codes, Result, decimal}
use Rattle.std.specs.List.{flat_map}
use Rattle.memory.specs.declared.refusal.PartRefusal.{PartRefusal}
use Rattle.memory.specs.declared.script.Action.{Action}
use Rattle.memory.specs.declared.script.Answer.{Answer}
use Rattle.memory.specs.declared.script.Answer.TheVariants.{Byte, Taken, Done}
use Rattle.memory.specs.Part.{Shape}
use Rattle.memory.specs.Calls.{refusal_number}
use Rattle.memory.specs.Changes.{changed_all}
use Rattle.memory.specs.Script.{answers_of, made_by_all}
use Rattle.memory.specs.Seal.{seal_of}
use Rattle.script.specs.Hex.{hex_byte}

-- the text of an answer: the byte that was read, whether a value would be taken, that an action is done, or
-- the number of the refusal
abbrev pub reply_text : Result Answer PartRefusal → List ℕ
reply_text (Ok (Byte b)) = hex_byte b
reply_text (Ok (Taken t)) = cond t (codes "yes") (codes "no")
reply_text (Ok Done) = codes "ok"
reply_text (Err e) = codes "refused " ++ decimal (refusal_number e)

-- a line for an answer
abbrev pub reply_line : Result Answer PartRefusal → List ℕ
reply_line r = reply_text r ++ codes "\n"

-- the contents that actions leave, worked out from the actions and their answers
abbrev pub left_by : Shape → List ℕ → List Action → List ℕ
left_by s xs more = changed_all s (made_by_all more (answers_of s xs more)) xs

-- a line with contents, and one with their seal, high byte first, of a part with w bytes an address
abbrev pub ending : ℕ → List ℕ → List ℕ
ending w xs =
    codes "M\t" ++ (flat_map hex_byte xs ++ (codes "\nC\t" ++ (flat_map hex_byte (seal_of w xs / 256 ∷ seal_of w xs % 256 ∷ []) ++ codes "\n")))

-- a line for each answer, and then what is left and its seal
abbrev pub report_of : ℕ → Shape → List ℕ → List Action → List ℕ
report_of w s xs more = flat_map reply_line (answers_of s xs more) ++ ending w (left_by s xs more)
