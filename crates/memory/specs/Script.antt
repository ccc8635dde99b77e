-- What a list of actions on a part answers, and what it changes.
use Rattle.std.specs.Prelude.{ℕ, List, [], ◌∷◌, ◌++◌, Ok, Err, Result}
use Rattle.memory.specs.declared.refusal.PartRefusal.{PartRefusal}
use Rattle.memory.specs.declared.script.Action.{Action}
use Rattle.memory.specs.declared.script.Action.TheVariants.{Read, Question, Put, Clear}
use Rattle.memory.specs.declared.script.Answer.{Answer}
use Rattle.memory.specs.declared.script.Answer.TheVariants.{Byte, Taken, Done}
use Rattle.memory.specs.Part.{Shape}
use Rattle.memory.specs.Changes.{Change, put, clear}
use Rattle.memory.specs.Calls.{read_answer, question_answer, put_answer, clear_answer, after_put, after_clear}

-- what a call of the part answered, as the answer to an action
abbrev pub answered : {X : Type 0} → (X → Answer) → Result X PartRefusal → Result Answer PartRefusal
answered f (Ok x) = Ok (f x)
answered f (Err e) = Err e

-- the answer to an action on a part of this shape and these contents
abbrev pub answer_of : Shape → List ℕ → Action → Result Answer PartRefusal
answer_of s xs (Read o) = answered Byte (read_answer xs o)
answer_of s xs (Question o v) = answered Taken (question_answer s xs o v)
answer_of s xs (Put o v) = answered (λ _. Done) (put_answer s xs o v)
answer_of s xs (Clear u) = answered (λ _. Done) (clear_answer s u)

-- the contents after an action
abbrev pub after_action : Shape → List ℕ → Action → List ℕ
after_action s xs (Read o) = xs
after_action s xs (Question o v) = xs
after_action s xs (Put o v) = after_put s xs o v
after_action s xs (Clear u) = after_clear s xs u

-- the answers to actions, one after the other
unfoldable pub answers_of : Shape → List ℕ → List Action → List (Result Answer PartRefusal)
answers_of s xs [] = []
answers_of s xs (a ∷ more) = answer_of s xs a ∷ answers_of s (after_action s xs a) more

-- the change that an action asks for
abbrev pub changes_of : Action → List Change
changes_of (Read o) = []
changes_of (Question o v) = []
changes_of (Put o v) = put o v ∷ []
changes_of (Clear u) = clear u ∷ []

-- an action makes its change where the answer is that it was done
abbrev pub made_by : Action → Result Answer PartRefusal → List Change
made_by a (Ok Done) = changes_of a
made_by a (Ok (Byte v)) = []
made_by a (Ok (Taken b)) = []
made_by a (Err e) = []

-- the changes that are made, as one who sees only the actions and their answers works them out
unfoldable pub made_by_all : List Action → List (Result Answer PartRefusal) → List Change
made_by_all [] rs = []
made_by_all (a ∷ more) [] = []
made_by_all (a ∷ more) (r ∷ rs) = made_by a r ++ made_by_all more rs
