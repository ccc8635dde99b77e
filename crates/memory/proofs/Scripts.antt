-- Actions one after the other: what they answer and what they leave. Assumes nothing.
use Rattle.std.proofs.Common.{◌≡◌, ℕ, cond, List, [], ◌∷◌, ◌++◌, is_ok, Ok, Err, Result, sym, refl, ap, arith, ◌∙◌}
use Rattle.std.proofs.lemmas.Bool.Decides.{nat_tests}
use Rattle.std.proofs.lemmas.List.{take_all}
use Rattle.memory.specs.declared.refusal.PartRefusal.{PartRefusal}
use Rattle.memory.specs.declared.script.Action.{Action}
use Rattle.memory.specs.declared.script.Action.TheVariants.{Read, Question, Put, Clear}
use Rattle.memory.specs.declared.script.Answer.{Answer}
use Rattle.memory.specs.Part.{Shape}
use Rattle.memory.specs.Changes.{changed_all, ByLast}
use Rattle.memory.specs.Script.{answer_of, after_action, answers_of, made_by, made_by_all}
use Rattle.memory.specs.Changing.{changed_all-++, changed_all-by_last}

-- the contents after actions
abbrev pub after_all : Shape → List ℕ → List Action → List ℕ
after_all s xs [] = xs
after_all s xs (a ∷ more) = after_all s (after_action s xs a) more

-- what an action leaves is what its change leaves, if it made one
after_made : (s : Shape) (xs : List ℕ) (a : Action) → after_action s xs a ≡ changed_all s (made_by a (answer_of s xs a)) xs
unfolding changed_all
after_made s xs (Read o) = grind (arith, nat_tests)
after_made s xs (Question o v) = grind (arith, nat_tests)
after_made s xs (Put o v) = grind (arith, nat_tests)
after_made s xs (Clear u) = grind (arith, nat_tests)

-- what actions leave is worked out from them and their answers
after_all-made : (s : Shape) (xs : List ℕ) (more : List Action) → after_all s xs more ≡ changed_all s (made_by_all more (answers_of s xs more)) xs
unfolding changed_all answers_of made_by_all
after_all-made s xs [] = refl
after_all-made s xs (a ∷ more) =
    let made = made_by a (answer_of s xs a) in
    let rest = made_by_all more (answers_of s (after_action s xs a) more) in
    after_all-made s (after_action s xs a) more ∙ ap (changed_all s rest) (after_made s xs a) ∙ sym (changed_all-++ s made rest xs)

pub left_by_made : (s : Shape) (xs ys : List ℕ) (more : List Action) (rs : List (Result Answer PartRefusal)) → rs ≡ answers_of s xs more → ys ≡ after_all s xs more → ys ≡ changed_all s (made_by_all more rs) xs
left_by_made s xs ys more rs e f = f ∙ after_all-made s xs more ∙ ap (λ qs. changed_all s (made_by_all more qs) xs) (sym e)

pub made_by_last : (s : Shape) (xs ys : List ℕ) (more : List Action) (rs : List (Result Answer PartRefusal)) → rs ≡ answers_of s xs more → ys ≡ after_all s xs more → ByLast s (made_by_all more rs) xs ys
made_by_last s xs ys more rs e f = rw (left_by_made s xs ys more rs e f) (changed_all-by_last s (made_by_all more rs) xs)

-- one action more
pub after_all-push : (s : Shape) (a : Action) (more : List Action) (xs : List ℕ) → after_all s xs (more ++ a ∷ []) ≡ after_action s (after_all s xs more) a
after_all-push s a [] xs = refl
after_all-push s a (b ∷ more) xs = after_all-push s a more (after_action s xs b)

pub answers_of-push : (s : Shape) (a : Action) (more : List Action) (xs : List ℕ) → answers_of s xs (more ++ a ∷ []) ≡ answers_of s xs more ++ answer_of s (after_all s xs more) a ∷ []
unfolding answers_of
answers_of-push s a [] xs = refl
answers_of-push s a (b ∷ more) xs = ap (λ rs. answer_of s xs b ∷ rs) (answers_of-push s a more (after_action s xs b))

pub ruleset scripts = (take_all, left_by_made)
