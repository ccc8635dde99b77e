-- Going down a text line by line. Assumes nothing.
use Rattle.std.proofs.Common.{◌≡◌, ℕ, ◌+◌, cond, eqb, ltb, List, [], ◌∷◌, length, drop, refl, arith}
use Rattle.std.proofs.lemmas.Bool.Decides.{nat_tests}
use Rattle.std.specs.List.{position_or_len}
use Rattle.file_check.specs.Causes.{behind_lines}

-- where the first line ends
abbrev pub feed_of : List ℕ → ℕ
feed_of xs = position_or_len (λ c. eqb c 10) xs

-- behind one line more, if there is one
pub behind_feed : (n : ℕ) (xs : List ℕ) → behind_lines (n + 1) xs ≡ cond (ltb (feed_of xs) (length xs)) (behind_lines n (drop (feed_of xs + 1) xs)) []
unfolding behind_lines
behind_feed n [] = refl
behind_feed n (x ∷ xs) = grind (arith, nat_tests, behind_feed n xs)

pub behind_none : (xs : List ℕ) → behind_lines 0 xs ≡ xs
unfolding behind_lines
behind_none [] = refl
behind_none (x ∷ xs) = refl
