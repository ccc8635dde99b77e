-- How the meaning of words goes on from word to word. Assumes nothing.
use Rattle.std.proofs.Common.{◌≡◌, ℕ, List, [], ◌∷◌, Ok, refl}
use Rattle.std.proofs.lemmas.List.{nil_from_length}
use Rattle.file_check.specs.Options.{Next, nothing, Settings, help_asked, taken, ended, goes_on, meaning_from}

pub meaning_ended : (n : Next) (s : Settings) → meaning_from n s [] ≡ ended n s
unfolding meaning_from
meaning_ended n s = refl

pub meaning_more : (n : Next) (s : Settings) (w : List ℕ) (ws : List (List ℕ)) → meaning_from n s (w ∷ ws) ≡ goes_on (λ m t. meaning_from m t ws) (taken n s w)
unfolding meaning_from
meaning_more n s w ws = refl

pub meaning_helped : (s : Settings) (ws : List (List ℕ)) → meaning_from nothing s ws ≡ Ok help_asked
unfolding meaning_from
meaning_helped s [] = refl
meaning_helped s (w ∷ ws) = meaning_helped s ws

-- from word to word, and at their end
pub ruleset word_steps = (meaning_ended, meaning_more, meaning_helped, nil_from_length)
