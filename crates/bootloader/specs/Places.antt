-- Laws of changes in several spaces, and of those in one, for all who build on a board. Assumes nothing.
use Rattle.std.proofs.Common.{◌≡◌, ℕ, true, false, List, [], ◌∷◌, refl, arith}
use Rattle.memory.specs.Part.{Shape}
use Rattle.memory.specs.Changes.{Change, changed_all}
use Rattle.bootloader.specs.declared.space.Space.{Space}
use Rattle.bootloader.specs.declared.space.Space.TheVariants.{Flash, Register, Boot, Data}
use Rattle.bootloader.specs.Memories.{is_space, placed_in, changes_in}

is_space-same : (s : Space) → is_space s s ≡ true
is_space-same Flash = refl
is_space-same Register = refl
is_space-same Boot = refl
is_space-same Data = refl

-- changes that all are in one space
pub changes_in_same : (s : Space) (cs : List Change) → changes_in s (placed_in s cs) ≡ cs
unfolding changes_in
changes_in_same s [] = refl
changes_in_same s (c ∷ cs) = grind (arith, is_space-same s, changes_in_same s cs)

pub changes_in_other : (s t : Space) (cs : List Change) → is_space s t ≡ false → changes_in s (placed_in t cs) ≡ []
unfolding changes_in
changes_in_other s t [] h = refl
changes_in_other s t (c ∷ cs) h = grind (arith, changes_in_other s t cs h)

pub changes_in_none : (s : Space) → changes_in s [] ≡ []
unfolding changes_in
changes_in_none s = refl

-- no change in any space
pub unchanged : (s : Space) (shape : Shape) (xs : List ℕ) → changed_all shape (changes_in s []) xs ≡ xs
unfolding changes_in changed_all
unchanged s shape xs = refl

pub none_made : (shape : Shape) (xs : List ℕ) → changed_all shape [] xs ≡ xs
unfolding changed_all
none_made shape xs = refl

pub ruleset places = (changes_in_same, unchanged)
