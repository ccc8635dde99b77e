-- Laws of changes made in their order, for all who build on memory parts. Assumes nothing.
use Rattle.std.proofs.Common.{◌≡◌, ℕ, ◌<◌, true, false, List, [], ◌∷◌, ◌++◌, length, get_or, refl, ap, ◌∙◌, arith}
use Rattle.std.proofs.lemmas.List.{length-set, get_or-set_other, get_or_past}
use Rattle.std.proofs.lemmas.Grind.{get_or-set_at}
use Rattle.std.proofs.lemmas.Bool.Decides.{nat_tests}
use Rattle.memory.specs.Part.{Shape}
use Rattle.memory.specs.Changes.{Change, put, clear, changed, changed_all, covers, left, Untouched, ByLast}
use Rattle.memory.specs.Clearing.{length-cleared, get_or-cleared}

module _ (s : Shape) where
  pub changed_all-++ : (cs ds : List Change) (xs : List ℕ) → changed_all s (cs ++ ds) xs ≡ changed_all s ds (changed_all s cs xs)
  unfolding changed_all
  changed_all-++ [] ds xs = refl
  changed_all-++ (c ∷ cs) ds xs = changed_all-++ cs ds (changed s c xs)

  length_changed : (c : Change) (xs : List ℕ) → length (changed s c xs) ≡ length xs
  length_changed (put o v) xs = length-set xs o v
  length_changed (clear u) xs = length-cleared s.unit_of u xs

  pub length-changed_all : (cs : List Change) (xs : List ℕ) → length (changed_all s cs xs) ≡ length xs
  unfolding changed_all
  length-changed_all [] xs = refl
  length-changed_all (c ∷ cs) xs = length-changed_all cs (changed s c xs) ∙ length_changed c xs

  changed_elsewhere : (c : Change) (xs : List ℕ) (o : ℕ) → covers s o c ≡ false → get_or (changed s c xs) o 0 ≡ get_or xs o 0
  changed_elsewhere (put p v) xs o e = grind (arith, nat_tests, get_or-set_other)
  changed_elsewhere (clear u) xs o e = grind (arith, nat_tests, get_or-cleared, length-cleared, get_or_past)

  changed_here : (c : Change) (xs : List ℕ) (o : ℕ) → o < length xs → covers s o c ≡ true → get_or (changed s c xs) o 0 ≡ left c
  changed_here (put p v) xs o h e = grind (arith, nat_tests, get_or-set_at)
  changed_here (clear u) xs o h e = grind (arith, nat_tests, get_or-cleared)

  changed_all-elsewhere : (cs : List Change) (xs : List ℕ) (o : ℕ) → Untouched s o cs → get_or (changed_all s cs xs) o 0 ≡ get_or xs o 0
  unfolding changed_all
  changed_all-elsewhere [] xs o u = refl
  changed_all-elsewhere (c ∷ cs) xs o u = changed_all-elsewhere cs (changed s c xs) o u.1 ∙ changed_elsewhere c xs o u.0

  changed_all-last : (before : List Change) (c : Change) (after : List Change) (xs : List ℕ) (o : ℕ) → o < length xs → covers s o c ≡ true → Untouched s o after → get_or (changed_all s (before ++ (c ∷ after)) xs) o 0 ≡ left c
  unfolding changed_all
  changed_all-last before c after xs o h e u =
      let n = length-changed_all before xs in
      ap (λ ys. get_or ys o 0) (changed_all-++ before (c ∷ after) xs)
      ∙ changed_all-elsewhere after (changed s c (changed_all s before xs)) o u
      ∙ changed_here c (changed_all s before xs) o (omega arith) e

  pub changed_all-by_last : (cs : List Change) (xs : List ℕ) → ByLast s cs xs (changed_all s cs xs)
  changed_all-by_last cs xs = record {
    long = length-changed_all cs xs;
    last = λ o before c after h e v u. ap (λ ds. get_or (changed_all s ds xs) o 0) e ∙ changed_all-last before c after xs o h v u;
    untouched = λ o u. changed_all-elsewhere cs xs o u;
  }
