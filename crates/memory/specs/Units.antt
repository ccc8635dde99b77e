-- How a unit that is one run of offsets is cleared, for all who write a part. Assumes nothing.
use Rattle.std.specs.Prelude.{◌≡◌, ℕ, ◌<◌, ◌≤◌, List, length}
use Rattle.std.proofs.Common.{sym, ◌∙◌, arith}
use Rattle.std.proofs.lemmas.List.FromFn.{fill_by_all}
use Rattle.std.proofs.lemmas.Bool.Decides.{nat_tests}
use Rattle.std.proofs.lemmas.Grind.{elements}
use Rattle.memory.specs.Blank.{blanked}
use Rattle.memory.specs.Calls.{after_clear}
use Rattle.memory.specs.Changes.{cleared_unit}
use Rattle.memory.specs.Part.{Shape}

-- where the offsets of a unit are those from a on and below b, it is cleared by making them blank
module _ (s : Shape) (u a b : ℕ) (xs : List ℕ) where
  clear-done : u < s.units → after_clear s xs u ≡ cleared_unit s.unit_of u xs
  clear-done h = grind (arith, nat_tests)

  pub run_cleared : u < s.units → a ≤ b → b ≤ length xs → ((o : ℕ) → a ≤ o → o < b → s.unit_of o ≡ u) → ((o : ℕ) → o < length xs → s.unit_of o ≡ u → (a ≤ o) × (o < b)) → after_clear s xs u ≡ blanked a b xs
  run_cleared h le in_length inside only =
      clear-done h ∙ sym (fill_by_all _ (blanked a b xs) (length xs) 0 (grind (arith, elements)) (λ k lt. grind (arith, nat_tests, elements, inside k, only k lt)))
