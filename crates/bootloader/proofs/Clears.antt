-- Units that are cleared one after the other. Assumes nothing.
use Rattle.std.proofs.Common.{◌≡◌, ℕ, suc, ◌+◌, ◌<◌, ◌^◌, ◌/◌, true, false, cond, List, [], ◌∷◌, refl, ap, ◌∙◌, mod-lt, arith}
use Rattle.std.specs.Prelude.{Option, nat_lt, ◌==◌}
use Rattle.std.proofs.lemmas.Bool.Decides.{nat_tests}
use Rattle.std.proofs.lemmas.Nat.{pow_pos, div_below, div-add-mod'}
use Rattle.memory.specs.Part.{Shape}
use Rattle.memory.specs.Calls.{after_clear}
use Rattle.memory.specs.Changes.{clear, changed_all}
use Rattle.memory.specs.Changing.{changed_all-++}
use Rattle.bootloader.specs.Memories.{names, clears_below}

module _ (s : Shape) (mask : Option ℕ) (xs : List ℕ) where
  -- nothing is cleared below unit 0
  pub clears_below-none : changed_all s (clears_below mask 0) xs ≡ xs
  unfolding clears_below changed_all
  clears_below-none = refl

  pub clears_below-named : (u : ℕ) → u < s.units → names mask u ≡ true
      → changed_all s (clears_below mask (u + 1)) xs ≡ after_clear s (changed_all s (clears_below mask u) xs) u
  unfolding clears_below changed_all
  clears_below-named u h n =
      let e : u + 1 ≡ suc u = omega arith in
      ap (λ k. changed_all s (clears_below mask k) xs) e
      ∙ changed_all-++ s (clears_below mask u) (cond (names mask u) (clear u ∷ []) []) xs
      ∙ grind (arith, nat_tests)

  pub clears_below-passed : (u : ℕ) → names mask u ≡ false → changed_all s (clears_below mask (u + 1)) xs ≡ changed_all s (clears_below mask u) xs
  unfolding clears_below changed_all
  clears_below-passed u n =
      let e : u + 1 ≡ suc u = omega arith in
      ap (λ k. changed_all s (clears_below mask k) xs) e
      ∙ changed_all-++ s (clears_below mask u) (cond (names mask u) (clear u ∷ []) []) xs
      ∙ grind (arith, nat_tests)

-- a number all of whose bits are below bit n
pub shifted_out : (m n : ℕ) → (m / 2 ^ n == 0) ≡ nat_lt m (2 ^ n)
shifted_out m n = below m (2 ^ n) (pow_pos n)
  where
    below : (m k : ℕ) → 0 < k → (m / k == 0) ≡ nat_lt m k
    below m k p = grind (arith, nat_tests, div-add-mod' m k, mod-lt m p, div_below m k 1 p)
