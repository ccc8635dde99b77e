-- What a Clear by a mask leaves. Assumes nothing.
use Rattle.std.proofs.Common.{◌≡◌, ℕ, Bool, true, false, cond, ◌&&◌, ◌<◌, List, [], ◌∷◌, length, zero, suc, refl, sym, ap, ◌∙◌, arith}
use Rattle.std.specs.Prelude.{Option, ◌==◌, nat_lt, slice_index}
use Rattle.std.proofs.lemmas.Bool.Decides.{nat_tests}
use Rattle.memory.specs.Part.{Shape}
use Rattle.memory.specs.Changes.{clear, changed_all, cleared_unit}
use Rattle.memory.specs.Clearing.{get_or-cleared}
use Rattle.memory.specs.Changing.{changed_all-++, length-changed_all}
use Rattle.bootloader.specs.Memories.{names, clears_below}

module _ (s : Shape) (mask : Option ℕ) (xs : List ℕ) (k : ℕ) (inside : k < length xs) where
  -- the unit of k is among the first n and named
  abbrev hit : ℕ → Bool
  hit n = nat_lt (s.unit_of k) n && names mask (s.unit_of k)

  next_other : (n : ℕ) → (s.unit_of k == n) ≡ false → hit (suc n) ≡ hit n
  next_other n e = let same : nat_lt (s.unit_of k) (suc n) ≡ nat_lt (s.unit_of k) n = grind (arith, nat_tests) in ap (λ t. t && names mask (s.unit_of k)) same

  same_unit : (n : ℕ) → (s.unit_of k == n) ≡ true → s.unit_of k ≡ n
  same_unit n e = grind (arith, nat_tests)

  next_here : (n : ℕ) → (s.unit_of k == n) ≡ true → hit (suc n) ≡ names mask n
  next_here n e =
      let test : nat_lt (s.unit_of k) (suc n) ≡ true = grind (arith, nat_tests) in
      ap (λ t. t && names mask (s.unit_of k)) test ∙ ap (names mask) (same_unit n e)

  not_hit : (n : ℕ) → (s.unit_of k == n) ≡ true → hit n ≡ false
  not_hit n e = let test : nat_lt (s.unit_of k) n ≡ false = grind (arith, nat_tests) in ap (λ t. t && names mask (s.unit_of k)) test

  clear_more : (n : ℕ) (ys : List ℕ) (t : Bool) → k < length ys → (s.unit_of k == n) ≡ t → names mask n ≡ true → slice_index ys k ≡ cond (hit n) 255 (slice_index xs k)
      → slice_index (cleared_unit s.unit_of n ys) k ≡ cond (hit (suc n)) 255 (slice_index xs k)
  clear_more n ys true l e q h =
      get_or-cleared s.unit_of n ys k l ∙ (ap (λ t. cond t 255 (slice_index ys k)) e ∙ sym (ap (λ t. cond t 255 (slice_index xs k)) (next_here n e ∙ q)))
  clear_more n ys false l e q h =
      get_or-cleared s.unit_of n ys k l ∙ (ap (λ t. cond t 255 (slice_index ys k)) e ∙ (h ∙ sym (ap (λ t. cond t 255 (slice_index xs k)) (next_other n e))))

  keep_more : (n : ℕ) (ys : List ℕ) (t : Bool) → (s.unit_of k == n) ≡ t → names mask n ≡ false → slice_index ys k ≡ cond (hit n) 255 (slice_index xs k)
      → slice_index ys k ≡ cond (hit (suc n)) 255 (slice_index xs k)
  keep_more n ys true e q h = h ∙ (ap (λ t. cond t 255 (slice_index xs k)) (not_hit n e) ∙ sym (ap (λ t. cond t 255 (slice_index xs k)) (next_here n e ∙ q)))
  keep_more n ys false e q h = h ∙ sym (ap (λ t. cond t 255 (slice_index xs k)) (next_other n e))

  more : (n : ℕ) (t : Bool) (ys : List ℕ) → k < length ys → names mask n ≡ t → slice_index ys k ≡ cond (hit n) 255 (slice_index xs k)
      → slice_index (changed_all s (cond t (clear n ∷ []) []) ys) k ≡ cond (hit (suc n)) 255 (slice_index xs k)
  unfolding changed_all
  more n true ys l q h = clear_more n ys (s.unit_of k == n) l refl q h
  more n false ys l q h = keep_more n ys (s.unit_of k == n) refl q h

  pub cleared_by : (n : ℕ) → slice_index (changed_all s (clears_below mask n) xs) k ≡ cond (hit n) 255 (slice_index xs k)
  unfolding clears_below changed_all
  cleared_by zero = let none : hit zero ≡ false = grind (arith, nat_tests) in sym (ap (λ t. cond t 255 (slice_index xs k)) none)
  cleared_by (suc n) =
      let ys : List ℕ = changed_all s (clears_below mask n) xs in
      let long : k < length ys = omega (arith, inside, length-changed_all s (clears_below mask n) xs) in
      ap (λ zs. slice_index zs k) (changed_all-++ s (clears_below mask n) (cond (names mask n) (clear n ∷ []) []) xs)
      ∙ more n (names mask n) ys long refl (cleared_by n)
