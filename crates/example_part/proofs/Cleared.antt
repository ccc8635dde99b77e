-- A page that is made blank is the unit cleared. Assumes nothing.
use Rattle.std.proofs.Common.{◌≡◌, ℕ, ◌+◌, ◌*◌, ◌/◌, ◌<◌, ◌≤◌, List, length, mul-zero, arith}
use Rattle.std.proofs.Math.Nat.{lt-div-mul-add, div-mul-le_self}
use Rattle.std.proofs.lemmas.Nat.{div-mul-add}
use Rattle.example_part.specs.declared.pages.Pages.{Pages}
use Rattle.memory.specs.Blank.{blanked}
use Rattle.memory.specs.Calls.{after_clear}
use Rattle.memory.specs.Units.{run_cleared}
use Rattle.example_part.specs.Once.{all_pages, once_shape}

module _ (p : Pages) (u : ℕ) (h : u < p.count) where
  page_inside : u * p.size + p.size ≤ all_pages p
  page_inside = grind arith

  in_page : (o : ℕ) → u * p.size ≤ o → o < u * p.size + p.size → o / p.size ≡ u
  in_page o le lt = grind (arith, div-mul-add)

  only_page : (o : ℕ) → o < all_pages p → o / p.size ≡ u → (u * p.size ≤ o) × (o < u * p.size + p.size)
  only_page o lt e = let some : 0 < p.size = grind (arith, mul-zero) in grind (arith, lt-div-mul-add {a = o} some, div-mul-le_self o p.size)

pub page_cleared : (p : Pages) (u : ℕ) (xs : List ℕ) → length xs ≡ all_pages p → u < p.count → after_clear (once_shape p) xs u ≡ blanked (u * p.size) (u * p.size + p.size) xs
page_cleared p u xs long h =
    let i = page_inside p u h in
    run_cleared (once_shape p) u (u * p.size) (u * p.size + p.size) xs h (omega arith) (omega arith) (in_page p u h) (λ o lt e. only_page p u h o (omega arith) e)
