-- Equal sectors, counted from the highest offsets down. Assumes nothing.
use Rattle.std.proofs.Common.{◌≡◌, ℕ, ◌+◌, ◌-◌, ◌/◌, ◌<◌, ◌≤◌, List, length, mul-zero, arith}
use Rattle.std.proofs.lemmas.Nat.{div-mul-add, div_below}
use Rattle.memory.specs.declared.layout.Layout.{Layout}
use Rattle.memory.specs.Blank.{blanked}
use Rattle.memory.specs.Calls.{after_clear}
use Rattle.memory.specs.Eeprom.{eeprom_shape}
use Rattle.memory.specs.Flash.{flash_length, flash_shape, sector_start}
use Rattle.memory.specs.Units.{run_cleared}

module _ (l : Layout) (u : ℕ) (h : u < l.sectors) where
  sector_inside : sector_start l u + l.size ≤ flash_length l
  sector_inside = grind arith

  in_sector : (o : ℕ) → sector_start l u ≤ o → o < sector_start l u + l.size → l.sectors - 1 - o / l.size ≡ u
  in_sector o le lt = grind (arith, div-mul-add)

  only_sector : (o : ℕ) → o < flash_length l → l.sectors - 1 - o / l.size ≡ u → (sector_start l u ≤ o) × (o < sector_start l u + l.size)
  only_sector o lt e = let p : 0 < l.size = grind (arith, mul-zero) in grind (arith, div_below o l.size l.sectors)

-- a sector's offsets made blank, and the sector cleared, are the same
pub sector_cleared : (l : Layout) (u : ℕ) (xs : List ℕ) → length xs ≡ flash_length l → u < l.sectors → after_clear (flash_shape l) xs u ≡ blanked (sector_start l u) (sector_start l u + l.size) xs
sector_cleared l u xs long h =
    let i = sector_inside l u h in
    run_cleared (flash_shape l) u (sector_start l u) (sector_start l u + l.size) xs h (omega arith) (omega arith) (in_sector l u h) (λ o lt e. only_sector l u h o (omega arith) e)

-- the same of all bytes of an EEPROM
pub eeprom_cleared : (xs : List ℕ) (n u : ℕ) → n ≡ length xs → u < 1 → after_clear eeprom_shape xs u ≡ blanked 0 n xs
eeprom_cleared xs n u long h = run_cleared eeprom_shape u 0 n xs h (omega arith) (omega arith) (λ o _ _. omega arith) (λ o l _. (omega arith, omega arith))
