-- The mask of the sectors that pieces touch.
use Rattle.std.specs.Prelude.{◌≡◌, ℕ, ◌+◌, ◌*◌, ◌<◌, ◌≤◌, ◌⊎◌, List, [], ◌∷◌, length}
use Rattle.loading.specs.Mask.{Piece, marking, unit_in}

-- the mask of several pieces
abbrev pub mask_from : ℕ → ℕ → ℕ → List Piece → ℕ
mask_from sectors size mask [] = mask
mask_from sectors size mask (e ∷ es) = mask_from sectors size (marking sectors size mask e) es

abbrev pub mask_of : ℕ → ℕ → List Piece → ℕ
mask_of sectors size es = mask_from sectors size 0 es

-- a piece has a byte in a sector
pub record TouchesUnit (sectors size u : ℕ) (e : Piece) : Type 0 where
  pub index : ℕ
  pub inside : index < length e.bytes
  pub unit : unit_in sectors size (e.at + index) ≡ u

-- one of these has
abbrev pub SomeTouches : ℕ → ℕ → ℕ → List Piece → Type 0
SomeTouches sectors size u [] = ⊥
SomeTouches sectors size u (e ∷ es) = TouchesUnit sectors size u e ⊎ SomeTouches sectors size u es

-- a piece has bytes, and they lie in the sectors
pub record InSectors (sectors size : ℕ) (e : Piece) : Type 0 where
  pub some : 0 < length e.bytes
  pub inside : e.at + length e.bytes ≤ sectors * size
