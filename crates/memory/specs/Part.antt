-- What a memory part means: its contents, which puts and clears change, and its shape, which nothing changes.
use Rattle.std.specs.Prelude.{◌≡◌, ℕ, ◌<◌, ◌≤◌, Bool, true, ◌⊎◌}

-- how a part takes changes: the number of its units, the unit of each offset, and whether it takes a new
-- value at an offset over the old one
pub record Shape : Type 0 where
  pub units : ℕ
  pub unit_of : ℕ → ℕ
  pub takes : ℕ → ℕ → ℕ → Bool

-- an address stands for one byte or for two
abbrev pub IsWidth : ℕ → Type 0
IsWidth w = (w ≡ 1) ⊎ (w ≡ 2)

-- what holds of every shape, at a part of this length: 1 to 32 units, each offset in one of them; and a value is taken
-- over itself and over a blank byte
pub record IsShape (length : ℕ) (s : Shape) : Type 0 where
  pub some_unit : 1 ≤ s.units
  pub few_units : s.units ≤ 32
  pub in_unit : (o : ℕ) → o < length → s.unit_of o < s.units
  pub takes_same : (o v : ℕ) → o < length → v < 256 → s.takes o v v ≡ true
  pub takes_blank : (o v : ℕ) → o < length → v < 256 → s.takes o 255 v ≡ true
