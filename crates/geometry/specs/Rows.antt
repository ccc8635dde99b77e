-- The boards that are listed.
use Rattle.std.specs.Prelude.{ℕ, ◌≤◌, Bool, ◌==◌, ◌||◌, ◌&&◌, nat_le, if◌then◌else◌, List, [], ◌∷◌, Option, Some, None}
use Rattle.geometry.specs.declared.rows.Row.{Row}
use Rattle.geometry.specs.declared.rows.Listed.{Listed}

-- a part ID lies among those from the first to the last
abbrev pub is_listed : ℕ → ℕ → ℕ → Bool
is_listed first last id = nat_le first id && nat_le id last

abbrev pub row : ℕ → ℕ → ℕ → Option Row
row base sectors words = Some (record { base = base; sectors = sectors; words = words })

-- the row of a part ID; there are part IDs without one
abbrev pub row_of : ℕ → Option Row
row_of id =
    if id == 0x2C then row 0x3F4000 4 0x1000
    else if id == 0x24 || id == 0x34 then row 0x3F0000 4 0x2000
    else if id == 0x3C then row 0x3E8000 4 0x4000
    else if id == 0xFE || is_listed 0x9C 0x9F id then row 0x3D8000 8 0x4000
    else if id == 0xED then row 0x330000 4 0x4000
    else if id == 0xEE then row 0x320000 8 0x4000
    else if id == 0xEF then row 0x300000 8 0x8000
    else if id == 0x01 then row 0x1000 4 0x10
    else None

-- the first row in a list that a part ID has
abbrev pub row_in : List Listed → ℕ → Option Row
row_in [] id = None
row_in (l ∷ ls) id = if is_listed l.first l.last id then Some l.row else row_in ls id

-- what rows have in common
pub record IsRow (r : Row) : Type 0 where
  pub some : 1 ≤ r.sectors
  pub few : r.sectors ≤ 8
  pub words : 1 ≤ r.words
  pub small : r.words ≤ 0x8000
