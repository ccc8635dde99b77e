-- Changes of a memory as values: single changes, lists of them, and what they leave.
use Rattle.std.specs.Prelude.{◌≡◌, ℕ, ◌<◌, Bool, true, false, cond, List, [], ◌∷◌, ◌++◌, map, length, ◌==◌, slice_index, slice_set}
use Rattle.std.specs.List.{range_with_len, AllByRecursion}
use Rattle.memory.specs.Part.{Shape}

-- a byte is put at an offset, or a unit is cleared
pub data Change : Type 0 where
  put : ℕ → ℕ → Change
  clear : ℕ → Change

-- every byte of the unit is 0xFF, and every other one stays
abbrev pub cleared_unit : (ℕ → ℕ) → ℕ → List ℕ → List ℕ
cleared_unit unit_of u xs = map (λ o. cond (unit_of o == u) 255 (slice_index xs o)) (range_with_len 0 (length xs))

-- contents after one change; a put past the end changes nothing
abbrev pub changed : Shape → Change → List ℕ → List ℕ
changed s (put o v) xs = slice_set xs o v
changed s (clear u) xs = cleared_unit s.unit_of u xs

-- contents after changes, made in their order
unfoldable pub changed_all : Shape → List Change → List ℕ → List ℕ
changed_all s [] xs = xs
changed_all s (c ∷ cs) xs = changed_all s cs (changed s c xs)

-- whether a change covers an offset
abbrev pub covers : Shape → ℕ → Change → Bool
covers s o (put p v) = o == p
covers s o (clear u) = s.unit_of o == u

-- what a change leaves where it covers
abbrev pub left : Change → ℕ
left (put o v) = v
left (clear u) = 255

-- no change of the list covers the offset
abbrev pub Untouched : Shape → ℕ → List Change → Type 0
Untouched s o cs = AllByRecursion (λ c. covers s o c ≡ false) cs

-- contents xs became ys by these changes: as long as before, and each byte is what the last change that
-- covers it left, else as it was
pub record ByLast (s : Shape) (cs : List Change) (xs ys : List ℕ) : Type 0 where
  pub long : length ys ≡ length xs
  pub last : (o : ℕ) (before : List Change) (c : Change) (after : List Change) → o < length xs → cs ≡ before ++ (c ∷ after) → covers s o c ≡ true → Untouched s o after → slice_index ys o ≡ left c
  pub untouched : (o : ℕ) → Untouched s o cs → slice_index ys o ≡ slice_index xs o
