-- Pieces in a memory, one after the other.
use Rattle.std.specs.Prelude.{◌≡◌, ℕ, ◌+◌, ◌<◌, ◌≤◌, ◌⊎◌, List, [], ◌∷◌, length, slice_index}
use Rattle.std.specs.List.{AllByRecursion}
use Rattle.memory.specs.Part.{Shape}
use Rattle.memory.specs.Changes.{changed_all}
use Rattle.bootloader.specs.Memories.{puts_from}
use Rattle.loading.specs.Mask.{Piece}

-- contents after pieces are put, in their order
abbrev pub after_pieces : Shape → List Piece → List ℕ → List ℕ
after_pieces s [] xs = xs
after_pieces s (e ∷ es) xs = after_pieces s es (changed_all s (puts_from e.at e.bytes) xs)

-- each piece lies behind those before it
abbrev pub InOrder : List Piece → Type 0
InOrder [] = Unit {0}
InOrder (e ∷ es) = AllByRecursion (λ l. e.at + length e.bytes ≤ l.at) es × InOrder es

-- an offset lies in no piece
abbrev pub Outside : ℕ → Piece → Type 0
Outside k e = (k < e.at) ⊎ (e.at + length e.bytes ≤ k)

-- the pieces stand in the contents, and nothing else changed
pub record HoldsPieces (es : List Piece) (old new : List ℕ) : Type 0 where
  pub long : length new ≡ length old
  pub pieces : AllByRecursion (λ e. (i : ℕ) → i < length e.bytes → slice_index new (e.at + i) ≡ slice_index e.bytes i) es
  pub others : (k : ℕ) → AllByRecursion (Outside k) es → slice_index new k ≡ slice_index old k
