-- Laws of a cleared unit, for all who build on memory parts. Assumes nothing.
use Rattle.std.specs.Prelude.{◌≡◌, ℕ, ◌<◌, cond, List, length, ◌==◌, slice_index}
use Rattle.std.proofs.Common.{arith}
use Rattle.std.proofs.lemmas.List.FromFn.{length-map-range_with_len, get_or-map-range_with_len}
use Rattle.memory.specs.Changes.{cleared_unit}

pub length-cleared : (unit_of : ℕ → ℕ) (u : ℕ) (xs : List ℕ) → length (cleared_unit unit_of u xs) ≡ length xs
length-cleared unit_of u xs = length-map-range_with_len _ 0 (length xs)

pub get_or-cleared : (unit_of : ℕ → ℕ) (u : ℕ) (xs : List ℕ) (o : ℕ) → o < length xs → slice_index (cleared_unit unit_of u xs) o ≡ cond (unit_of o == u) 255 (slice_index xs o)
get_or-cleared unit_of u xs o h = get_or-map-range_with_len (λ k. cond (unit_of k == u) 255 (slice_index xs k)) 0 (length xs) o o 0 h (omega arith)
