-- Bytes stay bytes under changes that put bytes. Assumes nothing.
use Rattle.std.proofs.Common.{ℕ, Bool, true, false, cond, ◌+◌, ◌<◌, List, [], ◌∷◌, ◌++◌, length, take, map, Some, zero, suc, arith}
use Rattle.std.specs.Prelude.{Option, None, ◌==◌, slice_index, slice_set}
use Rattle.std.specs.List.{AllByRecursion, filter_map, cons_option, range_with_len}
use Rattle.memory.specs.Part.{Shape}
use Rattle.memory.specs.Changes.{Change, put, clear, changed_all, cleared_unit}
use Rattle.bootloader.specs.declared.space.Space.{Space}
use Rattle.bootloader.specs.Memories.{Placed, placed_in, changes_in, change_for, is_space, puts_from, clears_below, names}

abbrev pub AreBytes : List ℕ → Type 0
AreBytes xs = AllByRecursion (λ v. v < 256) xs

pub byte_at : (xs : List ℕ) (k : ℕ) → AreBytes xs → slice_index xs k < 256
byte_at [] k a = omega arith
byte_at (x ∷ xs) zero a = a.0
byte_at (x ∷ xs) (suc k) a = byte_at xs k a.1

pub all_both : {A : Type 0} (P : A → Type 0) (xs ys : List A) → AllByRecursion P xs → AllByRecursion P ys → AllByRecursion P (xs ++ ys)
all_both P [] ys a b = b
all_both P (x ∷ xs) ys a b = (a.0, all_both P xs ys a.1 b)

pub bytes_front : (n : ℕ) (xs : List ℕ) → AreBytes xs → AreBytes (take n xs)
bytes_front zero xs a = tt
bytes_front (suc n) [] a = tt
bytes_front (suc n) (x ∷ xs) a = (a.0, bytes_front n xs a.1)

bytes_set : (xs : List ℕ) (o v : ℕ) → v < 256 → AreBytes xs → AreBytes (slice_set xs o v)
bytes_set [] o v h a = tt
bytes_set (x ∷ xs) zero v h a = (h, a.1)
bytes_set (x ∷ xs) (suc o) v h a = (a.0, bytes_set xs o v h a.1)

bytes_map : (f : ℕ → ℕ) (os : List ℕ) → ((o : ℕ) → f o < 256) → AreBytes (map f os)
bytes_map f [] h = tt
bytes_map f (o ∷ os) h = (h o, bytes_map f os h)

bytes_cleared : (unit_of : ℕ → ℕ) (u : ℕ) (xs : List ℕ) → AreBytes xs → AreBytes (cleared_unit unit_of u xs)
bytes_cleared unit_of u xs a = bytes_map _ (range_with_len 0 (length xs)) (λ o. by o (unit_of o == u))
  where
    by : (o : ℕ) (t : Bool) → cond t 255 (slice_index xs o) < 256
    by o true = omega arith
    by o false = byte_at xs o a

-- a change that puts a byte, or clears
abbrev pub IsByteChange : Change → Type 0
IsByteChange (put o v) = v < 256
IsByteChange (clear u) = Unit {0}

pub bytes_changed : (s : Shape) (cs : List Change) (xs : List ℕ) → AllByRecursion IsByteChange cs → AreBytes xs → AreBytes (changed_all s cs xs)
unfolding changed_all
bytes_changed s [] xs h a = a
bytes_changed s (put o v ∷ cs) xs h a = bytes_changed s cs (slice_set xs o v) h.1 (bytes_set xs o v h.0 a)
bytes_changed s (clear u ∷ cs) xs h a = bytes_changed s cs (cleared_unit s.unit_of u xs) h.1 (bytes_cleared s.unit_of u xs a)

pub puts_bytes : (o : ℕ) (vs : List ℕ) → AreBytes vs → AllByRecursion IsByteChange (puts_from o vs)
unfolding puts_from
puts_bytes o [] a = tt
puts_bytes o (v ∷ vs) a = (a.0, puts_bytes (o + 1) vs a.1)

pub clears_bytes : (mask : Option ℕ) (n : ℕ) → AllByRecursion IsByteChange (clears_below mask n)
unfolding clears_below
clears_bytes mask zero = tt
clears_bytes mask (suc n) = all_both IsByteChange (clears_below mask n) (cond (names mask n) (clear n ∷ []) []) (clears_bytes mask n) (by (names mask n))
  where
    by : (t : Bool) → AllByRecursion IsByteChange (cond t (clear n ∷ []) [])
    by true = (tt, tt)
    by false = tt

-- the same of changes in several spaces
abbrev pub PutBytes : List Placed → Type 0
PutBytes ps = AllByRecursion (λ p. IsByteChange p.change) ps

pub placed_bytes : (s : Space) (cs : List Change) → AllByRecursion IsByteChange cs → PutBytes (placed_in s cs)
placed_bytes s [] a = tt
placed_bytes s (c ∷ cs) a = (a.0, placed_bytes s cs a.1)

pub in_bytes : (s : Space) (ps : List Placed) → PutBytes ps → AllByRecursion IsByteChange (changes_in s ps)
unfolding changes_in
in_bytes s [] a = tt
in_bytes s (p ∷ ps) a = by (is_space s p.space) (in_bytes s ps a.1)
  where
    by : (t : Bool) → AllByRecursion IsByteChange (filter_map (change_for s) ps) → AllByRecursion IsByteChange (cons_option (cond t (Some p.change) None) (filter_map (change_for s) ps))
    by true go = (a.0, go)
    by false go = go
