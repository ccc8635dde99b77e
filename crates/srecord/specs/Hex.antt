-- Hex digits, and the bytes that pairs of them spell.
use Rattle.std.specs.Prelude.{◌≡◌, ℕ, ◌+◌, ◌-◌, ◌*◌, ◌/◌, ◌%◌, cond, ◌&&◌, List, [], ◌∷◌, length, Some, None, fold, Option, ◌==◌, nat_le}
use Rattle.std.specs.Simd.{first_chunks}

-- the value of a digit: 0 to 9, A to F or a to f; any other character is none
abbrev pub digit_value : ℕ → Option ℕ
digit_value c =
    cond (nat_le 48 c && nat_le c 57) (Some (c - 48))
    (cond (nat_le 65 c && nat_le c 70) (Some (c - 65 + 10))
    (cond (nat_le 97 c && nat_le c 102) (Some (c - 97 + 10)) None))

-- the byte of two digit values, high digit first; none where one is missing
abbrev pub byte_from : Option ℕ → Option ℕ → Option ℕ
byte_from None l = None
byte_from (Some h) None = None
byte_from (Some h) (Some l) = Some (h * 16 + l)

-- the byte of a pair of digits, high digit first
abbrev pub pair_value : ℕ → ℕ → Option ℕ
pair_value x y = byte_from (digit_value x) (digit_value y)

-- a byte in front of others; none where either is missing
abbrev pub in_front : Option ℕ → Option (List ℕ) → Option (List ℕ)
in_front None r = None
in_front (Some b) None = None
in_front (Some b) (Some bs) = Some (b ∷ bs)

-- the bytes that a row of pairs spells; none where a character is no digit or is left over
unfoldable pub bytes_of : List ℕ → Option (List ℕ)
bytes_of [] = Some []
bytes_of (x ∷ []) = None
bytes_of (x ∷ y ∷ cs) = in_front (pair_value x y) (bytes_of cs)

-- the number that a list of bytes writes, high byte first
abbrev pub number : List ℕ → ℕ
number bs = fold (λ v b. v * 256 + b) 0 bs

-- the digits two by two; none where one is left over
abbrev pub pairs_in : List ℕ → Option (List (List ℕ))
pairs_in cs = cond (length cs % 2 == 0) (Some (first_chunks 2 (length cs / 2) cs)) None

-- a step of a total answers what f says of it
abbrev pub Follows : {S : Type 0} → (S → ℕ → S → Type 0) → (S → ℕ → S) → Type 0
Follows {S} step f = (s : S) (b : ℕ) (t : S) → step s b t → t ≡ f s b
