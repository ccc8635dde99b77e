-- Numbers as they are written in texts.
use Rattle.std.specs.Prelude.{ℕ, ◌^◌, Bool, cond, ◌&&◌, List, [], ◌∷◌, length, Some, None, codes, Option, ◌==◌, nat_lt}
use Rattle.std.specs.List.{list_all}
use Rattle.std.specs.Char.{digit_value}
use Rattle.std.specs.Str.Parse.{digits_value}

-- one digit or more of this radix, and nothing else
abbrev pub are_digits : ℕ → List ℕ → Bool
are_digits radix ds = nat_lt 0 (length ds) && list_all (λ c. nat_lt (digit_value c) radix) ds

-- the number that digits write, if they are digits alone and it is below 2^64
abbrev pub numeral : ℕ → List ℕ → Option ℕ
numeral radix ds = cond (are_digits radix ds && nat_lt (digits_value radix ds) (2 ^ 64)) (Some (digits_value radix ds)) None

-- what follows a prefix of a word; none where the word does not begin with it
abbrev pub behind : List ℕ → List ℕ → Option (List ℕ)
behind [] w = Some w
behind (p ∷ ps) [] = None
behind (p ∷ ps) (c ∷ cs) = cond (c == p) (behind ps cs) None

-- hex digits behind their mark, or a decimal number
abbrev pub marked : List ℕ → Option (List ℕ) → Option ℕ
marked w (Some ds) = numeral 16 ds
marked w None = numeral 10 w

-- the number that a word writes: decimal digits, or hex digits behind 0x
abbrev pub number_of : List ℕ → Option ℕ
number_of w = marked w (behind (codes "0x") w)

-- hex digits behind their mark, or without it
abbrev pub unmarked : List ℕ → Option (List ℕ) → List ℕ
unmarked w (Some ds) = ds
unmarked w None = w

-- the number that a word writes in hex digits, with 0x in front or not
abbrev pub hex_number_of : List ℕ → Option ℕ
hex_number_of w = numeral 16 (unmarked w (behind (codes "0x") w))
