-- What the parse of digits answers, by the words of specs/Number.antt. Assumes nothing.
use Rattle.std.proofs.Common.{◌≡◌, ℕ, ◌^◌, ◌<◌, Bool, true, false, ◌&&◌, ltb, List, [], ◌∷◌, length, get_or, Ok, Err, Result, refl, arith, ◌≢◌}
use Rattle.std.proofs.lemmas.Bool.Decides.{nat_tests}
use Rattle.std.proofs.lemmas.Str.Parse.{without_leading_plus_none}
use Rattle.std.specs.Char.{digit_value}
use Rattle.std.specs.List.{list_all}
use Rattle.std.specs.Result.{result_ok, OkIff}
use Rattle.std.specs.Str.Parse.{AllDigits, IsNumeral, digits_value, ParsesUnsigned}
use Rattle.script.specs.Number.{numeral}

-- the test of digits
are : ℕ → List ℕ → Bool
are radix ds = list_all (λ c. ltb (digit_value c) radix) ds

from_test : (radix : ℕ) (ds : List ℕ) → are radix ds ≡ true → AllDigits radix ds
unfolding are
from_test radix [] h = tt
from_test radix (c ∷ cs) h = go (ltb (digit_value c) radix) refl h (from_test radix cs)
  where
    go : (b : Bool) → ltb (digit_value c) radix ≡ b → (b && are radix cs) ≡ true → (are radix cs ≡ true → AllDigits radix cs) → AllDigits radix (c ∷ cs)
    go true e k more = let d : digit_value c < radix = grind (arith, nat_tests) in (d, more k)
    go false e k more = cc

to_test : (radix : ℕ) (ds : List ℕ) → AllDigits radix ds → are radix ds ≡ true
unfolding are
to_test radix [] h = refl
to_test radix (c ∷ cs) h = let e = to_test radix cs h.1 in let k = h.0 in grind (arith, nat_tests)

-- digits without a plus in front parse as their numeral, where there is one
pub numeral_read : {E : Type 0} (radix : ℕ) (ds : List ℕ) (r : Result ℕ E) → ParsesUnsigned 64 radix ds r → get_or ds 0 0 ≢ 43 → result_ok r ≡ numeral radix ds
unfolding are
numeral_read {E} radix ds r h unsigned = go (are radix ds) refl r (rw (without_leading_plus_none ds unsigned) at h)
  where
    go : (b : Bool) → are radix ds ≡ b → (r : Result ℕ E) → OkIff r (IsNumeral radix ds × (digits_value radix ds < 2 ^ 64)) (digits_value radix ds) → result_ok r ≡ numeral radix ds
    go true q (Ok n) k = grind (arith, nat_tests)
    go true q (Err e) k = let f = λ (a : 0 < length ds) (b : digits_value radix ds < 2 ^ 64). k ((a, from_test radix ds q), b) in grind (arith, nat_tests, f)
    go false q (Ok n) k = let a = to_test radix ds k.0.0.1 in cc
    go false q (Err e) k = grind (arith, nat_tests)
