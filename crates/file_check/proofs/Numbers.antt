-- What the parse of a number answers, by the words of specs/Words.antt. Assumes nothing.
use Rattle.std.proofs.Common.{◌≡◌, ℕ, ◌^◌, ◌<◌, Bool, true, false, List, length, Ok, Err, Result, refl, rules, arith}
use Rattle.std.specs.Result.{result_ok, OkIff}
use Rattle.std.specs.Str.Parse.{IsNumeral, digits_value, without_leading_plus, ParsesUnsigned}
use Rattle.std.specs.Str.{all_ascii_digits}
use Rattle.std.proofs.lemmas.Str.Parse.{IsNumeralModel, numerals_by_fold}
use Rattle.std.proofs.lemmas.Bool.Decides.{nat_tests}
use Rattle.file_check.specs.Words.{read_on, numeral, size_of}

own : IsNumeralModel (λ ds. all_ascii_digits ds ≡ true) (read_on 0)
own = numerals_by_fold _ (search rules) read_on (search rules)

-- a text parses as the number of a size, where it is one
pub size_read : {E : Type 0} (w : List ℕ) (r : Result ℕ E) → ParsesUnsigned 64 10 w r → result_ok r ≡ size_of w
size_read w r h = go (without_leading_plus w) (all_ascii_digits (without_leading_plus w)) refl r h
  where
    go : {E : Type 0} (ds : List ℕ) (b : Bool) → all_ascii_digits ds ≡ b → (r : Result ℕ E) → OkIff r (IsNumeral 10 ds × (digits_value 10 ds < 2 ^ 64)) (digits_value 10 ds) → result_ok r ≡ numeral ds
    go ds true q (Ok n) h = grind (arith, nat_tests, own.same ds (own.to ds q))
    go ds true q (Err e) h = let k = λ (a : 0 < length ds) (b : digits_value 10 ds < 2 ^ 64). h ((a, own.to ds q), b) in grind (arith, nat_tests, own.same ds (own.to ds q), k)
    go ds false q (Ok n) h = let a = own.from ds h.0.0.1 in cc
    go ds false q (Err e) h = grind (arith, nat_tests)
