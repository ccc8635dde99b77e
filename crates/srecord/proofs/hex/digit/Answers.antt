-- The table is what the rule of a digit makes of each code, which antt computes.
use Rattle.std.proofs.Common.{◌≡◌, ℕ, nat_lt, unwrap_or, arith, rules}
use Rattle.std.specs.Bool.{then_some}
use Rattle.std.proofs.lemmas.List.FromFn.{get_or-map-range_with_len}
use Rattle.std.proofs.lemmas.Bool.Decides.{nat_tests}
use Rattle.srecord.specs.Hex.{digit_value}
use Rattle.srecord.proofs.hex.digit.Goals as goal

-- what the table has for a code: 16 where it is no digit's
abbrev entry : ℕ → ℕ
entry c = unwrap_or (digit_value c) 16

below_16 : (c : ℕ) → then_some (nat_lt (entry c) 16) (entry c) ≡ digit_value c
below_16 c = grind (arith, nat_tests)

pub returns : goal.returns
returns c =
    let entry = get_or-map-range_with_len entry 0 256 c.args.c c.args.c 0 (search rules) (omega arith) in
    rw c.then_some.ensures (rw c.from.ensures (rw entry (below_16 c.args.c)))
