-- The laws that the parts owe of their lengths and shapes. Assumes nothing.
use Rattle.std.specs.Prelude.{◌≡◌, ℕ, ◌<◌, ◌≤◌, List, length, bit_and}
use Rattle.std.specs.Int.Bits.{and_self}
use Rattle.std.proofs.Common.{◌∙◌, arith}
use Rattle.std.proofs.lemmas.Bool.{eq-eqb}
use Rattle.std.proofs.lemmas.Bool.Decides.{nat_tests}
use Rattle.std.proofs.lemmas.List.FromFn.{length-map-range_with_len}
use Rattle.std.proofs.lemmas.Nat.{and_mask}
use Rattle.memory.specs.declared.layout.Layout.{Layout}
use Rattle.memory.specs.Part.{Shape, IsShape}
use Rattle.memory.specs.Flash.{flash_shape}
use Rattle.memory.specs.Crossing.{crossed, crossed_contents, crossed_shape}

pub flash-shaped : (n : ℕ) (l : Layout) → 1 ≤ l.sectors → l.sectors ≤ 32 → IsShape n (flash_shape l)
flash-shaped n l some few = record {
  some_unit = some;
  few_units = few;
  in_unit = λ o h. omega arith;
  takes_same = λ o v h b. eq-eqb (bit_and v v) v (and_self v);
  takes_blank = λ o v h b. eq-eqb (bit_and v 255) v (and_mask v 8 ∙ omega arith);
}

pub cross_inside : (n o : ℕ) → o < n → crossed n o < n
cross_inside n o h = grind (arith, nat_tests)

pub length-crossed : (xs : List ℕ) → length (crossed_contents xs) ≡ length xs
length-crossed xs = length-map-range_with_len _ 0 (length xs)

pub crossed-shaped : (xs : List ℕ) (s : Shape) → IsShape (length xs) s → IsShape (length (crossed_contents xs)) (crossed_shape (length xs) s)
crossed-shaped xs s i =
    let n = length-crossed xs in
    let c : (o : ℕ) → o < length (crossed_contents xs) → crossed (length xs) o < length xs = λ o h. cross_inside (length xs) o (omega arith) in
    record {
      some_unit = i.some_unit;
      few_units = i.few_units;
      in_unit = λ o h. i.in_unit (crossed (length xs) o) (c o h);
      takes_same = λ o v h b. i.takes_same (crossed (length xs) o) v (c o h) b;
      takes_blank = λ o v h b. i.takes_blank (crossed (length xs) o) v (c o h) b;
    }
