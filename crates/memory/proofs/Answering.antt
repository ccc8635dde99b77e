-- What a put or a clear leaves. Assumes nothing.
use Rattle.std.proofs.Common.{◌≡◌, ℕ, List, length, arith}
use Rattle.std.proofs.lemmas.List.{length-set}
use Rattle.std.proofs.lemmas.Bool.Decides.{nat_tests}
use Rattle.memory.specs.Part.{Shape}
use Rattle.memory.specs.Calls.{after_put, after_clear}
use Rattle.memory.specs.Clearing.{length-cleared}

pub length-after_put : (s : Shape) (xs : List ℕ) (o v : ℕ) → length (after_put s xs o v) ≡ length xs
length-after_put s xs o v = grind (arith, nat_tests, length-set)

pub length-after_clear : (s : Shape) (xs : List ℕ) (u : ℕ) → length (after_clear s xs u) ≡ length xs
length-after_clear s xs u = grind (arith, nat_tests, length-cleared)
