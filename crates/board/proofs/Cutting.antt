-- Words that are cut at a character, and words in brackets. Assumes nothing.
use Rattle.std.proofs.Common.{◌≡◌, ℕ, ◌<◌, List, Some, None, Option, arith}
use Rattle.std.specs.Borrow.{Bor}
use Rattle.std.specs.Option.{option_map}
use Rattle.std.proofs.lemmas.Bool.Decides.{nat_tests}
use Rattle.std.proofs.lemmas.Str.Pattern.{IsSplitOnceResult, split_once_first, starts_text, ends_text}
use Rattle.board.specs.Frame.{cut_at}

-- what `split_once` answers
pub cut_found : (c : ℕ) (bs : List ℕ) (r : Option (Bor (List ℕ) × Bor (List ℕ))) → IsSplitOnceResult c bs r → c < 128 → option_map (λ p. (p.0.now, p.1.now)) r ≡ cut_at c bs
cut_found c bs None h k = let e = split_once_first c bs None h k in grind (arith, nat_tests)
cut_found c bs (Some x) h k = let e = split_once_first c bs (Some x) h k in let b = e.0 in let f = e.1 in let g = e.2 in grind (arith, nat_tests)

pub ruleset bracketed = (starts_text, ends_text)
