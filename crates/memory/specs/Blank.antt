-- Bytes that were cleared.
use Rattle.std.specs.Prelude.{ℕ, ◌-◌, List, ◌++◌, take, drop, replicate}

-- the bytes from offset a on and below offset b are 0xFF
abbrev pub blanked : ℕ → ℕ → List ℕ → List ℕ
blanked a b xs = take a xs ++ (replicate (b - a) 255 ++ drop b xs)
