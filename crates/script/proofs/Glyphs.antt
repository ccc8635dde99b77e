-- Hex digits as they are printed. Assumes nothing.
use Rattle.std.proofs.Common.{◌≡◌, ℕ, ◌+◌, ◌<◌, ◌-◌, ◌^◌, true, false, List, [], ◌∷◌, ◌++◌, length, get_or, take, flat_map, sym, ap, ◌∙◌}
use Rattle.std.specs.Fmt.{padded_integral, format_spec, digits}
use Rattle.std.proofs.lemmas.Fmt as fmt
use Rattle.std.proofs.lemmas.List.{take_more}
use Rattle.std.proofs.lemmas.List.Concat.{flat_map-append}
use Rattle.script.specs.Hex.{hex_byte}

-- a byte in two capital digits
pub hex_byte_shown : (n : ℕ) → n < 256 → padded_integral (format_spec 32 0 4 2 (2 ^ 64 - 1)) false [] (digits 16 true n) ≡ hex_byte n
hex_byte_shown n h = fmt.hex_byte true n h

-- one byte more of those that are printed
pub byte_more : (xs : List ℕ) (i : ℕ) → i < length xs → get_or xs i 0 < 256 → flat_map hex_byte (take i xs) ++ padded_integral (format_spec 32 0 4 2 (2 ^ 64 - 1)) false [] (digits 16 true (get_or xs i 0)) ≡ flat_map hex_byte (take (i + 1) xs)
byte_more xs i h b =
    ap (λ ds. flat_map hex_byte (take i xs) ++ ds) (hex_byte_shown (get_or xs i 0) b)
    ∙ sym (ap (flat_map hex_byte) (take_more xs i 0 h) ∙ flat_map-append hex_byte (take i xs) (get_or xs i 0 ∷ []))
