-- Lines and texts written out, with what is read of them.
use Rattle.std.specs.Prelude.{◌≡◌, ℕ, ◌+◌, ◌*◌, [], ◌∷◌, Some, None, Ok, Err, codes}
use Rattle.srecord.specs.declared.line.Fault.TheVariants.{Shape, Checksum}
use Rattle.srecord.specs.Hex.{bytes_of, number}
use Rattle.srecord.specs.Line.{fault_number, header, record_at, count_is, end, line_of}
use Rattle.srecord.specs.Reading.{coming_of}

-- each field of it is one example
pub record Examples : Type 0 where
  -- a data line at 0x1000 with two bytes, and what its digits spell
  pub a_data_line : line_of (codes "S10510001234A4") ≡ Ok (record_at 4096 (codes "1234"))
  pub its_bytes : bytes_of (codes "1234") ≡ Some (18 ∷ 52 ∷ [])
  -- the same line with another checksum, and the number of that fault
  pub a_wrong_checksum : line_of (codes "S10510001234A5") ≡ Err Checksum
  pub its_number : fault_number Checksum ≡ 4
  -- a header, and data lines with three and four address bytes
  pub a_header : line_of (codes "S00600004844521B") ≡ Ok (header (codes "484452"))
  pub three_bytes : line_of (codes "S205123456ABB3") ≡ Ok (record_at 1193046 (codes "AB"))
  pub four_bytes : line_of (codes "S30612345678AB3A") ≡ Ok (record_at 305419896 (codes "AB"))
  -- a count of two data lines, and end lines of the three types, one in small digits
  pub a_count : line_of (codes "S5030002FA") ≡ Ok (count_is 2)
  pub an_end : line_of (codes "S9030000fc") ≡ Ok end
  pub a_longer_end : line_of (codes "S8041234565F") ≡ Ok end
  pub the_longest_end : line_of (codes "S70512345678E6") ≡ Ok end
  -- types that are not taken, data in an end line, and an end line with another checksum
  pub type_4 : line_of (codes "S4030001FB") ≡ Err Shape
  pub type_6 : line_of (codes "S6030001FB") ≡ Err Shape
  pub data_in_an_end : line_of (codes "S904000000FB") ≡ Err Shape
  pub a_wrong_end : line_of (codes "S9030000FD") ≡ Err Checksum
  -- four bytes as a number, high byte first
  pub a_number : (a b c d : ℕ) → number (a ∷ b ∷ c ∷ d ∷ []) ≡ a * 16777216 + b * 65536 + c * 256 + d
  -- a file of two lines, ended in the two ways
  pub a_file : coming_of (codes "S10510001234A4\r\nS9030000FC\n") ≡ record { records = record { line = 1; address = 4096; digits = codes "1234" } ∷ []; fault = None }
