-- The examples hold by computation. Assumes nothing.
use Rattle.std.proofs.Common.{refl, arith}
use Rattle.srecord.specs.Examples.{Examples}
use Rattle.srecord.specs.Hex.{bytes_of}
use Rattle.srecord.specs.Reading.{coming_from}
use Rattle.srecord.specs.Text.{lines_of}

pub examples : Examples
unfolding bytes_of coming_from lines_of
examples = record {
  a_data_line = refl;
  its_bytes = refl;
  a_wrong_checksum = refl;
  its_number = refl;
  a_header = refl;
  three_bytes = refl;
  four_bytes = refl;
  a_count = refl;
  an_end = refl;
  a_longer_end = refl;
  the_longest_end = refl;
  type_4 = refl;
  type_6 = refl;
  data_in_an_end = refl;
  a_wrong_end = refl;
  a_number = λ a b c d. omega arith;
  a_file = refl;
}
