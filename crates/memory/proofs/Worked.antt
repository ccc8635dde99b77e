-- The worked examples hold: each side computes to the same value. Assumes nothing.
use Rattle.std.proofs.Common.{refl}
use Rattle.memory.specs.Crc.{crc_bits}
use Rattle.memory.specs.Examples.{CrcExamples, FlashExamples, LayoutExamples, CallExamples, CrossingExamples, SealExamples}
use Rattle.memory.specs.Seal.{sampled}

pub crc_examples : CrcExamples
unfolding crc_bits
crc_examples = record { one_zero_byte = refl; two_bytes = refl }

pub flash_examples : FlashExamples
flash_examples = record { takes_30 = refl; not_31 = refl; first_byte = refl; last_of_unit_1 = refl; first_of_unit_0 = refl; last_byte = refl; cleared_sector = refl }

pub layout_examples : LayoutExamples
layout_examples = record { exact = refl; most_sectors = refl; largest = refl; no_words = refl; no_sectors = refl; too_many_sectors = refl; short_buffer = refl; too_large = refl }

pub call_examples : CallExamples
call_examples = record { taken = refl; not_taken = refl; no_offset = refl; put = refl; not_put = refl; no_unit = refl; taken_by_eeprom = refl; outside_is_1 = refl; not_taken_is_2 = refl; no_such_unit_is_3 = refl }

pub crossing_examples : CrossingExamples
crossing_examples = record { even_length = refl; odd_length = refl; one_byte = refl }

pub seal_examples : SealExamples
unfolding crc_bits sampled
seal_examples = record { nothing = refl; half_address = refl; one_address = refl; byte_address = refl; two_addresses = refl; half_of_128 = refl; stored = refl; none_stored = refl; valid = refl; bytes_swapped = refl; no_store = refl }
