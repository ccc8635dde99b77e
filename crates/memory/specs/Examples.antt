-- Values written out, with what the definitions make of them.
use Rattle.std.specs.Prelude.{◌≡◌, true, false, [], ◌∷◌, ◌++◌, replicate, Some, None, Ok, Err}
use Rattle.memory.specs.declared.refusal.PartRefusal.TheVariants.{Outside, NotTaken, NoSuchUnit}
use Rattle.memory.specs.Calls.{refusal_number, question_answer, clear_answer, after_put}
use Rattle.memory.specs.Crc.{crc_from}
use Rattle.memory.specs.Eeprom.{eeprom_shape}
use Rattle.memory.specs.Crossing.{crossed_contents}
use Rattle.memory.specs.Changes.{cleared_unit}
use Rattle.memory.specs.Flash.{flash_takes, flash_shape, layout_of, word_layout}
use Rattle.memory.specs.Seal.{seal_of, stored_seal, seal_valid}

-- the CRC of the one byte 00, and of the bytes 12 34
pub record CrcExamples : Type 0 where
  pub one_zero_byte : crc_from 0xFFFF (0x00 ∷ []) ≡ 0x40BF
  pub two_bytes : crc_from 0xFFFF (0x12 ∷ 0x34 ∷ []) ≡ 0xC70C

-- flash with the byte F0 takes 30 and not 31; of four sectors of 16 words unit 0 is the last 32 bytes and unit 3 the
-- first
pub record FlashExamples : Type 0 where
  pub takes_30 : flash_takes 0xF0 0x30 ≡ true
  pub not_31 : flash_takes 0xF0 0x31 ≡ false
  pub first_byte : (flash_shape (word_layout 4 16)).unit_of 0 ≡ 3
  pub last_of_unit_1 : (flash_shape (word_layout 4 16)).unit_of 95 ≡ 1
  pub first_of_unit_0 : (flash_shape (word_layout 4 16)).unit_of 96 ≡ 0
  pub last_byte : (flash_shape (word_layout 4 16)).unit_of 127 ≡ 0
  pub cleared_sector : cleared_unit (flash_shape (word_layout 2 1)).unit_of 0 (1 ∷ 2 ∷ 3 ∷ 4 ∷ []) ≡ 1 ∷ 2 ∷ 255 ∷ 255 ∷ []

-- 1 to 32 sectors that lie in the buffer and within 1,048,576 bytes; otherwise one sector of no bytes
pub record LayoutExamples : Type 0 where
  pub exact : layout_of 128 4 16 ≡ record { sectors = 4; size = 32 }
  pub most_sectors : layout_of 128 32 2 ≡ record { sectors = 32; size = 4 }
  pub largest : layout_of 2000000 32 16384 ≡ record { sectors = 32; size = 32768 }
  pub no_words : layout_of 128 3 0 ≡ record { sectors = 3; size = 0 }
  pub no_sectors : layout_of 128 0 16 ≡ record { sectors = 1; size = 0 }
  pub too_many_sectors : layout_of 128 33 1 ≡ record { sectors = 1; size = 0 }
  pub short_buffer : layout_of 127 4 16 ≡ record { sectors = 1; size = 0 }
  pub too_large : layout_of 2000000 1 524289 ≡ record { sectors = 1; size = 0 }

-- the answers of a flash of one word, and the numbers of its refusals; of an EEPROM, which takes everything
pub record CallExamples : Type 0 where
  pub taken : question_answer (flash_shape (word_layout 1 1)) (0xF0 ∷ 0xFF ∷ []) 0 0x30 ≡ Ok true
  pub not_taken : question_answer (flash_shape (word_layout 1 1)) (0xF0 ∷ 0xFF ∷ []) 0 0x31 ≡ Ok false
  pub no_offset : question_answer (flash_shape (word_layout 1 1)) (0xF0 ∷ 0xFF ∷ []) 2 0x30 ≡ Err Outside
  pub put : after_put (flash_shape (word_layout 1 1)) (0xF0 ∷ 0xFF ∷ []) 0 0x30 ≡ 0x30 ∷ 0xFF ∷ []
  pub not_put : after_put (flash_shape (word_layout 1 1)) (0xF0 ∷ 0xFF ∷ []) 0 0x31 ≡ 0xF0 ∷ 0xFF ∷ []
  pub no_unit : clear_answer (flash_shape (word_layout 1 1)) 1 ≡ Err NoSuchUnit
  pub taken_by_eeprom : question_answer eeprom_shape (0xF0 ∷ []) 0 0x31 ≡ Ok true
  pub outside_is_1 : refusal_number Outside ≡ 1
  pub not_taken_is_2 : refusal_number NotTaken ≡ 2
  pub no_such_unit_is_3 : refusal_number NoSuchUnit ≡ 3

-- pairs change places, and a last byte without a pair stays
pub record CrossingExamples : Type 0 where
  pub even_length : crossed_contents (1 ∷ 2 ∷ 3 ∷ 4 ∷ []) ≡ 2 ∷ 1 ∷ 4 ∷ 3 ∷ []
  pub odd_length : crossed_contents (1 ∷ 2 ∷ 3 ∷ []) ≡ 2 ∷ 1 ∷ 3 ∷ []
  pub one_byte : crossed_contents (1 ∷ []) ≡ 1 ∷ []

-- the seal is the CRC of address 0 alone, until there is an address 128 that is whole; the stored one is the last two
-- bytes, high byte first
pub record SealExamples : Type 0 where
  pub nothing : seal_of 2 [] ≡ 0xFFFF
  pub half_address : seal_of 2 (0x12 ∷ []) ≡ 0xFFFF
  pub one_address : seal_of 2 (0x12 ∷ 0x34 ∷ 0x56 ∷ []) ≡ 0xC70C
  pub byte_address : seal_of 1 (0x00 ∷ 0x34 ∷ []) ≡ 0x40BF
  pub two_addresses : seal_of 2 (0x12 ∷ 0x34 ∷ (replicate 254 0 ++ 0x56 ∷ 0x78 ∷ [])) ≡ crc_from 0xFFFF (0x12 ∷ 0x34 ∷ 0x56 ∷ 0x78 ∷ [])
  pub half_of_128 : seal_of 2 (0x12 ∷ 0x34 ∷ (replicate 254 0 ++ 0x56 ∷ [])) ≡ 0xC70C
  pub stored : stored_seal (0 ∷ 0xC7 ∷ 0x0C ∷ []) ≡ Some 0xC70C
  pub none_stored : stored_seal (0xC7 ∷ []) ≡ None
  pub valid : seal_valid 2 (0x12 ∷ 0x34 ∷ []) (0xC7 ∷ 0x0C ∷ []) ≡ true
  pub bytes_swapped : seal_valid 2 (0x12 ∷ 0x34 ∷ []) (0x0C ∷ 0xC7 ∷ []) ≡ false
  pub no_store : seal_valid 2 [] (0xFF ∷ []) ≡ false
