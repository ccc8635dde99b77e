use Rattle.part.proofs.Buffers.{flash_built, eeprom_built, played_on}
use Rattle.part.proofs.stage.play_setup.Goals as goal

pub returns-in_ok-blank_buffer-in-Flash : goal.returns-in_ok-blank_buffer-in-Flash
returns-in_ok-blank_buffer-in-Flash c =
    let blank = c.in_ok-blank_buffer-in-Flash.ensures in
    let new = c.new-flash.ensures in
    let k = c.in-Flash in
    played_on _ _ _ _ _ k.is (flash_built k.buffer k.sectors k.words _ _ _ _ blank.items blank.len new.layout new.contents) c.play_over.ensures

pub returns-in_ok-blank_buffer-in-Eeprom : goal.returns-in_ok-blank_buffer-in-Eeprom
returns-in_ok-blank_buffer-in-Eeprom c =
    let blank = c.in_ok-blank_buffer-in-Eeprom.ensures in
    played_on _ _ _ _ _ c.in-Eeprom.is (eeprom_built c.in-Eeprom.buffer _ _ blank.items c.new-eeprom.ensures.contents) c.play_over-in-Eeprom.ensures
