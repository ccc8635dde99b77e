use Rattle.std.proofs.Common.{sym, refl}
use Rattle.bootloader.specs.declared.command.Command.TheVariants.{BuildChecksum}
use Rattle.bootloader.specs.Memories.{Memory, memory_of}
use Rattle.bootloader.specs.Dialog.{record_effect}
use Rattle.bootloader.proofs.Spaces.{record_only, in_flash, in_boot, in_eeprom}
use Rattle.bootloader.proofs.board.Bootloader.program.Goals as goal

pub returns-in-Flash-clause-after : goal.returns-in-Flash-clause-after
returns-in-Flash-clause-after g c =
    let x = c.args.self.now in
    let d = x.session.dialog in
    let m : Memory = memory_of x.setup.base g.F.ReadablePart.BYTES_PER_ADDRESS (g.F.WritablePart.shape x.flash) (g.F.ReadablePart.contents x.flash) in
    rw (c.program.ensures.after, c.program.ensures.part, c.program.ensures.same)
    (sym (in_flash _ (BuildChecksum 1 c.args.crc) refl _ (record_only d c.args.crc) (record_effect d m c.args.crc) c.in-Flash.is refl))

pub returns-in-Boot-clause-after : goal.returns-in-Boot-clause-after
returns-in-Boot-clause-after g c =
    let x = c.args.self.now in
    let d = x.session.dialog in
    let m : Memory = memory_of 0 g.B.ReadablePart.BYTES_PER_ADDRESS (g.B.WritablePart.shape x.boot) (g.B.ReadablePart.contents x.boot) in
    rw (c.program-in-Boot.ensures.after, c.program-in-Boot.ensures.part, c.program-in-Boot.ensures.same)
    (sym (in_boot _ (BuildChecksum 1 c.args.crc) refl _ (record_only d c.args.crc) (record_effect d m c.args.crc) c.in-Boot.is refl))

pub returns-in-Data-clause-after : goal.returns-in-Data-clause-after
returns-in-Data-clause-after g c =
    let x = c.args.self.now in
    let d = x.session.dialog in
    let m : Memory = memory_of 0 g.E.ReadablePart.BYTES_PER_ADDRESS (g.E.WritablePart.shape x.eeprom) (g.E.ReadablePart.contents x.eeprom) in
    rw (c.program-in-Data.ensures.after, c.program-in-Data.ensures.part, c.program-in-Data.ensures.same)
    (sym (in_eeprom _ (BuildChecksum 1 c.args.crc) refl _ (record_only d c.args.crc) (record_effect d m c.args.crc) c.in-Data.is refl))
