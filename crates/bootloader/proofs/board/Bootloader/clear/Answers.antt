use Rattle.std.proofs.Common.{sym, refl, ap}
use Rattle.std.specs.Prelude.{Some, None}
use Rattle.bootloader.specs.declared.command.Command.TheVariants.{Clear}
use Rattle.bootloader.specs.Memories.{Memory, memory_of}
use Rattle.bootloader.specs.Dialog.{clear_effect}
use Rattle.bootloader.specs.Board.{mask_for}
use Rattle.bootloader.proofs.Spaces.{clear_only, in_flash, in_boot, in_eeprom}
use Rattle.bootloader.proofs.board.Bootloader.clear.Goals as goal

pub returns-in-Flash-clause-after : goal.returns-in-Flash-clause-after
returns-in-Flash-clause-after g c =
    let x = c.args.self.now in
    let d = x.session.dialog in
    let m : Memory = memory_of x.setup.base g.F.ReadablePart.BYTES_PER_ADDRESS (g.F.WritablePart.shape x.flash) (g.F.ReadablePart.contents x.flash) in
    rw (c.clear.ensures.after, c.clear.ensures.part, c.clear.ensures.same)
    (sym (in_flash _ (Clear c.args.mask) refl _ (clear_only d (mask_for d.space c.args.mask)) (clear_effect d m (Some c.args.mask)) c.in-Flash.is (ap (λ s. clear_effect d m (mask_for s c.args.mask)) c.in-Flash.is)))

pub returns-in-Boot-clause-after : goal.returns-in-Boot-clause-after
returns-in-Boot-clause-after g c =
    let x = c.args.self.now in
    let d = x.session.dialog in
    let m : Memory = memory_of 0 g.B.ReadablePart.BYTES_PER_ADDRESS (g.B.WritablePart.shape x.boot) (g.B.ReadablePart.contents x.boot) in
    rw (c.clear-in-Boot.ensures.after, c.clear-in-Boot.ensures.part, c.clear-in-Boot.ensures.same)
    (sym (in_boot _ (Clear c.args.mask) refl _ (clear_only d (mask_for d.space c.args.mask)) (clear_effect d m (None)) c.in-Boot.is (ap (λ s. clear_effect d m (mask_for s c.args.mask)) c.in-Boot.is)))

pub returns-in-Data-clause-after : goal.returns-in-Data-clause-after
returns-in-Data-clause-after g c =
    let x = c.args.self.now in
    let d = x.session.dialog in
    let m : Memory = memory_of 0 g.E.ReadablePart.BYTES_PER_ADDRESS (g.E.WritablePart.shape x.eeprom) (g.E.ReadablePart.contents x.eeprom) in
    rw (c.clear-in-Data.ensures.after, c.clear-in-Data.ensures.part, c.clear-in-Data.ensures.same)
    (sym (in_eeprom _ (Clear c.args.mask) refl _ (clear_only d (mask_for d.space c.args.mask)) (clear_effect d m (None)) c.in-Data.is (ap (λ s. clear_effect d m (mask_for s c.args.mask)) c.in-Data.is)))
