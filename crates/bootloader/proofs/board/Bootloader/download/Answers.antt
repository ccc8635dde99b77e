use Rattle.std.proofs.Common.{sym, refl}
use Rattle.bootloader.specs.declared.command.Command.TheVariants.{DownloadSix}
use Rattle.bootloader.specs.Memories.{Memory, memory_of}
use Rattle.bootloader.specs.Dialog.{download_effect}
use Rattle.bootloader.proofs.Spaces.{download_none, dialog_in_flash, dialog_in_boot, dialog_in_eeprom}
use Rattle.bootloader.proofs.board.Bootloader.download.Goals as goal

pub returns-in-Flash-clause-after : goal.returns-in-Flash-clause-after
returns-in-Flash-clause-after g c =
    let x = c.args.self.now in
    let m : Memory = memory_of x.setup.base g.F.ReadablePart.BYTES_PER_ADDRESS (g.F.WritablePart.shape x.flash) (g.F.ReadablePart.contents x.flash) in
    let more = c.args.bytes.now in
    rw (c.download.ensures.after)
    (sym (dialog_in_flash _ (DownloadSix more) refl _ (download_effect x.session.dialog m more) c.in-Flash.is refl (download_none x.session.dialog m more)))

pub returns-in-Boot-clause-after : goal.returns-in-Boot-clause-after
returns-in-Boot-clause-after g c =
    let x = c.args.self.now in
    let m : Memory = memory_of 0 g.B.ReadablePart.BYTES_PER_ADDRESS (g.B.WritablePart.shape x.boot) (g.B.ReadablePart.contents x.boot) in
    let more = c.args.bytes.now in
    rw (c.download-in-Boot.ensures.after)
    (sym (dialog_in_boot _ (DownloadSix more) refl _ (download_effect x.session.dialog m more) c.in-Boot.is refl (download_none x.session.dialog m more)))

pub returns-in-Data-clause-after : goal.returns-in-Data-clause-after
returns-in-Data-clause-after g c =
    let x = c.args.self.now in
    let m : Memory = memory_of 0 g.E.ReadablePart.BYTES_PER_ADDRESS (g.E.WritablePart.shape x.eeprom) (g.E.ReadablePart.contents x.eeprom) in
    let more = c.args.bytes.now in
    rw (c.download-in-Data.ensures.after)
    (sym (dialog_in_eeprom _ (DownloadSix more) refl _ (download_effect x.session.dialog m more) c.in-Data.is refl (download_none x.session.dialog m more)))
