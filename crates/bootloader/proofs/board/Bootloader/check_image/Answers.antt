use Rattle.std.proofs.Common.{rules, sym, ◌∙◌}
use Rattle.bootloader.proofs.Spaces.{image_sealed}
use Rattle.bootloader.proofs.board.Bootloader.check_image.Goals as goal

pub returns-clause-after : goal.returns-clause-after
returns-clause-after g c = c.seal_image.ensures.after ∙ sym (image_sealed _ c.args.crc (search rules) (search rules))
