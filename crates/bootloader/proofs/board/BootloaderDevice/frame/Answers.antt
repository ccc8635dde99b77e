use Rattle.bootloader.proofs.Turns.{frame_laws}
use Rattle.bootloader.proofs.board.BootloaderDevice.frame.Goals as goal

pub returns-clause-law : goal.returns-clause-law
returns-clause-law g c = frame_laws _ _ _ _
