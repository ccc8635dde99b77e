use Rattle.bootloader.proofs.Turns.{frame_laws, tick_laws}
use Rattle.bootloader.proofs.Saying.{said}
use Rattle.bootloader.proofs.Carrying.{carried, answers, stored}
use Rattle.bootloader.proofs.Connecting.{connects, connect_keeps, disconnect_keeps}
use Rattle.bootloader.proofs.Starting.{starts}
use Rattle.bootloader.proofs.Running.{joined, same, sound}
use Rattle.bootloader.proofs.laws.board_laws.Goals as goal

pub returns : goal.returns
returns c = record {
  law = record {
    frames = frame_laws;
    ticks = tick_laws;
    said = said;
    carried = carried;
    answers = answers;
    stored = stored;
    connects = connects;
    connect_keeps = connect_keeps;
    disconnect_keeps = disconnect_keeps;
    starts = starts;
    joined = joined;
    same = same;
    sound = sound;
  };
}
