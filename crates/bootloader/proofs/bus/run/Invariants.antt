use Rattle.std.proofs.Common.{◌≡◌, ◌++◌, take, drop}
use Rattle.bootloader.specs.Events.{board_behind, replies_to}
use Rattle.bootloader.specs.BusLog.{events_of, replies_of}
use Rattle.bootloader.proofs.bus.run.Given as goal

abbrev pub invariant-loop-entry : goal.invariant-loop-entry
invariant-loop-entry g l =
    let now = g.D.Device.board l.device in
    let start = g.D.Device.board l.initial.device in
    let events = events_of l.initial.entries in
    record {
      same : events_of l.entries ≡ events;
      replies : take l.entry-index (replies_of l.entries) ++ replies_to now (drop l.entry-index events) ≡ replies_to start events;
      after : board_behind now (drop l.entry-index events) ≡ board_behind start events;
    }
