use Rattle.std.proofs.Common.{◌≡◌, ◌≤◌, ◌++◌, length, map, drop, vec_items, vec_len, vec_capacity}
use Rattle.bootloader.specs.BusLog.{events_of}
use Rattle.board.specs.Replay.{event_by}
use Rattle.board.proofs.happening.entries_of.Given as goal

abbrev pub invariant-loop-happening : goal.invariant-loop-happening
invariant-loop-happening l =
    record {
      len : vec_len l.entries ≡ l.happening-index;
      room : length l.happenings ≤ vec_capacity l.entries;
      events : events_of (vec_items l.entries) ++ map event_by (drop l.happening-index l.happenings) ≡ map event_by l.happenings;
    }
