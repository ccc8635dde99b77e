use Rattle.std.proofs.Common.{◌≡◌, ◌++◌, map, replicate}
use Rattle.bootloader.specs.Events.{tick}
use Rattle.board.specs.Replay.{event_by}
use Rattle.board.proofs.draft.push_ticks.Given as goal

abbrev pub invariant-loop : goal.invariant-loop
invariant-loop l = map event_by l.happenings.items ≡ map event_by l.initial.happenings.items ++ replicate l.counter tick
