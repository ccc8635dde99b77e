use Rattle.std.proofs.Common.{◌≡◌, ◌++◌, take, drop}
use Rattle.capi.specs.Replay.{exchanged}
use Rattle.capi.proofs.replay.exchange.Given as goal

abbrev pub invariant-loop-place : goal.invariant-loop-place
invariant-loop-place g l =
    take l.place-index l.frames ++ exchanged (g.D.Device.board l.board) (drop l.place-index l.frames)
    ≡ exchanged (g.D.Device.board l.initial.board) l.initial.frames
