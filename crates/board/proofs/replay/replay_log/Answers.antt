use Rattle.std.proofs.Common.{map, ap, ◌∙◌}
use Rattle.bootloader.specs.BusLog.{events_of}
use Rattle.board.specs.Replay.{event_by, report_of}
use Rattle.board.specs.Stage.{meant_by, board_at_start}
use Rattle.board.proofs.Rows.{report_made}
use Rattle.board.proofs.Stages.{board_staged}
use Rattle.board.proofs.replay.replay_log.Goals as goal

pub returns : goal.returns
returns c =
    let g = meant_by c.args.log.now in
    let start = board_staged g _ _ _ c.in_ok-flash.ensures c.in_ok-boot.ensures c.in_ok-data.ensures in
    let events = ap events_of c.as_mut_slice-entries.ensures.value ∙ c.in_ok-entries.ensures ∙ ap (map event_by) c.as_slice.ensures.value in
    let all = report_made _ _ _ _ _ c.replay-board.ensures.same c.replay-board.ensures.replies c.replay-board.ensures.after
    ∙ ap (λ b. report_of b (events_of c.as_mut_slice-entries.result.now)) start
    ∙ ap (report_of (board_at_start g)) events in
    rw all at c.report_on.ensures
