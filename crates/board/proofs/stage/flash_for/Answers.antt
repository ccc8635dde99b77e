use Rattle.std.proofs.Common.{ap, ◌∙◌, arith}
use Rattle.memory.specs.Crossing.{crossed_contents}
use Rattle.board.specs.Stage.{flash_showing}
use Rattle.board.proofs.Stages.{flash_staged}
use Rattle.board.proofs.stage.flash_for.Goals as goal

pub returns : goal.returns
returns c =
    let below = c.in_ok-below.ensures ∙ ap (λ e. crossed_contents e.cells.bytes.items) c.new-exchanged.ensures.below ∙ ap crossed_contents c.new-uncrossed.ensures.contents in
    flash_staged c.args.log.now.plan _ _ _ _ _ _ c.in_ok-shown.ensures below (omega (arith, c.in_ok-below.below.ok.0))
    (ap (λ f. f.layout) c.new.ensures.below ∙ c.new-flash.ensures.layout)
    (ap (λ f. f.cells.bytes.items) c.new.ensures.below ∙ c.new-flash.ensures.contents)
    ∙ ap (flash_showing c.args.log.now.plan) c.in_ok-shown.ensures
