use Rattle.std.proofs.Common.{◌∙◌, ap}
use Rattle.memory.specs.Crossing.{crossed_contents}
use Rattle.capi.proofs.Told.{tells}
use Rattle.capi.proofs.load.load_blank.Goals as goal

pub returns : goal.returns
returns c =
    tells _ _ _ _ _ _ _ _ _ _ _ _ _ c.load_over-board.ensures c.in_ok-blank_board.ensures c.numbers.ensures
    (c.as_slice.ensures.value ∙ (c.in_ok-flash.ensures ∙ ap (λ f. crossed_contents f.below.cells.bytes.items) c.flash.ensures))
    c.crc_over.ensures.answer
