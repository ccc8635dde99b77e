use Rattle.std.proofs.Common.{ap, ◌∙◌}
use Rattle.load.proofs.Blanks.{flash_made}
use Rattle.load.proofs.bench.bench_flash.Goals as goal

pub returns : goal.returns
returns c =
    let blank = c.in_ok-cells.ensures in
    flash_made _ _ _ _ blank.items blank.len
    (ap (λ f. f.layout) c.new.ensures.below ∙ c.new-flash.ensures.layout)
    (ap (λ f. f.cells.bytes.items) c.new.ensures.below ∙ c.new-flash.ensures.contents)
