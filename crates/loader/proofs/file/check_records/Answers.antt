use Rattle.std.proofs.Common.{false, ap, ◌∙◌}
use Rattle.srecord.specs.Records.{left_of}
use Rattle.srecord.specs.Reading.{items_of, coming_of}
use Rattle.loader.proofs.Suiting.{suits_items, suits-items}
use Rattle.loader.proofs.file.check_records.Goals as goal

pub loop-record-init : goal.loop-record-init
loop-record-init c =
    ap (suits_items c.args.width 0 false) (ap left_of c.into_iter-record-iterator.ensures.into_iter_gives ∙ c.records-record-items.ensures ∙ ap items_of c.new.ensures)
    ∙ suits-items c.args.width 0 false (coming_of c.args.text.now)
