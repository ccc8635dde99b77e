use Rattle.std.proofs.Common.{ap, ◌∙◌, rules}
use Rattle.std.proofs.lemmas.Iterator.{items_from_collect}
use Rattle.std.proofs.lemmas.Iterator.Consumers.{YieldsList-at, YieldsList-from_first, YieldsList-from_filter_map}
use Rattle.srecord.specs.Reading.{items_of}
use Rattle.srecord.specs.Records.{handed_or_fault, left_of}
use Rattle.file_check.specs.Printed.{row_for}
use Rattle.file_check.proofs.Records.{rows_of-items}
use Rattle.file_check.proofs.rows.data_rows.Goals as goal

pub returns : goal.returns
returns c =
    rw (← rows_of-items) (items_from_collect _ c.collect.ensures.ran (YieldsList-from_filter_map _ row_for (YieldsList-at c.filter_map.ensures.source (YieldsList-from_first handed_or_fault left_of _ (c.records.ensures ∙ ap items_of c.new.ensures))) c.filter_map.ensures.closure (λ x r q k. search rules)))
