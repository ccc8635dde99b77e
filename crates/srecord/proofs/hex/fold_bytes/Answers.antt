use Rattle.std.proofs.Common.{[], sym, ◌∙◌, arith}
use Rattle.srecord.proofs.Pairs.{fold_more, fold_none, fold_end, fold_paired, fold_unpaired}
use Rattle.srecord.proofs.hex.fold_bytes.Goals as goal

pub returns-in_err-high-items : goal.returns-in_err-high-items
returns-in_err-high-items g c f h = c.from_residual.ensures ∙ fold_unpaired f c.args.start c.args.digits.now c.in_err-items.ensures

pub returns-in_err-pair : goal.returns-in_err-pair
returns-in_err-pair g c f h =
    let all = fold_paired f c.args.start c.args.digits.now c.in_ok-items.items.now c.in_ok-items.ensures in
    c.from_residual-in_err-pair.ensures
    ∙ sym (fold_none f c.loop-high.total c.in_ok-items.items.now c.loop-high.high-index [] (omega arith) c.in_err-pair.ensures)
    ∙ c.loop-high.invariant f h ∙ all

pub loop-high-preserved : goal.loop-high-preserved
loop-high-preserved g c f h =
    fold_more f c.loop-high.total c.in_ok-items.items.now c.loop-high.high-index [] c.in_ok-pair.field-0 _ (omega arith) c.in_ok-pair.ensures (h _ _ _ c.call-total.ensures)
    ∙ c.loop-high.invariant f h

pub returns : goal.returns
returns g c f h =
    let all = fold_paired f c.args.start c.args.digits.now c.in_ok-items.items.now c.in_ok-items.ensures in
    sym (fold_end f c.loop-high.total c.in_ok-items.items.now c.loop-high.high-index (omega arith)) ∙ c.loop-high.invariant f h ∙ all
