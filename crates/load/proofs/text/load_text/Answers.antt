use Rattle.std.proofs.Common.{ap, sym, ◌∙◌, arith}
use Rattle.load.proofs.Loads.{told_too_long, told_loaded}
use Rattle.load.proofs.text.load_text.Goals as goal

pub returns-then-text-gt-MAX_TEXT : goal.returns-then-text-gt-MAX_TEXT
returns-then-text-gt-MAX_TEXT c =
    told_too_long _ _ _ _ _ _ (omega (arith, c.if-text-gt-MAX_TEXT.true)) c.too_long-report.ensures c.told.ensures

pub returns : goal.returns
returns c =
    let link = c.new-link.ensures in
    let trace = c.into_parts-wire.ensures.trace in
    told_loaded _ _ _ (λ p. p.trace) (λ p q f r h. h.0.0) (λ p q f r h. h.1) _ _ c.new-link.result c.load-report.new.link _ _
    (omega (arith, c.if-text-gt-MAX_TEXT.false))
    (rw link.link (c.new.ensures.board ∙ c.in_ok-bench_board.ensures))
    link.frames
    (ap (λ t. t.is_cut) (sym trace) ∙ c.if-trace.false)
    c.load-report.ensures.answer
    c.load-report.ensures.bounded
    (c.as_slice.ensures.value ∙ ap (λ t. t.frames.items) trace)
    c.told-2.ensures
