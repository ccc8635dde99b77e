use Rattle.std.proofs.Common.{◌≡◌, ◌≤◌, Err, eqb, length, rules, arith, sym}
use Rattle.std.proofs.lemmas.Iterator.Consumers.{YieldsList-at, YieldsList-turn, YieldsList-end, YieldsList-from_enumerate}
use Rattle.std.proofs.lemmas.Iterator.Splits.{YieldsList-from_slice_split}
use Rattle.std.proofs.lemmas.List.{length_push}
use Rattle.std.proofs.lemmas.List.FromFn.{length-enumerate_from}
use Rattle.script.specs.Line.{lines_of}
use Rattle.script.proofs.Steps.{IsTurn, numbered_turn}
use Rattle.board.specs.Line.{saying_by}
use Rattle.board.specs.Log.{draft_by}
use Rattle.board.proofs.Steps.{went_on, stopped, not_added, at_end, fell}
use borrow.Author.Tests.{tests}
use Rattle.board.proofs.draft.read_log.Goals as goal
use Rattle.board.proofs.draft.read_log.Goals.{In-Some, In-None}

turn : (c : In-Some) → IsTurn (lines_of c.args.text.now) (length c.loop-index.yielded) c.in-Some.index c.in-Some.line.now
turn c =
    numbered_turn _ _ _ _ (YieldsList-turn (YieldsList-at c.into_iter-index-iterator.ensures.into_iter_gives (YieldsList-from_enumerate (YieldsList-at c.enumerate-index-items.ensures.source (YieldsList-from_slice_split _ (λ b. eqb b 10) c.args.text.now c.split.ensures.rest c.split.ensures.done c.split.ensures.closure (λ x b q k. search (rules, tests)))) c.enumerate-index-items.ensures.count)) c.loop-index.yielded _ c.loop-index.yielded_by _ _ (c.in-Some.index, c.in-Some.line) c.in-Some.is c.next.ensures.steps)

-- no line is left at the end
past : (c : In-None) → length (lines_of c.args.text.now) ≤ length c.loop-index.yielded
past c =
    let e = YieldsList-end (YieldsList-at c.into_iter-index-iterator.ensures.into_iter_gives (YieldsList-from_enumerate (YieldsList-at c.enumerate-index-items.ensures.source (YieldsList-from_slice_split _ (λ b. eqb b 10) c.args.text.now c.split.ensures.rest c.split.ensures.done c.split.ensures.closure (λ x b q k. search (rules, tests)))) c.enumerate-index-items.ensures.count)) c.loop-index.yielded _ c.loop-index.yielded_by _ _ c.in-None.is c.next.ensures.steps in
    omega (arith, e.1, length-enumerate_from 0 (lines_of c.args.text.now))

pub loop-index-preserved : goal.loop-index-preserved
loop-index-preserved c =
    let at = goal.at.loop-index-preserved c in
    went_on _ _ _ _ (turn at.In-Some) _ _ c.loop-index.invariant (saying_by c.in-Ok.said) (draft_by c.in_ok-draft-in-Ok.draft) _ (sym c.in-Ok.ensures) (sym c.in_ok-draft-in-Ok.ensures) (length_push _ _)

pub returns-in_err-draft-in-Ok : goal.returns-in_err-draft-in-Ok
returns-in_err-draft-in-Ok c =
    let at = goal.at.returns-in_err-draft-in-Ok c in
    let handed_on : c.from_residual.result ≡ Err c.in_err-draft-in-Ok.field-0.0 = search rules in
    rw handed_on (fell _ _ _ c.in_err-draft-in-Ok.ensures (λ w e. not_added _ _ _ _ (turn at.In-Some) _ _ c.loop-index.invariant (saying_by c.in-Ok.said) w (sym c.in-Ok.ensures) e))

pub returns-in-Err-Wrong : goal.returns-in-Err-Wrong
returns-in-Err-Wrong c =
    let at = goal.at.returns-in-Err-Wrong c in
    let wrong = rw c.in-Err-Wrong.field-0-is at c.in-Err-Wrong.ensures in
    rw (c.refused.ensures, c.in-Err-Wrong.field-0-is) (stopped _ _ _ _ (turn at.In-Some) _ _ c.loop-index.invariant _ (sym wrong))

pub returns : goal.returns
returns c =
    let at = goal.at.returns c in
    let e = at_end (lines_of c.args.text.now) (length c.loop-index.yielded) _ _ c.loop-index.invariant (past at.In-None) in
    rw e at c.complete.ensures
