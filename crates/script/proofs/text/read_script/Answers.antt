use Rattle.std.proofs.Common.{◌≡◌, [], ◌∷◌, ◌++◌, eqb, length, Result, rules, arith, ap, sym, ◌∙◌, Ok, is_ok, true, refl, ◌≤◌}
use Rattle.std.proofs.lemmas.Iterator.Consumers.{YieldsList-at, YieldsList-turn, YieldsList-end, YieldsList-from_enumerate}
use Rattle.std.proofs.lemmas.Iterator.Splits.{YieldsList-from_slice_split}
use Rattle.std.proofs.lemmas.List.{length_push}
use Rattle.std.proofs.lemmas.List.FromFn.{length-enumerate_from}
use Rattle.std.specs.Option.{is_some}
use Rattle.script.specs.declared.text.Said.TheVariants.{Nothing, Part, Act}
use Rattle.script.specs.declared.text.Said.{Said}
use Rattle.script.specs.declared.fault.Fault.{Fault}
use Rattle.script.specs.Line.{lines_of}
use Rattle.script.specs.Text.{said_of, said_by}
use Rattle.script.proofs.Steps.{IsTurn, numbered_turn, went_on, stopped, at_end}
use borrow.Author.Tests.{tests}
use Rattle.script.proofs.text.read_script.Goals as goal
use Rattle.script.proofs.text.read_script.Goals.{After-read_line, In-Some, In-None}

turn : (c : In-Some) → IsTurn (lines_of c.args.text.now) (length c.loop-index.yielded) c.in-Some.index c.in-Some.line.now
turn c =
    numbered_turn _ _ _ _ (YieldsList-turn (YieldsList-at c.into_iter-index-iterator.ensures.into_iter_gives (YieldsList-from_enumerate (YieldsList-at c.enumerate-index-items.ensures.source (YieldsList-from_slice_split _ (λ b. eqb b 10) c.args.text.now c.split.ensures.rest c.split.ensures.done c.split.ensures.closure (λ x b q k. search (rules, tests)))) c.enumerate-index-items.ensures.count)) c.loop-index.yielded _ c.loop-index.yielded_by _ _ (c.in-Some.index, c.in-Some.line) c.in-Some.is c.next.ensures.steps)

-- no line is left at the end
past : (c : In-None) → length (lines_of c.args.text.now) ≤ length c.loop-index.yielded
past c =
    let e = YieldsList-end (YieldsList-at c.into_iter-index-iterator.ensures.into_iter_gives (YieldsList-from_enumerate (YieldsList-at c.enumerate-index-items.ensures.source (YieldsList-from_slice_split _ (λ b. eqb b 10) c.args.text.now c.split.ensures.rest c.split.ensures.done c.split.ensures.closure (λ x b q k. search (rules, tests)))) c.enumerate-index-items.ensures.count)) c.loop-index.yielded _ c.loop-index.yielded_by _ _ c.in-None.is c.next.ensures.steps in
    omega (arith, e.1, length-enumerate_from 0 (lines_of c.args.text.now))

heard : (c : After-read_line) (r : Result Said Fault) → c.read_line.result ≡ r → said_of (is_some c.loop-index.setup) c.in-Some.line.now ≡ said_by r
heard c r e =
    ap (λ b. said_of b c.in-Some.line.now) (sym c.is_some.ensures) ∙ sym c.read_line.ensures ∙ ap said_by e

pub loop-index-preserved-in-Ok-Nothing : goal.loop-index-preserved-in-Ok-Nothing
loop-index-preserved-in-Ok-Nothing c =
    let at = goal.at.loop-index-preserved-in-Ok-Nothing c in
    went_on _ _ _ _ (turn at.In-Some) _ _ c.loop-index.invariant Nothing _ _ (heard at.After-read_line _ (c.in-Ok-Nothing.is ∙ ap Ok c.in-Ok-Nothing.field-0-is)) refl (length_push _ _)

pub loop-index-preserved-in-Ok-Part : goal.loop-index-preserved-in-Ok-Part
loop-index-preserved-in-Ok-Part c =
    let at = goal.at.loop-index-preserved-in-Ok-Part c in
    went_on _ _ _ _ (turn at.In-Some) _ _ c.loop-index.invariant (Part c.in-Ok-Part.part) _ _ (heard at.After-read_line _ (c.in-Ok-Part.is ∙ ap Ok c.in-Ok-Part.field-0-is)) refl (length_push _ _)

pub loop-index-preserved : goal.loop-index-preserved
loop-index-preserved c =
    let at = goal.at.loop-index-preserved c in
    let done : is_ok c.push.result ≡ true = sym c.map_err.ensures.variant ∙ ap is_ok c.in_ok-map_err-in-Ok-Act.was in
    let more : c.push.new.self.items ≡ c.loop-index.actions.items ++ (c.in-Ok-Act.action ∷ []) = rw done at c.push.ensures.items in
    went_on _ _ _ _ (turn at.In-Some) _ _ c.loop-index.invariant (Act c.in-Ok-Act.action) _ _ (heard at.After-read_line _ (c.in-Ok-Act.is ∙ ap Ok c.in-Ok-Act.field-0-is)) (ap (λ xs. record { setup = c.loop-index.setup; actions = xs }) more) (length_push _ _)

pub returns-in-Err : goal.returns-in-Err
returns-in-Err c =
    let at = goal.at.returns-in-Err c in
    stopped _ _ _ _ (turn at.In-Some) _ _ c.loop-index.invariant _ (heard at.After-read_line _ c.in-Err.is)

pub returns-in_err-setup : goal.returns-in_err-setup
returns-in_err-setup c =
    let at = goal.at.returns-in_err-setup c in
    let e = at_end (lines_of c.args.text.now) (length c.loop-index.yielded) _ _ c.loop-index.invariant (past at.In-None) in
    search rules

pub returns : goal.returns
returns c =
    let at = goal.at.returns c in
    let e = at_end (lines_of c.args.text.now) (length c.loop-index.yielded) _ _ c.loop-index.invariant (past at.In-None) in
    search rules
