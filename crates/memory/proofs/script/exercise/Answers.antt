use Rattle.std.proofs.Common.{arith, ◌∙◌}
use Rattle.std.proofs.lemmas.List.{take_more, take_all}
use Rattle.memory.specs.declared.script.Action.TheVariants.{Read}
use Rattle.memory.proofs.Scripts.{after_all-push, answers_of-push, made_by_last}
use Rattle.memory.proofs.script.exercise.Goals as goal

pub loop-action-preserved : goal.loop-action-preserved
loop-action-preserved g c =
    let inv = c.loop-action.invariant in
    let more = take_more c.args.actions.now c.loop-action.action-index (Read 0) c.loop-action-test.true in
    let p = c.perform.ensures in
    record {
      len = omega arith;
      room = omega arith;
      same = p.same ∙ inv.same;
      answers = rw (more, answers_of-push, c.push_reserved.ensures.items, inv.answers, p.answer, inv.same, inv.after);
      after = rw (more, after_all-push, p.after, inv.same, inv.after);
    }

pub returns-clause-law : goal.returns-clause-law
returns-clause-law g c =
    let inv = c.loop-action.invariant in
    let whole = take_all c.loop-action.action-index c.args.actions.now c.loop-action-test.false in
    made_by_last _ _ _ _ _ (rw whole at inv.answers) (rw whole at inv.after)
