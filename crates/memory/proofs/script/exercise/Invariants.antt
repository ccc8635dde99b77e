use Rattle.std.proofs.Common.{◌≡◌, ◌≤◌, length, take, vec_items, vec_len, vec_capacity}
use Rattle.memory.specs.Script.{answers_of}
use Rattle.memory.proofs.Scripts.{after_all}
use Rattle.memory.proofs.script.exercise.Given as goal

abbrev pub invariant-loop-action : goal.invariant-loop-action
invariant-loop-action g l = record {
  len : vec_len l.answers ≡ l.action-index;
  room : length l.actions ≤ vec_capacity l.answers;
  same : g.P.WritablePart.shape l.part ≡ g.P.WritablePart.shape l.initial.part;
  answers : vec_items l.answers ≡ answers_of (g.P.WritablePart.shape l.initial.part) (g.P.ReadablePart.contents l.initial.part) (take l.action-index l.actions);
  after : g.P.ReadablePart.contents l.part ≡ after_all (g.P.WritablePart.shape l.initial.part) (g.P.ReadablePart.contents l.initial.part) (take l.action-index l.actions);
}
