use Rattle.std.proofs.Common.{◌≡◌}
use Rattle.script.specs.Words.{words_left}
use Rattle.board.specs.Settings.{set_all, unset}
use Rattle.board.proofs.settings.read_settings.Given as goal

abbrev pub invariant-loop-word : goal.invariant-loop-word
invariant-loop-word l = set_all l.settings (words_left l.words) ≡ set_all unset (words_left l.initial.words)
