use Rattle.std.proofs.Common.{◌≡◌, map, length, string_bytes}
use Rattle.std.specs.Slice.Iter.{iter_rest}
use Rattle.file_check.specs.Options.{any_word, file_name, settings_by, meaning_from, meaning_of}
use Rattle.file_check.proofs.options.parse_words.Given as goal

abbrev pub invariant-loop-word : goal.invariant-loop-word
invariant-loop-word l =
    meaning_from any_word (settings_by l.so_far) (map string_bytes (iter_rest l.rest)) ≡ meaning_of (map string_bytes l.words)

abbrev pub decreases-loop-word : goal.decreases-loop-word
decreases-loop-word l = length (iter_rest l.rest)

abbrev pub invariant-loop-name : goal.invariant-loop-name
invariant-loop-name l =
    meaning_from file_name (settings_by l.so_far) (map string_bytes (iter_rest l.name-iterator)) ≡ meaning_of (map string_bytes l.words)
