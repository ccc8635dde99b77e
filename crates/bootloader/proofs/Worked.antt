-- The worked examples hold: each side computes to the same value. Assumes nothing.
use Rattle.std.proofs.Common.{refl}
use Rattle.memory.specs.Changes.{changed_all}
use Rattle.memory.specs.Crc.{crc_bits}
use Rattle.memory.specs.Seal.{sampled}
use Rattle.bootloader.specs.Memories.{takes_from, puts_from, clears_below, changes_in}
use Rattle.bootloader.specs.Examples.{SessionExamples, FrameExamples, MemoryExamples, CodeExamples}

pub session_examples : SessionExamples
unfolding crc_bits sampled changed_all takes_from puts_from clears_below changes_in
session_examples = record { connected = refl; opened = refl; cleared = refl; downloaded = refl; put = refl; whole = refl; ended = refl; started = refl; not_started = refl }

pub frame_examples : FrameExamples
unfolding crc_bits sampled changed_all takes_from puts_from clears_below changes_in
frame_examples = record { five = refl; six = refl; swapped = refl; rate = refl; silent = refl; written = refl; ending = refl }

pub memory_examples : MemoryExamples
unfolding crc_bits sampled changed_all takes_from puts_from clears_below changes_in
memory_examples = record { put = refl; no_seal = refl; seal = refl; other = refl; cleared = refl; kept = refl; waiting = refl; waited = refl }

pub code_examples : CodeExamples
unfolding crc_bits sampled changed_all takes_from puts_from clears_below changes_in
code_examples = record { full = refl; over_full = refl; register = refl; register_image = refl; boot_opened = refl; data_locked = refl; data_opened = refl; unknown = refl; denied = refl; running = refl; two_records = refl; one_record = refl; begun_anew = refl; emptied = refl }
