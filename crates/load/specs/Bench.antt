-- The flash of the bench board, before anything reaches it. The board itself stands among the examples of boards that can be loaded.
use Rattle.std.specs.Prelude.{replicate}
use Rattle.memory.specs.Crossing.{Meaning, crossed_shape}
use Rattle.memory.specs.Flash.{word_layout, flash_shape}

-- a blank flash of 4 sectors of 0x10 words, under a lane crossing
abbrev pub bench_flash : Meaning
bench_flash = record { contents = replicate 128 0xFF; shape = crossed_shape 128 (flash_shape (word_layout 4 0x10)) }
