-- The memories of a board at the start. Assumes nothing.
use Rattle.std.proofs.Common.{◌≡◌, ℕ, ◌≤◌, List, ◌++◌, length, take, replicate, ap, ◌∙◌, arith}
use Rattle.std.proofs.lemmas.List.{take_all, length-take}
use Rattle.std.proofs.lemmas.Bool.Decides.{nat_tests}
use Rattle.memory.specs.declared.layout.Layout.{Layout}
use Rattle.memory.specs.Crossing.{Meaning, crossed_contents, crossed_shape}
use Rattle.memory.specs.Shapes.{length-crossed}
use Rattle.memory.specs.Flash.{layout_of, flash_shape, flash_contents}
use Rattle.board.specs.declared.plan.Memory.TheVariants as space
use Rattle.board.specs.declared.plan.Plan.{Plan}
use Rattle.board.specs.Plan.{length_of}
use Rattle.memory.specs.Eeprom.{eeprom_shape, eeprom_contents}
use Rattle.bootloader.specs.Memories.{memory_of}
use Rattle.bootloader.specs.Board.{fresh_board}
use Rattle.board.specs.Stage.{Meant, filled, flash_showing, shown_at_start, board_at_start}

flash_long : (p : Plan) → length_of p space.Flash ≤ 1048576
flash_long p = grind (arith, nat_tests)

filled_long : (n : ℕ) (told : List ℕ) → n ≤ 1048576 → length (filled n told) ≤ 1048576
filled_long n told h = omega (arith, h, length-take n (told ++ replicate n 255))

-- the flash that is made over the exchanged bytes
pub flash_staged : (p : Plan) (told shown below : List ℕ) (n : ℕ) (l : Layout) (array : List ℕ)
    → shown ≡ filled (length_of p space.Flash) told
    → below ≡ crossed_contents (take 1048576 shown)
    → n ≡ length below
    → l ≡ layout_of n p.sectors p.words
    → array ≡ flash_contents (layout_of n p.sectors p.words) below
    → record { contents = crossed_contents array; shape = crossed_shape (length array) (flash_shape l) } ≡ flash_showing p shown
flash_staged p told shown below n l array e f g h k =
    let short : length shown ≤ 1048576 = rw e (filled_long (length_of p space.Flash) told (flash_long p)) in
    let below_is : below ≡ crossed_contents shown = f ∙ ap crossed_contents (take_all 1048576 shown short) in
    let n_is : n ≡ length shown = g ∙ ap length below_is ∙ length-crossed shown in
    let l_is : l ≡ layout_of (length shown) p.sectors p.words = h ∙ ap (λ i. layout_of i p.sectors p.words) n_is in
    let array_is : array ≡ flash_contents (layout_of (length shown) p.sectors p.words) (crossed_contents shown) =
    k ∙ ap (λ i. flash_contents (layout_of i p.sectors p.words) below) n_is ∙ ap (flash_contents (layout_of (length shown) p.sectors p.words)) below_is in
    ap (λ ys. record { contents = crossed_contents ys; shape = crossed_shape (length ys) (flash_shape l) }) array_is
    ∙ ap (λ i. record { contents = crossed_contents (flash_contents (layout_of (length shown) p.sectors p.words) (crossed_contents shown)); shape = crossed_shape (length (flash_contents (layout_of (length shown) p.sectors p.words) (crossed_contents shown))) (flash_shape i) }) l_is

-- the board that is made of these memories
pub board_staged : (g : Meant) (flash : Meaning) (boot eeprom : List ℕ)
    → flash ≡ flash_showing g.plan (shown_at_start g space.Flash)
    → boot ≡ eeprom_contents (shown_at_start g space.Boot)
    → eeprom ≡ eeprom_contents (shown_at_start g space.Data)
    → fresh_board g.plan.setup (memory_of g.plan.setup.base 2 flash.shape flash.contents) (memory_of 0 1 eeprom_shape boot) (memory_of 0 1 eeprom_shape eeprom) ≡ board_at_start g
board_staged g flash boot eeprom e f h =
    let setup = g.plan.setup in
    let staged = flash_showing g.plan (shown_at_start g space.Flash) in
    ap (λ m. fresh_board setup (memory_of setup.base 2 m.shape m.contents) (memory_of 0 1 eeprom_shape boot) (memory_of 0 1 eeprom_shape eeprom)) e
    ∙ ap (λ xs. fresh_board setup (memory_of setup.base 2 staged.shape staged.contents) (memory_of 0 1 eeprom_shape xs) (memory_of 0 1 eeprom_shape eeprom)) f
    ∙ ap (λ xs. fresh_board setup (memory_of setup.base 2 staged.shape staged.contents) (memory_of 0 1 eeprom_shape (eeprom_contents (shown_at_start g space.Boot))) (memory_of 0 1 eeprom_shape xs)) h
