-- The blank memories of the bench board. Assumes nothing.
use Rattle.std.proofs.Common.{◌≡◌, ℕ, List, replicate, ap, ◌∙◌, length, refl}
use Rattle.memory.specs.declared.layout.Layout.{Layout}
use Rattle.memory.specs.Crossing.{Meaning, crossed_contents, crossed_shape}
use Rattle.memory.specs.Flash.{layout_of, word_layout, flash_shape, flash_contents}
use Rattle.load.specs.Bench.{bench_flash}

blank_crossed : crossed_contents (replicate 128 255) ≡ replicate 128 255
blank_crossed = refl

-- the flash that is made over blank bytes
pub flash_made : (bytes array : List ℕ) (n : ℕ) (l : Layout)
    → bytes ≡ replicate 128 255
    → n ≡ 128
    → l ≡ layout_of n 4 16
    → array ≡ flash_contents (layout_of n 4 16) bytes
    → record { contents = crossed_contents array; shape = crossed_shape (length array) (flash_shape l) } ≡ bench_flash
flash_made bytes array n l e f g h =
    let l_is : l ≡ word_layout 4 16 = g ∙ ap (λ i. layout_of i 4 16) f in
    let taken : flash_contents (word_layout 4 16) (replicate 128 255) ≡ replicate 128 255 = refl in
    let array_is : array ≡ replicate 128 255 = h ∙ ap (λ i. flash_contents (layout_of i 4 16) bytes) f ∙ ap (flash_contents (word_layout 4 16)) e ∙ taken in
    ap (λ ys. record { contents = crossed_contents ys; shape = crossed_shape (length ys) (flash_shape l) }) array_is
    ∙ ap (λ xs. record { contents = xs; shape = crossed_shape 128 (flash_shape l) }) blank_crossed
    ∙ ap (λ i. record { contents = replicate 128 255; shape = crossed_shape 128 (flash_shape i) }) l_is
