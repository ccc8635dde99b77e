-- A part over a buffer of as many bytes as it has use for is the part over the whole buffer. Assumes nothing.
use Rattle.std.proofs.Common.{◌≡◌, ℕ, ◌*◌, ◌≤◌, min, cond, ◌&&◌, leb, Bool, true, false, List, take, replicate, string_bytes, Result, refl, ap, sym, ◌∙◌, arith}
use Rattle.std.specs.Result.{IfOk}
use Rattle.std.specs.declared.alloc.AllocError.{AllocError}
use Rattle.std.specs.declared.alloc.Global.{Global}
use Rattle.std.specs.declared.string.String.{String}
use Rattle.std.proofs.lemmas.List.{take-replicate}
use Rattle.std.proofs.lemmas.Bool.Decides.{nat_tests}
use Rattle.memory.specs.declared.layout.Layout.{Layout}
use Rattle.memory.specs.declared.script.Action.{Action}
use Rattle.memory.specs.Crossing.{Meaning}
use Rattle.memory.specs.Flash.{flash_length, word_layout, layout_of, flash_contents, flash_shape}
use Rattle.memory.specs.Eeprom.{eeprom_contents, eeprom_shape}
use Rattle.script.specs.declared.setup.PartKind.{PartKind}
use Rattle.script.specs.declared.setup.PartKind.TheVariants.{Flash, Eeprom}
use Rattle.script.specs.declared.setup.Setup.{Setup}
use Rattle.part.specs.Stage.{part_of, width_of, crossed_if, report_on, played_of}

take_capped : (n b m x : ℕ) → n ≤ m → take n (replicate (min b m) x) ≡ take n (replicate b x)
take_capped n b m x h = go (leb n b) refl
  where
    go : (c : Bool) → leb n b ≡ c → take n (replicate (min b m) x) ≡ take n (replicate b x)
    go true e =
        let k : n ≤ b = grind (arith, nat_tests) in
        take-replicate n (min b m) x (omega arith) ∙ sym (take-replicate n b x k)
    go false e =
        let k : b ≤ n = grind (arith, nat_tests) in
        let same : min b m ≡ b = omega arith in
        ap (λ i. take n (replicate i x)) same

layout_capped : (b s w : ℕ) → layout_of (min b 1048576) s w ≡ layout_of b s w
layout_capped b s w =
    let same : min (min b 1048576) 1048576 ≡ min b 1048576 = omega arith in
    ap (λ most. cond (leb 1 s && (leb s 32 && leb (s * (w * 2)) most)) (word_layout s w) (record { sectors = 1; size = 0 })) same

layout_fits : (b s w : ℕ) → flash_length (layout_of b s w) ≤ 1048576
layout_fits b s w = grind (arith, nat_tests)

pub flash_built : (b s w n : ℕ) (buffer : List ℕ) (l : Layout) (xs : List ℕ) → buffer ≡ replicate (min b 1048576) 255 → n ≡ min b 1048576 → l ≡ layout_of n s w → xs ≡ flash_contents (layout_of n s w) buffer → record { contents = xs; shape = flash_shape l } ≡ part_of (Flash s w b)
flash_built b s w n buffer l xs e f g h =
    let k : layout_of n s w ≡ layout_of b s w = ap (λ i. layout_of i s w) f ∙ layout_capped b s w in
    let same : xs ≡ flash_contents (layout_of b s w) (replicate b 255) = h ∙ ap (λ i. flash_contents i buffer) k ∙ ap (flash_contents (layout_of b s w)) e ∙ take_capped (flash_length (layout_of b s w)) b 1048576 255 (layout_fits b s w) in
    ap (λ ys. record { contents = ys; shape = flash_shape l }) same
    ∙ ap (λ i. record { contents = flash_contents (layout_of b s w) (replicate b 255); shape = flash_shape i }) (g ∙ k)

pub eeprom_built : (b : ℕ) (buffer xs : List ℕ) → buffer ≡ replicate (min b 1048576) 255 → xs ≡ eeprom_contents buffer → record { contents = xs; shape = eeprom_shape } ≡ part_of (Eeprom b)
eeprom_built b buffer xs e h =
    ap (λ ys. record { contents = ys; shape = eeprom_shape }) (h ∙ ap eeprom_contents e ∙ take_capped 1048576 b 1048576 255 (omega arith))

-- what is printed of actions on a part of the kind that is asked for
pub played_on : (r : Result (String Global) AllocError) (k : PartKind) (m : Meaning) (s : Setup) (more : List Action) → s.kind ≡ k → m ≡ part_of k → IfOk r (λ t. string_bytes t ≡ report_on (width_of k) (crossed_if s.crossed m) more) → IfOk r (λ t. string_bytes t ≡ played_of s more)
played_on r k m s more e f h = rw (e, ← f) h
