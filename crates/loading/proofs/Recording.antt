-- A board puts a record that it has gathered where the bytes are blank. Assumes nothing.
use Rattle.std.proofs.Common.{◌≡◌, ℕ, true, false, cond, ◌&&◌, ◌+◌, ◌%◌, ◌≤◌, ◌<◌, List, [], ◌∷◌, length, Some, Ok, Err, refl, ap, ◌∙◌, arith}
use Rattle.std.specs.Prelude.{None, ◌==◌, slice_index, nat_lt}
use Rattle.std.specs.List.{AllByRecursion}
use Rattle.std.proofs.lemmas.Bool.Decides.{nat_tests}
use Rattle.memory.specs.Part.{Shape, IsShape}
use Rattle.memory.specs.Crc.{crc_from}
use Rattle.memory.specs.Calls.{question_answer}
use Rattle.memory.specs.declared.refusal.PartRefusal.TheVariants.{Outside}
use Rattle.bootloader.specs.declared.command.Command.TheVariants.{BuildChecksum}
use Rattle.bootloader.specs.declared.dialog.Dialog.{Dialog}
use Rattle.bootloader.specs.Memories.{Memory, place, is_taken, takes_from, puts_from}
use Rattle.bootloader.specs.Dialog.{is_register, puts_at, recording, record_effect}
use Rattle.bootloader.specs.Board.{Board, effect_of}
use Rattle.loading.proofs.Gathered.{memory_in}
use Rattle.loading.proofs.Recorded.{CanRecord, recording_of}
use Rattle.loading.proofs.Doing.{unlocked_memory, in_memory, if_so, if_not, when_unlocked}

-- blank bytes take every value
blank_taken : (s : Shape) (xs : List ℕ) (o : ℕ) (vs : List ℕ) → IsShape (length xs) s → o + length vs ≤ length xs
    → ((k : ℕ) → o ≤ k → k < o + length vs → slice_index xs k ≡ 255) → AllByRecursion (λ v. v < 256) vs → takes_from s xs o vs ≡ true
unfolding takes_from
blank_taken s xs o [] i h b a = refl
blank_taken s xs o (v ∷ vs) i h b a =
    let inside : o < length xs = omega (arith, h) in
    let test : nat_lt o (length xs) ≡ true = grind (arith, nat_tests, inside) in
    let old : slice_index xs o ≡ 255 = b o (omega arith) (omega arith) in
    let taken : s.takes o (slice_index xs o) v ≡ true = ap (λ w. s.takes o w v) old ∙ i.takes_blank o v inside a.0 in
    let first : is_taken (question_answer s xs o v) ≡ true = ap (λ t. is_taken (cond t (Ok (s.takes o (slice_index xs o) v)) (Err Outside))) test ∙ taken in
    let later : takes_from s xs (o + 1) vs ≡ true = blank_taken s xs (o + 1) vs i (omega (arith, h)) (λ k l m. b k (omega (arith, l)) (omega (arith, m))) a.1 in
    ap (λ t. t && takes_from s xs (o + 1) vs) first ∙ later

-- a record that can be put is put
pub recorded : (b : Board) (offset : ℕ) → CanRecord b offset
    → effect_of b (BuildChecksum (length b.session.dialog.bytes.items) (crc_from 0xFFFF b.session.dialog.bytes.items)) ≡ Ok (recording_of b offset)
recorded b offset r =
    let d : Dialog = b.session.dialog in
    let bs : List ℕ = d.bytes.items in
    let m : Memory = memory_in b d.space in
    let crc : ℕ = crc_from 0xFFFF bs in
    let register : is_register d.space ≡ false = unlocked_memory d.unlocked d.space r.unlocked in
    let some : (length bs == 0) ≡ false = grind (arith, nat_tests, r.some) in
    let whole : (length bs % m.width == 0) ≡ true = grind (arith, nat_tests, r.whole) in
    let same : (crc_from 0xFFFF bs == crc) ≡ true = grind (arith, nat_tests) in
    let takes : takes_from m.shape m.contents offset bs ≡ true = blank_taken m.shape m.contents offset bs r.shape r.inside r.blank r.small in
    let puts : puts_at m (place m d.address (length bs)) bs ≡ Some (puts_from offset bs) = ap (λ p. puts_at m p bs) r.at ∙ ap (λ t. cond t (Some (puts_from offset bs)) None) takes in
    let done : recording d m (puts_at m (place m d.address (length bs)) bs) ≡ Ok (recording_of b offset) = ap (recording d m) puts in
    if_not (length bs == 0) _ _ some
    ∙ (in_memory (λ n. record_effect d n crc) b d.space register
    ∙ (when_unlocked d _ r.unlocked
    ∙ (if_not (length bs == 0) _ _ some
    ∙ (if_so (length bs % m.width == 0) _ _ whole
    ∙ (if_so (crc_from 0xFFFF bs == crc) _ _ same
    ∙ done)))))
