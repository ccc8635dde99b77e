-- A listener has the memories that the board has. Assumes nothing.
use Rattle.std.proofs.Common.{◌≡◌, ℕ, zero, suc, ◌+◌, ◌-◌, ◌*◌, ◌/◌, ◌%◌, ◌^◌, Bool, cond, List, [], length, take, Some, Ok, Err, Result, refl, sym, ap, ◌∙◌, arith}
use Rattle.std.specs.Prelude.{Option, None, ◌==◌}
use Rattle.std.proofs.Math.Dec.{eqb-suc-zero}
use Rattle.std.proofs.lemmas.Bool.Decides.{nat_tests}
use Rattle.memory.specs.Crc.{crc_from}
use Rattle.memory.specs.Changes.{Change}
use Rattle.bootloader.specs.Laws.{listener_of}
use Rattle.bootloader.specs.declared.space.Space.{Space}
use Rattle.bootloader.specs.declared.space.Space.TheVariants.{Flash, Register, Boot, Data}
use Rattle.bootloader.specs.declared.refusal.Refusal.{Refusal}
use Rattle.bootloader.specs.declared.refusal.Refusal.TheVariants as refusal
use Rattle.bootloader.specs.declared.command.Command.{Command}
use Rattle.bootloader.specs.declared.command.Command.TheVariants.{Connect, SetMta, Unlock, Clear, Download, DownloadSix, BuildChecksum, Disconnect}
use Rattle.bootloader.specs.declared.dialog.Dialog.{Dialog}
use Rattle.bootloader.specs.Memories.{Memory, place, puts_from, placed_in}
use Rattle.bootloader.specs.Dialog.{Effect, is_register, is_unlocked, puts_at, recording, record_effect}
use Rattle.bootloader.specs.Board.{Board, effect_of, in_space, record_at, image_effect}
use Rattle.bootloader.specs.Listener.{image_told, changes_told, space_told, address_told, bytes_told}

-- a listener works out what an accepted command does
pub record Told (b : Board) (c : Command) (e : Effect) : Type 0 where
  pub changes : e.changes ≡ changes_told (listener_of b) c
  pub space : e.dialog.space ≡ space_told (listener_of b) c
  pub address : e.dialog.address ≡ address_told (listener_of b) c
  pub bytes : e.dialog.bytes.items ≡ bytes_told (listener_of b) c

connect_told : (b : Board) (e : Effect) → effect_of b Connect ≡ Ok e → Told b Connect e
connect_told b e h = grind (arith, nat_tests)

mta_told : (b : Board) (n x a : ℕ) (e : Effect) → effect_of b (SetMta n x a) ≡ Ok e → Told b (SetMta n x a) e
mta_told b n x a e h = grind (arith, nat_tests)

unlock_told : (b : Board) (n p : ℕ) (e : Effect) → effect_of b (Unlock n p) ≡ Ok e → Told b (Unlock n p) e
unlock_told b n p e h = grind (arith, nat_tests)

download_six_told : (b : Board) (bs : List ℕ) (e : Effect) → effect_of b (DownloadSix bs) ≡ Ok e → Told b (DownloadSix bs) e
download_six_told b bs e h = by_space b.session.dialog.space refl
  where
    by_space : (s : Space) → b.session.dialog.space ≡ s → Told b (DownloadSix bs) e
    by_space Flash q = grind (arith, nat_tests)
    by_space Register q = grind (arith, nat_tests)
    by_space Boot q = grind (arith, nat_tests)
    by_space Data q = grind (arith, nat_tests)

disconnect_told : (b : Board) (k : ℕ) (e : Effect) → effect_of b (Disconnect k) ≡ Ok e → Told b (Disconnect k) e
disconnect_told b k e h = grind (arith, nat_tests)

clear_told : (b : Board) (k : ℕ) (e : Effect) → effect_of b (Clear k) ≡ Ok e → Told b (Clear k) e
clear_told b k e h = by_space b.session.dialog.space refl
  where
    by_space : (s : Space) → b.session.dialog.space ≡ s → Told b (Clear k) e
    by_space Flash q = grind (arith, nat_tests)
    by_space Register q = grind (arith, nat_tests)
    by_space Boot q = grind (arith, nat_tests)
    by_space Data q = grind (arith, nat_tests)

download_told : (b : Board) (n : ℕ) (bs : List ℕ) (e : Effect) → effect_of b (Download n bs) ≡ Ok e → Told b (Download n bs) e
download_told b n bs e h = let six = download_six_told b (take n bs) e in grind (arith, nat_tests)

-- a record that is put: its changes, and the dialog behind it
record Recorded (d : Dialog) (m : Memory) (e : Effect) : Type 0 where
  changes : e.changes ≡ placed_in d.space (puts_from ((d.address - m.base) * m.width) d.bytes.items)
  space : e.dialog.space ≡ d.space
  address : e.dialog.address ≡ (d.address + length d.bytes.items / m.width) % 2 ^ 32
  bytes : e.dialog.bytes.items ≡ []

-- what is accepted was not refused by a test
checks_ok : (a u z w c : Bool) (r : Result Effect Refusal) (e : Effect)
    → cond a (Err refusal.Unavailable) (cond u (cond z (Err refusal.Syntax) (cond w (cond c r (Err refusal.Failed)) (Err refusal.OutOfRange))) (Err refusal.Locked)) ≡ Ok e
    → r ≡ Ok e
checks_ok a u z w c r e h = grind arith

puts_here : (d : Dialog) (m : Memory) (n : ℕ) (bs : List ℕ) (cs : List Change) → puts_at m (place m d.address n) bs ≡ Some cs → cs ≡ puts_from ((d.address - m.base) * m.width) bs
puts_here d m n bs cs h = grind (arith, nat_tests)

recording_ok : (d : Dialog) (m : Memory) (made : Option (List Change)) (e : Effect) → recording d m made ≡ Ok e → ((cs : List Change) → made ≡ Some cs → cs ≡ puts_from ((d.address - m.base) * m.width) d.bytes.items) → Recorded d m e
recording_ok d m None e h p = grind arith
recording_ok d m (Some cs) e h p = let c = p cs refl in grind arith

recorded : (d : Dialog) (m : Memory) (crc : ℕ) (e : Effect) → record_effect d m crc ≡ Ok e → Recorded d m e
recorded d m crc e h =
    let bytes : List ℕ = d.bytes.items in
    let done = checks_ok (is_register d.space) (is_unlocked d.unlocked d.space) (length bytes == 0) (length bytes % m.width == 0) (crc_from 0xFFFF bytes == crc)
    (recording d m (puts_at m (place m d.address (length bytes)) bytes)) e h in
    recording_ok d m (puts_at m (place m d.address (length bytes)) bytes) e done (puts_here d m (length bytes) bytes)

-- an image that is whole: its seal, and the dialog as it was
record Imaged (b : Board) (e : Effect) : Type 0 where
  changes : e.changes ≡ image_told (listener_of b) b.session.dialog.space
  dialog : e.dialog ≡ b.session.dialog

imaged : (b : Board) (crc : ℕ) (e : Effect) → image_effect b crc ≡ Ok e → Imaged b e
imaged b crc e h = by_space b.session.dialog.space refl
  where
    by_space : (s : Space) → b.session.dialog.space ≡ s → Imaged b e
    by_space Flash q = grind (arith, nat_tests)
    by_space Register q = grind (arith, nat_tests)
    by_space Boot q = grind (arith, nat_tests)
    by_space Data q = grind (arith, nat_tests)

record_told_in : (b : Board) (crc : ℕ) (e : Effect) → record_at b crc ≡ Ok e → (n : ℕ) → Told b (BuildChecksum (suc n) crc) e
record_told_in b crc e h n = by_space b.session.dialog.space refl
  where
    d : Dialog
    d = b.session.dialog

    by_space : (s : Space) → d.space ≡ s → Told b (BuildChecksum (suc n) crc) e
    by_space Flash q = let r = recorded d b.flash crc e (sym (ap (λ s. in_space b s (λ m. record_effect d m crc)) q) ∙ h) in grind (arith, nat_tests)
    by_space Register q = grind (arith, nat_tests)
    by_space Boot q = let r = recorded d b.boot crc e (sym (ap (λ s. in_space b s (λ m. record_effect d m crc)) q) ∙ h) in grind (arith, nat_tests)
    by_space Data q = let r = recorded d b.eeprom crc e (sym (ap (λ s. in_space b s (λ m. record_effect d m crc)) q) ∙ h) in grind (arith, nat_tests)

checksum_told : (b : Board) (n k : ℕ) (e : Effect) → effect_of b (BuildChecksum n k) ≡ Ok e → Told b (BuildChecksum n k) e
checksum_told b zero k e h = let i = imaged b k e h in grind (arith, nat_tests)
checksum_told b (suc n) k e h =
    record_told_in b k e (sym (ap (λ t. cond t (image_effect b k) (record_at b k)) (eqb-suc-zero n)) ∙ h) n

pub accepted_told : (b : Board) (c : Command) (e : Effect) → effect_of b c ≡ Ok e → Told b c e
accepted_told b Connect e h = connect_told b e h
accepted_told b (SetMta n x a) e h = mta_told b n x a e h
accepted_told b (Unlock n p) e h = unlock_told b n p e h
accepted_told b (Clear k) e h = clear_told b k e h
accepted_told b (Download n bs) e h = download_told b n bs e h
accepted_told b (DownloadSix bs) e h = download_six_told b bs e h
accepted_told b (BuildChecksum n k) e h = checksum_told b n k e h
accepted_told b (Disconnect k) e h = disconnect_told b k e h
