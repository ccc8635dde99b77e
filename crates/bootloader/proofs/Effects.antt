-- A command of bytes leaves bytes: in the record, and in what it puts. Assumes nothing.
use Rattle.std.proofs.Common.{ℕ, Bool, true, false, cond, ◌-◌, ◌%◌, ◌<◌, List, [], ◌∷◌, length, take, Some, Ok, Err, Result, arith}
use Rattle.std.specs.Prelude.{Option, None, ◌==◌, nat_le, slice_index}
use Rattle.std.specs.List.{AllByRecursion}
use Rattle.memory.specs.Part.{Shape}
use Rattle.memory.specs.Changes.{Change}
use Rattle.memory.specs.Crc.{crc_from}
use Rattle.bootloader.specs.declared.command.Command.{Command}
use Rattle.bootloader.specs.declared.command.Command.TheVariants.{Connect, SetMta, Unlock, Clear, Download, DownloadSix, BuildChecksum, Disconnect}
use Rattle.bootloader.specs.declared.dialog.Dialog.{Dialog}
use Rattle.bootloader.specs.declared.dialog.Unlocked.{Unlocked}
use Rattle.bootloader.specs.declared.refusal.Refusal.{Refusal}
use Rattle.bootloader.specs.declared.refusal.Refusal.TheVariants.{Syntax, OutOfRange, Failed}
use Rattle.bootloader.specs.declared.space.Space.{Space}
use Rattle.bootloader.specs.declared.space.Space.TheVariants.{Flash, Register, Boot, Data}
use Rattle.bootloader.specs.Frames.{command_of, space_of, high, low}
use Rattle.bootloader.specs.Memories.{Memory, place, puts_from, puts_taken, takes_from, seal_puts, clears_below}
use Rattle.bootloader.specs.Dialog.{Effect, selecting, opened, unlocking, download_effect, clear_effect, puts_at, recording, record_effect, unlocked_for}
use Rattle.bootloader.specs.Board.{Board, effect_of, judged, in_space, mask_for, seal_for, imaging, image_effect}
use Rattle.bootloader.proofs.Bytes.{AreBytes, PutBytes, IsByteChange, byte_at, all_both, bytes_front, puts_bytes, clears_bytes, placed_bytes}

-- a result that leaves bytes
pub LeavesBytes : Result Effect Refusal → Type 0
LeavesBytes (Ok e) = AreBytes e.dialog.bytes.items × PutBytes e.changes
LeavesBytes (Err r) = Unit {0}

pub left_by : (e : Effect) → LeavesBytes (Ok e) → AreBytes e.dialog.bytes.items × PutBytes e.changes
unfolding LeavesBytes
left_by e g = g

leaves_ok : (e : Effect) → AreBytes e.dialog.bytes.items → PutBytes e.changes → LeavesBytes (Ok e)
unfolding LeavesBytes
leaves_ok e a b = (a, b)

leaves_err : (r : Refusal) → LeavesBytes (Err r)
unfolding LeavesBytes
leaves_err r = tt

leaves_either : (t : Bool) (x y : Result Effect Refusal) → LeavesBytes x → LeavesBytes y → LeavesBytes (cond t x y)
leaves_either true x y a b = a
leaves_either false x y a b = b

-- changes that put bytes, if there are any
abbrev MayPut : Option (List Change) → Type 0
MayPut None = Unit {0}
MayPut (Some cs) = AllByRecursion IsByteChange cs

may_put : (s : Shape) (xs : List ℕ) (o : ℕ) (vs : List ℕ) → AreBytes vs → MayPut (puts_taken s xs o vs)
may_put s xs o vs a = by (takes_from s xs o vs)
  where
    by : (t : Bool) → MayPut (cond t (Some (puts_from o vs)) None)
    by true = puts_bytes o vs a
    by false = tt

may_seal : (seal : ℕ) (s : Shape) (xs : List ℕ) → MayPut (seal_puts seal s xs)
may_seal seal s xs = by (nat_le 2 (length xs))
  where
    by : (t : Bool) → MayPut (cond t (puts_taken s xs (length xs - 2) (high seal ∷ low seal ∷ [])) None)
    by true = may_put s xs (length xs - 2) (high seal ∷ low seal ∷ []) (omega arith, (omega arith, tt))
    by false = tt

-- a command whose bytes are bytes
pub CarriesBytes : Option Command → Type 0
CarriesBytes None = Unit {0}
CarriesBytes (Some Connect) = Unit {0}
CarriesBytes (Some (SetMta number extension address)) = Unit {0}
CarriesBytes (Some (Unlock size password)) = Unit {0}
CarriesBytes (Some (Clear mask)) = Unit {0}
CarriesBytes (Some (Download size bytes)) = AreBytes bytes
CarriesBytes (Some (DownloadSix bytes)) = AreBytes bytes
CarriesBytes (Some (BuildChecksum size crc)) = Unit {0}
CarriesBytes (Some (Disconnect kind)) = Unit {0}

carries_either : (t : Bool) (x y : Option Command) → CarriesBytes x → CarriesBytes y → CarriesBytes (cond t x y)
carries_either true x y a b = a
carries_either false x y a b = b

-- the command of a frame of bytes
pub frame_carries : (f : List ℕ) → AreBytes f → CarriesBytes (command_of f)
unfolding CarriesBytes
frame_carries f a =
    let code : ℕ = slice_index f 0 in
    carries_either (code == 0x01) _ _ tt
    (carries_either (code == 0x02) _ _ tt
    (carries_either (code == 0x03) _ _ (at 3, (at 4, (at 5, (at 6, (at 7, tt)))))
    (carries_either (code == 0x07) _ _ tt
    (carries_either (code == 0x0E) _ _ tt
    (carries_either (code == 0x10) _ _ tt
    (carries_either (code == 0x13) _ _ tt
    (carries_either (code == 0x23) _ _ (at 2, (at 3, (at 4, (at 5, (at 6, (at 7, tt)))))) tt)))))))
  where
    at : (k : ℕ) → slice_index f k < 256
    at k = byte_at f k a

module _ (b : Board) (w : AreBytes b.session.dialog.bytes.items) where
  abbrev d : Dialog
  d = b.session.dialog

  of_unlocked : (x : Result Effect Refusal) → LeavesBytes x → LeavesBytes (unlocked_for d x)
  of_unlocked x a = leaves_either _ _ _ (leaves_err _) (leaves_either _ _ _ a (leaves_err _))

  of_space : (s : Space) (act : Memory → Result Effect Refusal) → ((m : Memory) → LeavesBytes (act m)) → LeavesBytes (in_space b s act)
  of_space Flash act h = h b.flash
  of_space Register act h = leaves_err _
  of_space Boot act h = h b.boot
  of_space Data act h = h b.eeprom

  of_selecting : (o : Option Space) (a : ℕ) → LeavesBytes (selecting d o a)
  of_selecting None a = leaves_err _
  of_selecting (Some s) a = leaves_ok _ tt tt

  of_unlocking : (o : Option Unlocked) → LeavesBytes (unlocking d o)
  of_unlocking None = leaves_err _
  of_unlocking (Some u) = leaves_ok _ w tt

  of_download : (m : Memory) (more : List ℕ) → AreBytes more → LeavesBytes (download_effect d m more)
  of_download m more a = of_unlocked _ (leaves_either _ _ _ (leaves_ok _ (all_both (λ v. v < 256) d.bytes.items more w a) tt) (leaves_err _))

  of_clear : (m : Memory) (mask : Option ℕ) → LeavesBytes (clear_effect d m mask)
  of_clear m mask = of_unlocked _ (leaves_either _ _ _ (leaves_ok _ tt (placed_bytes d.space (clears_below mask m.shape.units) (clears_bytes mask m.shape.units))) (leaves_err _))

  of_recording : (m : Memory) (o : Option (List Change)) → MayPut o → LeavesBytes (recording d m o)
  of_recording m None a = leaves_err _
  of_recording m (Some cs) a = leaves_ok _ tt (placed_bytes d.space cs a)

  may_put_at : (m : Memory) (o : Option ℕ) → MayPut (puts_at m o d.bytes.items)
  may_put_at m None = tt
  may_put_at m (Some offset) = may_put m.shape m.contents offset d.bytes.items w

  of_record : (m : Memory) (crc : ℕ) → LeavesBytes (record_effect d m crc)
  of_record m crc =
      of_unlocked _ (leaves_either (length d.bytes.items == 0) (Err Syntax) _ (leaves_err Syntax)
      (leaves_either (length d.bytes.items % m.width == 0) _ (Err OutOfRange)
      (leaves_either (crc_from 0xFFFF d.bytes.items == crc) _ (Err Failed) (of_recording m _ (may_put_at m (place m d.address (length d.bytes.items)))) (leaves_err Failed)) (leaves_err OutOfRange)))

  of_imaging : (o : Option (List Change)) → MayPut o → LeavesBytes (imaging d o)
  of_imaging None a = leaves_err _
  of_imaging (Some cs) a = leaves_ok _ w (placed_bytes Boot cs a)

  may_seal_for : (s : Space) → MayPut (seal_for b s)
  may_seal_for Flash = may_seal _ b.boot.shape b.boot.contents
  may_seal_for Register = tt
  may_seal_for Boot = tt
  may_seal_for Data = tt

  of_image : (crc : ℕ) → LeavesBytes (image_effect b crc)
  of_image crc = of_unlocked _ (leaves_either _ _ _ (leaves_either _ _ _ (of_imaging _ (may_seal_for d.space)) (leaves_err _)) (leaves_err _))

  of_effect : (x : Command) → CarriesBytes (Some x) → LeavesBytes (effect_of b x)
  unfolding CarriesBytes
  of_effect Connect g = leaves_ok _ tt tt
  of_effect (SetMta number extension address) g = leaves_either _ _ _ (of_selecting (space_of extension) address) (leaves_err _)
  of_effect (Unlock size password) g = leaves_either _ _ _ (leaves_either _ _ _ (of_unlocking (opened d.unlocked password)) (leaves_err _)) (leaves_err _)
  of_effect (Clear mask) g = of_space d.space _ (λ m. of_clear m (mask_for d.space mask))
  of_effect (Download size bytes) g = leaves_either _ _ _ (of_space d.space _ (λ m. of_download m (take size bytes) (bytes_front size bytes g))) (leaves_err _)
  of_effect (DownloadSix bytes) g = of_space d.space _ (λ m. of_download m bytes g)
  of_effect (BuildChecksum size crc) g = leaves_either _ _ _ (of_image crc) (of_space d.space _ (λ m. of_record m crc))
  of_effect (Disconnect kind) g = leaves_either _ _ _ (leaves_ok _ w tt) (leaves_err _)

  pub judged_leaves : (o : Option Command) → CarriesBytes o → LeavesBytes (judged b o)
  judged_leaves None g = leaves_err _
  judged_leaves (Some x) g = leaves_either _ _ _ (of_effect x g) (leaves_err _)
