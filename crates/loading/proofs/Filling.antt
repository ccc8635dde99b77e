-- A board that can take records is filled with them, up to the checksum of the image and its seal. Assumes nothing.
use Rattle.std.proofs.Common.{◌≡◌, ℕ, Bool, true, false, cond, ◌<◌, List, [], ◌∷◌, ◌++◌, length, Some, refl, sym, ap, subst, ◌∙◌, arith}
use Rattle.std.specs.Prelude.{Option, None, Ok, Err, ◌==◌, is_some}
use Rattle.std.specs.List.{AllByRecursion}
use Rattle.memory.specs.Part.{IsShape}
use Rattle.memory.specs.Changes.{Change}
use Rattle.memory.specs.Seal.{seal_of, seal_valid}
use Rattle.memory.specs.Changing.{length-changed_all}
use Rattle.bootloader.specs.declared.command.Command.{Command}
use Rattle.bootloader.specs.declared.command.Command.TheVariants.{BuildChecksum}
use Rattle.bootloader.specs.declared.space.Space.{Space}
use Rattle.bootloader.specs.declared.space.Space.TheVariants.{Flash, Boot, Data}
use Rattle.bootloader.specs.declared.state.State.TheVariants.{Connected}
use Rattle.bootloader.specs.Frames.{extension_of}
use Rattle.bootloader.specs.Memories.{Memory, clears_below, is_mask, is_space, seal_puts}
use Rattle.bootloader.specs.declared.refusal.Refusal.TheVariants.{Syntax, Locked, Unavailable, Failed}
use Rattle.bootloader.specs.Dialog.{Effect, is_register, is_unlocked}
use Rattle.bootloader.specs.Board.{Board, judged, image_effect, imaging, mask_for, seal_changes, seal_for, is_sealed}
use Rattle.session.specs.Laws.{Carries}
use Rattle.loading.proofs.Pieces.{InOrder, after_pieces}
use Rattle.loading.proofs.Gathered.{memory_in}
use Rattle.loading.proofs.Chunks.{Chunk, pieces_of, commands_of, crc_over_all, FitsIn, IsBlank, CanPut, CanTakeAll}
use Rattle.loading.specs.Prepared.{preparing}
use Rattle.loading.specs.Loaded.{SameButSeal, with_flash}
use Rattle.loading.proofs.Filled.{filling, filled_memory, Filled}
use Rattle.loading.proofs.Carrying.{carries_append, carries_split, carries_same, counter_after}
use Rattle.loading.proofs.Doing.{changed_by, elsewhere, here, by_effect, done_alone, unchanging}
use Rattle.loading.proofs.Looping.{taken_all, fits_after}
use Rattle.loading.proofs.Preparing.{prepared, opened_lock}
use Rattle.loading.proofs.Sealing.{images, seal_small, sealing, seal_some, same_but_seal, seal_stands}

-- the memory of a space once it is cleared
abbrev pub cleared_memory : Space → ℕ → Memory → Memory
cleared_memory s mask m = changed_by m (clears_below (mask_for s mask) m.shape.units)

-- the checksum of an image, and the counter with which it is sent
abbrev checking : List Chunk → Command
checking xs = BuildChecksum 0 (crc_over_all 0xFFFF xs)

abbrev records_counter : ℕ → Space → ℕ → ℕ
records_counter c s mask = counter_after c (preparing s mask)

abbrev last_counter : ℕ → Space → ℕ → List Chunk → ℕ
last_counter c s mask xs = counter_after (records_counter c s mask) (commands_of (extension_of s) xs)

record Fills (b : Board) (c : ℕ) (s : Space) (mask : ℕ) (xs : List Chunk) : Type 0 where
  first : Board
  prepares : Carries b c (preparing s mask) first
  after : Board
  records : Carries first (records_counter c s mask) (commands_of (extension_of s) xs) after
  filled : Filled b s mask xs after

-- a space is cleared and filled
fills : (b : Board) (c : ℕ) (s : Space) (mask : ℕ) (xs : List Chunk) → b.session.state ≡ Connected → is_register s ≡ false → is_mask (mask_for s mask) (memory_in b s).shape.units ≡ true
    → CanPut (cleared_memory s mask (memory_in b s)) xs → Fills b c s mask xs
fills b c s mask xs h r k can =
    let p = prepared b c s mask h r k in
    let q = p.prepared in
    let unlocked : is_unlocked p.after.session.dialog.unlocked s ≡ true = ap (λ d. is_unlocked d.unlocked s) q.dialog ∙ opened_lock b.session.dialog.unlocked s r in
    let takes : CanTakeAll p.after s xs = record {
      connected = q.state ∙ h;
      unlocked = unlocked;
      space = ap (λ d. d.space) q.dialog;
      emptied = ap (λ d. d.bytes.items) q.dialog;
      memory = subst (λ (m : Memory). CanPut m xs) (sym q.cleared) can;
    } in
    let t = taken_all p.after (records_counter c s mask) s xs takes in
    let j = t.recorded in
    record {
      first = p.after;
      prepares = p.carried;
      after = t.after;
      records = t.carried;
      filled = record {
        setup = j.setup ∙ q.setup;
        state = j.state ∙ q.state;
        space = j.space;
        unlocked = ap (λ u. is_unlocked u s) j.unlocked ∙ unlocked;
        emptied = j.emptied;
        image = j.image ∙ ap (λ d. crc_over_all d.image_crc xs) q.dialog;
        memory = j.put ∙ ap (λ (m : Memory). let o : Memory = record m { contents = after_pieces m.shape (pieces_of m xs) m.contents } in o) q.cleared;
        others = λ u g n. j.others u g n ∙ q.others u g n;
      };
    }

-- what is sent, from its parts
whole : (b : Board) (c : ℕ) (s : Space) (mask : ℕ) (xs : List Chunk) (v : Fills b c s mask xs) (d : Board)
    → Carries v.after (last_counter c s mask xs) (checking xs ∷ []) d → Carries b c (filling s mask xs) d
whole b c s mask xs v d h =
    carries_append (preparing s mask) (commands_of (extension_of s) xs ++ checking xs ∷ []) b c v.first d v.prepares
    (carries_append (commands_of (extension_of s) xs) (checking xs ∷ []) v.first (records_counter c s mask) v.after d v.records h)

-- a memory that is cleared can be filled
pub can_fill : (s : Space) (mask : ℕ) (m : Memory) (xs : List Chunk) → IsShape (length m.contents) m.shape → AllByRecursion (FitsIn m) xs → InOrder (pieces_of m xs)
    → AllByRecursion (IsBlank (cleared_memory s mask m).contents) (pieces_of m xs) → CanPut (cleared_memory s mask m) xs
can_fill s mask m xs shape fit order blank =
    let cs : List Change = clears_below (mask_for s mask) m.shape.units in
    record {
      shape = subst (λ (n : ℕ). IsShape n m.shape) (sym (length-changed_all m.shape cs m.contents)) shape;
      fit = fits_after m cs xs fit;
      order = order;
      blank = blank;
    }

-- an EEPROM is filled: its image has no seal
pub record EepromFilled (b : Board) (c : ℕ) (s : Space) (mask : ℕ) (xs : List Chunk) : Type 0 where
  pub after : Board
  pub carried : Carries b c (filling s mask xs) after
  pub state : after.session.state ≡ b.session.state
  pub memory : memory_in after s ≡ filled_memory s mask xs (memory_in b s)
  pub others : (t : Space) → is_register t ≡ false → is_space t s ≡ false → memory_in after t ≡ memory_in b t

pub eeprom_filled : (b : Board) (c : ℕ) (s : Space) (mask : ℕ) (xs : List Chunk) → b.session.state ≡ Connected → is_register s ≡ false
    → ((d : Board) → seal_for d s ≡ Some []) → is_mask (mask_for s mask) (memory_in b s).shape.units ≡ true
    → CanPut (cleared_memory s mask (memory_in b s)) xs → EepromFilled b c s mask xs
eeprom_filled b c s mask xs h r no_seal k can =
    let v = fills b c s mask xs h r k can in
    let f = v.filled in
    let last = images v.after (last_counter c s mask xs) (crc_over_all 0xFFFF xs) s [] (f.state ∙ h) f.space f.unlocked f.emptied f.image (no_seal v.after) in
    record {
      after = last.after;
      carried = whole b c s mask xs v last.after (done_alone last);
      state = last.state ∙ f.state;
      memory = unchanging last s r ∙ f.memory;
      others = λ t q n. unchanging last t q ∙ f.others t q n;
    }

-- a flash is filled, and its seal is put
pub record FlashFilled (b : Board) (c mask : ℕ) (xs : List Chunk) : Type 0 where
  pub after : Board
  pub carried : Carries b c (filling Flash mask xs) after
  pub state : after.session.state ≡ b.session.state
  pub memory : after.flash ≡ filled_memory Flash mask xs b.flash
  pub eeprom : after.eeprom ≡ b.eeprom
  pub boot : SameButSeal b.boot.contents after.boot.contents
  pub sealed : is_sealed after ≡ true

pub flash_filled : (b : Board) (c mask : ℕ) (xs : List Chunk) → b.session.state ≡ Connected → is_mask (Some mask) b.flash.shape.units ≡ true
    → CanPut (cleared_memory Flash mask b.flash) xs → AllByRecursion (λ v. v < 256) (filled_memory Flash mask xs b.flash).contents
    → is_some (seal_changes (with_flash b (filled_memory Flash mask xs b.flash).contents)) ≡ true → FlashFilled b c mask xs
flash_filled b c mask xs h k can small can_seal =
    let v = fills b c Flash mask xs h refl k can in
    let f = v.filled in
    let flash : v.after.flash ≡ filled_memory Flash mask xs b.flash = f.memory in
    let boot : v.after.boot ≡ b.boot = f.others Boot refl refl in
    let seal : ℕ = seal_of b.flash.width (filled_memory Flash mask xs b.flash).contents in
    let cs : List Change = sealing seal b.boot.shape b.boot.contents in
    let put = seal_some seal b.boot.shape b.boot.contents can_seal in
    let changes : seal_changes v.after ≡ Some cs = (λ i. seal_puts (seal_of (flash i).width (flash i).contents) (boot i).shape (boot i).contents) ∙ put.puts in
    let last = images v.after (last_counter c Flash mask xs) (crc_over_all 0xFFFF xs) Flash cs
    (f.state ∙ h) f.space f.unlocked f.emptied f.image changes in
    let flash_after : last.after.flash ≡ filled_memory Flash mask xs b.flash = last.memory Flash refl ∙ (elsewhere v.after.flash Boot Flash cs refl ∙ flash) in
    let boot_after : last.after.boot ≡ changed_by b.boot cs = last.memory Boot refl ∙ (here v.after.boot Boot cs ∙ ap (λ m. changed_by m cs) boot) in
    record {
      after = last.after;
      carried = whole b c Flash mask xs v last.after (done_alone last);
      state = last.state ∙ f.state;
      memory = flash_after;
      eeprom = last.memory Data refl ∙ (elsewhere v.after.eeprom Boot Data cs refl ∙ f.others Data refl refl);
      boot = subst (λ (m : Memory). SameButSeal b.boot.contents m.contents) (sym boot_after) (same_but_seal seal b.boot.shape b.boot.contents);
      sealed = (λ i. seal_valid (flash_after i).width (flash_after i).contents (boot_after i).contents) ∙ seal_stands seal b.boot.shape b.boot.contents (seal_small b.flash.width (filled_memory Flash mask xs b.flash).contents small) put.place;
    }

-- an image of the flash is accepted only where its seal can be put
seal_needed : (b : Board) (crc : ℕ) (e : Effect) → b.session.state ≡ Connected → b.session.dialog.space ≡ Flash → judged b (Some (BuildChecksum 0 crc)) ≡ Ok e → is_some (seal_changes b) ≡ true
seal_needed b crc e h at ok = by (seal_changes b) refl
  where
    effect : image_effect b crc ≡ Ok e
    effect = sym (by_effect b (BuildChecksum 0 crc) h) ∙ ok

    refused : (r u n k : Bool) → cond r (Err Unavailable) (cond u (cond n (cond k (Err Unavailable) (Err Failed)) (Err Syntax)) (Err Locked)) ≡ Ok e → ⊥
    refused true u n k q = grind arith
    refused false false n k q = grind arith
    refused false true false k q = grind arith
    refused false true true false q = grind arith
    refused false true true true q = grind arith

    by : (o : Option (List Change)) → seal_changes b ≡ o → is_some (seal_changes b) ≡ true
    by (Some cs) q = ap is_some q
    by None q =
        let d = b.session.dialog in
        absurd (refused (is_register d.space) (is_unlocked d.unlocked d.space) (length d.bytes.items == 0) (d.image_crc == crc)
        (sym (λ i. cond (is_register d.space) (Err Unavailable) (cond (is_unlocked d.unlocked d.space) (cond (length d.bytes.items == 0) (cond (d.image_crc == crc) (imaging d ((ap (seal_for b) at ∙ q) i)) (Err Failed)) (Err Syntax)) (Err Locked))) ∙ effect))

-- so where all was carried out, it could
pub seal_was : (b : Board) (c mask : ℕ) (xs : List Chunk) (d : Board) → b.session.state ≡ Connected → is_mask (Some mask) b.flash.shape.units ≡ true → CanPut (cleared_memory Flash mask b.flash) xs
    → Carries b c (filling Flash mask xs) d → is_some (seal_changes (with_flash b (filled_memory Flash mask xs b.flash).contents)) ≡ true
seal_was b c mask xs d h k can carried =
    let v = fills b c Flash mask xs h refl k can in
    let f = v.filled in
    let one = carries_split (preparing Flash mask) (commands_of 0 xs ++ checking xs ∷ []) b c d carried in
    let first : one.0 ≡ v.first = carries_same b c (preparing Flash mask) one.0 v.first one.1 v.prepares in
    let two = carries_split (commands_of 0 xs) (checking xs ∷ []) v.first (records_counter c Flash mask) d
    (subst (λ (m : Board). Carries m (records_counter c Flash mask) (commands_of 0 xs ++ checking xs ∷ []) d) first one.2) in
    let second : two.0 ≡ v.after = carries_same v.first (records_counter c Flash mask) (commands_of 0 xs) two.0 v.after two.1 v.records in
    let last = subst (λ (m : Board). Carries m (last_counter c Flash mask xs) (checking xs ∷ []) d) second two.2 in
    let flash : v.after.flash ≡ filled_memory Flash mask xs b.flash = f.memory in
    let boot : v.after.boot ≡ b.boot = f.others Boot refl refl in
    let some : is_some (seal_changes v.after) ≡ true = seal_needed v.after (crc_over_all 0xFFFF xs) last.0 (f.state ∙ h) f.space last.2.effect in
    sym (λ i. is_some (seal_puts (seal_of (flash i).width (flash i).contents) (boot i).shape (boot i).contents)) ∙ some
