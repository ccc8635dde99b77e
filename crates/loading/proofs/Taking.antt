-- A record is sent to a board that can take it. Assumes nothing.
use Rattle.std.proofs.Common.{◌≡◌, ℕ, false, ◌≤◌, List, [], ◌∷◌, ◌++◌, length, Ok, refl, sym, ap, subst, ◌∙◌}
use Rattle.memory.specs.Crc.{crc_from}
use Rattle.bootloader.specs.declared.space.Space.{Space}
use Rattle.bootloader.specs.declared.state.State.TheVariants.{Connected}
use Rattle.bootloader.specs.declared.command.Command.{Command}
use Rattle.bootloader.specs.declared.command.Command.TheVariants.{BuildChecksum}
use Rattle.bootloader.specs.declared.dialog.Dialog.{Dialog}
use Rattle.bootloader.specs.Memories.{Memory, place, placed_in, puts_from}
use Rattle.bootloader.specs.Dialog.{is_register, is_unlocked, is_place}
use Rattle.bootloader.specs.Board.{Board, effect_of}
use Rattle.bootloader.specs.Laws.{SameMemories}
use Rattle.session.specs.Session.{next}
use Rattle.session.specs.Laws.{Carries}
use Rattle.loading.specs.Record.{downloads}
use Rattle.loading.proofs.Gathered.{memory_in, TakesBytes}
use Rattle.loading.proofs.Recorded.{CanRecordIn, CanRecord, recording_of, Recorded, CanTake, TakesRecord}
use Rattle.loading.proofs.Carrying.{carries_append, counter_after}
use Rattle.loading.proofs.Doing.{unlocked_memory, same_in, changed_by, here, elsewhere, does, done_alone, done_before, unchanged_all, selects}
use Rattle.loading.proofs.Gathering.{downloaded}
use Rattle.loading.proofs.Recording.{recorded}

-- the dialog after an address is selected
abbrev selected : Board → Space → ℕ → Dialog
selected b s a = record (b.session.dialog) { space = s; address = a; bytes = record { items = [] } }

-- the dialog after bytes are downloaded from there on
abbrev filled : Board → Space → ℕ → List ℕ → Dialog
filled b s a bytes = record (selected b s a) { bytes = record { items = bytes } }

-- the checksum of a record
abbrev checking : List ℕ → Command
checking bytes = BuildChecksum (length bytes) (crc_from 0xFFFF bytes)

-- the record that was downloaded is put
record Put (b : Board) (s : Space) (offset : ℕ) (bytes : List ℕ) (second : Board) (k : ℕ) : Type 0 where
  after : Board
  carried : Carries second k (checking bytes ∷ []) after
  recorded : Recorded b s offset bytes after

put_now : (b : Board) (s : Space) (a offset : ℕ) (bytes : List ℕ) (second : Board) (k : ℕ) → second.session.state ≡ b.session.state → b.session.state ≡ Connected → second.setup ≡ b.setup
    → second.session.dialog ≡ filled b s a bytes → SameMemories second b → CanRecord second offset → Put b s offset bytes second k
put_now b s a offset bytes second k state connected setup dialog memories can =
    let items : second.session.dialog.bytes.items ≡ bytes = ap (λ d. d.bytes.items) dialog in
    let effect : effect_of second (checking bytes) ≡ Ok (recording_of second offset) = ap (λ bs. effect_of second (checking bs)) (sym items) ∙ recorded second offset can in
    let space : second.session.dialog.space ≡ s = ap (λ d. d.space) dialog in
    let changes : (recording_of second offset).changes ≡ placed_in s (puts_from offset bytes) = λ i. placed_in (space i) (puts_from offset (items i)) in
    let register : is_register s ≡ false = ap is_register (sym space) ∙ unlocked_memory second.session.dialog.unlocked second.session.dialog.space can.unlocked in
    let o = does second k (checking bytes) (recording_of second offset) s (puts_from offset bytes) (state ∙ connected) refl effect changes in
    record {
      after = o.after;
      carried = done_alone o;
      recorded = record {
        setup = o.setup ∙ setup;
        state = o.state ∙ state;
        unlocked = ap (λ d. d.unlocked) o.dialog ∙ ap (λ d. d.unlocked) dialog;
        space = ap (λ d. d.space) o.dialog ∙ space;
        emptied = ap (λ d. d.bytes.items) o.dialog;
        image = ap (λ d. d.image_crc) o.dialog ∙ (λ i. crc_from (dialog i).image_crc (items i));
        put = o.memory s register ∙ (here (memory_in second s) s (puts_from offset bytes) ∙ ap (λ m. changed_by m (puts_from offset bytes)) (same_in b second s memories));
        others = λ t r n. o.memory t r ∙ (elsewhere (memory_in second t) s t (puts_from offset bytes) n ∙ same_in b second t memories);
      };
    }

both_same : (a b c : Board) → SameMemories b a → SameMemories c b → SameMemories c a
both_same a b c h k = record { flash = k.flash ∙ h.flash; boot = k.boot ∙ h.boot; eeprom = k.eeprom ∙ h.eeprom }

pub taken_record : (b : Board) (c : ℕ) (s : Space) (a offset : ℕ) (bytes : List ℕ) → CanTake b s a offset bytes → TakesRecord b c s a offset bytes
taken_record b c s a offset bytes t =
    let first = selects b c s a t.connected in
    let same : SameMemories first.after b = unchanged_all first in
    let at : first.after.session.dialog ≡ selected b s a = first.dialog in
    let memory : memory_in first.after first.after.session.dialog.space ≡ memory_in b s = ap (memory_in first.after) (ap (λ d. d.space) at) ∙ same_in b first.after s same in
    let takes : TakesBytes first.after (length (first.after.session.dialog.bytes.items ++ bytes)) = record {
      connected = first.state ∙ t.connected;
      unlocked = ap (λ d. is_unlocked d.unlocked d.space) at ∙ t.unlocked;
      few = subst (λ (d : Dialog). length (d.bytes.items ++ bytes) ≤ 252) (sym at) t.few;
      inside = (λ i. is_place (place (memory i) (at i).address (length ((at i).bytes.items ++ bytes)))) ∙ ap is_place t.at;
    } in
    let down = downloaded first.after (next c) bytes takes in
    let second : Board = down.after in
    let dialog : second.session.dialog ≡ filled b s a bytes = down.gathered.dialog ∙ ap (λ (d : Dialog). let e : Dialog = record d { bytes = record { items = d.bytes.items ++ bytes } } in e) at in
    let both : SameMemories second b = both_same b first.after second same down.gathered.memories in
    let there : memory_in second second.session.dialog.space ≡ memory_in b s = ap (λ d. memory_in second d.space) dialog ∙ same_in b second s both in
    let can : CanRecordIn (filled b s a bytes) (memory_in b s) offset = record {
      unlocked = t.unlocked;
      some = t.some;
      whole = t.whole;
      at = t.at;
      inside = t.inside;
      shape = t.shape;
      blank = t.blank;
      small = t.small;
    } in
    let can_here : CanRecord second offset = subst (λ (m : Memory). CanRecordIn second.session.dialog m offset) (sym there) (subst (λ (d : Dialog). CanRecordIn d (memory_in b s) offset) (sym dialog) can) in
    let put = put_now b s a offset bytes second (counter_after (next c) (downloads bytes)) (down.gathered.state ∙ first.state) t.connected (down.gathered.setup ∙ first.setup) dialog both can_here in
    record {
      after = put.after;
      carried = done_before first (downloads bytes ++ checking bytes ∷ []) put.after
          (carries_append (downloads bytes) (checking bytes ∷ []) first.after (next c) second put.after down.carried put.carried);
      recorded = put.recorded;
    }
