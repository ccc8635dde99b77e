-- A command on the selected memory changes no other. Assumes nothing.
use Rattle.std.proofs.Common.{◌≡◌, ℕ, false, List, Some, Ok, Err, Result, refl, sym, ap, ◌∙◌, arith}
use Rattle.std.specs.Prelude.{Option, None, cond, ◌||◌}
use Rattle.memory.specs.Changes.{Change, changed_all}
use Rattle.bootloader.specs.declared.space.Space.{Space}
use Rattle.bootloader.specs.declared.space.Space.TheVariants.{Flash, Boot, Data}
use Rattle.bootloader.specs.declared.refusal.Refusal.{Refusal}
use Rattle.bootloader.specs.declared.refusal.Refusal.TheVariants.{Denied}
use Rattle.bootloader.specs.declared.state.State.TheVariants.{Connected}
use Rattle.bootloader.specs.declared.command.Command.{Command}
use Rattle.bootloader.specs.declared.command.Command.TheVariants.{BuildChecksum}
use Rattle.bootloader.specs.declared.dialog.Dialog.{Dialog}
use Rattle.bootloader.specs.declared.session.Session.{Session}
use Rattle.bootloader.specs.Memories.{Memory, done_by, is_space, placed_in, changes_in}
use Rattle.bootloader.specs.Dialog.{Effect, mta_effect, unlock_effect, download_effect, clear_effect, record_effect, contents_after, dialog_after}
use Rattle.bootloader.specs.Board.{Board, in_space, state_after, session_after, board_after, seal_for, sealed_by, imaging, image_effect, effect_of, judged, is_connected, is_connect}
use Rattle.bootloader.specs.Places.{changes_in_same, changes_in_other, unchanged}

-- what is done to the selected memory changes no memory of another space
abbrev pub OnlySelected : Dialog → (Memory → Result Effect Refusal) → Type 0
OnlySelected d act = (s : Space) (m n : Memory) → is_space s d.space ≡ false → contents_after s n (act m) ≡ n.contents

elsewhere : (s t : Space) (cs : List Change) (n : Memory) → is_space s t ≡ false → changed_all n.shape (changes_in s (placed_in t cs)) n.contents ≡ n.contents
unfolding changed_all
elsewhere s t cs n h = ap (λ ds. changed_all n.shape ds n.contents) (changes_in_other s t cs h)

pub clear_only : (d : Dialog) (mask : Option ℕ) → OnlySelected d (λ m. clear_effect d m mask)
clear_only d mask s m n h = grind (arith, elsewhere s d.space)

pub record_only : (d : Dialog) (crc : ℕ) → OnlySelected d (λ m. record_effect d m crc)
record_only d crc s m n h = grind (arith, elsewhere s d.space)

-- what is done changes no memory
abbrev pub ChangesNone : Result Effect Refusal → Type 0
ChangesNone r = (s : Space) (n : Memory) → contents_after s n r ≡ n.contents

pub mta_none : (d : Dialog) (number extension address : ℕ) → ChangesNone (mta_effect d number extension address)
mta_none d number extension address s n = grind (arith, unchanged)

pub unlock_none : (d : Dialog) (size password : ℕ) → ChangesNone (unlock_effect d size password)
unlock_none d size password s n = grind (arith, unchanged)

pub download_none : (d : Dialog) (m : Memory) (more : List ℕ) → ChangesNone (download_effect d m more)
download_none d m more s n = grind (arith, unchanged)

module _ (b : Board) (c : Command) (kept : state_after b c ≡ b.session.state) where
  abbrev pub with_dialog : Result Effect Refusal → Session
  with_dialog r = record (b.session) { dialog = dialog_after b.session.dialog r }

  -- a command that keeps the state leaves a dialog
  session_kept : (r : Result Effect Refusal) → session_after b (Some c) r ≡ with_dialog r
  session_kept (Ok e) = λ i. record (b.session) { state = kept i; dialog = e.dialog }
  session_kept (Err e) = refl

  pub only_dialog : (r : Result Effect Refusal) → ChangesNone r → board_after b (Some c) r ≡ record b { session = with_dialog r }
  only_dialog r none = λ i. record b {
    session = session_kept r i;
    flash = record (b.flash) { contents = none Flash b.flash i };
    boot = record (b.boot) { contents = none Boot b.boot i };
    eeprom = record (b.eeprom) { contents = none Data b.eeprom i };
  }

  -- the same, of a command on the selected memory
  module _ (act : Memory → Result Effect Refusal) (r : Result Effect Refusal) where
    dialog_in : in_space b b.session.dialog.space act ≡ r → ChangesNone r → board_after b (Some c) (in_space b b.session.dialog.space act) ≡ record b { session = with_dialog r }
    dialog_in e none = ap (board_after b (Some c)) e ∙ only_dialog r none

    pub dialog_in_flash : b.session.dialog.space ≡ Flash → act b.flash ≡ r → ChangesNone r → board_after b (Some c) (in_space b b.session.dialog.space act) ≡ record b { session = with_dialog r }
    dialog_in_flash e a = dialog_in (ap (λ s. in_space b s act) e ∙ a)

    pub dialog_in_boot : b.session.dialog.space ≡ Boot → act b.boot ≡ r → ChangesNone r → board_after b (Some c) (in_space b b.session.dialog.space act) ≡ record b { session = with_dialog r }
    dialog_in_boot e a = dialog_in (ap (λ s. in_space b s act) e ∙ a)

    pub dialog_in_eeprom : b.session.dialog.space ≡ Data → act b.eeprom ≡ r → ChangesNone r → board_after b (Some c) (in_space b b.session.dialog.space act) ≡ record b { session = with_dialog r }
    dialog_in_eeprom e a = dialog_in (ap (λ s. in_space b s act) e ∙ a)

  module _ (act : Memory → Result Effect Refusal) (only : OnlySelected b.session.dialog act) (r : Result Effect Refusal) where
    abbrev pub with_contents : Memory → Result Effect Refusal → Memory
    with_contents m r = record m { contents = contents_after b.session.dialog.space m r }

    other : (s : Space) (m n : Memory) → is_space s b.session.dialog.space ≡ false → act m ≡ r → contents_after s n r ≡ n.contents
    other s m n h a = ap (contents_after s n) (sym a) ∙ only s m n h

    pub in_flash : b.session.dialog.space ≡ Flash → act b.flash ≡ r
        → board_after b (Some c) (in_space b b.session.dialog.space act) ≡ record b { session = with_dialog r; flash = with_contents b.flash r }
    in_flash e a =
        let here : contents_after Flash b.flash r ≡ contents_after b.session.dialog.space b.flash r = ap (λ s. contents_after s b.flash r) (sym e) in
        ap (board_after b (Some c)) (ap (λ s. in_space b s act) e ∙ a)
        ∙ (λ i. record b {
          session = session_kept r i;
          flash = record (b.flash) { contents = here i };
          boot = record (b.boot) { contents = other Boot b.flash b.boot (ap (is_space Boot) e) a i };
          eeprom = record (b.eeprom) { contents = other Data b.flash b.eeprom (ap (is_space Data) e) a i };
        })

    pub in_boot : b.session.dialog.space ≡ Boot → act b.boot ≡ r
        → board_after b (Some c) (in_space b b.session.dialog.space act) ≡ record b { session = with_dialog r; boot = with_contents b.boot r }
    in_boot e a =
        let here : contents_after Boot b.boot r ≡ contents_after b.session.dialog.space b.boot r = ap (λ s. contents_after s b.boot r) (sym e) in
        ap (board_after b (Some c)) (ap (λ s. in_space b s act) e ∙ a)
        ∙ (λ i. record b {
          session = session_kept r i;
          flash = record (b.flash) { contents = other Flash b.boot b.flash (ap (is_space Flash) e) a i };
          boot = record (b.boot) { contents = here i };
          eeprom = record (b.eeprom) { contents = other Data b.boot b.eeprom (ap (is_space Data) e) a i };
        })

    pub in_eeprom : b.session.dialog.space ≡ Data → act b.eeprom ≡ r
        → board_after b (Some c) (in_space b b.session.dialog.space act) ≡ record b { session = with_dialog r; eeprom = with_contents b.eeprom r }
    in_eeprom e a =
        let here : contents_after Data b.eeprom r ≡ contents_after b.session.dialog.space b.eeprom r = ap (λ s. contents_after s b.eeprom r) (sym e) in
        ap (board_after b (Some c)) (ap (λ s. in_space b s act) e ∙ a)
        ∙ (λ i. record b {
          session = session_kept r i;
          flash = record (b.flash) { contents = other Flash b.eeprom b.flash (ap (is_space Flash) e) a i };
          boot = record (b.boot) { contents = other Boot b.eeprom b.boot (ap (is_space Boot) e) a i };
          eeprom = record (b.eeprom) { contents = here i };
        })

-- what was done could be done
made_some : (made : Option (List Change)) → done_by made ≡ Ok tt → (cs : List Change) × (made ≡ Some cs)
made_some None h = grind arith
made_some (Some cs) h = (cs, refl)

-- an image that is whole leaves its seal, and nothing else
image_left : (b : Board) (crc : ℕ) (cs : List Change) → board_after b (Some (BuildChecksum 0 crc)) (imaging b.session.dialog (Some cs)) ≡ sealed_by b (Some cs)
image_left b crc cs = λ i. record b {
  flash = record (b.flash) { contents = elsewhere Flash Boot cs b.flash refl i };
  boot = record (b.boot) { contents = changed_all b.boot.shape (changes_in_same Boot cs i) b.boot.contents };
  eeprom = record (b.eeprom) { contents = elsewhere Data Boot cs b.eeprom refl i };
}

pub image_sealed : (b : Board) (crc : ℕ) → done_by (seal_for b b.session.dialog.space) ≡ Ok tt → image_effect b crc ≡ imaging b.session.dialog (seal_for b b.session.dialog.space)
    → board_after b (Some (BuildChecksum 0 crc)) (image_effect b crc) ≡ sealed_by b (seal_for b b.session.dialog.space)
image_sealed b crc done whole =
    let found = made_some (seal_for b b.session.dialog.space) done in
    ap (board_after b (Some (BuildChecksum 0 crc))) (whole ∙ ap (imaging b.session.dialog) found.1)
    ∙ image_left b crc found.0
    ∙ sym (ap (sealed_by b) found.1)

-- a command of a connected host is carried out
pub commanded : (b : Board) (o : Option Command) (c : Command) → o ≡ Some c → b.session.state ≡ Connected → board_after b o (judged b o) ≡ board_after b (Some c) (effect_of b c)
commanded b o c e h =
    ap (λ o. board_after b o (judged b o)) e
    ∙ ap (λ t. board_after b (Some c) (cond (is_connected t || is_connect c) (effect_of b c) (Err Denied))) h
