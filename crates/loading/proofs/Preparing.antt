-- A connected board is prepared for a load. Assumes nothing.
use Rattle.std.proofs.Common.{◌≡◌, ℕ, true, false, List, [], ◌∷◌, Ok, refl, ap, ◌∙◌, arith}
use Rattle.std.specs.Prelude.{Option}
use Rattle.bootloader.specs.declared.command.Command.{Command}
use Rattle.bootloader.specs.declared.command.Command.TheVariants.{SetMta, Unlock, Clear}
use Rattle.bootloader.specs.declared.dialog.Dialog.{Dialog}
use Rattle.bootloader.specs.declared.dialog.Unlocked.{Unlocked}
use Rattle.bootloader.specs.declared.space.Space.{Space}
use Rattle.bootloader.specs.declared.space.Space.TheVariants.{Flash, Register, Boot, Data}
use Rattle.bootloader.specs.declared.state.State.TheVariants.{Connected}
use Rattle.bootloader.specs.Frames.{extension_of}
use Rattle.bootloader.specs.Memories.{Memory, placed_in, clears_below, is_mask}
use Rattle.bootloader.specs.Dialog.{Effect, is_register, is_unlocked, leaves, nothing, unlock_effect, clear_effect}
use Rattle.bootloader.specs.Board.{Board, effect_of, mask_for}
use Rattle.session.specs.Session.{next}
use Rattle.session.specs.Laws.{Carries}
use Rattle.loading.proofs.Gathered.{memory_in}
use Rattle.loading.specs.Prepared.{password_of, preparing}
use Rattle.loading.proofs.Prepared.{opening, Does, Prepares}
use Rattle.loading.proofs.Carrying.{carries_append}
use Rattle.loading.proofs.Doing.{in_memory, if_so, when_unlocked, changed_by, here, elsewhere, does, done_alone, done_before, unchanging, selects}

-- a space is unlocked
unlocked_by : (d : Dialog) (s : Space) → is_register s ≡ false → d.space ≡ Register → d.address ≡ 0 → unlock_effect d 2 (password_of s) ≡ Ok (leaves (1 ∷ 0 ∷ 0 ∷ 0 ∷ 2 ∷ []) (record d { unlocked = opening s d.unlocked }))
unlocked_by d Flash r h a = grind (arith, h, a)
unlocked_by d Register r h a = absurd (grind arith)
unlocked_by d Boot r h a = grind (arith, h, a)
unlocked_by d Data r h a = grind (arith, h, a)

unlocks : (b : Board) (c : ℕ) (s : Space) → b.session.state ≡ Connected → is_register s ≡ false → b.session.dialog.space ≡ Register → b.session.dialog.address ≡ 0
    → Does b c (Unlock 2 (password_of s)) (record (b.session.dialog) { unlocked = opening s b.session.dialog.unlocked }) Flash []
unlocks b c s h r at zero =
    does b c (Unlock 2 (password_of s)) (leaves (1 ∷ 0 ∷ 0 ∷ 0 ∷ 2 ∷ []) (record (b.session.dialog) { unlocked = opening s b.session.dialog.unlocked })) Flash [] h refl (unlocked_by b.session.dialog s r at zero) refl

-- a space is unlocked, and its beginning selected
abbrev opening_of : Space → List Command
opening_of s = SetMta 0 1 0 ∷ Unlock 2 (password_of s) ∷ SetMta 0 (extension_of s) 0 ∷ []

abbrev opened_dialog : Space → Dialog → Dialog
opened_dialog s d = record d { space = s; address = 0; bytes = record { items = [] }; unlocked = opening s d.unlocked }

record Opens (b : Board) (c : ℕ) (s : Space) : Type 0 where
  after : Board
  carried : Carries b c (opening_of s) after
  setup : after.setup ≡ b.setup
  state : after.session.state ≡ b.session.state
  dialog : after.session.dialog ≡ opened_dialog s b.session.dialog
  kept : (t : Space) → is_register t ≡ false → memory_in after t ≡ memory_in b t

opens : (b : Board) (c : ℕ) (s : Space) → b.session.state ≡ Connected → is_register s ≡ false → Opens b c s
opens b c s h r =
    let one = selects b c Register 0 h in
    let two = unlocks one.after (next c) s (one.state ∙ h) r (ap (λ d. d.space) one.dialog) (ap (λ d. d.address) one.dialog) in
    let three = selects two.after (next (next c)) s 0 (two.state ∙ (one.state ∙ h)) in
    record {
      after = three.after;
      carried = done_before one (Unlock 2 (password_of s) ∷ SetMta 0 (extension_of s) 0 ∷ []) three.after
          (done_before two (SetMta 0 (extension_of s) 0 ∷ []) three.after (done_alone three));
      setup = three.setup ∙ (two.setup ∙ one.setup);
      state = three.state ∙ (two.state ∙ one.state);
      dialog = three.dialog ∙ (ap (λ (d : Dialog). let z : Dialog = record d { space = s; address = 0; bytes = record { items = [] } } in z) two.dialog ∙ ap (opened_dialog s) one.dialog);
      kept = λ t q. unchanging three t q ∙ (unchanging two t q ∙ unchanging one t q);
    }

pub opened_lock : (u : Unlocked) (s : Space) → is_register s ≡ false → is_unlocked (opening s u) s ≡ true
opened_lock u Flash r = refl
opened_lock u Register r = absurd (grind arith)
opened_lock u Boot r = refl
opened_lock u Data r = refl

-- the selected space is cleared
abbrev clearing : Dialog → Memory → Option ℕ → Effect
clearing d m mask = record {
  payload = nothing;
  dialog = record d { bytes = record { items = [] }; image_crc = 0xFFFF };
  changes = placed_in d.space (clears_below mask m.shape.units);
}

cleared_in : (d : Dialog) (m : Memory) (mask : Option ℕ) → is_unlocked d.unlocked d.space ≡ true → is_mask mask m.shape.units ≡ true → clear_effect d m mask ≡ Ok (clearing d m mask)
cleared_in d m mask u k = when_unlocked d _ u ∙ if_so (is_mask mask m.shape.units) _ _ k

clears : (b : Board) (c mask : ℕ) (s : Space) → b.session.state ≡ Connected → is_register s ≡ false → b.session.dialog.space ≡ s → is_unlocked b.session.dialog.unlocked s ≡ true
    → is_mask (mask_for s mask) (memory_in b s).shape.units ≡ true
    → Does b c (Clear mask) (record (b.session.dialog) { bytes = record { items = [] }; image_crc = 0xFFFF }) s (clears_below (mask_for s mask) (memory_in b s).shape.units)
clears b c mask s h r at u k =
    let d : Dialog = b.session.dialog in
    let e : Effect = clearing d (memory_in b d.space) (mask_for d.space mask) in
    let done : effect_of b (Clear mask) ≡ Ok e =
    in_memory (λ m. clear_effect d m (mask_for d.space mask)) b d.space (ap is_register at ∙ r)
    ∙ cleared_in d (memory_in b d.space) (mask_for d.space mask) (ap (is_unlocked d.unlocked) at ∙ u) (ap (λ z. is_mask (mask_for z mask) (memory_in b z).shape.units) at ∙ k) in
    does b c (Clear mask) e s (clears_below (mask_for s mask) (memory_in b s).shape.units) h refl done (λ i. placed_in (at i) (clears_below (mask_for (at i) mask) (memory_in b (at i)).shape.units))

-- the space is unlocked, selected and cleared
pub prepared : (b : Board) (c : ℕ) (s : Space) (mask : ℕ) → b.session.state ≡ Connected → is_register s ≡ false → is_mask (mask_for s mask) (memory_in b s).shape.units ≡ true → Prepares b c s mask
unfolding preparing
prepared b c s mask h r k =
    let o = opens b c s h r in
    let m : Memory = memory_in o.after s in
    let unlocked : is_unlocked o.after.session.dialog.unlocked s ≡ true = ap (λ d. is_unlocked d.unlocked s) o.dialog ∙ opened_lock b.session.dialog.unlocked s r in
    let four = clears o.after (next (next (next c))) mask s (o.state ∙ h) r (ap (λ d. d.space) o.dialog) unlocked (ap (λ m. is_mask (mask_for s mask) m.shape.units) (o.kept s r) ∙ k) in
    record {
      after = four.after;
      carried = carries_append (opening_of s) (Clear mask ∷ []) b c o.after four.after o.carried (done_alone four);
      prepared = record {
        setup = four.setup ∙ o.setup;
        state = four.state ∙ o.state;
        dialog = four.dialog ∙ ap (λ (d : Dialog). let z : Dialog = record d { bytes = record { items = [] }; image_crc = 0xFFFF } in z) o.dialog;
        cleared = four.memory s r ∙ (here m s (clears_below (mask_for s mask) m.shape.units) ∙ ap (λ m. changed_by m (clears_below (mask_for s mask) m.shape.units)) (o.kept s r));
        others = λ t q n. four.memory t q ∙ (elsewhere (memory_in o.after t) s t (clears_below (mask_for s mask) m.shape.units) n ∙ o.kept t q);
      };
    }
