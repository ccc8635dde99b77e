-- Runs of frames and ticks: what they keep, and what holds of each board that is reached. Assumes nothing.
use Rattle.std.proofs.Common.{◌≡◌, ℕ, Bool, true, false, cond, ◌≤◌, List, [], ◌∷◌, ◌++◌, length, Some, Ok, Err, Result, refl, sym, ap, subst, ◌∙◌}
use Rattle.std.specs.Prelude.{Option, None, ◌==◌, slice_index}
use Rattle.std.specs.List.{AllByRecursion}
use Rattle.memory.specs.Part.{IsShape}
use Rattle.memory.specs.Changing.{length-changed_all}
use Rattle.bootloader.specs.declared.board.TheConstants.{ACTION_SERVICE}
use Rattle.bootloader.specs.declared.command.Command.{Command}
use Rattle.bootloader.specs.declared.dialog.Dialog.{Dialog}
use Rattle.bootloader.specs.declared.refusal.Refusal.{Refusal}
use Rattle.bootloader.specs.declared.session.Session.{Session}
use Rattle.bootloader.specs.declared.space.Space.{Space}
use Rattle.bootloader.specs.declared.space.Space.TheVariants.{Flash, Boot, Data}
use Rattle.bootloader.specs.Frames.{command_of}
use Rattle.bootloader.specs.Memories.{Memory, changes_in}
use Rattle.bootloader.specs.Dialog.{Effect}
use Rattle.bootloader.specs.Board.{Board, judged, board_after, memory_after, stepped, admitted, answered, answered_from, answered_anew, stored_reply, served, ticked}
use Rattle.bootloader.specs.Events.{Event, frame, tick, happened, board_behind, IsOfBytes}
use Rattle.bootloader.specs.Laws.{FreshAfterConnect}
use Rattle.bootloader.specs.Reach.{IsLawful, IsReached, IsSound, SameMake, SameBoard}
use Rattle.bootloader.proofs.Turns.{passes, none_some, frame_laws, tick_laws, served_dialog}
use Rattle.bootloader.proofs.Bytes.{AreBytes, bytes_changed, in_bytes}
use Rattle.bootloader.proofs.Effects.{LeavesBytes, left_by, frame_carries, judged_leaves}

pub joined : (b : Board) (es fs : List Event) → board_behind b (es ++ fs) ≡ board_behind (board_behind b es) fs
unfolding board_behind
joined b [] fs = refl
joined b (e ∷ es) fs = joined (happened b e).board es fs

-- what holds of a board still holds after a frame, if it outlasts an answer and what Action Service does
module _ (P : Board → Type 0) (f : List ℕ) (anew : (b : Board) → P b → P (answered_anew b f).board) (serves : (b : Board) → P b → P (record b { session = served b.session f })) where
  answer_lasts : (b : Board) (s : Option (List ℕ)) → P b → P (answered_from b f s).board
  answer_lasts b None h = anew b h
  answer_lasts b (Some reply) h = h

  admitted_lasts : (b : Board) → P b → P (admitted b f).board
  admitted_lasts b h = by (slice_index f 0 == ACTION_SERVICE)
    where
      by : (t : Bool) → P (cond t (record { board = record b { session = served b.session f }; reply = None }) (answered b f)).board
      by true = serves b h
      by false = answer_lasts b (stored_reply b.session.stored f) h

  frame_lasts : (b : Board) (places id : ℕ) → P b → P (stepped b places id f).board
  frame_lasts b places id h = by (passes b places id f)
    where
      by : (t : Bool) → P (cond t (admitted b f) (record { board = b; reply = None })).board
      by true = admitted_lasts b h
      by false = h

-- a memory after a command is made as it was
same_after : (m n : Memory) (s : Space) (r : Result Effect Refusal) → SameMake m n → SameMake m (memory_after s n r)
same_after m n s (Err x) h = record { base = h.base; width = h.width; shape = h.shape; long = h.long }
same_after m n s (Ok e) h = record { base = h.base; width = h.width; shape = h.shape; long = length-changed_all n.shape (changes_in s e.changes) n.contents ∙ h.long }

module _ (a : Board) where
  same_anew : (f : List ℕ) (b : Board) → SameBoard a b → SameBoard a (answered_anew b f).board
  same_anew f b h = record {
    setup = h.setup;
    flash = same_after a.flash b.flash Flash (judged b (command_of f)) h.flash;
    boot = same_after a.boot b.boot Boot (judged b (command_of f)) h.boot;
    eeprom = same_after a.eeprom b.eeprom Data (judged b (command_of f)) h.eeprom;
  }

  -- another session matters nothing
  same_session : (b : Board) (s : Session) → SameBoard a b → SameBoard a (record b { session = s })
  same_session b s h = record { setup = h.setup; flash = h.flash; boot = h.boot; eeprom = h.eeprom }

  same_event : (b : Board) (e : Event) → SameBoard a b → SameBoard a (happened b e).board
  same_event b (frame id bytes places) h = frame_lasts (SameBoard a) bytes (same_anew bytes) (λ k. same_session k (served k.session bytes)) b places id h
  same_event b tick h = same_session b (ticked b).session h

  same_run : (b : Board) (es : List Event) → SameBoard a b → SameBoard a (board_behind b es)
  unfolding board_behind
  same_run b [] h = h
  same_run b (e ∷ es) h = same_run (happened b e).board es (same_event b e h)

pub same : (b : Board) (es : List Event) → SameBoard b (board_behind b es)
same b es =
    let made : (m : Memory) → SameMake m m = λ m. record { base = refl; width = refl; shape = refl; long = refl } in
    same_run b b es (record { setup = refl; flash = made b.flash; boot = made b.boot; eeprom = made b.eeprom })

-- a board whose memories are lawful, and which has gathered bytes
record IsWhole (b : Board) : Type 0 where
  flash : IsLawful b.flash
  boot : IsLawful b.boot
  eeprom : IsLawful b.eeprom
  gathered : AreBytes b.session.dialog.bytes.items

lawful_after : (s : Space) (m : Memory) (r : Result Effect Refusal) → LeavesBytes r → IsLawful m → IsLawful (memory_after s m r)
lawful_after s m (Err x) g l = record { width = l.width; shape = l.shape; limited = l.limited; small = l.small }
lawful_after s m (Ok e) g l =
    let long : length (memory_after s m (Ok e)).contents ≡ length m.contents = length-changed_all m.shape (changes_in s e.changes) m.contents in
    record {
      width = l.width;
      shape = subst (λ (n : ℕ). IsShape n m.shape) (sym long) l.shape;
      limited = subst (λ (n : ℕ). n ≤ 1048576) (sym long) l.limited;
      small = bytes_changed m.shape (changes_in s e.changes) m.contents (in_bytes s e.changes (left_by e g).1) l.small;
    }

gathered_after : (b : Board) (o : Option Command) (r : Result Effect Refusal) → LeavesBytes r → AreBytes b.session.dialog.bytes.items → AreBytes (board_after b o r).session.dialog.bytes.items
gathered_after b None r g w = w
gathered_after b (Some x) (Err e) g w = w
gathered_after b (Some x) (Ok e) g w = (left_by e g).0

whole_anew : (f : List ℕ) → AreBytes f → (b : Board) → IsWhole b → IsWhole (answered_anew b f).board
whole_anew f a b w =
    let r : Result Effect Refusal = judged b (command_of f) in
    let g : LeavesBytes r = judged_leaves b w.gathered (command_of f) (frame_carries f a) in
    record {
      flash = lawful_after Flash b.flash r g w.flash;
      boot = lawful_after Boot b.boot r g w.boot;
      eeprom = lawful_after Data b.eeprom r g w.eeprom;
      gathered = gathered_after b (command_of f) r g w.gathered;
    }

whole_served : (f : List ℕ) (b : Board) → IsWhole b → IsWhole (record b { session = served b.session f })
whole_served f b w = record {
  flash = w.flash;
  boot = w.boot;
  eeprom = w.eeprom;
  gathered = subst (λ (d : Dialog). AreBytes d.bytes.items) (sym (served_dialog b.session f)) w.gathered;
}

-- over a whole run
run_sound : (es : List Event) (b : Board) → AllByRecursion IsOfBytes es → IsWhole b → FreshAfterConnect b → IsWhole (board_behind b es) × FreshAfterConnect (board_behind b es)
unfolding board_behind
run_sound [] b a w s = (w, s)
run_sound (frame id bytes places ∷ es) b a w s =
    run_sound es (stepped b places id bytes).board a.1 (frame_lasts IsWhole bytes (whole_anew bytes a.0) (whole_served bytes) b places id w) ((frame_laws b places id bytes).connected s)
run_sound (tick ∷ es) b a w s =
    run_sound es (ticked b) a.1 (record { flash = w.flash; boot = w.boot; eeprom = w.eeprom; gathered = w.gathered }) ((tick_laws b).connected s)

pub sound : (b : Board) → IsReached b → IsSound b
sound b r =
    let none : r.first.session.stored ≡ None = ap (λ k. k.session.stored) r.fresh in
    let start : FreshAfterConnect r.first = record {
      state = λ x h e. none_some x (sym none ∙ h);
      dialog = λ x h e. none_some x (sym none ∙ h);
      reply = λ x h e. none_some x (sym none ∙ h);
    } in
    let whole : IsWhole r.first = record {
      flash = r.flash;
      boot = r.boot;
      eeprom = r.eeprom;
      gathered = subst (λ (k : Board). AreBytes k.session.dialog.bytes.items) (sym r.fresh) tt;
    } in
    let all = subst (λ (k : Board). IsWhole k × FreshAfterConnect k) r.came (run_sound r.events r.first r.bytes whole start) in
    record { connected = all.1; flash = all.0.flash; boot = all.0.boot; eeprom = all.0.eeprom }
