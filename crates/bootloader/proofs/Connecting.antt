-- Connect leaves a fresh board, and Connect and Disconnect change no memory. Assumes nothing.
use Rattle.std.proofs.Common.{◌≡◌, ℕ, Bool, true, false, cond, ◌||◌, List, Some, Ok, Err, refl, sym, ap, subst, ◌∙◌}
use Rattle.std.specs.Prelude.{Option, None}
use Rattle.bootloader.specs.declared.board.TheConstants.{FRAME_ID}
use Rattle.bootloader.specs.declared.command.Command.{Command}
use Rattle.bootloader.specs.declared.command.Command.TheVariants.{Connect, Disconnect}
use Rattle.bootloader.specs.declared.refusal.Refusal.TheVariants.{Denied}
use Rattle.bootloader.specs.declared.session.Exchange.{Exchange}
use Rattle.bootloader.specs.declared.space.Space.{Space}
use Rattle.bootloader.specs.declared.space.Space.TheVariants.{Flash, Boot, Data}
use Rattle.bootloader.specs.Frames.{command_of, frame_of}
use Rattle.bootloader.specs.Memories.{Memory}
use Rattle.bootloader.specs.Dialog.{contents_after}
use Rattle.bootloader.specs.Board.{Board, judged, effect_of, memory_after, is_connected, is_connect, identity, reply_with, answered_anew, answered_from, stored_reply, taken}
use Rattle.bootloader.specs.Laws.{FreshAfterConnect}
use Rattle.bootloader.specs.BoardLaws.{TakesOnce, Connects, Keeps}
use Rattle.bootloader.proofs.Spaces.{ChangesNone}
use Rattle.bootloader.specs.Places.{unchanged}
use Rattle.bootloader.proofs.Turns.{passes, frame_laws}
use Rattle.bootloader.proofs.Saying.{is_answered}
use Rattle.bootloader.proofs.Carrying.{at_door, admitted_answer, stored}

kept : (b : Board) → Keeps b b
kept b = record { setup = refl; memories = record { flash = refl; boot = refl; eeprom = refl } }

-- a command that changes nothing in whatever state, as Connect and Disconnect
module _ (b : Board) (c : ℕ) (x : Command) (says : command_of (frame_of c x) ≡ Some x) (none : ChangesNone (effect_of b x)) where
  judged_none : ChangesNone (judged b (Some x))
  judged_none s n = by (is_connected b.session.state || is_connect x)
    where
      by : (t : Bool) → contents_after s n (cond t (effect_of b x) (Err Denied)) ≡ n.contents
      by true = none s n
      by false = refl

  memory_kept : (s : Space) (n : Memory) → memory_after s n (judged b (command_of (frame_of c x))) ≡ n
  memory_kept s n = ap (λ o. memory_after s n (judged b o)) says ∙ (λ i. record n { contents = judged_none s n i })

  anew_keeps : Keeps (answered_anew b (frame_of c x)).board b
  anew_keeps = record { setup = refl; memories = record { flash = memory_kept Flash b.flash; boot = memory_kept Boot b.boot; eeprom = memory_kept Data b.eeprom } }

  answer_keeps : (s : Option (List ℕ)) → Keeps (answered_from b (frame_of c x) s).board b
  answer_keeps None = anew_keeps
  answer_keeps (Some reply) = kept b

  turn_keeps : Keeps (taken b (frame_of c x)).board b
  turn_keeps = by (passes b 8 FRAME_ID (frame_of c x)) refl
    where
      by : (t : Bool) → passes b 8 FRAME_ID (frame_of c x) ≡ t → Keeps (taken b (frame_of c x)).board b
      by true q = subst (λ u. Keeps u.board b) (sym (at_door b (frame_of c x) true q ∙ admitted_answer b (frame_of c x) (is_answered c x))) (answer_keeps (stored_reply b.session.stored (frame_of c x)))
      by false q = subst (λ u. Keeps u.board b) (sym (at_door b (frame_of c x) false q)) (kept b)

pub connect_keeps : (b : Board) (c : ℕ) → Keeps (taken b (frame_of c Connect)).board b
connect_keeps b c = turn_keeps b c Connect refl (λ s n. unchanged s n.shape n.contents)

pub disconnect_keeps : (b : Board) (c : ℕ) → Keeps (taken b (frame_of c (Disconnect 1))).board b
disconnect_keeps b c = turn_keeps b c (Disconnect 1) refl (λ s n. unchanged s n.shape n.contents)

-- Connect leaves a fresh board, repeated or not
pub connects : (b : Board) (c : ℕ) (reply : List ℕ) (d : Board) → FreshAfterConnect b → TakesOnce b (frame_of c Connect) reply d → Connects b c reply d
connects b c reply d fresh t =
    let last : Exchange = record { frame = frame_of c Connect; reply = reply } in
    let told : d.session.stored ≡ Some last = stored b c Connect reply d t in
    let after : FreshAfterConnect d = subst FreshAfterConnect (sym t.after) ((frame_laws b 8 FRAME_ID (frame_of c Connect)).connected fresh) in
    let keeps : Keeps d b = subst (λ k. Keeps k b) (sym t.after) (connect_keeps b c) in
    record {
      setup = keeps.setup;
      state = after.state last told refl;
      dialog = after.dialog last told refl;
      memories = keeps.memories;
      tells = after.reply last told refl ∙ ap (λ s. reply_with c (Ok (identity s))) keeps.setup;
      stored = told;
    }
