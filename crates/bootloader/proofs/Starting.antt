-- How a board comes to run the application. Assumes nothing.
use Rattle.std.proofs.Common.{◌≡◌, ℕ, Bool, true, false, cond, List, Some, Ok, Err, Result, refl, sym, ap, ◌∙◌, arith}
use Rattle.std.specs.Prelude.{Option, None, ◌==◌, slice_index}
use Rattle.bootloader.specs.declared.board.TheConstants.{FRAME_ID, ACTION_SERVICE}
use Rattle.bootloader.specs.declared.command.Command.{Command}
use Rattle.bootloader.specs.declared.command.Command.TheVariants.{Connect, SetMta, Unlock, Clear, Download, DownloadSix, BuildChecksum, Disconnect}
use Rattle.bootloader.specs.declared.refusal.Refusal.{Refusal}
use Rattle.bootloader.specs.Frames.{command_of}
use Rattle.bootloader.specs.Dialog.{Effect}
use Rattle.bootloader.specs.Board.{Board, Turn, judged, session_after, reply_to, answered, answered_anew, answered_from, stored_reply, admitted, is_running, served, taken}
use Rattle.bootloader.specs.BoardLaws.{code_of}
use Rattle.bootloader.proofs.Turns.{passes, served_state}

-- a turn that is an accepted Disconnect
abbrev Starts : List ℕ → Turn → Type 0
Starts f t = (kind : ℕ) × (reply : List ℕ) × (command_of f ≡ Some (Disconnect kind)) × (t.reply ≡ Some reply) × (code_of reply ≡ 0)

module _ (b : Board) (f : List ℕ) (still : is_running b.session.state ≡ false) where
  -- the board stays as it is
  stays : {A : Type 0} → is_running b.session.state ≡ true → A
  stays run = absurd (let clash : false ≡ true = sym still ∙ run in grind arith)

  of_command : (o : Option Command) → command_of f ≡ o → (r : Result Effect Refusal) → judged b o ≡ r → is_running (session_after b o r).state ≡ true → Starts f (answered_anew b f)
  of_command (Some (Disconnect kind)) e (Ok done) q run =
      (kind, reply_to f (Ok done), e, (λ i. Some (reply_to f (judged_is i))), refl)
    where
      judged_is : judged b (command_of f) ≡ Ok done
      judged_is = ap (judged b) e ∙ q
  of_command None e r q run = stays run
  of_command (Some c) e (Err x) q run = stays run
  of_command (Some Connect) e (Ok done) q run = absurd (let clash : false ≡ true = run in grind arith)
  of_command (Some (SetMta number extension address)) e (Ok done) q run = stays run
  of_command (Some (Unlock size password)) e (Ok done) q run = stays run
  of_command (Some (Clear mask)) e (Ok done) q run = stays run
  of_command (Some (Download size bytes)) e (Ok done) q run = stays run
  of_command (Some (DownloadSix bytes)) e (Ok done) q run = stays run
  of_command (Some (BuildChecksum size crc)) e (Ok done) q run = stays run

  of_answer : (s : Option (List ℕ)) → is_running (answered_from b f s).board.session.state ≡ true → Starts f (answered_from b f s)
  of_answer None run = of_command (command_of f) refl (judged b (command_of f)) refl run
  of_answer (Some reply) run = stays run

  of_admitted : (t : Bool) → is_running (cond t (record { board = record b { session = served b.session f }; reply = None }) (answered b f)).board.session.state ≡ true
      → Starts f (cond t (record { board = record b { session = served b.session f }; reply = None }) (answered b f))
  of_admitted true run = stays (ap is_running (sym (served_state b.session f)) ∙ run)
  of_admitted false run = of_answer (stored_reply b.session.stored f) run

  pub starts : is_running (taken b f).board.session.state ≡ true → Starts f (taken b f)
  starts run = by (passes b 8 FRAME_ID f) run
    where
      by : (t : Bool) → is_running (cond t (admitted b f) (record { board = b; reply = None })).board.session.state ≡ true → Starts f (cond t (admitted b f) (record { board = b; reply = None }))
      by true run = of_admitted (slice_index f 0 == ACTION_SERVICE) run
      by false run = stays run
