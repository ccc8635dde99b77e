-- What is sent over a link is taken once, whatever is lost, by the laws of boards.
use Rattle.std.proofs.Common.{◌≡◌, ℕ, Bool, true, false, cond, ◌⊎◌, List, [], ◌∷◌, Some, refl, sym, ap, ◌∙◌, inl, inr, arith}
use Rattle.std.specs.Prelude.{Option, None, ◌&&◌, length, not, ◌==◌, zero, suc}
use Rattle.bootloader.specs.declared.board.TheConstants.{FRAME_ID}
use Rattle.bootloader.specs.declared.command.Command.{Command}
use Rattle.bootloader.specs.declared.command.Command.TheVariants.{Connect, SetMta, Unlock, Clear, Download, DownloadSix, BuildChecksum, Disconnect}
use Rattle.bootloader.specs.Frames.{frame_of}
use Rattle.bootloader.specs.Board.{Board, admitted, answered, answered_from, stored_reply, is_running, taken}
use Rattle.bootloader.specs.BoardLaws.{BoardLaws, TakesOnce}
use Rattle.link.specs.Link.{FrameLost, ReplyLost, Arrives, OneExchange}
use Rattle.session.specs.Session.{Silent, Answered, Delivered, next}
use Rattle.session.specs.Laws.{TakesAll}

-- a command that is admitted is answered
admitted_answer : (b : Board) (c : ℕ) (x : Command) → admitted b (frame_of c x) ≡ answered b (frame_of c x)
admitted_answer b c Connect = refl
admitted_answer b c (SetMta number extension address) = refl
admitted_answer b c (Unlock size password) = refl
admitted_answer b c (Clear mask) = refl
admitted_answer b c (Download size bytes) = refl
admitted_answer b c (DownloadSix bytes) = refl
admitted_answer b c (BuildChecksum size crc) = refl
admitted_answer b c (Disconnect kind) = refl

-- a frame is taken again by a board that has just taken it: nothing changes, and the reply is the same or none
record Settled (b : Board) (f : List ℕ) : Type 0 where
  pub board : (taken (taken b f).board f).board ≡ (taken b f).board
  pub reply : ((taken (taken b f).board f).reply ≡ (taken b f).reply) ⊎ ((taken (taken b f).board f).reply ≡ None)

-- while the application runs nothing is taken
running_none : (b : Board) (f : List ℕ) → is_running b.session.state ≡ true → taken b f ≡ record { board = b; reply = None }
running_none b f h = grind arith

-- a frame that is answered has a reply
answered_some : (b : Board) (f : List ℕ) → (answered b f).reply ≡ None → ⊥
answered_some b f h = by_stored (stored_reply b.session.stored f) h
  where
    by_stored : (s : Option (List ℕ)) → (answered_from b f s).reply ≡ None → ⊥
    by_stored None h = grind arith
    by_stored (Some x) h = grind arith

-- a command to which there is no reply changes nothing
unanswered : (b : Board) (c : ℕ) (x : Command) → (taken b (frame_of c x)).reply ≡ None → (taken b (frame_of c x)).board ≡ b
unanswered b c x h = by (length f == 8 && not (is_running b.session.state)) refl
  where
    f : List ℕ
    f = frame_of c x

    by : (t : Bool) → (length f == 8 && not (is_running b.session.state)) ≡ t → (taken b f).board ≡ b
    by false q = ap (λ t. (cond t (admitted b f) (record { board = b; reply = None })).board) q
    by true q =
        absurd (answered_some b f (
        ap (λ u. u.reply) (sym (admitted_answer b c x)) ∙ (ap (λ t. (cond t (admitted b f) (record { board = b; reply = None })).reply) (sym q) ∙ h)))

settled : BoardLaws → (b : Board) (c : ℕ) (x : Command) → Settled b (frame_of c x)
settled laws b c x = by_reply (taken b f).reply refl
  where
    f : List ℕ
    f = frame_of c x

    by_state : (r : List ℕ) → (taken b f).reply ≡ Some r → (t : Bool) → is_running (taken b f).board.session.state ≡ t → Settled b f
    by_state r h false q =
        let same = (laws.frames b 8 FRAME_ID f).again r h q in
        record { board = ap (λ t. t.board) same; reply = inl (ap (λ t. t.reply) same ∙ sym h) }
    by_state r h true q =
        let none = running_none (taken b f).board f q in
        record { board = ap (λ t. t.board) none; reply = inr (ap (λ t. t.reply) none) }

    by_reply : (r : Option (List ℕ)) → (taken b f).reply ≡ r → Settled b f
    by_reply (Some r) h = by_state r h (is_running (taken b f).board.session.state) refl
    by_reply None h =
        let same = unanswered b c x h in
        record { board = ap (λ d. (taken d f).board) same; reply = inl (ap (λ d. (taken d f).reply) same) }

module _ (laws : BoardLaws) {P : Type 0} (exchanged : P → List ℕ → Option (List ℕ) → P → Type 0) (board : P → Board) (lossless : P → Type 0)
    (linked : (p q : P) (f : List ℕ) (r : Option (List ℕ)) → exchanged p f r q → OneExchange (lossless p) (lossless q) (board p) f r (board q)) where
  -- after silences the board has taken the frame once, or not at all
  pub silent_board : (p : P) (c : ℕ) (x : Command) (n : ℕ) (q : P) → Silent exchanged p (frame_of c x) n q
      → (board q ≡ board p) ⊎ (board q ≡ (taken (board p) (frame_of c x)).board)
  silent_board p c x zero q h = inl (ap board h)
  silent_board p c x (suc n) q h = step (silent_board p c x n h.0 h.1) (linked h.0 q f None h.2).some
    where
      f : List ℕ
      f = frame_of c x

      took : (board h.0 ≡ board p) ⊎ (board h.0 ≡ (taken (board p) f).board) → board q ≡ (taken (board h.0) f).board → (board q ≡ board p) ⊎ (board q ≡ (taken (board p) f).board)
      took (inl e) k = inr (k ∙ ap (λ b. (taken b f).board) e)
      took (inr e) k = inr (k ∙ (ap (λ b. (taken b f).board) e ∙ (settled laws (board p) c x).board))

      step : (board h.0 ≡ board p) ⊎ (board h.0 ≡ (taken (board p) f).board)
          → FrameLost (board h.0) None (board q) ⊎ (ReplyLost (board h.0) f None (board q) ⊎ Arrives (board h.0) f None (board q))
          → (board q ≡ board p) ⊎ (board q ≡ (taken (board p) f).board)
      step (inl e) (inl k) = inl (k.board ∙ e)
      step (inr e) (inl k) = inr (k.board ∙ e)
      step e (inr (inl k)) = took e k.board
      step e (inr (inr k)) = took e k.board

  -- a command that is answered was taken once
  pub answered_once : (p : P) (c : ℕ) (x : Command) (reply : List ℕ) (q : P) → Answered exchanged p (frame_of c x) reply q → TakesOnce (board p) (frame_of c x) reply (board q)
  answered_once p c x reply q h = by_outcome (linked m q f (Some reply) h.last).some
    where
      f : List ℕ
      f = frame_of c x

      m : P
      m = h.between

      arrived : (board m ≡ board p) ⊎ (board m ≡ (taken (board p) f).board) → Arrives (board m) f (Some reply) (board q) → TakesOnce (board p) f reply (board q)
      arrived (inl e) k = record { after = k.board ∙ ap (λ b. (taken b f).board) e; answer = sym (k.reply ∙ ap (λ b. (taken b f).reply) e) }
      arrived (inr e) k = again (settled laws (board p) c x).reply
        where
          told : Some reply ≡ (taken (taken (board p) f).board f).reply
          told = k.reply ∙ ap (λ b. (taken b f).reply) e

          again : ((taken (taken (board p) f).board f).reply ≡ (taken (board p) f).reply) ⊎ ((taken (taken (board p) f).board f).reply ≡ None) → TakesOnce (board p) f reply (board q)
          again (inl s) = record { after = k.board ∙ (ap (λ b. (taken b f).board) e ∙ (settled laws (board p) c x).board); answer = sym (told ∙ s) }
          again (inr s) = absurd (grind arith)

      by_outcome : FrameLost (board m) (Some reply) (board q) ⊎ (ReplyLost (board m) f (Some reply) (board q) ⊎ Arrives (board m) f (Some reply) (board q)) → TakesOnce (board p) f reply (board q)
      by_outcome (inl k) = absurd (grind (arith, k.reply))
      by_outcome (inr (inl k)) = absurd (grind (arith, k.reply))
      by_outcome (inr (inr k)) = arrived (silent_board p c x h.silences m h.before) k

  -- commands that are delivered were taken once each
  pub delivered_once : (p : P) (c : ℕ) (xs : List Command) (q : P) (d : ℕ) → Delivered exchanged p c xs q d → TakesAll (board p) c xs (board q)
  delivered_once p c [] q d h = ap board h.0
  delivered_once p c (x ∷ xs) q d h =
      (h.0, board h.1, answered_once p c x h.0 h.1 h.2.answered, h.2.accepted, delivered_once h.1 (next c) xs q d h.3)
