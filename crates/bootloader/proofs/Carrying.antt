-- Frames that a board answers: what is carried out, and what is stored. Assumes nothing.
use Rattle.std.proofs.Common.{◌≡◌, ℕ, Bool, true, false, cond, List, Some, Ok, Err, Result, refl, sym, ap, ◌∙◌, arith}
use Rattle.std.specs.Prelude.{Option, None, ◌==◌, slice_index}
use Rattle.std.specs.Str.{bytes_eq}
use Rattle.std.proofs.lemmas.Slice.Eq.{bytes_eq-Decides}
use Rattle.std.proofs.lemmas.Bool.Decides.{nat_tests}
use Rattle.bootloader.specs.declared.board.TheConstants.{FRAME_ID, ACTION_SERVICE}
use Rattle.bootloader.specs.declared.command.Command.{Command}
use Rattle.bootloader.specs.declared.session.Exchange.{Exchange}
use Rattle.bootloader.specs.declared.refusal.Refusal.{Refusal}
use Rattle.bootloader.specs.declared.refusal.Refusal.TheVariants.{Unknown, Syntax, OutOfRange, Denied, Locked, Unavailable, Failed}
use Rattle.bootloader.specs.Frames.{command_of, frame_of}
use Rattle.bootloader.specs.Dialog.{Effect, payload_of}
use Rattle.bootloader.specs.Board.{Board, Turn, judged, board_after, storing, reply_to, reply_with, answered, answered_anew, answered_from, stored_reply, admitted, is_running, served, taken}
use Rattle.bootloader.specs.BoardLaws.{TakesOnce, Accepted, IsSaid, IsNew, code_of}
use Rattle.bootloader.proofs.Turns.{passes, some_same}
use Rattle.bootloader.proofs.Saying.{is_answered}

-- what comes of a frame, by whether it passes the door
pub at_door : (b : Board) (f : List ℕ) (t : Bool) → passes b 8 FRAME_ID f ≡ t → taken b f ≡ cond t (admitted b f) (record { board = b; reply = None })
at_door b f t h = ap (λ u. cond u (admitted b f) (record { board = b; reply = None })) h

-- what passes it is answered, unless it is Action Service
pub admitted_answer : (b : Board) (f : List ℕ) → (slice_index f 0 == ACTION_SERVICE) ≡ false → admitted b f ≡ answered b f
admitted_answer b f h = ap (λ t. cond t (record { board = record b { session = served b.session f }; reply = None }) (answered b f)) h

-- what has a reply passed the door
pub answered_turn : (b : Board) (c : ℕ) (x : Command) (reply : List ℕ) → (taken b (frame_of c x)).reply ≡ Some reply → taken b (frame_of c x) ≡ answered b (frame_of c x)
answered_turn b c x reply h = by (passes b 8 FRAME_ID f) refl
  where
    f : List ℕ
    f = frame_of c x

    by : (t : Bool) → passes b 8 FRAME_ID f ≡ t → taken b f ≡ answered b f
    by true q = at_door b f true q ∙ admitted_answer b f (is_answered c x)
    by false q = absurd (let clash : Some reply ≡ None = sym h ∙ ap (λ u. u.reply) (at_door b f false q) in grind arith)

-- a refusal is not accepted
refused : (c : ℕ) (r : Refusal) → code_of (reply_with c (Err r)) ≡ 0 → ⊥
refused c Unknown h = grind arith
refused c Syntax h = grind arith
refused c OutOfRange h = grind arith
refused c Denied h = grind arith
refused c Locked h = grind arith
refused c Unavailable h = grind arith
refused c Failed h = grind arith

-- what comes of the frame of a command that is carried out with this result
abbrev turn_of : Board → ℕ → Command → Result Effect Refusal → Turn
turn_of b c x r =
    let reply : List ℕ = reply_with c (payload_of r) in
    record { board = storing (board_after b (Some x) r) (frame_of c x) reply; reply = Some reply }

new_turn : (b : Board) (c : ℕ) (x : Command) → IsNew b (frame_of c x) → IsSaid c x → answered b (frame_of c x) ≡ turn_of b c x (judged b (Some x))
new_turn b c x new said =
    let by : Option Command → ℕ → Turn = λ o n.
    let reply : List ℕ = reply_with n (payload_of (judged b o)) in
    record { board = storing (board_after b o (judged b o)) (frame_of c x) reply; reply = Some reply } in
    ap (answered_from b (frame_of c x)) new ∙ (λ i. by (said.command i) (said.counter i))

-- a frame that is new and accepted is carried out
pub carried : (b : Board) (c : ℕ) (x : Command) (reply : List ℕ) (d : Board) → IsNew b (frame_of c x) → IsSaid c x
    → TakesOnce b (frame_of c x) reply d → code_of reply ≡ 0 → (e : Effect) × Accepted b c x e d
carried b c x reply d new said t ok = by (judged b (Some x)) refl
  where
    turn : taken b (frame_of c x) ≡ turn_of b c x (judged b (Some x))
    turn = answered_turn b c x reply t.answer ∙ new_turn b c x new said

    told : reply ≡ reply_with c (payload_of (judged b (Some x)))
    told = some_same reply (reply_with c (payload_of (judged b (Some x)))) (sym t.answer ∙ ap (λ u. u.reply) turn)

    by : (r : Result Effect Refusal) → judged b (Some x) ≡ r → (e : Effect) × Accepted b c x e d
    by (Err r) q = absurd (refused c r (ap code_of (sym (told ∙ ap (λ r. reply_with c (payload_of r)) q)) ∙ ok))
    by (Ok e) q = (e, record { effect = q; after = t.after ∙ (ap (λ u. u.board) turn ∙ ap (λ r. (turn_of b c x r).board) q) })

-- and one that can be carried out is answered so
pub answers : (b : Board) (c : ℕ) (x : Command) (e : Effect) (d : Board) → is_running b.session.state ≡ false → IsNew b (frame_of c x) → IsSaid c x
    → Accepted b c x e d → taken b (frame_of c x) ≡ record { board = d; reply = Some (reply_with c (Ok e.payload)) }
answers b c x e d run new said a =
    let f : List ℕ = frame_of c x in
    let passed : passes b 8 FRAME_ID f ≡ true = grind (arith, nat_tests, said.long) in
    at_door b f true passed
    ∙ (admitted_answer b f (is_answered c x)
    ∙ (new_turn b c x new said
    ∙ (ap (turn_of b c x) a.effect
    ∙ ap (λ k. record { board = k; reply = Some (reply_with c (Ok e.payload)) }) (sym a.after))))

-- what is answered is stored with its reply
answer_stored : (b : Board) (f reply : List ℕ) → (answered b f).reply ≡ Some reply → (answered b f).board.session.stored ≡ Some (record { frame = f; reply = reply })
answer_stored b f reply h = by_stored b.session.stored refl h
  where
    fresh : (answered_anew b f).reply ≡ Some reply → (answered_anew b f).board.session.stored ≡ Some (record { frame = f; reply = reply })
    fresh r = λ i. Some (record { frame = f; reply = some_same (reply_to f (judged b (command_of f))) reply r i })

    pair : (x : Exchange) → x.frame ≡ f → x.reply ≡ reply → Some x ≡ Some (record { frame = f; reply = reply })
    pair x p q = λ i. Some (record { frame = p i; reply = q i })

    by_test : (x : Exchange) → b.session.stored ≡ Some x → (t : Bool) → bytes_eq x.frame f ≡ t → (answered_from b f (cond t (Some x.reply) None)).reply ≡ Some reply
        → (answered_from b f (cond t (Some x.reply) None)).board.session.stored ≡ Some (record { frame = f; reply = reply })
    by_test x e true q r = e ∙ pair x (grind (arith, bytes_eq-Decides x.frame f)) (some_same x.reply reply r)
    by_test x e false q r = fresh r

    by_stored : (s : Option Exchange) → b.session.stored ≡ s → (answered_from b f (stored_reply s f)).reply ≡ Some reply
        → (answered_from b f (stored_reply s f)).board.session.stored ≡ Some (record { frame = f; reply = reply })
    by_stored None e r = fresh r
    by_stored (Some x) e r = by_test x e (bytes_eq x.frame f) refl r

pub stored : (b : Board) (c : ℕ) (x : Command) (reply : List ℕ) (d : Board) → TakesOnce b (frame_of c x) reply d
    → d.session.stored ≡ Some (record { frame = frame_of c x; reply = reply })
stored b c x reply d t =
    let turn = answered_turn b c x reply t.answer in
    ap (λ k. k.session.stored) (t.after ∙ ap (λ u. u.board) turn) ∙ answer_stored b (frame_of c x) reply (ap (λ u. u.reply) (sym turn) ∙ t.answer)
