-- The laws of frames and ticks. Assumes nothing.
use Rattle.std.proofs.Common.{◌≡◌, ℕ, Bool, true, false, cond, ◌&&◌, ◌||◌, List, length, Some, Ok, Err, Result, refl, sym, ap, ◌∙◌, arith}
use Rattle.std.specs.Prelude.{Option, None, ◌==◌, slice_index, not}
use Rattle.std.specs.Option.{option_map}
use Rattle.std.specs.Str.{bytes_eq}
use Rattle.std.proofs.lemmas.Slice.Eq.{bytes_eq-Decides}
use Rattle.std.proofs.lemmas.Bool.Decides.{nat_tests}
use Rattle.std.proofs.Math.Bool.{or-true}
use Rattle.bootloader.specs.declared.board.TheConstants.{FRAME_ID, ACTION_SERVICE}
use Rattle.bootloader.specs.declared.space.Space.TheVariants.{Flash, Boot, Data}
use Rattle.bootloader.specs.declared.session.Session.{Session}
use Rattle.bootloader.specs.declared.refusal.Refusal.{Refusal}
use Rattle.bootloader.specs.declared.refusal.Refusal.TheVariants.{Unknown, Syntax, OutOfRange, Denied, Locked, Unavailable, Failed}
use Rattle.bootloader.specs.declared.state.State.TheVariants.{Connected}
use Rattle.bootloader.specs.declared.command.Command.{Command}
use Rattle.bootloader.specs.declared.command.Command.TheVariants.{Connect}
use Rattle.bootloader.specs.declared.session.Exchange.{Exchange}
use Rattle.bootloader.specs.Frames.{command_of, refusal_code}
use Rattle.bootloader.specs.Dialog.{Effect, fresh_dialog}
use Rattle.bootloader.specs.Board.{Board, effect_of, judged, is_connected, is_connect, is_running, board_after, reply_to, reply_with, identity, storing, answered, answered_anew, answered_from, stored_reply, served, admitted, stepped, state_ticked}
use Rattle.bootloader.specs.Listener.{changed_memory, told, told_by, is_last, is_accepted, heard}
use Rattle.bootloader.specs.Laws.{listener_of, FreshAfterConnect, OfTurn, FrameLaws, TickLaws}
use Rattle.bootloader.proofs.Listening.{Told, accepted_told}

-- a refusal has no code of acceptance
code_of_refusal : (r : Refusal) → (refusal_code r == 0) ≡ false
code_of_refusal Unknown = refl
code_of_refusal Syntax = refl
code_of_refusal OutOfRange = refl
code_of_refusal Denied = refl
code_of_refusal Locked = refl
code_of_refusal Unavailable = refl
code_of_refusal Failed = refl

-- a command that was accepted is one that is allowed
judged_ok : (b : Board) (c : Command) (e : Effect) → judged b (Some c) ≡ Ok e → effect_of b c ≡ Ok e
judged_ok b c e h = allowed (is_connected b.session.state || is_connect c) h
  where
    allowed : (t : Bool) → cond t (effect_of b c) (Err Denied) ≡ Ok e → effect_of b c ≡ Ok e
    allowed true q = q
    allowed false q = grind arith

-- a listener that hears an accepted command
told_board : (b : Board) (c : Command) (e : Effect) (f reply : List ℕ) → Told b c e
    → told (record (listener_of b) { last = Some f }) c ≡ listener_of (storing (board_after b (Some c) (Ok e)) f reply)
told_board b c e f reply t = sym (λ i. record {
  flash = changed_memory Flash (t.changes i) b.flash;
  boot = changed_memory Boot (t.changes i) b.boot;
  eeprom = changed_memory Data (t.changes i) b.eeprom;
  space = t.space i;
  address = t.address i;
  bytes = t.bytes i;
  last = Some f;
})

-- a listener that hears a frame which is answered for the first time
module _ (b : Board) (f : List ℕ) where
  told_judged : (o : Option Command) (r : Result Effect Refusal) → judged b o ≡ r
      → told_by (record (listener_of b) { last = Some f }) o (is_accepted (reply_to f r)) ≡ listener_of (storing (board_after b o r) f (reply_to f r))
  told_judged None (Ok e) q = grind arith
  told_judged None (Err x) q = refl
  told_judged (Some c) (Err x) q = ap (λ t. cond t (told (record (listener_of b) { last = Some f }) c) (record (listener_of b) { last = Some f })) (code_of_refusal x)
  told_judged (Some c) (Ok e) q = told_board b c e f (reply_to f (Ok e)) (accepted_told b c e (judged_ok b c e q))

  heard_answered : is_last (listener_of b).last f ≡ false → heard (listener_of b) f (answered_anew b f).reply ≡ listener_of (answered_anew b f).board
  heard_answered h =
      ap (λ t. cond t (listener_of b) (told_by (record (listener_of b) { last = Some f }) (command_of f) (is_accepted (reply_to f (judged b (command_of f)))))) h
      ∙ told_judged (command_of f) (judged b (command_of f)) refl

  heard_again : (reply : List ℕ) → is_last (listener_of b).last f ≡ true → heard (listener_of b) f (Some reply) ≡ listener_of b
  heard_again reply h = ap (λ t. cond t (listener_of b) (told_by (record (listener_of b) { last = Some f }) (command_of f) (is_accepted reply))) h

  -- a refused command leaves the board
  refused_judged : (o : Option Command) (r : Result Effect Refusal) → judged b o ≡ r → is_accepted (reply_to f r) ≡ false → board_after b o r ≡ b
  refused_judged None (Ok e) q h = grind arith
  refused_judged None (Err x) q h = refl
  refused_judged (Some c) (Err x) q h = refl
  refused_judged (Some c) (Ok e) q h = grind arith

-- two tests in one
both : (s t : Bool) → (s && t) ≡ true → (s ≡ true) × (t ≡ true)
both true true h = (refl, refl)
both true false h = grind arith
both false t h = grind arith

-- what passes: the reply has its place, the frame its identifier and its eight bytes, and the application does not run
abbrev pub passes : Board → ℕ → ℕ → List ℕ → Bool
passes b places id f = places == 8 && (id == FRAME_ID && (length f == 8 && not (is_running b.session.state)))

passes-later : (b c : Board) (places id : ℕ) (f : List ℕ) → passes b places id f ≡ true → is_running c.session.state ≡ false → passes c 8 id f ≡ true
passes-later b c places id f h r = grind (arith, nat_tests)

-- a turn that ends with its frame stored is that of the frame sent again
again_stored : (b : Board) (places id : ℕ) (f reply : List ℕ) (c : Board) → passes b places id f ≡ true → (slice_index f 0 == ACTION_SERVICE) ≡ false
    → stored_reply c.session.stored f ≡ Some reply → is_running c.session.state ≡ false → stepped c 8 id f ≡ record { board = c; reply = Some reply }
again_stored b places id f reply c h a s r =
    ap (λ t. cond t (admitted c f) (record { board = c; reply = None })) (passes-later b c places id f h r)
    ∙ ap (λ t. cond t (record { board = record c { session = served c.session f }; reply = None }) (answered c f)) a
    ∙ ap (answered_from c f) s

bytes_same : (f : List ℕ) → bytes_eq f f ≡ true
bytes_same f = grind (arith, bytes_eq-Decides f f)

pub none_some : {A : Type 0} {X : Type 0} (x : X) → None ≡ Some x → A
none_some x h = absurd (grind arith)

some_none : {A : Type 0} {X : Type 0} (x : X) → Some x ≡ None → A
some_none x h = absurd (grind arith)

pub some_same : {X : Type 0} (x y : X) → Some x ≡ Some y → x ≡ y
some_same x y h = grind arith

-- what is fresh after a Connect depends on the session alone
fresh_same : (b c : Board) → c.setup ≡ b.setup → c.session.state ≡ b.session.state → c.session.dialog ≡ b.session.dialog → c.session.stored ≡ b.session.stored → FreshAfterConnect b → FreshAfterConnect c
fresh_same b c u s d t h = record {
  state = λ x e q. s ∙ h.state x (sym t ∙ e) q;
  dialog = λ x e q. d ∙ h.dialog x (sym t ∙ e) q;
  reply = λ x e q. h.reply x (sym t ∙ e) q ∙ ap (λ v. reply_with (slice_index x.frame 1) (Ok (identity v))) (sym u);
}

-- a frame that is not the last one is not the one that is stored
last_not : {A : Type 0} (b : Board) (f : List ℕ) → is_last (listener_of b).last f ≡ false → (x : Exchange) → b.session.stored ≡ Some x → x.frame ≡ f → A
last_not b f l x p q =
    let same : is_last (listener_of b).last f ≡ true = ap (λ s. is_last (option_map (λ y. y.frame) s) f) p ∙ ap (λ g. bytes_eq g f) q ∙ bytes_same f in
    absurd (grind arith)

-- a frame at the door
not_admitted : (b : Board) (id : ℕ) (f : List ℕ) → OfTurn b id f (record { board = b; reply = None })
not_admitted b id f = record {
  listened = refl;
  silent = λ _. record { flash = refl; boot = refl; eeprom = refl };
  repeated = λ x e q. record { flash = refl; boot = refl; eeprom = refl };
  same_reply = λ x e q reply h. none_some reply h;
  refused = λ reply h _. none_some reply h;
  again = λ reply h _. none_some reply h;
  connected = λ h. h;
}

-- Action Service
pub served_state : (s : Session) (f : List ℕ) → (served s f).state ≡ s.state
served_state s f = grind arith

pub served_dialog : (s : Session) (f : List ℕ) → (served s f).dialog ≡ s.dialog
served_dialog s f = grind arith

served_stored : (s : Session) (f : List ℕ) → (served s f).stored ≡ s.stored
served_stored s f = grind arith

of_served : (b : Board) (id : ℕ) (f : List ℕ) → OfTurn b id f (record { board = record b { session = served b.session f }; reply = None })
of_served b id f = record {
  listened = sym (λ i. record (listener_of b) {
    space = (served_dialog b.session f i).space;
    address = (served_dialog b.session f i).address;
    bytes = (served_dialog b.session f i).bytes.items;
    last = option_map (λ x. x.frame) (served_stored b.session f i);
  });
  silent = λ _. record { flash = refl; boot = refl; eeprom = refl };
  repeated = λ x e q. record { flash = refl; boot = refl; eeprom = refl };
  same_reply = λ x e q reply h. none_some reply h;
  refused = λ reply h _. none_some reply h;
  again = λ reply h _. none_some reply h;
  connected = fresh_same b _ refl (served_state b.session f) (served_dialog b.session f) (served_stored b.session f);
}

module _ (b : Board) (places id : ℕ) (f : List ℕ) (h : passes b places id f ≡ true) (a : (slice_index f 0 == ACTION_SERVICE) ≡ false) where
  -- a frame that is repeated
  of_repeated : (x : Exchange) → b.session.stored ≡ Some x → bytes_eq x.frame f ≡ true → OfTurn b id f (record { board = b; reply = Some x.reply })
  of_repeated x e q =
      let frame : x.frame ≡ f = grind (arith, bytes_eq-Decides x.frame f) in
      let stored : stored_reply b.session.stored f ≡ Some x.reply = ap (λ s. stored_reply s f) e ∙ ap (λ t. cond t (Some x.reply) None) q in
      record {
        listened = heard_again b f x.reply (ap (λ s. is_last (option_map (λ y. y.frame) s) f) e ∙ q);
        silent = λ n. some_none x.reply n;
        repeated = λ y p q. record { flash = refl; boot = refl; eeprom = refl };
        same_reply = λ y p q reply r. ap (λ z. record { board = b; reply = Some z.reply }) (some_same x y (sym e ∙ p));
        refused = λ reply r _. ap (λ s. record b { session = record (b.session) { stored = s } }) (e ∙ (λ i. Some (record { frame = frame i; reply = some_same x.reply reply r i })));
        again = λ reply r n. again_stored b places id f reply b h a (stored ∙ r) n;
        connected = λ c. c;
      }

  -- a frame that is answered for the first time
  connect_fresh : (o : Option Command) → o ≡ Some Connect → (board_after b o (judged b o)).session.state ≡ Connected
  connect_fresh o e = ap (λ p. (board_after b p (judged b p)).session.state) e ∙ ap (λ t. (board_after b (Some Connect) (cond t (effect_of b Connect) (Err Denied))).session.state) (or-true (is_connected b.session.state))

  connect_dialog : (o : Option Command) → o ≡ Some Connect → (board_after b o (judged b o)).session.dialog ≡ fresh_dialog
  connect_dialog o e = ap (λ p. (board_after b p (judged b p)).session.dialog) e ∙ ap (λ t. (board_after b (Some Connect) (cond t (effect_of b Connect) (Err Denied))).session.dialog) (or-true (is_connected b.session.state))

  connect_reply : (o : Option Command) → o ≡ Some Connect → reply_to f (judged b o) ≡ reply_with (slice_index f 1) (Ok (identity b.setup))
  connect_reply o e = ap (λ p. reply_to f (judged b p)) e ∙ ap (λ t. reply_to f (cond t (effect_of b Connect) (Err Denied))) (or-true (is_connected b.session.state))

  of_answered : is_last (listener_of b).last f ≡ false → OfTurn b id f (answered_anew b f)
  of_answered l =
      let r = judged b (command_of f) in
      let reply = reply_to f r in
      record {
        listened = heard_answered b f l;
        silent = λ n. some_none reply n;
        repeated = λ x p q. last_not b f l x p q;
        same_reply = λ x p q told r. last_not b f l x p q;
        refused = λ told e q. ap (λ c. storing c f reply) (refused_judged b f (command_of f) r refl (ap is_accepted (some_same reply told e) ∙ q)) ∙ ap (storing b f) (some_same reply told e);
        again = λ told e n. again_stored b places id f told (answered_anew b f).board h a (ap (λ t. cond t (Some reply) None) (bytes_same f) ∙ e) n;
        connected = λ _. record {
          state = λ x e q. connect_fresh (command_of f) (ap (λ y. command_of y.frame) (some_same (record { frame = f; reply = reply }) x e) ∙ q);
          dialog = λ x e q. connect_dialog (command_of f) (ap (λ y. command_of y.frame) (some_same (record { frame = f; reply = reply }) x e) ∙ q);
          reply = λ x e q.
              let same = some_same (record { frame = f; reply = reply }) x e in
              sym (ap (λ y. y.reply) same) ∙ (connect_reply (command_of f) (ap (λ y. command_of y.frame) same ∙ q) ∙ ap (λ y. reply_with (slice_index y.frame 1) (Ok (identity b.setup))) same);
        };
      }

  of_once : (s : Option Exchange) → b.session.stored ≡ s → OfTurn b id f (answered_from b f (stored_reply s f))
  of_once None e = of_answered (ap (λ s. is_last (option_map (λ y. y.frame) s) f) e)
  of_once (Some x) e = by_test (bytes_eq x.frame f) refl
    where
      by_test : (t : Bool) → bytes_eq x.frame f ≡ t → OfTurn b id f (answered_from b f (cond t (Some x.reply) None))
      by_test true q = of_repeated x e q
      by_test false q = of_answered (ap (λ s. is_last (option_map (λ y. y.frame) s) f) e ∙ q)

pub frame_laws : (b : Board) (places id : ℕ) (f : List ℕ) → FrameLaws b places id f
frame_laws b places id f = at_door (passes b places id f) refl
  where
    by_code : passes b places id f ≡ true → (t : Bool) → (slice_index f 0 == ACTION_SERVICE) ≡ t
        → OfTurn b id f (cond t (record { board = record b { session = served b.session f }; reply = None }) (answered b f))
    by_code h true q = of_served b id f
    by_code h false q = of_once b places id f h q b.session.stored refl

    at_door : (t : Bool) → passes b places id f ≡ t → OfTurn b id f (cond t (admitted b f) (record { board = b; reply = None }))
    at_door true h = by_code h (slice_index f 0 == ACTION_SERVICE) refl
    at_door false h = not_admitted b id f

pub tick_laws : (b : Board) → TickLaws b
tick_laws b = record {
  listened = refl;
  silent = record { flash = refl; boot = refl; eeprom = refl };
  connected = λ h. record {
    state = λ x e q. ap (state_ticked b) (h.state x e q);
    dialog = λ x e q. h.dialog x e q;
    reply = λ x e q. h.reply x e q;
  };
}
