-- Commands that a board takes once each are carried out, by the laws of boards.
use Rattle.std.proofs.Common.{◌≡◌, ◌≢◌, ℕ, Bool, true, false, cond, ◌<◌, List, [], ◌∷◌, Some, Ok, refl, sym, ap, ◌∙◌, arith}
use Rattle.std.specs.Prelude.{None, slice_index}
use Rattle.std.specs.Str.{bytes_eq}
use Rattle.std.proofs.lemmas.Slice.Eq.{bytes_eq-Decides}
use Rattle.bootloader.specs.declared.command.Command.{Command}
use Rattle.bootloader.specs.declared.command.Command.TheVariants.{Connect, SetMta, Unlock, Clear, Download, DownloadSix, BuildChecksum, Disconnect}
use Rattle.bootloader.specs.Frames.{frame_of}
use Rattle.bootloader.specs.Dialog.{Effect}
use Rattle.bootloader.specs.Board.{Board, state_after, reply_with, stored_reply}
use Rattle.bootloader.specs.BoardLaws.{BoardLaws, Accepted, IsNew}
use Rattle.session.specs.Session.{next}
use Rattle.session.specs.Laws.{TakesAll, Carries, AreSaid, FirstIsNew, is_inner}

-- the counter is the second byte of a frame
counter_of : (c : ℕ) (x : Command) → slice_index (frame_of c x) 1 ≡ c
counter_of c Connect = refl
counter_of c (SetMta number extension address) = refl
counter_of c (Unlock size password) = refl
counter_of c (Clear mask) = refl
counter_of c (Download size bytes) = refl
counter_of c (DownloadSix bytes) = refl
counter_of c (BuildChecksum size crc) = refl
counter_of c (Disconnect kind) = refl

-- frames that differ in a byte are not the same
bytes_differ : (f g : List ℕ) → slice_index f 1 ≢ slice_index g 1 → bytes_eq f g ≡ false
bytes_differ f g h = by (bytes_eq f g) refl
  where
    by : (t : Bool) → bytes_eq f g ≡ t → bytes_eq f g ≡ false
    by false q = q
    by true q = let same : f ≡ g = grind (arith, bytes_eq-Decides f g) in absurd (h (ap (λ k. slice_index k 1) same))

-- the counter changes
next_other : (c : ℕ) → c < 256 → c ≢ next c
next_other c h e = omega (arith, h, e)

pub next_below : (c : ℕ) → next c < 256
next_below c = omega arith

-- after a command that was carried out the frame of the next one is new
next_new : (b : Board) (c : ℕ) (x : Command) (e : Effect) (d : Board) (y : Command) → c < 256 → Accepted b c x e d → IsNew d (frame_of (next c) y)
next_new b c x e d y h a =
    let differ : slice_index (frame_of c x) 1 ≢ slice_index (frame_of (next c) y) 1 = λ q. next_other c h (sym (counter_of c x) ∙ (q ∙ counter_of (next c) y)) in
    ap (λ k. stored_reply k.session.stored (frame_of (next c) y)) a.after
    ∙ ap (λ t. cond t (Some (reply_with c (Ok e.payload))) None) (bytes_differ (frame_of c x) (frame_of (next c) y) differ)

pub rest_new : (b : Board) (c : ℕ) (x : Command) (e : Effect) (d : Board) (ys : List Command) → c < 256 → Accepted b c x e d → FirstIsNew d (next c) ys
rest_new b c x e d [] h a = tt
rest_new b c x e d (y ∷ ys) h a = next_new b c x e d y h a

-- commands that a board takes once each are carried out, if the first frame is new
pub all_carried : BoardLaws → (b : Board) (c : ℕ) (xs : List Command) (d : Board) → c < 256 → AreSaid xs → FirstIsNew b c xs → TakesAll b c xs d → Carries b c xs d
all_carried laws b c [] d h s n t = t
all_carried laws b c (x ∷ xs) d h s n t =
    let first = laws.carried b c x t.0 t.1 n (s.0 c) t.2 t.3 in
    (first.0, t.1, first.1, all_carried laws t.1 (next c) xs d (next_below c) s.1 (rest_new b c x first.0 t.1 xs h first.1) t.4)

-- a command between Connect and Disconnect keeps the state
pub inner_state : (b : Board) (c : ℕ) (x : Command) (e : Effect) (d : Board) → is_inner x ≡ true → Accepted b c x e d → d.session.state ≡ b.session.state
inner_state b c x e d i a = ap (λ k. k.session.state) a.after ∙ by x i
  where
    by : (y : Command) → is_inner y ≡ true → state_after b y ≡ b.session.state
    by Connect i = grind arith
    by (SetMta number extension address) i = refl
    by (Unlock size password) i = refl
    by (Clear mask) i = refl
    by (Download size bytes) i = refl
    by (DownloadSix bytes) i = refl
    by (BuildChecksum size crc) i = refl
    by (Disconnect kind) i = grind arith
