-- What holds of frames that are sent over a link, whatever it loses.
use Rattle.std.specs.Prelude.{◌≡◌, ℕ, ◌+◌, ◌*◌, ◌%◌, ◌^◌, ◌≤◌, List, [], ◌∷◌, Bool, true, false, Result, Ok}
use Rattle.bootloader.specs.declared.command.Command.{Command}
use Rattle.bootloader.specs.declared.command.Command.TheVariants.{Connect, SetMta, Unlock, Clear, Download, DownloadSix, BuildChecksum, Disconnect}
use Rattle.bootloader.specs.Dialog.{Effect}
use Rattle.bootloader.specs.Board.{Board}
use Rattle.session.specs.declared.failure.Failure.{Failure}
use Rattle.bootloader.specs.Frames.{frame_of}
use Rattle.session.specs.Session.{next}
use Rattle.bootloader.specs.BoardLaws.{code_of, TakesOnce, Accepted, IsSaid, IsNew}

-- a board takes commands once each, in their order, and accepts them
abbrev pub TakesAll : Board → ℕ → List Command → Board → Type 0
TakesAll b c [] e = e ≡ b
TakesAll b c (x ∷ xs) e =
    (reply : List ℕ) × (d : Board) × TakesOnce b (frame_of c x) reply d × (code_of reply ≡ 0) × TakesAll d (next c) xs e

-- a number that counts modulo 2^64 rises by n
abbrev pub Rises : ℕ → ℕ → ℕ → Type 0
Rises before n after = after % 2 ^ 64 ≡ (before + n) % 2 ^ 64

-- how many exchanges it took to send k frames: at most three for each, and on a lossless link one
pub record Takes {P : Type 0} (exchanges : P → ℕ) (lossless : P → Type 0) (p : P) (k : ℕ) (q : P) : Type 0 where
  pub count : ℕ
  pub rise : Rises (exchanges p) count (exchanges q)
  pub most : count ≤ 3 * k
  pub exact : lossless p → (count ≡ k) × lossless q

-- a board accepts commands one after the other and carries each out
abbrev pub Carries : Board → ℕ → List Command → Board → Type 0
Carries b c [] d = d ≡ b
Carries b c (x ∷ xs) d = (e : Effect) × (m : Board) × Accepted b c x e m × Carries m (next c) xs d

-- what each command of a list says, whatever its counter
abbrev pub AreSaid : List Command → Type 0
AreSaid [] = Unit {0}
AreSaid (x ∷ xs) = ((c : ℕ) → IsSaid c x) × AreSaid xs

-- the frame of the first of these commands is new
abbrev pub FirstIsNew : Board → ℕ → List Command → Type 0
FirstIsNew b c [] = Unit {0}
FirstIsNew b c (x ∷ xs) = IsNew b (frame_of c x)

-- commands between Connect and Disconnect
abbrev pub is_inner : Command → Bool
is_inner Connect = false
is_inner (SetMta number extension address) = true
is_inner (Unlock size password) = true
is_inner (Clear mask) = true
is_inner (Download size bytes) = true
is_inner (DownloadSix bytes) = true
is_inner (BuildChecksum size crc) = true
is_inner (Disconnect kind) = false

abbrev pub AllInner : List Command → Type 0
AllInner [] = Unit {0}
AllInner (x ∷ xs) = (is_inner x ≡ true) × AllInner xs

-- on a lossless link all went as it was carried out, with one exchange for each command
pub record WentWell {P : Type 0} (exchanges : P → ℕ) (board : P → Board) (lossless : P → Type 0) (p : P) (k : ℕ) (d : Board) (r : Result (Unit {0}) Failure) (q : P) : Type 0 where
  pub done : r ≡ Ok tt
  pub carried : board q ≡ d
  pub still : lossless q
  pub rise : Rises (exchanges p) k (exchanges q)

-- it took at most three exchanges for each of k frames
pub record AtMost {P : Type 0} (exchanges : P → ℕ) (p : P) (k : ℕ) (q : P) : Type 0 where
  pub count : ℕ
  pub rise : Rises (exchanges p) count (exchanges q)
  pub most : count ≤ 3 * k
