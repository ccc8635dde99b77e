-- A frame says its command. Assumes nothing.
use Rattle.std.proofs.Common.{◌≡◌, ℕ, ◌/◌, ◌^◌, ◌<◌, [], ◌∷◌, Some, false, refl, ap, arith}
use Rattle.std.specs.Prelude.{◌==◌, slice_index}
use Rattle.bootloader.specs.declared.board.TheConstants.{ACTION_SERVICE}
use Rattle.bootloader.specs.declared.command.Command.{Command}
use Rattle.bootloader.specs.declared.command.Command.TheVariants.{Connect, SetMta, Unlock, Clear, Download, DownloadSix, BuildChecksum, Disconnect}
use Rattle.bootloader.specs.Frames.{two, four, high, low, frame_of, IsCommand}
use Rattle.bootloader.specs.BoardLaws.{IsSaid}

two_bytes : (n : ℕ) → n < 2 ^ 16 → two (high n) (low n) ≡ n
two_bytes n h = omega (arith, h)

four_bytes : (n : ℕ) → n < 2 ^ 32 → four (high (n / 65536)) (low (n / 65536)) (high n) (low n) ≡ n
four_bytes n h = omega (arith, h)

pub said : (c : ℕ) (x : Command) → IsCommand x → IsSaid c x
said c Connect h = record { command = refl; long = refl; counter = refl }
said c (SetMta number extension address) h = record { command = ap (λ n. Some (SetMta number extension n)) (four_bytes address h); long = refl; counter = refl }
said c (Unlock size password) h = record { command = ap (λ n. Some (Unlock size n)) (two_bytes password h); long = refl; counter = refl }
said c (Clear mask) h = record { command = ap (λ n. Some (Clear n)) (four_bytes mask h); long = refl; counter = refl }
said c (Download size (a ∷ b ∷ d ∷ e ∷ f ∷ [])) h = record { command = refl; long = refl; counter = refl }
said c (Download size _) h = absurd (omega (arith, h))
said c (DownloadSix (a ∷ b ∷ d ∷ e ∷ f ∷ g ∷ [])) h = record { command = refl; long = refl; counter = refl }
said c (DownloadSix _) h = absurd (omega (arith, h))
said c (BuildChecksum size crc) h = record { command = λ i. Some (BuildChecksum (four_bytes size h.0 i) (two_bytes crc h.1 i)); long = refl; counter = refl }
said c (Disconnect kind) h = record { command = refl; long = refl; counter = refl }

-- no command has the code of Action Service
pub is_answered : (c : ℕ) (x : Command) → (slice_index (frame_of c x) 0 == ACTION_SERVICE) ≡ false
is_answered c Connect = refl
is_answered c (SetMta number extension address) = refl
is_answered c (Unlock size password) = refl
is_answered c (Clear mask) = refl
is_answered c (Download size bytes) = refl
is_answered c (DownloadSix bytes) = refl
is_answered c (BuildChecksum size crc) = refl
is_answered c (Disconnect kind) = refl
