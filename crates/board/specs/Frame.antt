-- Frames in the compact form, and bytes in hex digits.
use Rattle.std.specs.Prelude.{ℕ, Bool, false, cond, List, [], ◌∷◌, length, Some, None, Ok, Err, Option, Result, ◌==◌, nat_le, nat_lt}
use Rattle.std.specs.List.{position_or_len, before_first, after_first}
use Rattle.std.specs.Result.{result_ok}
use Rattle.hex.specs.Hex.{decode_of}
use Rattle.script.specs.Number.{numeral}
use Rattle.bootloader.specs.Events.{Event, frame}
use Rattle.board.specs.Fault.{WrongLine, no_command, not_id, remote, flexible, not_bytes, finds}

-- what stands before the first c of a word, and behind it; none where it has no c
abbrev pub cut_at : ℕ → List ℕ → Option (List ℕ × List ℕ)
cut_at c w =
    cond (nat_lt (position_or_len (λ b. b == c) w) (length w)) (Some (before_first (λ b. b == c) w, after_first (λ b. b == c) w)) None

-- a number that is not above a limit
abbrev pub limited : ℕ → Option ℕ → Option ℕ
limited most None = None
limited most (Some n) = cond (nat_le n most) (Some n) None

-- the bytes that pairs of hex digits write, if they are such
abbrev pub bytes_of : List ℕ → Option (List ℕ)
bytes_of digits = result_ok (decode_of digits)

-- the identifier that 1 to 8 hex digits write, of at most 29 bits
abbrev pub id_of : List ℕ → Option ℕ
id_of digits = cond (nat_le (length digits) 8) (limited 0x1FFFFFFF (numeral 16 digits)) None

-- a word begins with c
abbrev pub begins : ℕ → List ℕ → Bool
begins c [] = false
begins c (b ∷ bs) = b == c

-- a frame has at most 64 bytes, and its reply has eight places
abbrev pub framed : List ℕ → ℕ → List ℕ → Result Event WrongLine
framed w id bytes = cond (nat_lt 64 (length bytes)) (Err (not_bytes w)) (Ok (frame id bytes 8))

-- the frame of a word, with an identifier and with what stands behind the first #: R marks a remote frame, and a
-- second # one of CAN FD, which are refused
abbrev pub frame_with : List ℕ → ℕ → List ℕ → Result Event WrongLine
frame_with w id digits =
    cond (begins 82 digits) (Err (remote w))
    (cond (begins 35 digits) (Err (flexible w))
    (finds (bytes_of digits) (not_bytes w) (λ bytes. framed w id bytes)))

-- the frame that a word writes as ID#DATA
abbrev pub frame_of : List ℕ → Result Event WrongLine
frame_of w =
    finds (cut_at 35 w) (no_command w) (λ p.
    finds (id_of p.0) (not_id w) (λ id. frame_with w id p.1))
