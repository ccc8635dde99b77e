-- What one exchange does, where a board is at the far end.
use Rattle.std.specs.Prelude.{◌≡◌, ℕ, ◌⊎◌, List, Option, None}
use Rattle.std.proofs.Common.{inr}
use Rattle.bootloader.specs.Board.{Board, taken}
use Rattle.link.specs.declared.outcome.Outcome.{Outcome}
use Rattle.link.specs.declared.outcome.Outcome.TheVariants as outcome

-- frame and reply arrive: the board takes the frame, and what it replies is the answer
pub record Arrives (b : Board) (f : List ℕ) (r : Option (List ℕ)) (c : Board) : Type 0 where
  pub board : c ≡ (taken b f).board
  pub reply : r ≡ (taken b f).reply

-- nothing arrives
pub record FrameLost (b : Board) (r : Option (List ℕ)) (c : Board) : Type 0 where
  pub board : c ≡ b
  pub reply : r ≡ None

-- the board takes the frame, and its reply is lost
pub record ReplyLost (b : Board) (f : List ℕ) (r : Option (List ℕ)) (c : Board) : Type 0 where
  pub board : c ≡ (taken b f).board
  pub reply : r ≡ None

-- what an outcome does
abbrev pub Happens : Outcome → Board → List ℕ → Option (List ℕ) → Board → Type 0
Happens outcome.FrameLost b f r c = FrameLost b r c
Happens outcome.ReplyLost b f r c = ReplyLost b f r c
Happens outcome.Arrives b f r c = Arrives b f r c

-- an exchange has one of three outcomes; where nothing is lost from now on, frame and reply arrive, and nothing is lost later
pub record OneExchange (lasting later : Type 0) (b : Board) (f : List ℕ) (r : Option (List ℕ)) (c : Board) : Type 0 where
  pub some : FrameLost b r c ⊎ (ReplyLost b f r c ⊎ Arrives b f r c)
  pub lossless : lasting → Arrives b f r c × later

pub of_arrives : (lasting later : Type 0) (b : Board) (f : List ℕ) (r : Option (List ℕ)) (c : Board) → Arrives b f r c → later → OneExchange lasting later b f r c
of_arrives lasting later b f r c a l = record { some = inr (inr a); lossless = λ s. (a, l) }
