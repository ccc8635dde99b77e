-- A table of outcomes, which belong to exchanges in order; after them frame and reply arrive.
use Rattle.std.specs.Prelude.{◌≡◌, ℕ, List, [], ◌∷◌, drop, Option}
use Rattle.std.proofs.Common.{inl, inr, sym, subst}
use Rattle.bootloader.specs.Board.{Board}
use Rattle.link.specs.declared.outcome.Outcome.{Outcome}
use Rattle.link.specs.declared.outcome.Outcome.TheVariants as outcome
use Rattle.link.specs.declared.table.Table.{Table}
use Rattle.link.specs.Link.{Happens, OneExchange}

-- the outcomes that are still to come
abbrev pub coming : Table → List Outcome
coming t = drop t.next t.outcomes.items

-- the outcome of the next exchange, where these are to come
abbrev pub first_of : List Outcome → Outcome
first_of [] = outcome.Arrives
first_of (o ∷ os) = o

-- an exchange has the outcome of the table, and the next one that after it
pub record Drawn (now : List Outcome) (b : Board) (f : List ℕ) (r : Option (List ℕ)) (c : Board) (rest : List Outcome) : Type 0 where
  pub happens : Happens (first_of now) b f r c
  pub later : rest ≡ drop 1 now

-- none of these outcomes loses anything
abbrev pub AllArrive : List Outcome → Type 0
AllArrive [] = Unit {0}
AllArrive (outcome.FrameLost ∷ os) = ⊥
AllArrive (outcome.ReplyLost ∷ os) = ⊥
AllArrive (outcome.Arrives ∷ os) = AllArrive os

-- where none to come does, nothing is lost from now on
pub of_drawn : (now rest : List Outcome) (b : Board) (f : List ℕ) (r : Option (List ℕ)) (c : Board) → Drawn now b f r c rest
    → OneExchange (AllArrive now) (AllArrive rest) b f r c
of_drawn [] rest b f r c h = record { some = inr (inr h.happens); lossless = λ e. (h.happens, subst AllArrive (sym h.later) tt) }
of_drawn (outcome.FrameLost ∷ os) rest b f r c h = record { some = inl h.happens; lossless = λ e. absurd e }
of_drawn (outcome.ReplyLost ∷ os) rest b f r c h = record { some = inr (inl h.happens); lossless = λ e. absurd e }
of_drawn (outcome.Arrives ∷ os) rest b f r c h = record { some = inr (inr h.happens); lossless = λ e. (h.happens, subst AllArrive (sym h.later) e) }
