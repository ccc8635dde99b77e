-- What a board carries out: it is determined, and lists that are carried out can be joined and split. Assumes nothing.
use Rattle.std.proofs.Common.{◌≡◌, ℕ, List, [], ◌∷◌, ◌++◌, Ok, refl, sym, ap, subst, ◌∙◌, arith}
use Rattle.std.specs.Prelude.{Some, Result}
use Rattle.bootloader.specs.declared.command.Command.{Command}
use Rattle.bootloader.specs.declared.refusal.Refusal.{Refusal}
use Rattle.bootloader.specs.Dialog.{Effect}
use Rattle.bootloader.specs.Board.{Board, judged, board_after, storing, reply_with}
use Rattle.bootloader.specs.Frames.{frame_of}
use Rattle.session.specs.Session.{next}
use Rattle.session.specs.Laws.{Carries}

-- the counter behind some commands
abbrev pub counter_after : ℕ → List Command → ℕ
counter_after c [] = c
counter_after c (x ∷ xs) = counter_after (next c) xs

-- what is carried out is determined
pub carries_same : (b : Board) (c : ℕ) (xs : List Command) (d d' : Board) → Carries b c xs d → Carries b c xs d' → d ≡ d'
carries_same b c [] d d' h k = h ∙ sym k
carries_same b c (x ∷ xs) d d' h k =
    let same : h.0 ≡ k.0 = ok_same (judged b (Some x)) h.0 k.0 h.2.effect k.2.effect in
    let board : h.1 ≡ k.1 = h.2.after ∙ (ap (after_of x) same ∙ sym k.2.after) in
    carries_same h.1 (next c) xs d d' h.3 (subst (λ (m : Board). Carries m (next c) xs d') (sym board) k.3)
  where
    ok_same : (r : Result Effect Refusal) (e f : Effect) → r ≡ Ok e → r ≡ Ok f → e ≡ f
    ok_same r e f q p = grind arith

    after_of : Command → Effect → Board
    after_of y e = storing (board_after b (Some y) (Ok e)) (frame_of c y) (reply_with c (Ok e.payload))

-- one list after the other
pub carries_append : (xs ys : List Command) (b : Board) (c : ℕ) (m d : Board) → Carries b c xs m → Carries m (counter_after c xs) ys d → Carries b c (xs ++ ys) d
carries_append [] ys b c m d h k = subst (λ (v : Board). Carries v c ys d) h k
carries_append (x ∷ xs) ys b c m d h k = (h.0, h.1, h.2, carries_append xs ys h.1 (next c) m d h.3 k)

-- and back
pub carries_split : (xs ys : List Command) (b : Board) (c : ℕ) (d : Board) → Carries b c (xs ++ ys) d → (m : Board) × Carries b c xs m × Carries m (counter_after c xs) ys d
carries_split [] ys b c d h = (b, refl, h)
carries_split (x ∷ xs) ys b c d h = let rest = carries_split xs ys h.1 (next c) d h.3 in (rest.0, (h.0, h.1, h.2, rest.1), rest.2)
