-- What is kept of the exchanges over a wire. Assumes nothing.
use Rattle.std.proofs.Common.{◌≡◌, ℕ, List, [], ◌∷◌, ◌++◌, map, false, Option, refl, ap, sym, ◌∙◌, append_assoc, append-nil}
use Rattle.bootloader.specs.Board.{Board, taken}
use Rattle.link.specs.Link.{Arrives}
use Rattle.loading.specs.Load.{Exchange, Led}
use Rattle.link.specs.declared.trace.Trace.{Trace}
use Rattle.link.specs.declared.trace.TracedFrame.{TracedFrame}
use Rattle.link.specs.Trace.{Keeps}
use Rattle.load.specs.Text.{answered, behind, exchanges_of}

-- what exchanges left of a wire, of which nothing was cut: these frames with the replies to them
pub record Left (b : Board) (t : Trace) (es : List Exchange) (c : Board) (u : Trace) (frames : List (List ℕ)) : Type 0 where
  pub whole : t.is_cut ≡ false
  pub kept : u.frames.items ≡ t.frames.items ++ answered b frames
  pub made : es ≡ exchanges_of (answered b frames)
  pub board : c ≡ behind b frames

left_none : (b : Board) (t : Trace) → t.is_cut ≡ false → Left b t [] b t []
unfolding answered behind
left_none b t h = record { whole = h; kept = sym (append-nil t.frames.items); made = refl; board = refl }

left_more : (b m c : Board) (t v u : Trace) (e : Exchange) (es : List Exchange) (fs : List (List ℕ)) → Arrives b e.frame e.reply m → Keeps t e.frame e.reply v → Left m v es c u fs → Left b t (e ∷ es) c u (e.frame ∷ fs)
unfolding answered behind
left_more b m c t v u e es fs a k l =
    let one : TracedFrame = record { frame = e.frame; reply = e.reply } in
    let same : answered m fs ≡ answered (taken b e.frame).board fs = ap (λ x. answered x fs) a.board in
    let first : one ∷ answered m fs ≡ answered b (e.frame ∷ fs) =
    ap (λ xs. one ∷ xs) same ∙ ap (λ r. record { frame = e.frame; reply = r } ∷ answered (taken b e.frame).board fs) a.reply in
    record {
      whole = k.whole l.whole;
      kept = l.kept ∙ ap (λ xs. xs ++ answered m fs) (k.kept l.whole) ∙ append_assoc t.frames.items (one ∷ []) (answered m fs) ∙ ap (λ xs. t.frames.items ++ xs) first;
      made = ap (λ xs. e ∷ xs) l.made ∙ ap exchanges_of first;
      board = l.board ∙ ap (λ x. behind x fs) a.board;
    }

module _ {P : Type 0} (exchanged : P → List ℕ → Option (List ℕ) → P → Type 0) (board : P → Board) (trace : P → Trace)
    (arrives : (p q : P) (f : List ℕ) (r : Option (List ℕ)) → exchanged p f r q → Arrives (board p) f r (board q))
    (keeps : (p q : P) (f : List ℕ) (r : Option (List ℕ)) → exchanged p f r q → Keeps (trace p) f r (trace q)) where
  pub frames_left : (p : P) (es : List Exchange) (q : P) → Led exchanged p es q → (trace q).is_cut ≡ false → (fs : List (List ℕ)) × Left (board p) (trace p) es (board q) (trace q) fs
  frames_left p [] q h k = ([], rw h (left_none (board p) (trace p) (rw (← h) k)))
  frames_left p (e ∷ es) q h k =
      let rest = frames_left h.0 es q h.2 k in
      (e.frame ∷ rest.0, left_more (board p) (board h.0) (board q) (trace p) (trace h.0) (trace q) e es rest.0 (arrives p h.0 e.frame e.reply h.1) (keeps p h.0 e.frame e.reply h.1) rest.1)
