-- Pieces that are put in order stand in the contents. Assumes nothing.
use Rattle.std.proofs.Common.{◌≡◌, ◌≢◌, ℕ, ◌+◌, ◌≤◌, ◌<◌, ◌⊎◌, List, [], ◌∷◌, length, zero, suc, refl, sym, ap, subst, ◌∙◌, inl, inr, arith}
use Rattle.std.specs.Prelude.{slice_index, slice_set}
use Rattle.std.specs.List.{AllByRecursion}
use Rattle.std.proofs.lemmas.List.{get_or-set_other, get_or-set_same, length-set}
use Rattle.memory.specs.Part.{Shape}
use Rattle.memory.specs.Changes.{changed_all}
use Rattle.memory.specs.Changing.{length-changed_all}
use Rattle.bootloader.specs.Memories.{puts_from}
use Rattle.loading.specs.Mask.{Piece}
use Rattle.loading.proofs.Pieces.{after_pieces, InOrder, Outside, HoldsPieces}

module _ (s : Shape) where
  -- what lies outside of bytes that are put stays
  pub put_outside : (o : ℕ) (vs xs : List ℕ) (k : ℕ) → (k < o) ⊎ (o + length vs ≤ k) → slice_index (changed_all s (puts_from o vs) xs) k ≡ slice_index xs k
  unfolding puts_from changed_all
  put_outside o [] xs k h = refl
  put_outside o (v ∷ vs) xs k h =
      let later : (k < o + 1) ⊎ (o + 1 + length vs ≤ k) = further h in
      let other : k ≢ o = apart h in
      put_outside (o + 1) vs (slice_set xs o v) k later ∙ get_or-set_other xs o k v 0 other
    where
      further : (k < o) ⊎ (o + length (v ∷ vs) ≤ k) → (k < o + 1) ⊎ (o + 1 + length vs ≤ k)
      further (inl l) = inl (omega (arith, l))
      further (inr l) = inr (omega (arith, l))

      apart : (k < o) ⊎ (o + length (v ∷ vs) ≤ k) → k ≢ o
      apart (inl l) = λ e. omega (arith, l, e)
      apart (inr l) = λ e. omega (arith, l, e)

  -- bytes that are put stand at their places
  pub put_inside : (o : ℕ) (vs xs : List ℕ) (i : ℕ) → o + length vs ≤ length xs → i < length vs → slice_index (changed_all s (puts_from o vs) xs) (o + i) ≡ slice_index vs i
  unfolding puts_from changed_all
  put_inside o [] xs i h l = absurd (omega (arith, l))
  put_inside o (v ∷ vs) xs zero h l =
      let at : o < length xs = omega (arith, h) in
      let here : o + zero ≡ o = omega arith in
      ap (slice_index (changed_all s (puts_from (o + 1) vs) (slice_set xs o v))) here
      ∙ (put_outside (o + 1) vs (slice_set xs o v) o (inl (omega arith)) ∙ get_or-set_same xs o v 0 at)
  put_inside o (v ∷ vs) xs (suc i) h l =
      let there : o + suc i ≡ o + 1 + i = omega arith in
      let long : o + 1 + length vs ≤ length (slice_set xs o v) = omega (arith, h, length-set xs o v) in
      ap (slice_index (changed_all s (puts_from (o + 1) vs) (slice_set xs o v))) there
      ∙ put_inside (o + 1) vs (slice_set xs o v) i long (omega (arith, l))

  -- what lies outside of all pieces stays
  pieces_outside : (es : List Piece) (xs : List ℕ) (k : ℕ) → AllByRecursion (Outside k) es → slice_index (after_pieces s es xs) k ≡ slice_index xs k
  pieces_outside [] xs k h = refl
  pieces_outside (e ∷ es) xs k h = pieces_outside es (changed_all s (puts_from e.at e.bytes) xs) k h.1 ∙ put_outside e.at e.bytes xs k h.0

  pub length_pieces : (es : List Piece) (xs : List ℕ) → length (after_pieces s es xs) ≡ length xs
  length_pieces [] xs = refl
  length_pieces (e ∷ es) xs = length_pieces es (changed_all s (puts_from e.at e.bytes) xs) ∙ length-changed_all s (puts_from e.at e.bytes) xs

  -- a byte of a piece lies in no later one
  in_no_later : (e : Piece) (es : List Piece) (i : ℕ) → i < length e.bytes → AllByRecursion (λ l. e.at + length e.bytes ≤ l.at) es → AllByRecursion (Outside (e.at + i)) es
  in_no_later e [] i h a = tt
  in_no_later e (l ∷ ls) i h a = (inl (omega (arith, h, a.0)), in_no_later e ls i h a.1)

  pieces_inside : (es : List Piece) (xs : List ℕ) → InOrder es → AllByRecursion (λ e. e.at + length e.bytes ≤ length xs) es
      → AllByRecursion (λ e. (i : ℕ) → i < length e.bytes → slice_index (after_pieces s es xs) (e.at + i) ≡ slice_index e.bytes i) es
  pieces_inside [] xs o l = tt
  pieces_inside (e ∷ es) xs o l =
      let ys : List ℕ = changed_all s (puts_from e.at e.bytes) xs in (
        λ i h. pieces_outside es ys (e.at + i) (in_no_later e es i h o.0) ∙ put_inside e.at e.bytes xs i l.0 h,
        pieces_inside es ys o.1 (all_long es (length-changed_all s (puts_from e.at e.bytes) xs) l.1),
      )
    where
      all_long : (ls : List Piece) → length (changed_all s (puts_from e.at e.bytes) xs) ≡ length xs → AllByRecursion (λ z. z.at + length z.bytes ≤ length xs) ls
          → AllByRecursion (λ z. z.at + length z.bytes ≤ length (changed_all s (puts_from e.at e.bytes) xs)) ls
      all_long [] q a = tt
      all_long (z ∷ zs) q a = (subst (λ n. z.at + length z.bytes ≤ n) (sym q) a.0, all_long zs q a.1)

  pub holds_pieces : (es : List Piece) (xs : List ℕ) → InOrder es → AllByRecursion (λ e. e.at + length e.bytes ≤ length xs) es → HoldsPieces es xs (after_pieces s es xs)
  holds_pieces es xs o l = record {
    long = length_pieces es xs;
    pieces = pieces_inside es xs o l;
    others = λ k h. pieces_outside es xs k h;
  }
