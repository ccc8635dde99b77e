-- How the words of a text come one by one. Assumes nothing.
use Rattle.std.proofs.Common.{◌≡◌, ℕ, suc, ◌<◌, Bool, true, false, not, cond, ltb, eqb, List, [], ◌∷◌, length, get_or, take, drop, filter, Some, None, Option, unwrap_or, refl, ap, sym, ◌∙◌, arith, one-add, subst}
use Rattle.std.specs.Char.{is_ascii_whitespace}
use Rattle.std.specs.List.{slice_split, onto_first, prefix_len, position_or_len}
use Rattle.std.specs.Bool.{MatchBool}
use Rattle.std.proofs.lemmas.List.Splits.{slice_split-cons_yes, slice_split-cons_no}
use Rattle.std.proofs.lemmas.List.Sums.{prefix_len-le-length}
use Rattle.std.proofs.lemmas.List.Folds.{length-prefix_len}
use Rattle.std.proofs.lemmas.Bool.Decides.{nat_tests}
use Rattle.script.specs.Words.{words_of, behind_blanks, first_word, behind_word, IsNextWord}

module _ (p : ℕ → Bool) where
  some : List (List ℕ) → List (List ℕ)
  some ws = filter (λ w. ltb 0 (length w)) ws

  -- the parts that are not empty
  parts : List ℕ → List (List ℕ)
  parts xs = some (slice_split p xs)

  parts-blank : (x : ℕ) (xs : List ℕ) → p x ≡ true → parts (x ∷ xs) ≡ parts xs
  unfolding parts some
  parts-blank x xs e = ap some (slice_split-cons_yes p x xs e)

  -- what is left behind the elements that pass
  left : List ℕ → List ℕ
  left xs = drop (prefix_len p xs) xs

  left-blank : (x : ℕ) (xs : List ℕ) → p x ≡ true → left (x ∷ xs) ≡ left xs
  unfolding left
  left-blank x xs e = rw (e, one-add)

  left-other : (x : ℕ) (xs : List ℕ) → p x ≡ false → left (x ∷ xs) ≡ x ∷ xs
  unfolding left
  left-other x xs e = rw e

  parts-left : (xs : List ℕ) → parts (left xs) ≡ parts xs
  unfolding left
  parts-left [] = refl
  parts-left (x ∷ xs) = go (p x) refl (parts-left xs)
    where
      go : (b : Bool) → p x ≡ b → parts (left xs) ≡ parts xs → parts (left (x ∷ xs)) ≡ parts (x ∷ xs)
      go true e more = ap parts (left-blank x xs e) ∙ more ∙ sym (parts-blank x xs e)
      go false e more = ap parts (left-other x xs e)

  -- the first element that is left does not pass
  left_first : (xs : List ℕ) → 0 < length (left xs) → p (get_or (left xs) 0 0) ≡ false
  unfolding left
  left_first [] h = absurd (omega arith)
  left_first (x ∷ xs) h = go (p x) refl (left_first xs)
    where
      go : (b : Bool) → p x ≡ b → (0 < length (left xs) → p (get_or (left xs) 0 0) ≡ false) → p (get_or (left (x ∷ xs)) 0 0) ≡ false
      go true e more =
          let same = left-blank x xs e in
          ap (λ ys. p (get_or ys 0 0)) same ∙ more (subst (λ ys. 0 < length ys) same h)
      go false e more = ap (λ ys. p (get_or ys 0 0)) (left-other x xs e) ∙ e

  -- where the first part ends
  at : List ℕ → ℕ
  at xs = position_or_len p xs

  at-blank : (x : ℕ) (xs : List ℕ) → p x ≡ true → at (x ∷ xs) ≡ 0
  unfolding at
  at-blank x xs e = rw e

  at-other : (x : ℕ) (xs : List ℕ) → p x ≡ false → at (x ∷ xs) ≡ suc (at xs)
  unfolding at
  at-other x xs e = rw (e, one-add)

  -- the first part, and the parts behind it
  record Cut (xs : List ℕ) : Type 0 where
    behind : List (List ℕ)
    whole : slice_split p xs ≡ take (at xs) xs ∷ behind
    rest : some behind ≡ parts (drop (at xs) xs)

  cut : (xs : List ℕ) → Cut xs
  unfolding at parts some
  cut [] = record { behind = []; whole = refl; rest = refl }
  cut (x ∷ xs) = go (p x) refl (cut xs)
    where
      go : (b : Bool) → p x ≡ b → Cut xs → Cut (x ∷ xs)
      go true e c = record {
        behind = slice_split p xs;
        whole = slice_split-cons_yes p x xs e ∙ ap (λ k. take k (x ∷ xs) ∷ slice_split p xs) (sym (at-blank x xs e));
        rest = sym (parts-blank x xs e) ∙ ap (λ k. parts (drop k (x ∷ xs))) (sym (at-blank x xs e));
      }
      go false e c = record {
        behind = c.behind;
        whole = slice_split-cons_no p x xs e ∙ ap (onto_first x) c.whole ∙ ap (λ k. take k (x ∷ xs) ∷ c.behind) (sym (at-other x xs e));
        rest = c.rest ∙ ap (λ k. parts (drop k (x ∷ xs))) (sym (at-other x xs e));
      }

  length-front : (xs : List ℕ) → length (take (at xs) xs) ≡ at xs
  unfolding at
  length-front xs = length-prefix_len (λ x. not (p x)) xs

  -- where the front is empty, nothing is left at all, unless the first element passes
  front-empty : (xs : List ℕ) → (0 < length xs → p (get_or xs 0 0) ≡ false) → length (take (at xs) xs) ≡ 0 → xs ≡ []
  front-empty [] h e = refl
  front-empty (x ∷ xs) h e = let k = length-front (x ∷ xs) in let j = at-other x xs (h (omega arith)) in absurd (omega arith)

  -- a part that is not empty comes, and the others follow
  part_comes : (xs : List ℕ) → 0 < length (take (at xs) xs) → parts xs ≡ take (at xs) xs ∷ parts (drop (at xs) xs)
  unfolding parts some
  part_comes xs h =
      let c = cut xs in
      let t : ltb 0 (length (take (at xs) xs)) ≡ true = grind (arith, nat_tests) in
      ap some c.whole ∙ rw t (ap (λ ws. take (at xs) xs ∷ ws) c.rest)

  -- the next part, or none, and the parts behind it
  next_part : (xs ys : List ℕ) → ys ≡ left xs → MatchBool (eqb (length (take (at ys) ys)) 0) ((parts xs ≡ []) × (parts (drop (at ys) ys) ≡ [])) (parts xs ≡ take (at ys) ys ∷ parts (drop (at ys) ys))
  unfolding at parts some
  next_part xs ys e = go (eqb (length (take (at ys) ys)) 0) refl (sym (parts-left xs) ∙ ap parts (sym e))
    where
      go : (b : Bool) → eqb (length (take (at ys) ys)) 0 ≡ b → parts xs ≡ parts ys → MatchBool b ((parts xs ≡ []) × (parts (drop (at ys) ys) ≡ [])) (parts xs ≡ take (at ys) ys ∷ parts (drop (at ys) ys))
      go true t same =
          let n : ys ≡ [] = front-empty ys (rw e (left_first xs)) (grind (arith, nat_tests)) in
          (same ∙ ap parts n, ap (λ zs. parts (drop (at zs) zs)) n)
      go false t same = same ∙ part_comes ys (grind (arith, nat_tests))

-- the first word comes, and the words behind it are left
pub next_word : (text word rest : List ℕ) → word ≡ first_word text → rest ≡ behind_word text → IsNextWord (words_of text) word (words_of rest)
unfolding at parts some left
next_word text word rest e f = rw (e, f) (next_part is_ascii_whitespace text (behind_blanks text) refl)

-- where a search for the first element that passes ends
pub end_found : (p : ℕ → Bool) (xs : List ℕ) (r : Option ℕ) (e : ℕ) → r ≡ cond (ltb (position_or_len p xs) (length xs)) (Some (position_or_len p xs)) None → e ≡ unwrap_or r (length xs) → e ≡ position_or_len p xs
end_found p xs r e h f = let l = prefix_len-le-length (λ x. not (p x)) xs in grind (arith, nat_tests)
