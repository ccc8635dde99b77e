-- Bytes that are questioned and put, one after the other. Assumes nothing.
use Rattle.std.proofs.Common.{◌≡◌, ℕ, ◌+◌, ◌<◌, ◌≤◌, true, ◌&&◌, List, [], ◌∷◌, length, drop, Ok, get_or, refl, sym, ◌∙◌, ap, arith}
use Rattle.std.specs.Prelude.{slice_set}
use Rattle.std.proofs.lemmas.Bool.Decides.{nat_tests}
use Rattle.std.proofs.lemmas.List.{at_drop_more, drop_all, length-set, get_or-set_other}
use Rattle.memory.specs.Part.{Shape}
use Rattle.memory.specs.Calls.{question_answer, put_answer, after_put}
use Rattle.memory.specs.Changes.{changed_all}
use Rattle.bootloader.specs.Memories.{is_taken, takes_from, puts_from}

module _ (s : Shape) where
  -- a put of a value that is taken is done
  put_taken : (xs : List ℕ) (o v : ℕ) → is_taken (question_answer s xs o v) ≡ true → put_answer s xs o v ≡ Ok tt
  put_taken xs o v h = grind (arith, nat_tests)

  after_put-taken : (xs : List ℕ) (o v : ℕ) → is_taken (question_answer s xs o v) ≡ true → after_put s xs o v ≡ slice_set xs o v
  after_put-taken xs o v h = grind (arith, nat_tests)

  -- the first of the bytes that are left, and the others
  pub takes_from-more : (xs : List ℕ) (o i : ℕ) (vs : List ℕ) → i < length vs
      → takes_from s xs o (drop i vs) ≡ (is_taken (question_answer s xs o (get_or vs i 0)) && takes_from s xs (o + 1) (drop (i + 1) vs))
  unfolding takes_from
  takes_from-more xs o i vs h = at_drop_more (takes_from s xs o) vs i 0 h

  -- a byte that was put does not matter to those behind it
  question-set : (xs : List ℕ) (p v o w : ℕ) → p < o → question_answer s (slice_set xs p v) o w ≡ question_answer s xs o w
  question-set xs p v o w h = grind (arith, nat_tests, length-set, get_or-set_other)

  takes_from-set : (xs : List ℕ) (p v o : ℕ) (vs : List ℕ) → p < o → takes_from s (slice_set xs p v) o vs ≡ takes_from s xs o vs
  unfolding takes_from
  takes_from-set xs p v o [] h = refl
  takes_from-set xs p v o (w ∷ vs) h = grind (arith, question-set xs p v o w h, takes_from-set xs p v (o + 1) vs)

  puts_from-more : (xs : List ℕ) (o i : ℕ) (vs : List ℕ) → i < length vs
      → changed_all s (puts_from o (drop i vs)) xs ≡ changed_all s (puts_from (o + 1) (drop (i + 1) vs)) (slice_set xs o (get_or vs i 0))
  unfolding puts_from changed_all
  puts_from-more xs o i vs h = at_drop_more (λ ws. changed_all s (puts_from o ws) xs) vs i 0 h

  pub takes_from-end : (xs : List ℕ) (o i : ℕ) (vs : List ℕ) → length vs ≤ i → takes_from s xs o (drop i vs) ≡ true
  unfolding takes_from
  takes_from-end xs o i vs h = rw (drop_all i vs h) refl

  pub puts_from-end : (xs : List ℕ) (o i : ℕ) (vs : List ℕ) → length vs ≤ i → changed_all s (puts_from o (drop i vs)) xs ≡ xs
  unfolding puts_from changed_all
  puts_from-end xs o i vs h = rw (drop_all i vs h) refl

  -- one put of bytes that all are taken
  module _ (xs : List ℕ) (o i : ℕ) (vs : List ℕ) (h : i < length vs) (t : takes_from s xs o (drop i vs) ≡ true) where
    first : is_taken (question_answer s xs o (get_or vs i 0)) ≡ true
    first = grind (arith, takes_from-more xs o i vs h)

    pub one_put : put_answer s xs o (get_or vs i 0) ≡ Ok tt
    one_put = put_taken xs o (get_or vs i 0) first

    pub others_taken : takes_from s (after_put s xs o (get_or vs i 0)) (o + 1) (drop (i + 1) vs) ≡ true
    others_taken =
        ap (λ ys. takes_from s ys (o + 1) (drop (i + 1) vs)) (after_put-taken xs o (get_or vs i 0) first)
        ∙ takes_from-set xs o (get_or vs i 0) (o + 1) (drop (i + 1) vs) (omega arith)
        ∙ grind (arith, takes_from-more xs o i vs h)

    pub others_put : changed_all s (puts_from (o + 1) (drop (i + 1) vs)) (after_put s xs o (get_or vs i 0)) ≡ changed_all s (puts_from o (drop i vs)) xs
    others_put =
        ap (changed_all s (puts_from (o + 1) (drop (i + 1) vs))) (after_put-taken xs o (get_or vs i 0) first) ∙ sym (puts_from-more xs o i vs h)
