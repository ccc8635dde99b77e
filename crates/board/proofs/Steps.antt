-- How a log goes on from line to line. Assumes nothing.
use Rattle.std.proofs.Common.{◌≡◌, ℕ, ◌+◌, ◌≤◌, List, length, drop, Ok, Err, Result, ap, sym, ◌∙◌}
use Rattle.std.specs.Prelude.{IfSome}
use Rattle.std.proofs.lemmas.List.{at_drop_more, at_drop_all}
use Rattle.script.proofs.Steps.{IsTurn}
use Rattle.board.specs.Fault.{WrongLine, after}
use Rattle.board.specs.Line.{Saying, said_of}
use Rattle.board.specs.Log.{WrongLog, Draft, at_line, goes_on, added, completed, log_from, refusal_by, draft_by, log_by}
use Rattle.board.specs.Stage.{Meant, meant_by}
use Rattle.board.specs.declared.draft.LogError.{LogError}
use Rattle.board.specs.declared.draft.LogError.TheVariants.{Refused, Memory}

module _ (ls : List (List ℕ)) (n i : ℕ) (l : List ℕ) (t : IsTurn ls n i l) (d : Draft) (whole : Result Meant WrongLog) (so_far : log_from n d (drop n ls) ≡ whole) where
  turned : goes_on (n + 1) (said_of l) (λ s. after (added (n + 1) d s) (λ e. log_from (n + 1) e (drop (n + 1) ls))) ≡ whole
  unfolding log_from
  turned =
      ap (λ x. goes_on (n + 1) (said_of x) (λ s. after (added (n + 1) d s) (λ e. log_from (n + 1) e (drop (n + 1) ls)))) t.line
      ∙ sym (at_drop_more (log_from n d) ls n l t.inside)
      ∙ so_far

  said : (s : Saying) → said_of l ≡ Ok s → after (added (n + 1) d s) (λ e. log_from (n + 1) e (drop (n + 1) ls)) ≡ whole
  said s f = sym (ap (λ r. goes_on (n + 1) r (λ s. after (added (n + 1) d s) (λ e. log_from (n + 1) e (drop (n + 1) ls)))) f) ∙ turned

  -- behind a line that is right
  pub went_on : (s : Saying) (e : Draft) (m : ℕ) → said_of l ≡ Ok s → added (i + 1) d s ≡ Ok e → m ≡ n + 1 → log_from m e (drop m ls) ≡ whole
  went_on s e m f g h =
      ap (λ k. log_from k e (drop k ls)) h
      ∙ sym (ap (λ r. after r (λ e. log_from (n + 1) e (drop (n + 1) ls))) (sym (ap (λ k. added (k + 1) d s) t.number) ∙ g))
      ∙ said s f

  -- at a line that is wrong
  pub stopped : (e : WrongLine) → said_of l ≡ Err e → at_line (i + 1) e ≡ whole
  stopped e f =
      ap (λ k. at_line (k + 1) e) t.number
      ∙ sym (ap (λ r. goes_on (n + 1) r (λ s. after (added (n + 1) d s) (λ e. log_from (n + 1) e (drop (n + 1) ls)))) f)
      ∙ turned

  -- at a line that is right by itself, and not behind the others
  pub not_added : (s : Saying) (e : WrongLog) → said_of l ≡ Ok s → added (i + 1) d s ≡ Err e → Err e ≡ whole
  not_added s e f g =
      sym (ap (λ r. after r (λ e. log_from (n + 1) e (drop (n + 1) ls))) (sym (ap (λ k. added (k + 1) d s) t.number) ∙ g))
      ∙ said s f

-- behind the last line
pub at_end : (ls : List (List ℕ)) (n : ℕ) (d : Draft) (whole : Result Meant WrongLog) → log_from n d (drop n ls) ≡ whole → length ls ≤ n → completed d ≡ whole
unfolding log_from
at_end ls n d whole so_far h = sym (at_drop_all (log_from n d) ls n h) ∙ so_far

-- what is told of a log that cannot go on: the line that is wrong, or that there is no memory
pub fell : (e : LogError) (x : Result Draft WrongLog) (whole : Result Meant WrongLog) → IfSome (log_by draft_by (Err e)) (λ r. r ≡ x) → ((w : WrongLog) → x ≡ Err w → Err w ≡ whole) → IfSome (log_by meant_by (Err e)) (λ r. r ≡ whole)
fell (Refused r) x whole h k = k (refusal_by r) (sym h)
fell (Memory e) x whole h k = tt
