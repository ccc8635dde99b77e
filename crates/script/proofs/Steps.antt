-- How a script goes on from line to line. Assumes nothing.
use Rattle.std.proofs.Common.{◌≡◌, ℕ, ◌+◌, ◌<◌, ◌≤◌, List, length, get_or, drop, Ok, Err, Result, ap, sym, ◌∙◌, arith}
use Rattle.std.specs.List.{enumerate_from}
use Rattle.std.specs.Option.{is_some}
use Rattle.std.proofs.lemmas.List.{at_drop_more, at_drop_all}
use Rattle.std.proofs.lemmas.List.FromFn.{length-enumerate_from, get_or-enumerate_from}
use Rattle.script.specs.declared.text.Said.{Said}
use Rattle.script.specs.Fault.{WrongLine, WrongScript, at_line}
use Rattle.script.specs.Text.{Draft, Meant, completed, goes_on, said_of, drafted, script_from}

-- the numbered line that a turn has is the one at its number
pub record IsTurn (ls : List (List ℕ)) (n i : ℕ) (l : List ℕ) : Type 0 where
  pub inside : n < length ls
  pub number : i ≡ n
  pub line : l ≡ get_or ls n l

pub numbered_turn : (ls : List (List ℕ)) (n i : ℕ) (l : List ℕ) → (n < length (enumerate_from 0 ls)) × ((i, l) ≡ get_or (enumerate_from 0 ls) n (i, l)) → IsTurn ls n i l
numbered_turn ls n i l h =
    let k : n < length ls = omega (arith, h.0, length-enumerate_from 0 ls) in
    let e = h.1 ∙ get_or-enumerate_from 0 ls n (i, l) k in
    record { inside = k; number = omega (arith, ap (λ p. p.0) e); line = ap (λ p. p.1) e }

module _ (ls : List (List ℕ)) (n i : ℕ) (l : List ℕ) (t : IsTurn ls n i l) (d : Draft) (whole : Result Meant WrongScript) (so_far : script_from n d (drop n ls) ≡ whole) where
  turned : goes_on (n + 1) (λ s. script_from (n + 1) (drafted d s) (drop (n + 1) ls)) (said_of (is_some d.setup) l) ≡ whole
  unfolding script_from
  turned =
      ap (λ x. goes_on (n + 1) (λ s. script_from (n + 1) (drafted d s) (drop (n + 1) ls)) (said_of (is_some d.setup) x)) t.line
      ∙ sym (at_drop_more (script_from n d) ls n l t.inside)
      ∙ so_far

  -- behind a line that is right
  pub went_on : (s : Said) (e : Draft) (m : ℕ) → said_of (is_some d.setup) l ≡ Ok s → e ≡ drafted d s → m ≡ n + 1 → script_from m e (drop m ls) ≡ whole
  went_on s e m f g h =
      ap (λ x. script_from m x (drop m ls)) g
      ∙ ap (λ k. script_from k (drafted d s) (drop k ls)) h
      ∙ sym (ap (λ r. goes_on (n + 1) (λ s. script_from (n + 1) (drafted d s) (drop (n + 1) ls)) r) f)
      ∙ turned

  -- at a line that is wrong
  pub stopped : (e : WrongLine) → said_of (is_some d.setup) l ≡ Err e → Err (at_line (i + 1) e) ≡ whole
  stopped e f =
      ap (λ k. Err (at_line (k + 1) e)) t.number
      ∙ sym (ap (λ r. goes_on (n + 1) (λ s. script_from (n + 1) (drafted d s) (drop (n + 1) ls)) r) f)
      ∙ turned

-- behind the last line
pub at_end : (ls : List (List ℕ)) (n : ℕ) (d : Draft) (whole : Result Meant WrongScript) → script_from n d (drop n ls) ≡ whole → length ls ≤ n → completed d d.setup ≡ whole
unfolding script_from
at_end ls n d whole so_far h = sym (at_drop_all (script_from n d) ls n h) ∙ so_far
