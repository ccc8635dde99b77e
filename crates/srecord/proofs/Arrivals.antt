-- Laws of what is to come of a text. Assumes nothing.
use Rattle.std.proofs.Common.{◌≡◌, ℕ, ◌+◌, List, [], ◌∷◌, length, Some, None, Ok, Err, Option, sym, refl, ap, ◌∙◌, subst, Bor, ◌<◌}
use Rattle.srecord.specs.declared.line.Fault.{Fault}
use Rattle.srecord.specs.declared.line.Fault.TheVariants.{NoEnd}
use Rattle.srecord.specs.declared.line.Line.{Line}
use Rattle.srecord.specs.declared.line.Line.TheVariants.{Header, Data, Count, End}
use Rattle.srecord.specs.declared.reader.Phase.{Phase}
use Rattle.srecord.specs.declared.reader.Phase.TheVariants.{Start, Body, Counted, Ended}
use Rattle.srecord.specs.declared.reader.FaultAt.{FaultAt}
use Rattle.srecord.specs.declared.reader.Reader.{Reader}
use Rattle.srecord.specs.declared.reader.Record.{Record}
use Rattle.srecord.specs.Line.{Content, record_at, line_of, content_of}
use Rattle.srecord.specs.Reading.{next_of, rest_of, records_with, coming, ReadsOne, Step, stop, pass, hand, step_to, step_of, follow, Coming, stopped, handing, at_last, leads_to, coming_from}
use Rattle.srecord.specs.Text.{lines_of, ReadsFirst}

module _ (p : Phase) (k n : ℕ) (l : List ℕ) (ls : List (List ℕ)) where
  pub coming_step : (s : Step) → step_of p k (line_of l) ≡ s → coming_from p k n (l ∷ ls) ≡ leads_to (n + 1) (λ q j. coming_from q j (n + 1) ls) k s
  unfolding coming_from
  coming_step s e = ap (leads_to (n + 1) (λ q j. coming_from q j (n + 1) ls) k) e

  -- a line that has a fault of its own
  pub coming_fault : (f : Fault) → line_of l ≡ Err f → coming_from p k n (l ∷ ls) ≡ stopped (Some (record { fault = f; line = Some (n + 1) }))
  coming_fault f e = coming_step (stop f) (ap (step_of p k) e)

  -- a line that is out of place
  pub coming_misplaced : (c : Content) (f : Fault) → line_of l ≡ Ok c → follow p k c ≡ Err f → coming_from p k n (l ∷ ls) ≡ stopped (Some (record { fault = f; line = Some (n + 1) }))
  coming_misplaced c f e h = coming_step (stop f) (ap (step_of p k) e ∙ ap (step_to c) h)

  -- a line that is not handed out
  pub coming_passed : (c : Line) (q : Phase) → ((a : ℕ) (ds : Bor (List ℕ)) → c ≡ Data a ds → ⊥) → line_of l ≡ Ok (content_of c) → follow p k (content_of c) ≡ Ok q → coming_from p k n (l ∷ ls) ≡ coming_from q k (n + 1) ls
  coming_passed c q d e h = coming_step (pass q) (ap (step_of p k) e ∙ ap (step_to (content_of c)) h ∙ not_data c d)
    where
      not_data : (c : Line) → ((a : ℕ) (ds : Bor (List ℕ)) → c ≡ Data a ds → ⊥) → step_to (content_of c) (Ok q) ≡ pass q
      not_data (Header ds) d = refl
      not_data (Data a ds) d = absurd (d a ds refl)
      not_data (Count m) d = refl
      not_data End d = refl

  -- a line that is handed out
  pub coming_handed : (a : ℕ) (ds : List ℕ) (q : Phase) → line_of l ≡ Ok (record_at a ds) → follow p k (record_at a ds) ≡ Ok q → coming_from p k n (l ∷ ls) ≡ handing (record { line = n + 1; address = a; digits = ds }) (coming_from q (k + 1) (n + 1) ls)
  coming_handed a ds q e h = coming_step (hand q a ds) (ap (step_of p k) e ∙ ap (step_to (record_at a ds)) h)

pub coming-nil : (p : Phase) (k n : ℕ) → coming_from p k n [] ≡ stopped (at_last p)
unfolding coming_from
coming-nil p k n = refl

-- an empty text
pub coming-none : (p : Phase) (k n : ℕ) → coming_from p k n (lines_of []) ≡ stopped (at_last p)
unfolding coming_from lines_of
coming-none p k n = refl

pub at_last-open : (p : Phase) → (p ≡ Ended → ⊥) → at_last p ≡ Some (record { fault = NoEnd; line = None })
at_last-open Start h = refl
at_last-open Body h = refl
at_last-open Counted h = refl
at_last-open Ended h = absurd (h refl)

-- what has stopped is asked in vain, and stays as it is
pub next_of-stopped : (a : Coming) (f : FaultAt) → a ≡ stopped (Some f) → Err f ≡ next_of a
next_of-stopped a f e = sym (ap next_of e)

pub rest_of-stopped : (l a : Coming) (o : Option FaultAt) → l ≡ a → a ≡ stopped o → l ≡ rest_of a
rest_of-stopped l a o p e = p ∙ e ∙ sym (ap rest_of e)

-- ---- one line of a reader

module _ (r : Reader) where
  -- a line that has a fault of its own
  pub reads_fault : (f : Fault) → ReadsFirst r.rest.now (Err f) → ReadsOne r (Err f) r
  reads_fault f h = (ap (coming_from r.phase r.records r.lines) h.2 ∙ coming_fault _ _ _ h.0 h.1 f h.3, refl)

  module _ (line : Line) (rest : Bor (List ℕ)) (h : ReadsFirst r.rest.now (Ok (line, rest))) where
    -- what is to come, by the line that was read
    here : coming r ≡ coming_from r.phase r.records r.lines (h.0 ∷ lines_of rest.now)
    here = ap (coming_from r.phase r.records r.lines) h.1

    -- a line out of its place
    pub reads_misplaced : (f : Fault) → follow r.phase r.records (content_of line) ≡ Err f → ReadsOne r (Err f) r
    reads_misplaced f e = (here ∙ coming_misplaced _ _ _ h.0 _ (content_of line) f h.2 e, refl)

  -- the record of a line, if it is a data line
  abbrev pub record_of : Line → Option Record
  record_of (Header ds) = None
  record_of (Data a ds) = Some (record { line = r.lines + 1; address = a; digits = ds })
  record_of (Count m) = None
  record_of End = None

  -- a line in its place
  pub reads_line : (line : Line) (rest : Bor (List ℕ)) (q : Phase) (s : Reader) → ReadsFirst r.rest.now (Ok (line, rest)) → follow r.phase r.records (content_of line) ≡ Ok q → s.rest ≡ rest → s.lines ≡ r.lines + 1 → s.records ≡ records_with r.records (content_of line) → s.phase ≡ q → ReadsOne r (Ok (record_of line)) s
  reads_line line rest q s h e a b d p = go line h e d
    where
      same : (k : ℕ) → s.records ≡ k → coming_from q k (r.lines + 1) (lines_of rest.now) ≡ coming s
      same k d = λ i. coming_from (sym p i) (sym d i) (sym b i) (lines_of (sym a i).now)

      short : (line : Line) → ReadsFirst r.rest.now (Ok (line, rest)) → length s.rest.now < length r.rest.now
      short line h = subst (λ (t : Bor (List ℕ)). length t.now < length r.rest.now) (sym a) h.3

      go : (line : Line) → ReadsFirst r.rest.now (Ok (line, rest)) → follow r.phase r.records (content_of line) ≡ Ok q → s.records ≡ records_with r.records (content_of line) → ReadsOne r (Ok (record_of line)) s
      go (Header ds) h e d = (here (Header ds) rest h ∙ coming_passed _ _ _ h.0 _ (Header ds) q (λ a b n. absurd (cc)) h.2 e ∙ same r.records d, short (Header ds) h)
      go (Count m) h e d = (here (Count m) rest h ∙ coming_passed _ _ _ h.0 _ (Count m) q (λ a b n. absurd (cc)) h.2 e ∙ same r.records d, short (Count m) h)
      go End h e d = (here End rest h ∙ coming_passed _ _ _ h.0 _ End q (λ a b n. absurd (cc)) h.2 e ∙ same r.records d, short End h)
      go (Data v ds) h e d = (here (Data v ds) rest h ∙ coming_handed _ _ _ h.0 _ v ds.now q h.2 e ∙ ap (handing _) (same (r.records + 1) d), short (Data v ds) h)
