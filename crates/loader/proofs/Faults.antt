-- What a verdict on a text says of its lines: a refusal names the first fault, and of a text that is
-- accepted no line has one. Assumes nothing.
use Rattle.std.proofs.Common.{◌≡◌, ℕ, ◌+◌, ◌/◌, ◌%◌, max, Bool, true, false, cond, not, ◌||◌, eqb, ltb, List, [], ◌∷◌, ◌++◌, length, Some, None, Ok, Err, count_by, Option, Result, sym, refl, ap, ◌∙◌, subst, inl, inr, add-zero, arith, below_none, below_more}
use mathlib.Core.Bool.{or-false}
use native.Mathlib.Nat.{max-zero}
use Rattle.std.proofs.lemmas.List.{append-nil, append_assoc, length_push, length-append, take_at, get_or_at}
use Rattle.std.proofs.lemmas.List.Sums.{fold_push, sum_by_push}
use Rattle.std.proofs.lemmas.Bool.{ne_eqb}
use Rattle.std.proofs.lemmas.Bool.Decides.{nat_tests}
use Rattle.srecord.specs.declared.Fault.{Fault}
use Rattle.srecord.specs.declared.Fault.TheVariants.{NoEnd}
use Rattle.srecord.specs.declared.reader.Phase.{Phase}
use Rattle.srecord.specs.declared.reader.Phase.TheVariants.{Start}
use Rattle.srecord.specs.Line.{Content, header, record_at, count_is, end, line_of}
use Rattle.srecord.specs.Reading.{at_start, is_open, at_end, follow, step_to, step_of, leads_to, coming_from, coming_of}
use Rattle.srecord.specs.Text.{lines_of}
use Rattle.loader.specs.declared.file.Reason.{Reason}
use Rattle.loader.specs.declared.file.Reason.TheVariants.{File, NotRising, NotWhole}
use Rattle.loader.specs.declared.file.Refusal.{Refusal}
use Rattle.loader.specs.Verdict.{suits, suits_from, refused_at, at_last, goes_on}
use Rattle.loader.specs.Law.{contents_of, said_by, is_record, is_end, closes, has_data, any_of, reach_of, furthest, address_fault, place_fault, fault_from, fault_at, Faultless, NamesFirst}
use Rattle.loader.proofs.Suiting.{suits_on}

-- ---- what the lines said so far

any_push : (t : Content → Bool) (cs : List Content) (c : Content) → any_of t (cs ++ c ∷ []) ≡ (any_of t cs || t c)
any_push t cs c = ap (ltb 0) (sum_by_push (λ x. cond (t x) 1 0) cs c) ∙ go (count_by t cs) (t c)
  where
    go : (n : ℕ) (b : Bool) → ltb 0 (n + cond b 1 0) ≡ (ltb 0 n || b)
    go n b = grind (arith, nat_tests)

contents-push : (ls : List (List ℕ)) (l : List ℕ) (c : Content) → line_of l ≡ Ok c → contents_of (ls ++ l ∷ []) ≡ contents_of ls ++ c ∷ []
contents-push [] l c e = ap (λ r. said_by r []) e
contents-push (x ∷ xs) l c e = ap (said_by (line_of x)) (contents-push xs l c e) ∙ go (line_of x)
  where
    go : (r : Result Content Fault) → said_by r (contents_of xs ++ c ∷ []) ≡ said_by r (contents_of xs) ++ c ∷ []
    go (Ok d) = refl
    go (Err f) = refl

-- where a line that is in its place leads
phase_after : (p q : Phase) (k : ℕ) (c : Content) → follow p k c ≡ Ok q → (at_start q ≡ false) × ((not (is_open p) || closes c) ≡ not (is_open q)) × ((at_end p || is_end c) ≡ at_end q)
phase_after p q k c e = grind (arith, nat_tests)

-- the fault of a line that is in its place
abbrev addressed : ℕ → List Content → Content → Option Reason
addressed w cs (header ds) = None
addressed w cs (record_at a ds) = address_fault w cs a (length ds / 2)
addressed w cs (count_is n) = None
addressed w cs end = None

-- the fault of a line by whether it is in its place, where it has the fault f otherwise
abbrev ordered : Option Reason → Result Phase Fault → Option Reason
ordered f (Err g) = Some (File g)
ordered f (Ok q) = f

-- the lines said cs, and left the reader at phase p after k data lines, and the check at the end e
-- of data lines any of which had data
record Seen (w : ℕ) (cs : List Content) (p : Phase) (k e : ℕ) (any : Bool) : Type 0 where
  start : eqb (length cs) 0 ≡ at_start p
  closed : any_of closes cs ≡ not (is_open p)
  ended : any_of is_end cs ≡ at_end p
  count : count_by is_record cs ≡ k
  reach : furthest w cs ≡ e
  some : any_of has_data cs ≡ any

module _ {w : ℕ} {cs : List Content} {p : Phase} {k e : ℕ} {any : Bool} (s : Seen w cs p k e any) where
  -- the reader's order of lines is that of the faults
  place_follow : (c : Content) → place_fault w cs c ≡ ordered (addressed w cs c) (follow p k c)
  place_follow c = grind (arith, nat_tests)

  -- one more line, in its place
  seen_push : (c : Content) (q : Phase) (j d : ℕ) (b : Bool) → follow p k c ≡ Ok q → k + cond (is_record c) 1 0 ≡ j → max e (reach_of w c) ≡ d → (any || has_data c) ≡ b → Seen w (cs ++ c ∷ []) q j d b
  seen_push c q j d b o x y z =
      let a = phase_after p q k c o in
      record {
        start = ne_eqb (length (cs ++ c ∷ [])) 0 (λ h. omega (arith, length_push cs c)) ∙ sym a.0;
        closed = any_push closes cs c ∙ ap (λ t. t || closes c) s.closed ∙ a.1;
        ended = any_push is_end cs c ∙ ap (λ t. t || is_end c) s.ended ∙ a.2;
        count = sum_by_push (λ r. cond (is_record r) 1 0) cs c ∙ ap (λ m. m + cond (is_record c) 1 0) s.count ∙ x;
        reach = fold_push (λ m r. max m (reach_of w r)) 0 cs c ∙ ap (λ m. max m (reach_of w c)) s.reach ∙ y;
        some = any_push has_data cs c ∙ ap (λ t. t || has_data c) s.some ∙ z;
      }

-- ---- what a verdict says of all lines

abbrev Means : ℕ → List (List ℕ) → Result (Unit {0}) Refusal → Type 0
Means w ls (Ok u) = Faultless w ls (length ls)
Means w ls (Err x) = NamesFirst w ls x

module _ (w : ℕ) (all : List (List ℕ)) where
  -- the first n lines said cs and have no fault, and ls are left
  record Upto (before ls : List (List ℕ)) (n : ℕ) (cs : List Content) : Type 0 where
    split : all ≡ before ++ ls
    long : length before ≡ n
    said : contents_of before ≡ cs
    first : Faultless w all n

  module _ {before : List (List ℕ)} {l : List ℕ} {ls : List (List ℕ)} {n : ℕ} {cs : List Content} (u : Upto before (l ∷ ls) n cs) where
    fault_here : (r : Result Content Fault) → line_of l ≡ r → fault_at w all n ≡ fault_from w cs r
    fault_here r e =
        ap (λ ls. fault_at w ls n) u.split
        ∙ (λ i. fault_from w (contents_of (take_at before (l ∷ ls) n u.long i)) (line_of (get_or_at before l ls [] n u.long i)))
        ∙ (λ i. fault_from w (u.said i) (e i))

    refuses : (r : Result Content Fault) (x : Reason) → line_of l ≡ r → fault_from w cs r ≡ Some x → Means w all (refused_at x (Some (n + 1)))
    refuses r x e f =
        let long = simp length-append at (ap length u.split) in
        inl (n, record { inside = omega arith; first = u.first; fault = fault_here r e ∙ f }, refl)

    goes_on_lem : (c : Content) → line_of l ≡ Ok c → place_fault w cs c ≡ None → Upto (before ++ l ∷ []) ls (n + 1) (cs ++ c ∷ [])
    goes_on_lem c e f =
        record {
          split = u.split ∙ sym (append_assoc before (l ∷ []) ls);
          long = length_push before l ∙ ap (λ m. m + 1) u.long;
          said = contents-push before l c e ∙ ap (λ ds. ds ++ c ∷ []) u.said;
          first = below_more (λ m. fault_at w all m ≡ None) n u.first (fault_here (Ok c) e ∙ f);
        }

  -- with ls left, what the check goes on to say holds of all lines
  abbrev Judged : List (List ℕ) → Type 0
  Judged ls = (before : List (List ℕ)) (n : ℕ) (cs : List Content) (p : Phase) (k e : ℕ) (any : Bool) → Upto before ls n cs → Seen w cs p k e any → Means w all (suits_on w e any (coming_from p k n ls))

  judged_none : Judged []
  unfolding coming_from suits_from
  judged_none before n cs p k e any u s = go (at_end p) any s.ended s.some
    where
      same : all ≡ before
      same = u.split ∙ append-nil before

      clean : Faultless w all (length all)
      clean m h = u.first m (omega (arith, ap length same))

      at_all : (t : Content → Bool) → any_of t (contents_of all) ≡ any_of t cs
      at_all t = ap (λ ls. any_of t (contents_of ls)) same ∙ ap (any_of t) u.said

      go : (a b : Bool) → any_of is_end cs ≡ a → any_of has_data cs ≡ b → Means w all (at_last b (cond a None (Some (record { fault = NoEnd; line = None }))))
      go false b h i = inr (inl (record { first = clean; none = at_all is_end ∙ h }, refl))
      go true false h i = inr (inr (record { first = clean; ended = at_all is_end ∙ h; none = at_all has_data ∙ i }, refl))
      go true true h i = clean

  judged_more : (l : List ℕ) (ls : List (List ℕ)) → Judged ls → Judged (l ∷ ls)
  unfolding coming_from suits_from
  judged_more l ls rest before n cs p k e any u s = by_line (line_of l) refl
    where
      fault : (c : Content) (r : Result Phase Fault) → follow p k c ≡ r → place_fault w cs c ≡ ordered (addressed w cs c) r
      fault c r o = place_follow s c ∙ ap (ordered (addressed w cs c)) o

      -- a line with a fault that can be read
      misplaced : (c : Content) (r : Result Phase Fault) (x : Reason) → line_of l ≡ Ok c → follow p k c ≡ r → ordered (addressed w cs c) r ≡ Some x → Means w all (refused_at x (Some (n + 1)))
      misplaced c r x h o f = refuses u (Ok c) x h (fault c r o ∙ f)

      -- a line with no fault
      next : (c : Content) (q : Phase) (j d : ℕ) (b : Bool) → line_of l ≡ Ok c → follow p k c ≡ Ok q → addressed w cs c ≡ None → k + cond (is_record c) 1 0 ≡ j → max e (reach_of w c) ≡ d → (any || has_data c) ≡ b → Means w all (suits_on w d b (coming_from q j (n + 1) ls))
      next c q j d b h o f x y z =
          rest (before ++ l ∷ []) (n + 1) (cs ++ c ∷ []) q j d b (goes_on_lem u c h (fault c (Ok q) o ∙ f)) (seen_push s c q j d b o x y z)

      -- a data line in its place, by whether it is empty, fills whole addresses and starts too low
      by_data : (a : ℕ) (ds : List ℕ) (q : Phase) (empty whole low : Bool) → line_of l ≡ Ok (record_at a ds) → follow p k (record_at a ds) ≡ Ok q → eqb (length ds / 2) 0 ≡ empty → ltb a e ≡ low → address_fault w cs a (length ds / 2) ≡ cond empty None (cond whole (cond low (Some NotRising) None) (Some NotWhole)) → Means w all (cond empty (suits_on w e any (coming_from q (k + 1) (n + 1) ls)) (goes_on (λ d. suits_on w d true (coming_from q (k + 1) (n + 1) ls)) (n + 1) (cond whole (cond low (Err NotRising) (Ok (a + length ds / 2 / w))) (Err NotWhole))))
      by_data a ds q true whole low h o x y f = next (record_at a ds) q (k + 1) e any h o f refl (grind (arith, nat_tests)) (grind (arith, nat_tests))
      by_data a ds q false false low h o x y f = misplaced (record_at a ds) (Ok q) NotWhole h o f
      by_data a ds q false true true h o x y f = misplaced (record_at a ds) (Ok q) NotRising h o f
      by_data a ds q false true false h o x y f =
          next (record_at a ds) q (k + 1) (a + length ds / 2 / w) true h o f refl (grind (arith, nat_tests)) (grind (arith, nat_tests))

      by_order : (c : Content) (r : Result Phase Fault) → line_of l ≡ Ok c → follow p k c ≡ r → Means w all (suits_on w e any (leads_to (n + 1) (λ q j. coming_from q j (n + 1) ls) k (step_to c r)))
      by_order c (Err f) h o = misplaced c (Err f) (File f) h o refl
      by_order (header ds) (Ok q) h o = next (header ds) q k e any h o refl (add-zero k) (max-zero e) (or-false any)
      by_order (record_at a ds) (Ok q) h o =
          let m = length ds / 2 in
          by_data a ds q (eqb m 0) (eqb (m % w) 0) (ltb a e) h o refl refl
          (ap (λ x. cond (eqb m 0) None (cond (eqb (m % w) 0) (cond (ltb a x) (Some NotRising) None) (Some NotWhole))) s.reach)
      by_order (count_is m) (Ok q) h o = next (count_is m) q k e any h o refl (add-zero k) (max-zero e) (or-false any)
      by_order end (Ok q) h o = next end q k e any h o refl (add-zero k) (max-zero e) (or-false any)

      by_line : (r : Result Content Fault) → line_of l ≡ r → Means w all (suits_on w e any (leads_to (n + 1) (λ q j. coming_from q j (n + 1) ls) k (step_of p k r)))
      by_line (Err f) h = refuses u (Err f) (File f) h refl
      by_line (Ok c) h = by_order c (follow p k c) h refl

  judged : (ls : List (List ℕ)) → Judged ls
  judged [] = judged_none
  judged (l ∷ ls) = judged_more l ls (judged ls)

suits-means : (w : ℕ) (text : List ℕ) → Means w (lines_of text) (suits w (coming_of text))
suits-means w text =
    judged w (lines_of text) (lines_of text) [] 0 [] Start 0 0 false
    (record { split = refl; long = refl; said = refl; first = below_none (λ m. fault_at w (lines_of text) m ≡ None) })
    (record { start = refl; closed = refl; ended = refl; count = refl; reach = refl; some = refl })

pub suits-refused : (w : ℕ) (text : List ℕ) (x : Refusal) → suits w (coming_of text) ≡ Err x → NamesFirst w (lines_of text) x
suits-refused w text x e = subst (Means w (lines_of text)) e (suits-means w text)

pub suits-accepted : (w : ℕ) (text : List ℕ) → suits w (coming_of text) ≡ Ok tt → Faultless w (lines_of text) (length (lines_of text))
suits-accepted w text e = subst (Means w (lines_of text)) e (suits-means w text)
