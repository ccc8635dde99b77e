-- What a verdict means, from the laws of the reader and of the check. Assumes nothing.
use Rattle.std.proofs.Common.{◌≡◌, ℕ, ◌+◌, ◌/◌, ◌%◌, ◌≤◌, Bool, true, false, cond, eqb, ltb, List, [], ◌∷◌, length, Some, None, Ok, Err, Option, Result, sym, refl, ap, ◌∙◌, subst, inl, inr, arith}
use Rattle.std.specs.Option.{option_to_list}
use Rattle.std.specs.List.{AllByRecursion}
use Rattle.std.proofs.ByRecursion.{All-weaker, All-from_get_or}
use Rattle.std.proofs.lemmas.Bool.{true≢false, eqb-true, eqb-false, ltb-true, ltb-false, eq-eqb, ne_eqb, le-ltb, cond-true, cond-false}
use Rattle.std.proofs.lemmas.Bool.Decides.{nat_tests}
use Rattle.srecord.specs.declared.FaultAt.{FaultAt}
use Rattle.srecord.specs.File.{Entry, File, WritesFile, Hands, HandsAll, HandsFile}
use Rattle.srecord.specs.Reading.{Handed, coming_of}
use Rattle.srecord.specs.Text.{lines_of}
use Rattle.srecord.proofs.Files.{file_sound, file_complete}
use Rattle.srecord.proofs.Pairs.{length-bytes, decoded-bytes}
use Rattle.loader.specs.declared.file.Reason.{Reason}
use Rattle.loader.specs.declared.file.Reason.TheVariants.{TextSize, NotRising, NotWhole}
use Rattle.loader.specs.declared.file.Refusal.{Refusal}
use Rattle.loader.specs.Law.{IsTarget, start_of, end_of, HasData, Rising, Suits, Holds, Faultless, Refuses, Judges}
use Rattle.loader.specs.Target.{bytes_per_address}
use Rattle.loader.specs.Verdict.{byte_count, end_after, goes_on, at_last, suits_from, suits, refused_at, verdict_for, verdict}
use Rattle.loader.proofs.Faults.{suits-refused, suits-accepted}

-- ---- what has passed suits the target

at-last_none : (any : Bool) (f : Option FaultAt) → at_last any f ≡ Ok tt → (f ≡ None) × (any ≡ true)
at-last_none any (Some f) e = cc
at-last_none true None e = (refl, refl)
at-last_none false None e = cc

-- the bytes of a record that is handed out are those of its line
hands-many : (n : ℕ) (r : Handed) (x : Entry) → Hands n r x → byte_count r ≡ length x.bytes
hands-many n r x h = let e = length-bytes r.digits x.bytes (decoded-bytes r.digits x.bytes h.bytes) in omega arith

-- what is known of data lines that come after the end e and have passed
record Passed (w e : ℕ) (any : Bool) (es : List Entry) (f : Option FaultAt) : Type 0 where
  good : f ≡ None
  whole : AllByRecursion (λ x. HasData x → length x.bytes % w ≡ 0) es
  rising : Rising w es
  past : AllByRecursion (λ x. HasData x → e ≤ start_of x) es
  some : any ≡ false → AllByRecursion (λ x. length x.bytes ≡ 0) es → ⊥

module _ (w : ℕ) (x : Entry) (es : List Entry) (f : Option FaultAt) where
  passed_empty : (e : ℕ) (any : Bool) → length x.bytes ≡ 0 → Passed w e any es f → Passed w e any (x ∷ es) f
  passed_empty e any none p = record {
    good = p.good;
    whole = ((λ h. absurd (omega arith)), p.whole);
    rising = ((λ h. absurd (omega arith)), p.rising);
    past = ((λ h. absurd (omega arith)), p.past);
    some = λ h all. p.some h all.1;
  }

  passed_data : (e : ℕ) (any : Bool) → (length x.bytes ≡ 0 → ⊥) → length x.bytes % w ≡ 0 → e ≤ start_of x → Passed w (end_of w x) true es f → Passed w e any (x ∷ es) f
  passed_data e any data-there fills after p = record {
    good = p.good;
    whole = ((λ h. fills), p.whole);
    rising = ((λ h. p.past), p.rising);
    past = ((λ h. after), All-weaker (λ l. HasData l → end_of w x ≤ start_of l) (λ l. HasData l → e ≤ start_of l) (λ l k h. let m = k h in omega arith) es p.past);
    some = λ h all. data-there all.0;
  }

passed : (w e : ℕ) (any : Bool) (n : ℕ) (rs : List Handed) (es : List Entry) (f : Option FaultAt) → HandsAll n rs es → suits_from w e any rs f ≡ Ok tt → Passed w e any es f
unfolding suits_from
passed w e any n [] [] f h k =
    let p = at-last_none any f k in
    record { good = p.0; whole = tt; rising = tt; past = tt; some = λ none all. true≢false (sym p.1 ∙ none) }
passed w e any n [] (x ∷ es) f h k = absurd h
passed w e any n (r ∷ rs) [] f h k = absurd h
passed w e any n (r ∷ rs) (x ∷ es) f h k =
    by (passed w e any (n + 1) rs es f h.1) (λ m. passed w m true (n + 1) rs es f h.1) (eqb (byte_count r) 0) (eqb (byte_count r % w) 0) (ltb r.address e) refl refl refl k
  where
    many : byte_count r ≡ length x.bytes
    many = hands-many (n + 1) r x h.0

    at : r.address ≡ start_of x
    at = h.0.address

    by : (suits_from w e any rs f ≡ Ok tt → Passed w e any es f) → ((m : ℕ) → suits_from w m true rs f ≡ Ok tt → Passed w m true es f)
        → (a b c : Bool) → eqb (byte_count r) 0 ≡ a → eqb (byte_count r % w) 0 ≡ b → ltb r.address e ≡ c
        → cond a (suits_from w e any rs f) (goes_on (λ next. suits_from w next true rs f) r.line (cond b (cond c (Err NotRising) (Ok (r.address + byte_count r / w))) (Err NotWhole))) ≡ Ok tt
        → Passed w e any (x ∷ es) f
    by skip on true b c p q s k = passed_empty w x es f e any (sym many ∙ eqb-true (byte_count r) 0 p) (skip k)
    by skip on false false c p q s k = cc
    by skip on false true true p q s k = cc
    by skip on false true false p q s k =
        passed_data w x es f e any (λ none. eqb-false (byte_count r) 0 p (many ∙ none)) (ap (λ m. m % w) (sym many) ∙ eqb-true (byte_count r % w) 0 q)
        (subst (λ (m : ℕ). e ≤ m) at (ltb-false r.address e s))
        (subst (λ (m : ℕ). Passed w m true es f) (λ i. at i + many i / w) (on (r.address + byte_count r / w) k))

-- ---- what suits the target passes

passes : (w e : ℕ) (any : Bool) (n : ℕ) (rs : List Handed) (es : List Entry) → HandsAll n rs es → Passed w e any es None → suits_from w e any rs None ≡ Ok tt
unfolding suits_from
passes w e any n [] [] h p = by any refl
  where
    by : (a : Bool) → any ≡ a → at_last a None ≡ Ok tt
    by true q = refl
    by false q = absurd (p.some q tt)
passes w e any n [] (x ∷ es) h p = absurd h
passes w e any n (r ∷ rs) [] h p = absurd h
passes w e any n (r ∷ rs) (x ∷ es) h p =
    by (passes w e any (n + 1) rs es h.1) (λ m. passes w m true (n + 1) rs es h.1) (eqb (length x.bytes) 0) refl
  where
    many : byte_count r ≡ length x.bytes
    many = hands-many (n + 1) r x h.0

    at : r.address ≡ start_of x
    at = h.0.address

    by : (Passed w e any es None → suits_from w e any rs None ≡ Ok tt) → ((m : ℕ) → Passed w m true es None → suits_from w m true rs None ≡ Ok tt)
        → (a : Bool) → eqb (length x.bytes) 0 ≡ a
        → cond (eqb (byte_count r) 0) (suits_from w e any rs None) (goes_on (λ next. suits_from w next true rs None) r.line (end_after w e r)) ≡ Ok tt
    by skip on true q =
        let none = eqb-true (length x.bytes) 0 q in
        cond-true (eqb (byte_count r) 0) _ _ (eq-eqb (byte_count r) 0 (many ∙ none))
        ∙ skip (record { good = refl; whole = p.whole.1; rising = p.rising.1; past = p.past.1; some = λ f all. p.some f (none, all) })
    by skip on false q =
        let data-there = eqb-false (length x.bytes) 0 q in
        let has : HasData x = omega arith in
        cond-false (eqb (byte_count r) 0) _ _ (ne_eqb (byte_count r) 0 (λ none. data-there (sym many ∙ none)))
        ∙ ap (goes_on (λ next. suits_from w next true rs None) r.line)
        (cond-true (eqb (byte_count r % w) 0) _ _ (eq-eqb (byte_count r % w) 0 (ap (λ m. m % w) many ∙ p.whole.0 has))
        ∙ cond-false (ltb r.address e) _ _ (le-ltb r.address e (subst (λ (m : ℕ). e ≤ m) (sym at) (p.past.0 has))))
        ∙ on (r.address + byte_count r / w)
        (subst (λ (m : ℕ). Passed w m true es None) (λ i. sym at i + sym many i / w)
        (record { good = refl; whole = p.whole.1; rising = p.rising.1; past = p.rising.0 has; some = λ f all. true≢false f }))

-- ---- the targets

target-width : (target size w : ℕ) → IsTarget target size w → bytes_per_address target size ≡ Some w
target-width target size w h = grind (arith, nat_tests)

width-target : (target size w : ℕ) → bytes_per_address target size ≡ Some w → IsTarget target size w
width-target target size w e = grind (arith, nat_tests)

-- ---- the verdict

from_start : (w : ℕ) (es : List Entry) → Suits w es → Passed w 0 false es None
from_start w es s = record {
  good = refl;
  whole = s.whole;
  rising = s.rising;
  past = all_from_each es;
  some = λ f. s.some;
}
  where
    all_from_each : (es : List Entry) → AllByRecursion (λ x. HasData x → 0 ≤ start_of x) es
    all_from_each es = All-from_get_or (λ x. HasData x → 0 ≤ start_of x) es (record { digit = 0; address = []; bytes = [] }) (λ i h k. omega arith)

-- what passes has no fault
fault-none : (w e : ℕ) (any : Bool) (rs : List Handed) (f : Option FaultAt) → suits_from w e any rs f ≡ Ok tt → f ≡ None
unfolding suits_from
fault-none w e any [] f k = (at-last_none any f k).0
fault-none w e any (r ∷ rs) f k = by (fault-none w e any rs f) (λ m. fault-none w m true rs f) (eqb (byte_count r) 0) (end_after w e r) k
  where
    by : (suits_from w e any rs f ≡ Ok tt → f ≡ None) → ((m : ℕ) → suits_from w m true rs f ≡ Ok tt → f ≡ None)
        → (a : Bool) (b : Result ℕ Reason) → cond a (suits_from w e any rs f) (goes_on (λ next. suits_from w next true rs f) r.line b) ≡ Ok tt → f ≡ None
    by skip on true b k = skip k
    by skip on false (Ok m) k = on m k
    by skip on false (Err x) k = cc

module _ (text : List ℕ) (target size : ℕ) where
  accepted_for : (o : Option ℕ) → bytes_per_address target size ≡ o → verdict_for text o ≡ Ok tt → (w : ℕ) × IsTarget target size w × (length text ≤ 4194304) × ((f : File) × Holds w text f)
  accepted_for None b e = cc
  accepted_for (Some w) b e = by (ltb 4194304 (length text)) refl e
    where
      by : (a : Bool) → ltb 4194304 (length text) ≡ a → cond a (refused_at TextSize None) (suits w (coming_of text)) ≡ Ok tt → (w : ℕ) × IsTarget target size w × (length text ≤ 4194304) × ((f : File) × Holds w text f)
      by true q k = cc
      by false q k =
          let none = fault-none w 0 false (coming_of text).records (coming_of text).fault k in
          let f = file_sound text none in
          let p = passed w 0 false (length (option_to_list f.0.header)) (coming_of text).records f.0.records (coming_of text).fault f.2 k in
          (w, width-target target size w b, ltb-false 4194304 (length text) q, (f.0, record { writes = f.1; suits = record { whole = p.whole; rising = p.rising; some = p.some refl }; hands = f.2 }))

  accepts_for : (w : ℕ) (f : File) → IsTarget target size w → length text ≤ 4194304 → WritesFile f text → Suits w f.records → (verdict text target size ≡ Ok tt) × HandsFile (coming_of text).records f
  accepts_for w f b short wr s =
      let r = file_complete f text wr in (
        ap (verdict_for text) (target-width target size w b) ∙ cond-false (ltb 4194304 (length text)) _ _ (le-ltb 4194304 (length text) short)
            ∙ ap (suits_from w 0 false (coming_of text).records) r.0
            ∙ passes w 0 false (length (option_to_list f.header)) (coming_of text).records f.records r.1 (from_start w f.records s),
        r.1,
      )

  faultless_for : (o : Option ℕ) → bytes_per_address target size ≡ o → verdict_for text o ≡ Ok tt → (w : ℕ) × IsTarget target size w × Faultless w (lines_of text) (length (lines_of text))
  faultless_for None b e = cc
  faultless_for (Some w) b e = by (ltb 4194304 (length text)) e
    where
      by : (a : Bool) → cond a (refused_at TextSize None) (suits w (coming_of text)) ≡ Ok tt → (w : ℕ) × IsTarget target size w × Faultless w (lines_of text) (length (lines_of text))
      by true k = cc
      by false k = (w, width-target target size w b, suits-accepted w text k)

  refused_for : (x : Refusal) (o : Option ℕ) → bytes_per_address target size ≡ o → verdict_for text o ≡ Err x → Refuses text target size x
  refused_for x None b e = inl (λ w k. let t = sym b ∙ target-width target size w k in (cc), cc)
  refused_for x (Some w) b e = by (ltb 4194304 (length text)) refl e
    where
      by : (a : Bool) → ltb 4194304 (length text) ≡ a → cond a (refused_at TextSize None) (suits w (coming_of text)) ≡ Err x → Refuses text target size x
      by true q k = inr (w, width-target target size w b, inl (ltb-true 4194304 (length text) q, cc))
      by false q k = inr (w, width-target target size w b, inr (ltb-false 4194304 (length text) q, suits-refused w text x k))

  pub verdict_judges : Judges text target size (verdict text target size)
  verdict_judges = record {
    accepted = λ e. accepted_for (bytes_per_address target size) refl e;
    accepts = accepts_for;
    faultless = λ e. faultless_for (bytes_per_address target size) refl e;
    refused = λ x e. refused_for x (bytes_per_address target size) refl e;
  }

-- the law holds of what is the verdict
pub judged : (text : List ℕ) (target size : ℕ) (r : Result (Unit {0}) Refusal) → r ≡ verdict text target size → Judges text target size r
judged text target size r e = subst (Judges text target size) (sym e) (verdict_judges text target size)
