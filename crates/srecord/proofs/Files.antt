-- A text is read to its end exactly when it writes a file, and the records are that file's.
-- Assumes nothing.
use Rattle.std.proofs.Common.{◌≡◌, ℕ, ◌+◌, ◌≤◌, Bool, true, false, cond, eqb, List, [], ◌∷◌, ◌++◌, length, IfSome, Some, None, Ok, Err, Option, Result, sym, refl, ap, ◌∙◌, subst, arith}
use Rattle.std.specs.Option.{option_to_list}
use Rattle.std.specs.List.{AllByRecursion}
use Rattle.std.proofs.ByRecursion.{All-append, All-weaker}
use Rattle.std.proofs.lemmas.List.{length-append}
use Rattle.std.proofs.lemmas.Option.{MatchOption-at_some}
use Rattle.std.proofs.lemmas.Bool.Decides.{nat_tests}
use Rattle.std.proofs.lemmas.Bool.{eqb-true, eq-eqb, cond-true, cond-false}
use Rattle.srecord.specs.declared.line.Fault.{Fault}
use Rattle.srecord.specs.declared.line.Fault.TheVariants as fault
use Rattle.srecord.specs.declared.line.Kind.{Kind}
use Rattle.srecord.specs.declared.line.Kind.TheVariants.{Header, Data, Count, End}
use Rattle.srecord.specs.declared.reader.Phase.{Phase}
use Rattle.srecord.specs.declared.reader.Phase.TheVariants.{Start, Body, Counted, Ended}
use Rattle.srecord.specs.File.{Entry, IsEntry, WritesLine, SaysEntry, File, IsFile, entries, WritesFile, HandsAll, HandsFile}
use Rattle.srecord.specs.Bytes.{decoded}
use Rattle.srecord.specs.Hex.{bytes_of, number}
use Rattle.srecord.specs.Line.{Content, form_of, header, record_at, count_is, end, says, line_of}
use Rattle.srecord.specs.Reading.{pass, at_end, Coming, Handed, stopped, step_of, step_to, leads_to, coming_from, coming_of}
use Rattle.srecord.specs.Text.{lines_of}
use Rattle.srecord.proofs.Arrivals.{coming_step, coming_fault, coming_handed, coming-nil}
use Rattle.std.proofs.lemmas.Option.{none-some}
use Rattle.srecord.proofs.Pairs.{length-bytes, decoded-short}
use Rattle.srecord.proofs.Splitting.{EachLine, Lines, text_lines, lines_text}
use Rattle.srecord.proofs.Writing.{type-form, line_reads, reads-line}

-- ---- a line that is read is a line of its kind

-- a line of this kind, which says this
record Reading (k : Kind) (l : List ℕ) (c : Content) : Type 0 where
  entry : Entry
  is : IsEntry k entry
  writes : WritesLine entry l
  told : SaysEntry k entry c

reading : (l : List ℕ) (c : Content) → line_of l ≡ Ok c → (k : Kind) × Reading k l c
reading l c e =
    let r = (reads-line l).read c e in
    (r.0, record { entry = r.1; is = r.2; writes = r.3; told = r.4 })

-- the kind of what a line says
abbrev kind_of : Content → Kind
kind_of (header ds) = Header
kind_of (record_at a ds) = Data
kind_of (count_is n) = Count
kind_of end = End

kind_of-says : (k : Kind) (a : ℕ) (ds : List ℕ) → kind_of (says k a ds) ≡ k
kind_of-says Header a ds = refl
kind_of-says Data a ds = refl
kind_of-says Count a ds = refl
kind_of-says End a ds = refl

read_as : (l : List ℕ) (c : Content) → line_of l ≡ Ok c → Reading (kind_of c) l c
read_as l c e =
    let r = reading l c e in
    subst (λ (k : Kind). Reading k l c) (sym (ap kind_of r.1.told.tells ∙ kind_of-says r.0 _ _)) r.1

record_same : {a b : ℕ} {ds es : List ℕ} → record_at a ds ≡ record_at b es → (a ≡ b) × (ds ≡ es)
record_same {a} {b} {ds} {es} e = (cc, cc)

count_same : {a b : ℕ} → count_is a ≡ count_is b → a ≡ b
count_same {a} {b} e = cc

-- a line has two address bytes at least, so that its data is no more than can be decoded
type-wide : (t : ℕ) → IfSome (form_of t) (λ f. 2 ≤ f.width)
type-wide t = grind (arith, nat_tests)

entry_decoded : {k : Kind} {e : Entry} → IsEntry k e → (ds : List ℕ) → bytes_of ds ≡ Some e.bytes → decoded ds ≡ Some e.bytes
entry_decoded {k} {e} is ds h =
    let wide = MatchOption-at_some (Unit {0}) (λ f. 2 ≤ f.width) (record { kind = k; width = length e.address }) (type-form k (length e.address) e.digit is.type) (type-wide e.digit) in
    let parts = length-append e.address e.bytes in
    let short = is.short in
    let long = length-bytes ds e.bytes h in
    sym (decoded-short ds (omega arith)) ∙ h

-- ---- what has been read to its end is a file

some-none : {X : Type 0} {x : X} → Some x ≡ None → ⊥
some-none {x} e = none-some x (sym e)

ended : (k n : ℕ) (ls : List (List ℕ)) → (coming_from Ended k n ls).fault ≡ None → (ls ≡ []) × ((coming_from Ended k n ls).records ≡ [])
unfolding coming_from
ended k n [] h = (refl, refl)
ended k n (l ∷ ls) h = absurd (at (line_of l) h)
  where
    at : (r : Result Content Fault) → (leads_to (n + 1) (λ q j. coming_from q j (n + 1) ls) k (step_of Ended k r)).fault ≡ None → ⊥
    at (Err f) h = some-none h
    at (Ok (header ds)) h = some-none h
    at (Ok (record_at a ds)) h = some-none h
    at (Ok (count_is m)) h = some-none h
    at (Ok end) h = some-none h

-- after a count there is one end line, and nothing is handed out
record OneEnd (ls : List (List ℕ)) (c : Coming) : Type 0 where
  last : Entry
  is : IsEntry End last
  lines : EachLine (last ∷ []) ls
  none : c.records ≡ []

one_end : (k n : ℕ) (l : List ℕ) (ls : List (List ℕ)) → line_of l ≡ Ok end → (coming_from Ended k n ls).fault ≡ None → OneEnd (l ∷ ls) (coming_from Ended k n ls)
one_end k n l ls e h =
    let r = read_as l end e in
    let rest = ended k n ls h in
    record { last = r.entry; is = r.is; lines = (r.writes, subst (EachLine []) (sym rest.0) tt); none = rest.1 }

counted : (k n : ℕ) (ls : List (List ℕ)) → (coming_from Counted k n ls).fault ≡ None → OneEnd ls (coming_from Counted k n ls)
unfolding coming_from
counted k n [] h = absurd (some-none h)
counted k n (l ∷ ls) h = at (line_of l) refl h
  where
    at : (r : Result Content Fault) → line_of l ≡ r → (leads_to (n + 1) (λ q j. coming_from q j (n + 1) ls) k (step_of Counted k r)).fault ≡ None → OneEnd (l ∷ ls) (leads_to (n + 1) (λ q j. coming_from q j (n + 1) ls) k (step_of Counted k r))
    at (Err f) e h = absurd (some-none h)
    at (Ok (header ds)) e h = absurd (some-none h)
    at (Ok (record_at a ds)) e h = absurd (some-none h)
    at (Ok (count_is m)) e h = absurd (some-none h)
    at (Ok end) e h = one_end k (n + 1) l ls e h

-- what is left of a file after n lines, of which k were data lines
record Tail (k n : ℕ) (ls : List (List ℕ)) (c : Coming) : Type 0 where
  records : List Entry
  count : Option Entry
  last : Entry
  are : AllByRecursion (IsEntry Data) records
  counts : IfSome count (λ e. IsEntry Count e × (number e.address ≡ k + length records))
  ends : IsEntry End last
  lines : EachLine (records ++ (option_to_list count ++ last ∷ [])) ls
  hands : HandsAll n c.records records

count-more : (k m : ℕ) (o : Option Entry) → IfSome o (λ e. IsEntry Count e × (number e.address ≡ k + 1 + m)) → IfSome o (λ e. IsEntry Count e × (number e.address ≡ k + (m + 1)))
count-more k m None h = tt
count-more k m (Some e) h = (h.0, let n = h.1 in omega arith)

module _ (k n : ℕ) (l : List ℕ) (ls : List (List ℕ)) where
  tail_end : (c : Coming) → OneEnd (l ∷ ls) c → Tail k n (l ∷ ls) c
  tail_end c o = record {
    records = [];
    count = None;
    last = o.last;
    are = tt;
    counts = tt;
    ends = o.is;
    lines = o.lines;
    hands = subst (λ (rs : List Handed). HandsAll n rs []) (sym o.none) tt;
  }

  tail_count : (m : ℕ) (c : Coming) → line_of l ≡ Ok (count_is m) → m ≡ k → OneEnd ls c → Tail k n (l ∷ ls) c
  tail_count m c e same o =
      let r = read_as l (count_is m) e in
      let value = count_same r.told.tells in
      record {
        records = [];
        count = Some r.entry;
        last = o.last;
        are = tt;
        counts = (r.is, omega arith);
        ends = o.is;
        lines = (r.writes, o.lines);
        hands = subst (λ (rs : List Handed). HandsAll n rs []) (sym o.none) tt;
      }

  tail_data : (a : ℕ) (ds : List ℕ) (c : Coming) → line_of l ≡ Ok (record_at a ds) → Tail (k + 1) (n + 1) ls c → Tail k n (l ∷ ls) (record { records = record { line = n + 1; address = a; digits = ds } ∷ c.records; fault = c.fault })
  tail_data a ds c e t =
      let r = read_as l (record_at a ds) e in
      let same = record_same r.told.tells in
      let more : length t.records + 1 ≡ length (r.entry ∷ t.records) = omega arith in
      record {
        records = r.entry ∷ t.records;
        count = t.count;
        last = t.last;
        are = (r.is, t.are);
        counts = subst (λ (m : ℕ). IfSome t.count (λ e. IsEntry Count e × (number e.address ≡ k + m))) more (count-more k (length t.records) t.count t.counts);
        ends = t.ends;
        lines = (r.writes, t.lines);
        hands = (record { line = refl; address = same.0; bytes = entry_decoded r.is ds (ap bytes_of same.1 ∙ r.told.spells) }, t.hands);
      }

body : (k n : ℕ) (ls : List (List ℕ)) → (coming_from Body k n ls).fault ≡ None → Tail k n ls (coming_from Body k n ls)
unfolding coming_from
body k n [] h = absurd (some-none h)
body k n (l ∷ ls) h = at (body (k + 1) (n + 1) ls) (line_of l) refl h
  where
    by_count : (m : ℕ) (x : Bool) → eqb m k ≡ x → line_of l ≡ Ok (count_is m) → (leads_to (n + 1) (λ q j. coming_from q j (n + 1) ls) k (step_to (count_is m) (cond x (Ok Counted) (Err fault.Count)))).fault ≡ None → Tail k n (l ∷ ls) (leads_to (n + 1) (λ q j. coming_from q j (n + 1) ls) k (step_to (count_is m) (cond x (Ok Counted) (Err fault.Count))))
    by_count m true x e h = tail_count k n l ls m _ e (eqb-true m k x) (counted k (n + 1) ls h)
    by_count m false x e h = absurd (some-none h)

    at : ((coming_from Body (k + 1) (n + 1) ls).fault ≡ None → Tail (k + 1) (n + 1) ls (coming_from Body (k + 1) (n + 1) ls)) → (r : Result Content Fault) → line_of l ≡ r → (leads_to (n + 1) (λ q j. coming_from q j (n + 1) ls) k (step_of Body k r)).fault ≡ None → Tail k n (l ∷ ls) (leads_to (n + 1) (λ q j. coming_from q j (n + 1) ls) k (step_of Body k r))
    at more (Err f) e h = absurd (some-none h)
    at more (Ok (header ds)) e h = absurd (some-none h)
    at more (Ok (record_at a ds)) e h = tail_data k n l ls a ds _ e (more h)
    at more (Ok (count_is m)) e h = by_count m (eqb m k) refl e h
    at more (Ok end) e h = tail_end k n l ls _ (one_end k (n + 1) l ls e h)

-- what lines a file has, and what is handed out of them
record FileOf (ls : List (List ℕ)) (c : Coming) : Type 0 where
  file : File
  is : IsFile file
  lines : EachLine (entries file) ls
  hands : HandsFile c.records file

count-from_none : (m : ℕ) (o : Option Entry) → IfSome o (λ e. IsEntry Count e × (number e.address ≡ 0 + m)) → IfSome o (λ e. IsEntry Count e × (number e.address ≡ m))
count-from_none m None h = tt
count-from_none m (Some e) h = (h.0, let n = h.1 in omega arith)

-- a header, or anything else, and then the tail
file_headed : (l : List ℕ) (ls : List (List ℕ)) (ds : List ℕ) (c : Coming) → line_of l ≡ Ok (header ds) → Tail 0 1 ls c → FileOf (l ∷ ls) c
file_headed l ls ds c e t =
    let r = read_as l (header ds) e in
    record {
      file = record { header = Some r.entry; records = t.records; count = t.count; end = t.last };
      is = record { header = r.is; records = t.are; count = count-from_none (length t.records) t.count t.counts; end = t.ends };
      lines = (r.writes, t.lines);
      hands = t.hands;
    }

file_bare : (ls : List (List ℕ)) (c : Coming) → Tail 0 0 ls c → FileOf ls c
file_bare ls c t = record {
  file = record { header = None; records = t.records; count = t.count; end = t.last };
  is = record { header = tt; records = t.are; count = count-from_none (length t.records) t.count t.counts; end = t.ends };
  lines = t.lines;
  hands = t.hands;
}

-- but for a header, the first line is read as any other
start_body : (k n : ℕ) (l : List ℕ) (ls : List (List ℕ)) (c : Content) → line_of l ≡ Ok c → (kind_of c ≡ Header → ⊥) → coming_from Start k n (l ∷ ls) ≡ coming_from Body k n (l ∷ ls)
unfolding coming_from
start_body k n l ls c e h = ap (leads_to (n + 1) (λ q j. coming_from q j (n + 1) ls) k) (ap (step_of Start k) e ∙ same c h ∙ sym (ap (step_of Body k) e))
  where
    same : (c : Content) → (kind_of c ≡ Header → ⊥) → step_of Start k (Ok c) ≡ step_of Body k (Ok c)
    same (header ds) h = absurd (h refl)
    same (record_at a ds) h = refl
    same (count_is m) h = refl
    same end h = refl

start_header : (l : List ℕ) (ls : List (List ℕ)) (ds : List ℕ) → line_of l ≡ Ok (header ds) → coming_from Start 0 0 (l ∷ ls) ≡ coming_from Body 0 1 ls
unfolding coming_from
start_header l ls ds e = ap (λ r. leads_to 1 (λ q j. coming_from q j 1 ls) 0 (step_of Start 0 r)) e

data_header : Data ≡ Header → ⊥
data_header e = let z : ◌≡◌ {A = ℕ} 0 1 = cc in omega arith

count-header : Count ≡ Header → ⊥
count-header e = let z : ◌≡◌ {A = ℕ} 0 1 = cc in omega arith

end-header : End ≡ Header → ⊥
end-header e = let z : ◌≡◌ {A = ℕ} 0 1 = cc in omega arith

at-start : (l : List ℕ) (ls : List (List ℕ)) (r : Result Content Fault) → line_of l ≡ r → (coming_from Start 0 0 (l ∷ ls)).fault ≡ None → FileOf (l ∷ ls) (coming_from Start 0 0 (l ∷ ls))
at-start l ls (Err f) e h = absurd (some-none (sym (ap (λ c. c.fault) (coming_fault Start 0 0 l ls f e)) ∙ h))
at-start l ls (Ok (header ds)) e h =
    let on = start_header l ls ds e in
    subst (FileOf (l ∷ ls)) (sym on) (file_headed l ls ds _ e (body 0 1 ls (sym (ap (λ c. c.fault) on) ∙ h)))
at-start l ls (Ok (record_at a ds)) e h =
    let on = start_body 0 0 l ls (record_at a ds) e data_header in
    subst (FileOf (l ∷ ls)) (sym on) (file_bare (l ∷ ls) _ (body 0 0 (l ∷ ls) (sym (ap (λ c. c.fault) on) ∙ h)))
at-start l ls (Ok (count_is m)) e h =
    let on = start_body 0 0 l ls (count_is m) e count-header in
    subst (FileOf (l ∷ ls)) (sym on) (file_bare (l ∷ ls) _ (body 0 0 (l ∷ ls) (sym (ap (λ c. c.fault) on) ∙ h)))
at-start l ls (Ok end) e h =
    let on = start_body 0 0 l ls end e end-header in
    subst (FileOf (l ∷ ls)) (sym on) (file_bare (l ∷ ls) _ (body 0 0 (l ∷ ls) (sym (ap (λ c. c.fault) on) ∙ h)))

start : (ls : List (List ℕ)) → (coming_from Start 0 0 ls).fault ≡ None → FileOf ls (coming_from Start 0 0 ls)
unfolding coming_from
start [] h = absurd (some-none h)
start (l ∷ ls) h = at-start l ls (line_of l) refl h

-- a text that is read to its end writes a file, whose records are handed out
pub file_sound : (text : List ℕ) → (coming_of text).fault ≡ None → (f : File) × WritesFile f text × HandsFile (coming_of text).records f
file_sound text h =
    let r = start (lines_of text) h in
    (r.file, (r.is, lines_text (entries r.file) text r.lines), r.hands)

-- ---- a file that is written is read to its end

-- a last end line, and nothing after it
end-complete : (p : Phase) (k n : ℕ) (e : Entry) (ls : List (List ℕ)) → at_end p ≡ false → IsEntry End e → EachLine (e ∷ []) ls → coming_from p k n ls ≡ stopped None
end-complete p k n e [] on is w = absurd w
end-complete p k n e (l ∷ []) on is w =
    let r = line_reads End e is l w.0 in
    coming_step p k n l [] (pass Ended) (ap (step_of p k) r.1 ∙ ap (step_to end) (cond-false (at_end p) _ _ on)) ∙ ended_none k (n + 1)
  where
    ended_none : (k n : ℕ) → coming_from Ended k n [] ≡ stopped None
    ended_none k n = coming-nil Ended k n
end-complete p k n e (l ∷ m ∷ ls) on is w = absurd w.1

-- the data lines, the count and the end, each in its turn
body_complete : (es : List Entry) (o : Option Entry) (last : Entry) (k n : ℕ) (ls : List (List ℕ)) → AllByRecursion (IsEntry Data) es → IfSome o (λ e. IsEntry Count e × (number e.address ≡ k + length es)) → IsEntry End last → EachLine (es ++ (option_to_list o ++ last ∷ [])) ls → ((coming_from Body k n ls).fault ≡ None) × HandsAll n (coming_from Body k n ls).records es
body_complete [] None last k n ls are counts ends w =
    let on = end-complete Body k n last ls refl ends w in
    (ap (λ c. c.fault) on, subst (λ (c : Coming). HandsAll n c.records []) (sym on) tt)
body_complete [] (Some c) last k n [] are counts ends w = absurd w
body_complete [] (Some c) last k n (l ∷ ls) are counts ends w =
    let r = line_reads Count c counts.0 l w.0 in
    let value = counts.1 in
    let right : number c.address ≡ k = omega arith in
    let on = coming_step Body k n l ls (pass Counted) (ap (step_of Body k) r.1 ∙ ap (step_to (count_is (number c.address))) (cond-true (eqb (number c.address) k) _ _ (eq-eqb _ k right))) ∙ end-complete Counted k (n + 1) last ls refl ends w.1 in
    (ap (λ c. c.fault) on, subst (λ (c : Coming). HandsAll n c.records []) (sym on) tt)
body_complete (e ∷ es) o last k n [] are counts ends w = absurd w
body_complete (e ∷ es) o last k n (l ∷ ls) are counts ends w =
    let r = line_reads Data e are.0 l w.0 in
    let on = coming_handed Body k n l ls (number e.address) r.0 Body r.1 refl in
    let more : length (e ∷ es) ≡ length es + 1 = omega arith in
    let rest = body_complete es o last (k + 1) (n + 1) ls are.1 (count_less k (length es) o (subst (λ (m : ℕ). IfSome o (λ e. IsEntry Count e × (number e.address ≡ k + m))) more counts)) ends w.1 in (
      ap (λ c. c.fault) on ∙ rest.0,
      subst (λ (c : Coming). HandsAll n c.records (e ∷ es)) (sym on) (record { line = refl; address = refl; bytes = entry_decoded are.0 r.0 r.2 }, rest.1),
    )
  where
    count_less : (k m : ℕ) (o : Option Entry) → IfSome o (λ e. IsEntry Count e × (number e.address ≡ k + (m + 1))) → IfSome o (λ e. IsEntry Count e × (number e.address ≡ k + 1 + m))
    count_less k m None h = tt
    count_less k m (Some e) h = (h.0, let n = h.1 in omega arith)

-- without a header, the file begins with a line that is read as any other
bare_start : (es : List Entry) (o : Option Entry) (last : Entry) (ls : List (List ℕ)) → AllByRecursion (IsEntry Data) es → IfSome o (λ e. IsEntry Count e × (number e.address ≡ length es)) → IsEntry End last → EachLine (es ++ (option_to_list o ++ last ∷ [])) ls → coming_from Start 0 0 ls ≡ coming_from Body 0 0 ls
bare_start [] None last [] are counts ends w = absurd w
bare_start [] None last (l ∷ ls) are counts ends w = start_body 0 0 l ls end (line_reads End last ends l w.0).1 end-header
bare_start [] (Some c) last [] are counts ends w = absurd w
bare_start [] (Some c) last (l ∷ ls) are counts ends w = start_body 0 0 l ls _ (line_reads Count c counts.0 l w.0).1 count-header
bare_start (e ∷ es) o last [] are counts ends w = absurd w
bare_start (e ∷ es) o last (l ∷ ls) are counts ends w = start_body 0 0 l ls _ (line_reads Data e are.0 l w.0).1 data_header

from_none : (m : ℕ) (o : Option Entry) → IfSome o (λ e. IsEntry Count e × (number e.address ≡ m)) → IfSome o (λ e. IsEntry Count e × (number e.address ≡ 0 + m))
from_none m None h = tt
from_none m (Some e) h = (h.0, let n = h.1 in omega arith)

-- the lines of a file are read to their end, and its records are handed out
lines_complete : (h : Option Entry) (es : List Entry) (o : Option Entry) (last : Entry) (ls : List (List ℕ)) → IfSome h (IsEntry Header) → AllByRecursion (IsEntry Data) es → IfSome o (λ e. IsEntry Count e × (number e.address ≡ length es)) → IsEntry End last → EachLine (option_to_list h ++ (es ++ (option_to_list o ++ last ∷ []))) ls → ((coming_from Start 0 0 ls).fault ≡ None) × HandsAll (length (option_to_list h)) (coming_from Start 0 0 ls).records es
lines_complete None es o last ls head are counts ends w =
    let on = bare_start es o last ls are counts ends w in
    let rest = body_complete es o last 0 0 ls are (from_none (length es) o counts) ends w in
    (ap (λ c. c.fault) on ∙ rest.0, subst (λ (c : Coming). HandsAll 0 c.records es) (sym on) rest.1)
lines_complete (Some x) es o last [] head are counts ends w = absurd w
lines_complete (Some x) es o last (l ∷ ls) head are counts ends w =
    let on = start_header l ls _ (line_reads Header x head l w.0).1 in
    let rest = body_complete es o last 0 1 ls are (from_none (length es) o counts) ends w.1 in
    (ap (λ c. c.fault) on ∙ rest.0, subst (λ (c : Coming). HandsAll 1 c.records es) (sym on) rest.1)

-- ---- every line of a file is a line

option_lines : (k : Kind) (o : Option Entry) → IfSome o (IsEntry k) → Lines (option_to_list o)
option_lines k None h = tt
option_lines k (Some e) h = ((k, h), tt)

count-line : (m : ℕ) (o : Option Entry) → IfSome o (λ e. IsEntry Count e × (number e.address ≡ m)) → IfSome o (IsEntry Count)
count-line m None h = tt
count-line m (Some e) h = h.0

file_lines : (f : File) → IsFile f → Lines (entries f)
file_lines f is =
    All-append Line (option_to_list f.header) _ (option_lines Header f.header is.header)
    (All-append Line f.records _ (All-weaker (IsEntry Data) Line (λ e h. (Data, h)) f.records is.records)
    (All-append Line (option_to_list f.count) (f.end ∷ []) (option_lines Count f.count (count-line (length f.records) f.count is.count)) ((End, is.end), tt)))
  where
    Line : Entry → Type 0
    Line e = (k : Kind) × IsEntry k e

-- a text that writes a file is read to its end, and the file's records are handed out
pub file_complete : (f : File) (text : List ℕ) → WritesFile f text → ((coming_of text).fault ≡ None) × HandsFile (coming_of text).records f
file_complete f text w =
    lines_complete f.header f.records f.count f.end (lines_of text) w.0.header w.0.records w.0.count w.0.end (text_lines (entries f) text (file_lines f w.0) w.1)
