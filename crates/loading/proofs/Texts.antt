-- The records of a text that the file check accepts can be loaded. Assumes nothing.
use Rattle.std.proofs.Common.{◌≡◌, ℕ, ◌+◌, ◌/◌, ◌%◌, ◌^◌, ◌≤◌, ◌<◌, List, [], ◌∷◌, ◌++◌, length, map, Ok, sym, ap, subst, inl, inr, arith}
use Rattle.std.specs.Prelude.{Result, unwrap_or}
use Rattle.std.specs.List.{AllByRecursion}
use Rattle.std.specs.Option.{option_to_list}
use Rattle.srecord.specs.declared.line.Kind.TheVariants as kind
use Rattle.srecord.specs.File.{Entry, File, IsEntry, IsType, HandsAll, HandsFile}
use Rattle.srecord.specs.Hex.{number}
use Rattle.srecord.specs.Reading.{Handed, coming_of}
use Rattle.loader.specs.Law as law
use Rattle.loader.specs.declared.file.Refusal.{Refusal}
use Rattle.loading.specs.Source.{SourceRecord, IsRecord, HasData, Rising, AreLoadable, record_of, records_in}

-- ---- records that are lines of a file

-- a record is a data line: it has its address and its bytes
pub record IsOf (r : SourceRecord) (e : Entry) : Type 0 where
  pub address : r.address ≡ number e.address
  pub bytes : r.bytes ≡ e.bytes

-- records are data lines, as many and in their order
abbrev pub AreOf : List SourceRecord → List Entry → Type 0
AreOf [] [] = Unit {0}
AreOf [] (e ∷ es) = ⊥
AreOf (r ∷ rs) [] = ⊥
AreOf (r ∷ rs) (e ∷ es) = IsOf r e × AreOf rs es

-- ---- lines

module _ (P : ℕ → Type 0) where
  first_part : (xs ys : List ℕ) → AllByRecursion P (xs ++ ys) → AllByRecursion P xs
  first_part [] ys a = tt
  first_part (x ∷ xs) ys a = (a.0, first_part xs ys a.1)

  second_part : (xs ys : List ℕ) → AllByRecursion P (xs ++ ys) → AllByRecursion P ys
  second_part [] ys a = a
  second_part (x ∷ xs) ys a = second_part xs ys a.1

length_both : (xs ys : List ℕ) → length (xs ++ ys) ≡ length xs + length ys
length_both [] ys = omega arith
length_both (x ∷ xs) ys = omega (arith, length_both xs ys)

-- an address has two to four bytes
address_long : (w d : ℕ) → IsType kind.Data w d → (2 ≤ w) × (w ≤ 4)
address_long w d (inl t) = (omega (arith, t.1), omega (arith, t.1))
address_long w d (inr (inl t)) = (omega (arith, t.1), omega (arith, t.1))
address_long w d (inr (inr t)) = (omega (arith, t.1), omega (arith, t.1))

number_small : (bs : List ℕ) → length bs ≤ 4 → AllByRecursion (λ v. v < 256) bs → number bs < 2 ^ 32
number_small [] h a = omega arith
number_small (b ∷ []) h a = omega (arith, a.0)
number_small (b ∷ c ∷ []) h a = omega (arith, a.0, a.1.0)
number_small (b ∷ c ∷ d ∷ []) h a = omega (arith, a.0, a.1.0, a.1.1.0)
number_small (b ∷ c ∷ d ∷ e ∷ []) h a = omega (arith, a.0, a.1.0, a.1.1.0, a.1.1.1.0)
number_small (b ∷ c ∷ d ∷ e ∷ f ∷ rest) h a = absurd (omega (arith, h))

-- a data line can be sent
line_lawful : (r : SourceRecord) (e : Entry) → IsOf r e → IsEntry kind.Data e → IsRecord r
line_lawful r e o h =
    let long = address_long (length e.address) e.digit h.type in
    let few : length e.bytes ≤ 252 = omega (arith, h.short, length_both e.address e.bytes, long.0) in
    record {
      address = subst (λ n. n < 2 ^ 32) (sym o.address) (number_small e.address long.1 (first_part (λ v. v < 256) e.address e.bytes h.small));
      few = subst (λ bs. length bs ≤ 252) (sym o.bytes) few;
      small = subst (AllByRecursion (λ v. v < 256)) (sym o.bytes) (second_part (λ v. v < 256) e.address e.bytes h.small);
    }

-- ---- records that are lines

-- what holds of all lines holds of all records
all_of : (P : SourceRecord → Type 0) (Q : Entry → Type 0) → ((r : SourceRecord) (e : Entry) → IsOf r e → Q e → P r) → (rs : List SourceRecord) (es : List Entry) → AreOf rs es → AllByRecursion Q es → AllByRecursion P rs
all_of P Q go [] [] o a = tt
all_of P Q go [] (e ∷ es) o a = absurd o
all_of P Q go (r ∷ rs) [] o a = absurd o
all_of P Q go (r ∷ rs) (e ∷ es) o a = (go r e o.0 a.0, all_of P Q go rs es o.1 a.1)

-- and the other way round
all_on : (P : SourceRecord → Type 0) (Q : Entry → Type 0) → ((r : SourceRecord) (e : Entry) → IsOf r e → P r → Q e) → (rs : List SourceRecord) (es : List Entry) → AreOf rs es → AllByRecursion P rs → AllByRecursion Q es
all_on P Q go [] [] o a = tt
all_on P Q go [] (e ∷ es) o a = absurd o
all_on P Q go (r ∷ rs) [] o a = absurd o
all_on P Q go (r ∷ rs) (e ∷ es) o a = (go r e o.0 a.0, all_on P Q go rs es o.1 a.1)

all_rising : (w : ℕ) (rs : List SourceRecord) (es : List Entry) → AreOf rs es → law.Rising w es → Rising w rs
all_rising w [] [] o h = tt
all_rising w [] (e ∷ es) o h = absurd o
all_rising w (r ∷ rs) [] o h = absurd o
all_rising w (r ∷ rs) (e ∷ es) o h = (λ some. all_of _ _ above rs es o.1 (h.0 (subst (λ bs. 0 < length bs) o.0.bytes some)), all_rising w rs es o.1 h.1)
  where
    above : (l : SourceRecord) (z : Entry) → IsOf l z → (law.HasData z → law.end_of w e ≤ law.start_of z) → HasData l → r.address + length r.bytes / w ≤ l.address
    above l z q k some =
        let high : law.end_of w e ≤ l.address = subst (λ n. law.end_of w e ≤ n) (sym q.address) (k (subst (λ bs. 0 < length bs) q.bytes some)) in
        subst (λ n. n ≤ l.address) (λ i. sym o.0.address i + length (sym o.0.bytes i) / w) high

-- ---- texts

-- what is handed out are the lines
handed_of : (n : ℕ) (hs : List Handed) (es : List Entry) → HandsAll n hs es → AreOf (map record_of hs) es
handed_of n [] [] h = tt
handed_of n [] (e ∷ es) h = absurd h
handed_of n (x ∷ hs) [] h = absurd h
handed_of n (x ∷ hs) (e ∷ es) h = (record { address = h.0.address; bytes = ap (λ o. unwrap_or o []) h.0.bytes }, handed_of (n + 1) hs es h.1)

records_are_lines : (text : List ℕ) (f : File) → HandsFile (coming_of text).records f → AreOf (records_in text) f.records
records_are_lines text f h = handed_of (length (option_to_list f.header)) (coming_of text).records f.records h

-- the records of a text that writes a file which suits a target
pub held_loads : (w : ℕ) (text : List ℕ) (f : File) → law.Holds w text f → AreLoadable w (records_in text)
held_loads w text f h =
    let rs : List SourceRecord = records_in text in
    let es : List Entry = f.records in
    let o : AreOf rs es = records_are_lines text f h.hands in
    record {
      lawful = all_of IsRecord (IsEntry kind.Data) line_lawful rs es o h.writes.0.records;
      whole = all_of (λ r. HasData r → length r.bytes % w ≡ 0) (λ e. law.HasData e → length e.bytes % w ≡ 0)
          (λ r e q k some. subst (λ bs. length bs % w ≡ 0) (sym q.bytes) (k (subst (λ bs. 0 < length bs) q.bytes some))) rs es o h.suits.whole;
      rising = all_rising w rs es o h.suits.rising;
      some = λ a. h.suits.some (all_on (λ r. length r.bytes ≡ 0) (λ e. length e.bytes ≡ 0) (λ r e q k. subst (λ bs. length bs ≡ 0) q.bytes k) rs es o a);
    }

-- a text that is accepted: its records are the data lines of a file that it writes, and can be loaded into the target
pub record Accepts (text : List ℕ) (target size w : ℕ) : Type 0 where
  pub width : law.IsTarget target size w
  pub loads : AreLoadable w (records_in text)
  pub file : File
  pub holds : law.Holds w text file

pub accepted_loads : (text : List ℕ) (target size : ℕ) (r : Result (Unit {0}) Refusal) → law.Judges text target size r → r ≡ Ok tt → (w : ℕ) × Accepts text target size w
accepted_loads text target size r j e = by (j.accepted e)
  where
    by : (w : ℕ) × law.IsTarget target size w × (length text ≤ 4194304) × ((f : File) × law.Holds w text f) → (w : ℕ) × Accepts text target size w
    by (w, t, long, h) = (w, record { width = t; loads = held_loads w text h.0 h.1; file = h.0; holds = h.1 })
