-- Laws of the lane crossing. Assumes nothing.
use Rattle.std.specs.Prelude.{◌≡◌, ℕ, ◌<◌, ◌≤◌, ◌+◌, ◌-◌, ◌*◌, ◌/◌, ◌%◌, cond, ltb, List, length, Ok, Err, ◌==◌, nat_lt, slice_index, slice_set}
use Rattle.std.proofs.Common.{true, false, Bool, refl, sym, ap, ◌∙◌, inl, inr, arith}
use Rattle.std.proofs.Math.Nat.{div-div-eq-div-mul}
use Rattle.std.proofs.lemmas.List.FromFn.{get_or-map-range_with_len}
use Rattle.std.proofs.lemmas.List.{ext_get_or, length-set, get_or-set_other}
use Rattle.std.proofs.lemmas.Grind.{get_or-set_at}
use Rattle.std.proofs.lemmas.Bool.{cases_lt, lt-ltb}
use Rattle.std.proofs.lemmas.Bool.Decides.{nat_tests}
use Rattle.memory.specs.declared.refusal.PartRefusal.TheVariants.{Outside, NotTaken}
use Rattle.memory.specs.Part.{Shape}
use Rattle.memory.specs.Changes.{cleared_unit}
use Rattle.memory.specs.Calls.{read_answer, question_answer, put_answer, after_put, after_clear}
use Rattle.memory.specs.Shapes.{cross_inside, length-crossed}
use Rattle.memory.proofs.Answering.{length-after_put, length-after_clear}
use Rattle.memory.specs.Clearing.{length-cleared, get_or-cleared}
use Rattle.memory.specs.Crossing.{crossed, crossed_contents, crossed_shape, CrossedTwice, KeepsSectors}

pub cross_outside : (n o : ℕ) → n ≤ o → crossed n o ≡ o
cross_outside n o h = grind (arith, nat_tests)

pub cross_cross : (n o : ℕ) → crossed n (crossed n o) ≡ o
cross_cross n o = grind (arith, nat_tests)

pub ltb-cross : (n o : ℕ) → nat_lt (crossed n o) n ≡ nat_lt o n
ltb-cross n o = elim (cases_lt o n) [
  | inl h ↦ lt-ltb (crossed n o) n (cross_inside n o h) ∙ sym (lt-ltb o n h)
  | inr h ↦ ap (λ x. ltb x n) (cross_outside n o h)
]

pub get_or-crossed : (xs : List ℕ) (o : ℕ) → o < length xs → slice_index (crossed_contents xs) o ≡ slice_index xs (crossed (length xs) o)
get_or-crossed xs o h = get_or-map-range_with_len (λ k. slice_index xs (crossed (length xs) k)) 0 (length xs) o o 0 h (omega arith)

-- what is known of the bytes at each offset is known of the list
pub by_places : (xs ys : List ℕ) → length ys ≡ length xs → ((o : ℕ) → o < length xs → slice_index ys o ≡ slice_index xs o) → ys ≡ xs
by_places xs ys e f = ext_get_or 0 ys xs e (λ o h. f o (omega arith))

pub contents-twice : (xs : List ℕ) → crossed_contents (crossed_contents xs) ≡ xs
contents-twice xs = ext_get_or 0 _ xs (grind (arith, length-crossed)) (λ k h. grind (arith, get_or-crossed, length-crossed, cross_inside, cross_cross))

shape-twice : (n : ℕ) (s : Shape) → crossed_shape n (crossed_shape n s) ≡ s
shape-twice n s = λ i. record { units = s.units; unit_of = λ o. s.unit_of (cross_cross n o i); takes = λ o. s.takes (cross_cross n o i) }

-- a part below that keeps its length and its shape gives a crossing that keeps its shape
pub same_crossed : (m n : ℕ) (s t : Shape) → m ≡ n → s ≡ t → crossed_shape m s ≡ crossed_shape n t
same_crossed m n s t e h = λ i. crossed_shape (e i) (h i)

pub shapes-twice : (xs : List ℕ) (s : Shape) → crossed_shape (length (crossed_contents xs)) (crossed_shape (length xs) s) ≡ s
shapes-twice xs s = same_crossed _ (length xs) (crossed_shape (length xs) s) _ (length-crossed xs) refl ∙ shape-twice (length xs) s

pub crossed-twice : CrossedTwice
crossed-twice m = λ i. record { contents = contents-twice m.contents i; shape = shapes-twice m.contents m.shape i }

-- the byte that is put at an offset is put at the offset below
set-crossed : (xs : List ℕ) (o v : ℕ) → slice_set (crossed_contents xs) o v ≡ crossed_contents (slice_set xs (crossed (length xs) o) v)
set-crossed xs o v = ext_get_or 0 _ _ (grind (arith, length-crossed, length-set)) at
  where
    p : ℕ
    p = crossed (length xs) o

    at : (k : ℕ) → k < length (slice_set (crossed_contents xs) o v) → slice_index (slice_set (crossed_contents xs) o v) k ≡ slice_index (crossed_contents (slice_set xs p v)) k
    at k h =
        let i : k < length xs = grind (arith, length-crossed, length-set) in
        grind (arith, get_or-crossed (slice_set xs p v) k, get_or-crossed xs k i, length-crossed xs, get_or-set_at, get_or-set_other, length-set, cross_inside (length xs) k i, cross_cross (length xs) k, cross_cross (length xs) o)

-- the bytes of a unit are those of the unit below
cleared_crossed : (xs : List ℕ) (unit_of : ℕ → ℕ) (u : ℕ) → cleared_unit (λ o. unit_of (crossed (length xs) o)) u (crossed_contents xs) ≡ crossed_contents (cleared_unit unit_of u xs)
cleared_crossed xs unit_of u =
    ext_get_or 0 _ _ (grind (arith, length-crossed, length-cleared)) (λ k h. grind (arith, get_or-crossed, length-crossed, get_or-cleared, length-cleared, cross_inside))

pub cond-under : {X Y : Type 0} (f : X → Y) (b : Bool) (x y : X) → f (cond b x y) ≡ cond b (f x) (f y)
cond-under f true x y = refl
cond-under f false x y = refl

-- the answers of a crossing are those of the part below, at the offset below
module _ (xs : List ℕ) (o : ℕ) where
  pub inside : ltb o (length (crossed_contents xs)) ≡ nat_lt (crossed (length xs) o) (length xs)
  inside = ap (ltb o) (length-crossed xs) ∙ sym (ltb-cross (length xs) o)

  -- an answer that depends on the byte at an offset inside
  at_byte : {X : Type 0} (f : ℕ → X) (e : X) → cond (nat_lt o (length (crossed_contents xs))) (f (slice_index (crossed_contents xs) o)) e ≡ cond (nat_lt (crossed (length xs) o) (length xs)) (f (slice_index xs (crossed (length xs) o))) e
  at_byte f e = grind (arith, nat_tests, get_or-crossed, length-crossed, cross_inside, cross_outside)

  pub read_crossed : read_answer (crossed_contents xs) o ≡ read_answer xs (crossed (length xs) o)
  read_crossed = at_byte Ok (Err Outside)

  module _ (s : Shape) (v : ℕ) where
    pub question_crossed : question_answer (crossed_shape (length xs) s) (crossed_contents xs) o v ≡ question_answer s xs (crossed (length xs) o) v
    question_crossed = at_byte (λ old. Ok (s.takes (crossed (length xs) o) old v)) (Err Outside)

    pub put_crossed : put_answer (crossed_shape (length xs) s) (crossed_contents xs) o v ≡ put_answer s xs (crossed (length xs) o) v
    put_crossed = at_byte (λ old. cond (s.takes (crossed (length xs) o) old v) (Ok tt) (Err NotTaken)) (Err Outside)

    pub after_put_crossed : crossed_contents (after_put s xs (crossed (length xs) o) v) ≡ after_put (crossed_shape (length xs) s) (crossed_contents xs) o v
    after_put_crossed = grind (arith, set-crossed xs o v, put_crossed)

pub after_clear_crossed : (xs : List ℕ) (s : Shape) (u : ℕ) → crossed_contents (after_clear s xs u) ≡ after_clear (crossed_shape (length xs) s) (crossed_contents xs) u
after_clear_crossed xs s u = grind (arith, cleared_crossed xs s.unit_of u)

pub ruleset crossings = (length-crossed, read_crossed, question_crossed, put_crossed, after_put_crossed, after_clear_crossed, length-after_put, length-after_clear, crossed-twice)

-- an even offset and the next have the same quotient by an even number
next_quotient : (n o : ℕ) → n % 2 ≡ 0 → o % 2 ≡ 0 → (o + 1) / n ≡ o / n
next_quotient n o h e =
    let even : 2 * (n / 2) ≡ n = omega (arith, h) in
    let halves : (o + 1) / 2 ≡ o / 2 = omega (arith, e) in
    ap (λ m. (o + 1) / m) (sym even)
    ∙ (sym (div-div-eq-div-mul (o + 1) 2 (n / 2))
    ∙ (ap (λ q. q / (n / 2)) halves
    ∙ (div-div-eq-div-mul o 2 (n / 2) ∙ ap (λ m. o / m) even)))

-- the other byte of a word lies in the same sector
crossed_quotient : (k n o : ℕ) → n % 2 ≡ 0 → o < k * n → crossed (k * n) o / n ≡ o / n
crossed_quotient k n o h lt = by (o % 2 == 0) refl
  where
    whole : (k * n) % 2 ≡ 0
    whole =
        let even : n ≡ 2 * (n / 2) = omega (arith, h) in
        ap (λ m. (k * m) % 2) even ∙ grind arith

    by : (t : Bool) → (o % 2 == 0) ≡ t → crossed (k * n) o / n ≡ o / n
    by true q = ap (λ p. p / n) (grind (arith, nat_tests, whole)) ∙ next_quotient n o h (grind (arith, nat_tests))
    by false q = ap (λ p. p / n) (grind (arith, nat_tests)) ∙ (sym (next_quotient n (o - 1) h (grind (arith, nat_tests))) ∙ ap (λ p. p / n) (grind (arith, nat_tests)))

pub crossed_sectors : KeepsSectors
crossed_sectors l o h lt = ap (λ q. l.sectors - 1 - q) (crossed_quotient l.sectors l.size o h lt)
