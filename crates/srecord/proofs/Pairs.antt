-- Laws of the bytes that a row of pairs spells. Assumes nothing.
use Rattle.std.proofs.Common.{◌≡◌, ℕ, zero, suc, ◌+◌, ◌*◌, ◌/◌, ◌%◌, ◌^◌, ◌<◌, ◌≤◌, List, [], ◌∷◌, ◌++◌, length, get_or, take, drop, Some, None, fold, sum, Option, sym, refl, ap, ◌∙◌, subst, append_assoc, append-nil, arith}
use native.Mathlib.Nat.{mod-add-mod}
use Rattle.std.specs.Option.{option_map}
use Rattle.std.specs.List.{AllByRecursion}
use Rattle.std.proofs.lemmas.List.{at_drop_more, at_drop_all, take_all, drop_all}
use Rattle.std.proofs.lemmas.Option.{none-some, cond_some}
use Rattle.std.specs.Simd.{first_chunks}
use Rattle.std.proofs.lemmas.List.Sums.{sum_by-cons}
use Rattle.std.proofs.lemmas.Bool.{cond-true, eq-eqb, eqb-true}
use Rattle.std.specs.Int.RustNames.{bit_or}
use Rattle.std.proofs.lemmas.Grind.{or_after_shift}
use Rattle.std.proofs.lemmas.Bool.Decides.{nat_tests}
use Rattle.srecord.specs.Bytes.{decoded}
use Rattle.srecord.specs.Hex.{digit_value, byte_from, pair_value, in_front, pairs_in, bytes_of, number}

-- the bytes that pairs of digits spell; none where a character is no digit
abbrev pub spelled_by : List (List ℕ) → Option (List ℕ)
spelled_by [] = Some []
spelled_by (p ∷ ps) = in_front (pair_value (get_or p 0 0) (get_or p 1 0)) (spelled_by ps)

-- pairs that a row is cut into: they spell what it spells
pub record PairsOf (cs : List ℕ) (ps : List (List ℕ)) : Type 0 where
  pub spells : spelled_by ps ≡ bytes_of cs
  pub long : length cs ≡ 2 * length ps

chunks : (cs : List ℕ) → length cs % 2 ≡ 0 → PairsOf cs (first_chunks 2 (length cs / 2) cs)
unfolding bytes_of
chunks [] h = record { spells = refl; long = refl }
chunks (x ∷ []) h = absurd (omega arith)
chunks (x ∷ y ∷ cs) h =
    let half : length (x ∷ y ∷ cs) / 2 ≡ suc (length cs / 2) = omega arith in
    let more = chunks cs (omega arith) in
    subst (λ n. PairsOf (x ∷ y ∷ cs) (first_chunks 2 n (x ∷ y ∷ cs))) (sym half)
    (record { spells = ap (in_front (pair_value x y)) more.spells; long = let k = more.long in omega arith })

in_front-none : (o : Option ℕ) → in_front o None ≡ None
in_front-none None = refl
in_front-none (Some b) = refl

odd-spelled : (cs : List ℕ) → (length cs % 2 ≡ 0 → ⊥) → bytes_of cs ≡ None
unfolding bytes_of
odd-spelled [] h = absurd (h refl)
odd-spelled (x ∷ []) h = refl
odd-spelled (x ∷ y ∷ cs) h = ap (in_front (pair_value x y)) (odd-spelled cs (λ e. h (omega arith))) ∙ in_front-none (pair_value x y)

-- what a row spells, by its pairs
pub pairs_some : (cs : List ℕ) (ps : List (List ℕ)) → Some ps ≡ pairs_in cs → PairsOf cs ps
pairs_some cs ps e =
    let q = cond_some _ _ _ (sym e) in
    subst (PairsOf cs) q.1 (chunks cs (eqb-true _ 0 q.0))

pub pairs_none : (cs : List ℕ) → None ≡ pairs_in cs → bytes_of cs ≡ None
pairs_none cs e = odd-spelled cs (λ h. none-some _ (e ∙ cond-true _ _ _ (eq-eqb _ 0 h)))

-- a fold over the bytes of pairs, begun at s; none where they spell none
abbrev pub fold_pairs : {S : Type 0} → (S → ℕ → S) → S → List (List ℕ) → Option S
fold_pairs f s ps = option_map (fold f s) (spelled_by ps)

module _ {S : Type 0} (f : S → ℕ → S) (s : S) (ps : List (List ℕ)) (i : ℕ) where
  in_front_lem : (o : Option ℕ) (b : ℕ) (r : Option (List ℕ)) → o ≡ Some b → option_map (fold f (f s b)) r ≡ option_map (fold f s) (in_front o r)
  in_front_lem o b None e = ap (λ x. option_map (fold f s) (in_front x None)) (sym e)
  in_front_lem o b (Some bs) e = ap (λ x. option_map (fold f s) (in_front x (Some bs))) (sym e)

  -- one pair more
  pub fold_more : (d : List ℕ) (b : ℕ) (t : S) → i < length ps → Some b ≡ pair_value (get_or (get_or ps i d) 0 0) (get_or (get_or ps i d) 1 0) → t ≡ f s b → fold_pairs f t (drop (i + 1) ps) ≡ fold_pairs f s (drop i ps)
  fold_more d b t h e k =
      ap (λ u. fold_pairs f u (drop (i + 1) ps)) k ∙ in_front_lem _ b (spelled_by (drop (i + 1) ps)) (sym e)
      ∙ sym (at_drop_more (fold_pairs f s) ps i d h)

  pub fold_none : (d : List ℕ) → i < length ps → None ≡ pair_value (get_or (get_or ps i d) 0 0) (get_or (get_or ps i d) 1 0) → fold_pairs f s (drop i ps) ≡ None
  fold_none d h e = at_drop_more (fold_pairs f s) ps i d h ∙ ap (λ o. option_map (fold f s) (in_front o (spelled_by (drop (i + 1) ps)))) (sym e)

  pub fold_end : length ps ≤ i → fold_pairs f s (drop i ps) ≡ Some s
  fold_end h = at_drop_all (fold_pairs f s) ps i h

-- the fold over the bytes of a row, by its pairs
module _ {S : Type 0} (f : S → ℕ → S) (s : S) (cs : List ℕ) where
  pub fold_paired : (ps : List (List ℕ)) → Some ps ≡ pairs_in cs → fold_pairs f s ps ≡ option_map (fold f s) (bytes_of cs)
  fold_paired ps e = ap (option_map (fold f s)) (pairs_some cs ps e).spells

  pub fold_unpaired : None ≡ pairs_in cs → None ≡ option_map (fold f s) (bytes_of cs)
  fold_unpaired e = sym (ap (option_map (fold f s)) (pairs_none cs e))

-- the step of a sum of which only the low byte is kept
abbrev pub add_low : ℕ → ℕ → ℕ
add_low t b = (t + b) % 256

folded_add_low : (t : ℕ) (bs : List ℕ) → t < 256 → fold add_low t bs ≡ (t + sum bs) % 256
folded_add_low t [] h = omega arith
folded_add_low t (b ∷ bs) h =
    folded_add_low ((t + b) % 256) bs (omega arith) ∙ mod-add-mod (t + b) 256 (sum bs)
    ∙ ap (λ n. n % 256) (let e = sum_by-cons (λ x. x) b bs in omega arith)

-- the low byte of a sum is the same whether it is cut at each step or at the end
pub fold-add_low : (cs : List ℕ) → option_map (fold add_low 0) (bytes_of cs) ≡ option_map (λ bs. sum bs % 256) (bytes_of cs)
fold-add_low cs = go (bytes_of cs)
  where
    go : (o : Option (List ℕ)) → option_map (fold add_low 0) o ≡ option_map (λ bs. sum bs % 256) o
    go None = refl
    go (Some bs) = ap Some (folded_add_low 0 bs (omega arith) ∙ ap (λ n. n % 256) (omega arith))

-- a value that is there is below n
abbrev pub mapped_below : ℕ → Option ℕ → Type 0
mapped_below n None = Unit {0}
mapped_below n (Some v) = v < n

pub digit-small : (c : ℕ) → mapped_below 16 (digit_value c)
digit-small c = grind (arith, nat_tests)

pub pair_small : (x y : ℕ) → mapped_below 256 (pair_value x y)
pair_small x y = grind (arith, nat_tests)

-- the digits of a byte
pub byte_from-some : (a b : Option ℕ) (v : ℕ) → byte_from a b ≡ Some v → (h : ℕ) × (l : ℕ) × (a ≡ Some h) × (b ≡ Some l) × (v ≡ h * 16 + l)
byte_from-some None b v e = absurd (none-some v e)
byte_from-some (Some h) None v e = absurd (none-some v e)
byte_from-some (Some h) (Some l) v e = (h, l, refl, refl, cc)

in_front-some : (o : Option ℕ) (r : Option (List ℕ)) (bs : List ℕ) → in_front o r ≡ Some bs → (b : ℕ) × (rest : List ℕ) × (o ≡ Some b) × (r ≡ Some rest) × (bs ≡ b ∷ rest)
in_front-some None r bs e = absurd (none-some bs e)
in_front-some (Some b) None bs e = absurd (none-some bs e)
in_front-some (Some b) (Some rest) bs e = (b, rest, refl, refl, cc)

-- the first pair of a row, and what the others spell
pub bytes-uncons : (x y : ℕ) (cs bs : List ℕ) → bytes_of (x ∷ y ∷ cs) ≡ Some bs → (b : ℕ) × (rest : List ℕ) × (pair_value x y ≡ Some b) × (bytes_of cs ≡ Some rest) × (bs ≡ b ∷ rest)
unfolding bytes_of
bytes-uncons x y cs bs e = in_front-some (pair_value x y) (bytes_of cs) bs e

pub bytes-odd : (x : ℕ) (bs : List ℕ) → bytes_of (x ∷ []) ≡ Some bs → ⊥
unfolding bytes_of
bytes-odd x bs e = none-some bs e

pub bytes-nil : (bs : List ℕ) → bytes_of [] ≡ Some bs → bs ≡ []
unfolding bytes_of
bytes-nil bs e = cc

-- a row of pairs has two digits for each byte
pub length-bytes : (cs bs : List ℕ) → bytes_of cs ≡ Some bs → length cs ≡ 2 * length bs
length-bytes [] bs e = let n = ap length (bytes-nil bs e) in omega arith
length-bytes (x ∷ []) bs e = absurd (bytes-odd x bs e)
length-bytes (x ∷ y ∷ cs) bs e =
    let p = bytes-uncons x y cs bs e in
    let n = ap length p.4 in
    let more = length-bytes cs p.1 p.3 in
    omega arith

pub bytes_small : (cs bs : List ℕ) → bytes_of cs ≡ Some bs → AllByRecursion (λ b. b < 256) bs
bytes_small [] bs e = subst (AllByRecursion (λ b. b < 256)) (sym (bytes-nil bs e)) tt
bytes_small (x ∷ []) bs e = absurd (bytes-odd x bs e)
bytes_small (x ∷ y ∷ cs) bs e =
    let p = bytes-uncons x y cs bs e in
    subst (AllByRecursion (λ b. b < 256)) (sym p.4) (subst (mapped_below 256) p.2 (pair_small x y), bytes_small cs p.1 p.3)

two_more : (k : ℕ) → 2 * suc k ≡ suc (suc (2 * k))
two_more k = omega arith

-- the bytes from the k-th pair on
pub bytes_drop : (k : ℕ) (cs bs : List ℕ) → bytes_of cs ≡ Some bs → bytes_of (drop (2 * k) cs) ≡ Some (drop k bs)
bytes_drop zero cs bs e = e
bytes_drop (suc k) [] bs e =
    ap bytes_of (drop_all (2 * suc k) [] (omega arith)) ∙ e
    ∙ subst (λ (l : List ℕ). Some l ≡ Some (drop (suc k) l)) (sym (bytes-nil bs e)) refl
bytes_drop (suc k) (x ∷ []) bs e = absurd (bytes-odd x bs e)
bytes_drop (suc k) (x ∷ y ∷ cs) bs e =
    let p = bytes-uncons x y cs bs e in
    ap (λ n. bytes_of (drop n (x ∷ y ∷ cs))) (two_more k) ∙ bytes_drop k cs p.1 p.3
    ∙ ap (λ (l : List ℕ). Some (drop (suc k) l)) (sym p.4)

-- the bytes of the first k pairs
pub bytes_take : (k : ℕ) (cs bs : List ℕ) → bytes_of cs ≡ Some bs → bytes_of (take (2 * k) cs) ≡ Some (take k bs)
unfolding bytes_of
bytes_take zero cs bs e = refl
bytes_take (suc k) [] bs e =
    ap bytes_of (take_all (2 * suc k) [] (omega arith)) ∙ e
    ∙ subst (λ (l : List ℕ). Some l ≡ Some (take (suc k) l)) (sym (bytes-nil bs e)) refl
bytes_take (suc k) (x ∷ []) bs e = absurd (bytes-odd x bs e)
bytes_take (suc k) (x ∷ y ∷ cs) bs e =
    let p = bytes-uncons x y cs bs e in
    ap (λ n. bytes_of (take n (x ∷ y ∷ cs))) (two_more k)
    ∙ (λ i. in_front (p.2 i) (bytes_take k cs p.1 p.3 i))
    ∙ ap (λ (l : List ℕ). Some (take (suc k) l)) (sym p.4)

-- the step of a number of up to four bytes in a u32
abbrev pub add_wide : ℕ → ℕ → ℕ
add_wide v b = bit_or ((v * 256) % 2 ^ 32) b

-- it is that of the number of a list where no bit is lost
wide_more : (v b : ℕ) (bs : List ℕ) → v < 2 ^ 24 → b < 256 → fold add_wide (v * 256 + b) bs ≡ fold (λ v b. v * 256 + b) (v * 256 + b) bs → fold add_wide v (b ∷ bs) ≡ fold (λ v b. v * 256 + b) v (b ∷ bs)
wide_more v b bs h k more = ap (λ w. fold add_wide w bs) (or_after_shift v 256 (2 ^ 32) b refl k (omega arith)) ∙ more

wide : (bs : List ℕ) → length bs ≤ 4 → AllByRecursion (λ b. b < 256) bs → fold add_wide 0 bs ≡ number bs
wide [] h s = refl
wide (a ∷ []) h s = wide_more 0 a [] (omega arith) s.0 refl
wide (a ∷ b ∷ []) h s = let x = s.0 in wide_more 0 a (b ∷ []) (omega arith) x (wide_more (0 * 256 + a) b [] (omega arith) s.1.0 refl)
wide (a ∷ b ∷ c ∷ []) h s =
    let x = s.0 in
    let y = s.1.0 in
    wide_more 0 a (b ∷ c ∷ []) (omega arith) x
    (wide_more (0 * 256 + a) b (c ∷ []) (omega arith) y (wide_more ((0 * 256 + a) * 256 + b) c [] (omega arith) s.1.1.0 refl))
wide (a ∷ b ∷ c ∷ d ∷ []) h s =
    let x = s.0 in
    let y = s.1.0 in
    let z = s.1.1.0 in
    wide_more 0 a (b ∷ c ∷ d ∷ []) (omega arith) x
    (wide_more (0 * 256 + a) b (c ∷ d ∷ []) (omega arith) y
    (wide_more ((0 * 256 + a) * 256 + b) c (d ∷ []) (omega arith) z
    (wide_more (((0 * 256 + a) * 256 + b) * 256 + c) d [] (omega arith) s.1.1.1.0 refl)))
wide (a ∷ b ∷ c ∷ d ∷ e ∷ bs) h s = absurd (omega arith)

-- the number of up to four bytes is not cut
pub fold-add_wide : (cs : List ℕ) → length cs ≤ 8 → option_map (fold add_wide 0) (bytes_of cs) ≡ option_map number (bytes_of cs)
fold-add_wide cs h = go (bytes_of cs) refl
  where
    go : (o : Option (List ℕ)) → bytes_of cs ≡ o → option_map (fold add_wide 0) o ≡ option_map number o
    go None e = refl
    go (Some bs) e = let n = length-bytes cs bs e in ap Some (wide bs (omega arith) (bytes_small cs bs e))

-- the step of a list that is written byte by byte
abbrev pub add_last : List ℕ → ℕ → List ℕ
add_last bs b = bs ++ b ∷ []

folded_add_last : (bs cs : List ℕ) → fold add_last bs cs ≡ bs ++ cs
folded_add_last bs [] = sym (append-nil bs)
folded_add_last bs (c ∷ cs) = folded_add_last (bs ++ c ∷ []) cs ∙ append_assoc bs (c ∷ []) cs

pub fold-add_last : (cs : List ℕ) → option_map (fold add_last []) (bytes_of cs) ≡ bytes_of cs
fold-add_last cs = go (bytes_of cs)
  where
    go : (o : Option (List ℕ)) → option_map (fold add_last []) o ≡ o
    go None = refl
    go (Some bs) = ap Some (folded_add_last [] bs)

-- up to 252 pairs are decoded
pub decoded-short : (ds : List ℕ) → length ds ≤ 504 → bytes_of ds ≡ decoded ds
decoded-short ds h = grind (arith, nat_tests)

pub decoded-long : (ds : List ℕ) → 504 < length ds → None ≡ decoded ds
decoded-long ds h = grind (arith, nat_tests)

pub decoded-unspelled : (ds : List ℕ) → bytes_of ds ≡ None → None ≡ decoded ds
decoded-unspelled ds h = grind (arith, nat_tests)

-- what is decoded is what the digits spell
pub decoded-bytes : (ds bs : List ℕ) → decoded ds ≡ Some bs → bytes_of ds ≡ Some bs
decoded-bytes ds bs e = grind (arith, nat_tests)
