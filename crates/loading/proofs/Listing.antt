-- Records and those of them with data. Assumes nothing.
use Rattle.std.proofs.Common.{◌≡◌, Bool, true, false, cond, ◌⊎◌, List, [], ◌∷◌, length, zero, suc, refl, ap, subst, inl, inr, arith}
use Rattle.std.specs.Prelude.{◌==◌, Contains}
use Rattle.std.specs.List.{AllByRecursion}
use Rattle.std.proofs.lemmas.Bool.Decides.{nat_tests}
use Rattle.loading.specs.Source.{SourceRecord, HasData}
use Rattle.loading.proofs.Chunks.{Chunk, chunks_of}

module _ {X : Type 0} where
  -- an element of a list is its first, or one of the rest
  pub contained : (x y : X) (xs : List X) → Contains (x ∷ xs) y → (x ≡ y) ⊎ Contains xs y
  contained x y xs (zero, l, h) = inl h
  contained x y xs (suc k, l, h) = inr (k, omega (arith, l), h)

  pub contains_here : (x : X) (xs : List X) → Contains (x ∷ xs) x
  contains_here x xs = (zero, omega arith, refl)

  pub contains_there : (x y : X) (xs : List X) → Contains xs y → Contains (x ∷ xs) y
  contains_there x y xs h = (suc h.0, omega (arith, h.1), h.2)

  -- what holds of all holds of each
  pub contains_all : (P : X → Type 0) (xs : List X) (y : X) → AllByRecursion P xs → Contains xs y → P y
  contains_all P [] y a c = absurd (omega (arith, c.1))
  contains_all P (x ∷ xs) y a c = by (contained x y xs c) (contains_all P xs y a.1)
    where
      by : (x ≡ y) ⊎ Contains xs y → (Contains xs y → P y) → P y
      by (inl e) go = subst P e a.0
      by (inr d) go = go d

-- the data of a record
abbrev pub chunk_of : SourceRecord → Chunk
chunk_of r = record { address = r.address; bytes = r.bytes }

module _ (Q : Chunk → Type 0) where
  -- what holds of all data holds of that of a record that has some
  pub of_data : (rs : List SourceRecord) (r : SourceRecord) → Contains rs r → HasData r → AllByRecursion Q (chunks_of rs) → Q (chunk_of r)
  of_data [] r c h a = absurd (omega (arith, c.1))
  of_data (x ∷ rs) r c h a = by (length x.bytes == 0) refl (contained x r rs c) a (λ d b. of_data rs r d h b)
    where
      by : (t : Bool) → (length x.bytes == 0) ≡ t → (x ≡ r) ⊎ Contains rs r → AllByRecursion Q (cond t (chunks_of rs) (chunk_of x ∷ chunks_of rs))
          → (Contains rs r → AllByRecursion Q (chunks_of rs) → Q (chunk_of r)) → Q (chunk_of r)
      by true q (inl s) b go = absurd (let none : length x.bytes ≡ 0 = grind (arith, nat_tests) in omega (arith, h, none, ap (λ z. length z.bytes) s))
      by true q (inr d) b go = go d b
      by false q (inl s) b go = subst (λ (z : SourceRecord). Q (chunk_of z)) s b.0
      by false q (inr d) b go = go d b.1

  -- and the other way round
  pub all_data : (rs : List SourceRecord) → ((r : SourceRecord) → Contains rs r → HasData r → Q (chunk_of r)) → AllByRecursion Q (chunks_of rs)
  all_data [] h = tt
  all_data (x ∷ rs) h = by (length x.bytes == 0) refl (all_data rs (λ r c l. h r (contains_there x r rs c) l))
    where
      by : (t : Bool) → (length x.bytes == 0) ≡ t → AllByRecursion Q (chunks_of rs) → AllByRecursion Q (cond t (chunks_of rs) (chunk_of x ∷ chunks_of rs))
      by true q go = go
      by false q go = (h x (contains_here x rs) (grind (arith, nat_tests)), go)

-- records of which not all are without data have some
pub some_data : (rs : List SourceRecord) → (AllByRecursion (λ r. length r.bytes ≡ 0) rs → ⊥) → (x : Chunk) × (xs : List Chunk) × (chunks_of rs ≡ x ∷ xs)
some_data [] h = absurd (h tt)
some_data (r ∷ rs) h = by (length r.bytes == 0) refl (some_data rs)
  where
    by : (t : Bool) → (length r.bytes == 0) ≡ t → ((AllByRecursion (λ z. length z.bytes ≡ 0) rs → ⊥) → (x : Chunk) × (xs : List Chunk) × (chunks_of rs ≡ x ∷ xs))
        → (x : Chunk) × (xs : List Chunk) × (cond t (chunks_of rs) (chunk_of r ∷ chunks_of rs) ≡ x ∷ xs)
    by true q go = go (λ a. h (grind (arith, nat_tests), a))
    by false q go = (chunk_of r, chunks_of rs, refl)
