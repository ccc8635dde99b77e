-- Laws of whether records suit a target. Assumes nothing.
use Rattle.std.proofs.Common.{◌≡◌, ℕ, Bool, true, cond, eqb, List, [], ◌∷◌, ◌++◌, map, Some, None, Ok, Err, Option, Result, refl}
use Rattle.srecord.specs.declared.FaultAt.{FaultAt}
use Rattle.srecord.specs.Reading.{Handed, Coming, fault_item, items_of}
use Rattle.loader.specs.declared.file.Refusal.{Refusal}
use Rattle.loader.specs.Verdict.{byte_count, end_after, goes_on, at_last, suits_from}

-- the verdict on what is to come
abbrev pub suits_on : ℕ → ℕ → Bool → Coming → Result (Unit {0}) Refusal
suits_on w e any c = suits_from w e any c.records c.fault

-- the verdict on what is handed out one by one
abbrev pub suits_items : ℕ → ℕ → Bool → List (Result Handed FaultAt) → Result (Unit {0}) Refusal
suits_items w e any [] = at_last any None
suits_items w e any (Err f ∷ rs) = at_last any (Some f)
suits_items w e any (Ok r ∷ rs) =
    cond (eqb (byte_count r) 0) (suits_items w e any rs) (goes_on (λ next. suits_items w next true rs) r.line (end_after w e r))

-- it is the verdict on what is to come
pub suits-items : (w e : ℕ) (any : Bool) (c : Coming) → suits_items w e any (items_of c) ≡ suits_on w e any c
unfolding suits_from
suits-items w e any c = go e any c.records
  where
    at_end : (e : ℕ) (any : Bool) (f : Option FaultAt) → suits_items w e any (fault_item f) ≡ at_last any f
    at_end e any None = refl
    at_end e any (Some f) = refl

    go : (e : ℕ) (any : Bool) (rs : List Handed) → suits_items w e any (map Ok rs ++ fault_item c.fault) ≡ suits_from w e any rs c.fault
    go e any [] = at_end e any c.fault
    go e any (r ∷ rs) = λ i. cond (eqb (byte_count r) 0) (go e any rs i) (goes_on (λ next. go next true rs i) r.line (end_after w e r))
