-- A plan is there, or stops before anything is sent. Assumes nothing.
use Rattle.std.proofs.Common.{◌≡◌, ℕ, List, [], ◌∷◌, Some, Ok, Err, refl, sym, subst, inl, inr}
use Rattle.std.specs.Prelude.{Option, None, Result}
use Rattle.geometry.specs.declared.rows.Row.{Row}
use Rattle.loader.specs.declared.target.Target.{Target}
use Rattle.loading.specs.declared.planning.Plan.{Plan}
use Rattle.loading.specs.declared.planning.Stop.{Stop}
use Rattle.loading.specs.declared.planning.Stop.TheVariants.{NoRow, Outside, Sending}
use Rattle.loading.specs.Plan.{plan_for, plan_from, empty_plan, StopsAt}
use Rattle.loading.specs.Source.{SourceRecord}
use Rattle.loading.proofs.Planned.{plan_stopped}

-- no plan stops at a failure to send
abbrev pub IsPlanned : Result Plan Stop → Type 0
IsPlanned (Ok plan) = Unit {0}
IsPlanned (Err NoRow) = Unit {0}
IsPlanned (Err (Outside line)) = Unit {0}
IsPlanned (Err (Sending failure)) = ⊥

pub stopped_at : (t : Target) (r : Row) (rs : List SourceRecord) (stop : Stop) → StopsAt t r rs stop → (line : ℕ) × (stop ≡ Outside line)
stopped_at t r [] stop h = absurd h
stopped_at t r (x ∷ xs) stop (inl h) = (x.line, h.2)
stopped_at t r (x ∷ xs) stop (inr h) = stopped_at t r xs stop h.1

pub planned_for : (t : Target) (o : Option Row) (rs : List SourceRecord) → IsPlanned (plan_for t o rs)
planned_for t None rs = tt
planned_for t (Some r) rs = by (plan_from t r empty_plan rs) refl
  where
    by : (x : Result Plan Stop) → plan_from t r empty_plan rs ≡ x → IsPlanned x
    by (Ok plan) e = tt
    by (Err stop) e = let at = stopped_at t r rs stop (plan_stopped t r empty_plan rs stop e) in subst (λ (z : Stop). IsPlanned (Err z)) (sym at.1) tt
