-- Steps of a plan. Assumes nothing.
use Rattle.std.proofs.Common.{◌≡◌, List, Some, Ok, Err, sym, ap, ◌∙◌}
use Rattle.std.specs.Prelude.{None}
use Rattle.loading.specs.Source.{SourceRecord, first_of, rest_of}
use Rattle.loading.proofs.Sending.{ahead, none_ahead}
use Rattle.loader.specs.declared.target.Target.{Target}
use Rattle.geometry.specs.declared.rows.Row.{Row}
use Rattle.loading.specs.declared.planning.Plan.{Plan}
use Rattle.loading.specs.declared.planning.Stop.{Stop}
use Rattle.loading.specs.Plan.{plan_with, go_on, plan_from}

-- a record is planned, and then those after it
pub plan_stops : (t : Target) (r : Row) (plan : Plan) (rs : List SourceRecord) (h : SourceRecord) (e : Stop) → Some h ≡ first_of rs → Err e ≡ plan_with t r plan h → Err e ≡ plan_from t r plan rs
unfolding plan_from
plan_stops t r plan rs h e n q = ap (λ o. go_on o (λ p. plan_from t r p (rest_of rs))) q ∙ sym (ap (plan_from t r plan) (ahead rs h n))

pub plan_goes : (t : Target) (r : Row) (plan : Plan) (rs js : List SourceRecord) (h : SourceRecord) (next : Plan) → Some h ≡ first_of rs → js ≡ rest_of rs → Ok next ≡ plan_with t r plan h → plan_from t r next js ≡ plan_from t r plan rs
unfolding plan_from
plan_goes t r plan rs js h next n e q = ap (plan_from t r next) e ∙ (ap (λ o. go_on o (λ p. plan_from t r p (rest_of rs))) q ∙ sym (ap (plan_from t r plan) (ahead rs h n)))

pub plan_ends : (t : Target) (r : Row) (plan : Plan) (rs : List SourceRecord) → None ≡ first_of rs → Ok plan ≡ plan_from t r plan rs
unfolding plan_from
plan_ends t r plan rs e = sym (ap (plan_from t r plan) (none_ahead rs e))
