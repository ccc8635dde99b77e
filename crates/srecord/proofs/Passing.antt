-- What a `?` returns. Assumes nothing.
use Rattle.std.proofs.Common.{◌≡◌, Some, None, Err, Option, Result, ap, ◌∙◌}
use Rattle.std.specs.Option.{ok_or}
use Rattle.std.specs.Result.{IsErrAnd}
use Rattle.std.proofs.lemmas.Result.{err_from_is_err_and}

pub err_passed : {T E : Type 0} (r : Result T E) {e : E} → IsErrAnd r (λ y. y ≡ e) → r ≡ Err e
err_passed r h = let p = err_from_is_err_and r h in p.1 ∙ ap Err p.2

-- after `ok_or(f)`
pub none_passed : {T X E : Type 0} (r : Result T E) (o : Option X) {e f : E} → IsErrAnd r (λ y. y ≡ e) → Err e ≡ ok_or o f → r ≡ Err f
none_passed r None h k = err_passed r h ∙ cc
none_passed r (Some x) h k = cc
