-- Faults that are handed on. Assumes nothing.
use Rattle.std.proofs.Common.{◌≡◌, Err, Result, ap, sym, ◌∙◌}
use Rattle.std.specs.Result.{result_map_both}
use Rattle.board.specs.declared.fault.Fault.{Fault}
use Rattle.board.specs.Fault.{WrongLine, read_by}

-- a fault that is handed on in place of a value that would be mapped
pub stopped : {A B : Type 0} (f : A → B) (r : Result A Fault) (e : Fault) (x : Result A WrongLine) → r ≡ Err e → read_by r ≡ x → read_by (Err e) ≡ result_map_both f (λ e. e) x
stopped f r e x h k = ap (result_map_both f (λ e. e)) (sym (ap read_by h) ∙ k)
