use Rattle.std.proofs.Common.{◌≡◌, ◌+◌, ◌*◌, Some, None, sym, ap, ◌∙◌, subst}
use Rattle.std.specs.Option.{option_map}
use Rattle.srecord.specs.Text.{EndsBefore, CutsLine, measured_length}
use Rattle.srecord.proofs.Firsts.{measured_at}
use Rattle.srecord.proofs.text.cut_line.Goals as goal

pub returns-in_err-after_end : goal.returns-in_err-after_end
returns-in_err-after_end c = subst (CutsLine c.args.text.now) (sym c.from_residual-in_err-after_end.ensures) none
  where
    long : measured_length c.args.text.now ≡ Some (4 + 2 * c.from-count.result)
    long = ap (option_map (λ n. 4 + 2 * n)) (sym c.pair.ensures ∙ c.in_ok-pair.was) ∙ ap (λ n. Some (4 + 2 * n)) (sym c.from-count.ensures)

    none : CutsLine c.args.text.now None
    none line rest m =
        let at = measured_at c.args.text.now _ long line rest m in
        c.in_err-after_end.ensures rest (subst (λ t. EndsBefore t rest) (sym c.in_ok-line.ensures.cases.2) at.2)
