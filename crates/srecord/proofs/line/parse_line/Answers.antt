use Rattle.std.proofs.Common.{◌≡◌, ℕ, Some, None, Ok, Option, Result, sym, refl, ap, ◌∙◌, arith, rules}
use Rattle.std.specs.Option.{ok_or, option_map}
use Rattle.srecord.specs.declared.line.Fault.{Fault}
use Rattle.srecord.specs.Hex.{bytes_of, number}
use Rattle.srecord.specs.Line.{said, checked, fields_in, line_of}
use Rattle.srecord.proofs.Lines.{Marked, digits_of, line_uncounted, parsed, line_parsed, address_short}
use Rattle.srecord.proofs.Passing.{err_passed, none_passed}
use Rattle.srecord.proofs.line.parse_line.Goals as goal
use Rattle.srecord.proofs.line.parse_line.Goals.{In_ok-form, In_ok-address, In_ok-address-2}

-- what an `ok_or` that answered so was asked
ok_value : {X E : Type 0} (o : Option X) (e : E) (x : X) → ok_or o e ≡ Ok x → o ≡ Some x
ok_value None e x h = cc
ok_value (Some y) e x h = cc

marked : (c : In_ok-form) → Marked c.args.line.now c.in_ok-form.form
marked c = record { two = omega arith; mark = search rules; form = ok_value _ _ _ (sym c.in_ok-form.ensures) }

fielded : (c : In_ok-address) → fields_in c.in_ok-form.form (digits_of c.args.line.now) ≡ Some (c.in_ok-address.address.now, c.in_ok-address.data.now)
fielded c =
    sym c.fields.ensures ∙ ap (option_map (λ p. (p.0.now, p.1.now))) c.in_ok-address.ensures.ok_part

-- what the line says by its fields, once they are read
parses : (c : In_ok-address) (o : Option ℕ) (r : Result (Unit {0}) Fault) → option_map number (bytes_of c.in_ok-address.address.now) ≡ o → checked (bytes_of (digits_of c.args.line.now)) ≡ r → line_of c.args.line.now ≡ parsed c.in_ok-form.form c.in_ok-address.data.now o r
parses c o r a k =
    line_parsed c.args.line.now (marked (goal.at.In_ok-address c).In_ok-form) _ (fielded c) ∙ (λ i. parsed c.in_ok-form.form c.in_ok-address.data.now (a i) (k i))

address : (c : In_ok-address-2) → option_map number (bytes_of c.in_ok-address.address.now) ≡ Some c.in_ok-address-2.address
address c = sym c.number.ensures ∙ c.in_ok-address-2.ensures.ok_part

pub returns-in_err-address : goal.returns-in_err-address
returns-in_err-address c =
    ap said (none_passed c.from_residual-in_err-address.result c.fields.result c.from_residual-in_err-address.ensures.1 c.in_err-address.ensures.value)
    ∙ sym (line_uncounted c.args.line.now (marked (goal.at.returns-in_err-address c).In_ok-form)
    (sym c.fields.ensures ∙ ap (option_map (λ p. (p.0.now, p.1.now))) c.in_err-address.ensures.ok_part))

pub number-requires : goal.number-requires
number-requires c =
    let at = (goal.at.number-requires c).In_ok-address in
    address_short (marked (goal.at.In_ok-address at).In_ok-form) _ (fielded at)

pub returns-in_err-address-2 : goal.returns-in_err-address-2
returns-in_err-address-2 c =
    ap said (none_passed c.from_residual-in_err-address-2.result c.number.result c.from_residual-in_err-address-2.ensures.1 c.in_err-address-2.ensures.value)
    ∙ sym (parses (goal.at.returns-in_err-address-2 c).In_ok-address None _ (sym c.number.ensures ∙ c.in_err-address-2.ensures.ok_part) refl)

pub returns-in_err-check_sum : goal.returns-in_err-check_sum
returns-in_err-check_sum c =
    ap said (err_passed c.from_residual-in_err-check_sum.result c.from_residual-in_err-check_sum.ensures.1)
    ∙ sym (parses (goal.at.returns-in_err-check_sum c).In_ok-address _ _ (address (goal.at.returns-in_err-check_sum c).In_ok-address-2) (sym c.in_err-check_sum.ensures))

pub returns : goal.returns
returns c =
    ap Ok c.line.ensures
    ∙ sym (parses (goal.at.returns c).In_ok-address _ _ (address (goal.at.returns c).In_ok-address-2) (sym c.in_ok-check_sum.ensures))
