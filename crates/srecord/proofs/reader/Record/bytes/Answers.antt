use Rattle.std.proofs.Common.{◌≡◌, ◌≤◌, [], length, take, Some, ap, sym, ◌∙◌, arith}
use Rattle.std.specs.Option.{option_map}
use Rattle.srecord.specs.Bytes.{bytes_in, decoded}
use Rattle.srecord.proofs.Pairs.{PairsOf, pairs_some, pairs_none, fold_pairs, add_last, fold_none, fold_end, fold-add_last, decoded-short, decoded-long, decoded-unspelled}
use Rattle.srecord.proofs.reader.Record.bytes.Goals as goal
use Rattle.srecord.proofs.reader.Record.bytes.Goals.{In_ok-pairs}

-- the pairs are those of the record
taken : (c : In_ok-pairs) → PairsOf c.args.self.now.digits.now c.in_ok-pairs.pairs.now
taken c = pairs_some c.args.self.now.digits.now c.in_ok-pairs.pairs.now c.in_ok-pairs.ensures

-- what is decoded of up to 252 of them
decodes : (c : In_ok-pairs) → length c.in_ok-pairs.pairs.now ≤ 252 → fold_pairs add_last [] c.in_ok-pairs.pairs.now ≡ decoded c.args.self.now.digits.now
decodes c h =
    let p = taken c in
    let long = p.long in
    ap (option_map _) p.spells ∙ fold-add_last c.args.self.now.digits.now ∙ decoded-short c.args.self.now.digits.now (omega arith)

pub returns-in_err-pairs : goal.returns-in_err-pairs
returns-in_err-pairs c =
    ap (option_map bytes_in) c.from_residual.ensures
    ∙ decoded-unspelled _ (pairs_none c.args.self.now.digits.now c.in_err-pairs.ensures)

pub returns-then-pairs-gt-MAX_BYTES : goal.returns-then-pairs-gt-MAX_BYTES
returns-then-pairs-gt-MAX_BYTES c =
    let long = (taken (goal.at.returns-then-pairs-gt-MAX_BYTES c).In_ok-pairs).long in
    decoded-long _ (omega arith)

pub returns-in_err-bytes : goal.returns-in_err-bytes
returns-in_err-bytes c =
    ap (option_map bytes_in) c.from_residual-in_err-bytes.ensures
    ∙ sym (fold_none add_last _ c.in_ok-pairs.pairs.now c.loop-at.at [] (omega arith) c.in_err-bytes.ensures)
    ∙ c.loop-at.invariant.0 ∙ decodes (goal.at.returns-in_err-bytes c).In_ok-pairs (omega arith)

pub returns : goal.returns
returns c =
    let at : c.loop-at.at ≡ length c.in_ok-pairs.pairs.now = omega arith in
    ap (λ n. Some (take n c.loop-at.bytes)) (sym at)
    ∙ sym (fold_end add_last _ c.in_ok-pairs.pairs.now c.loop-at.at (omega arith))
    ∙ c.loop-at.invariant.0 ∙ decodes (goal.at.returns c).In_ok-pairs (omega arith)
