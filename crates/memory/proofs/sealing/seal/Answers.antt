use Rattle.std.proofs.Common.{◌≡◌, ℕ, ◌+◌, ◌*◌, ◌/◌, ◌<◌, ◌≤◌, length, fold, get_or, ◌∙◌, rules}
use Rattle.std.proofs.iter.runs.Sources.{ranges}
use Rattle.memory.proofs.Samples.{with_address, crc_from-sampled}
use Rattle.memory.proofs.sealing.seal.Goals as goal

pub returns : goal.returns
returns g c =
    let w = g.P.ReadablePart.BYTES_PER_ADDRESS in
    let xs = g.P.ReadablePart.contents c.args.part.now in
    let n = length xs / w in
    let zs = c.fold.ensures.runs.0.items in
    let all : c.fold.result ≡ fold (with_address w xs) 0xFFFF zs = search (rules, ranges) in
    let le : n ≤ length zs * 128 = search (rules, ranges) in
    let lt : length zs * 128 < n + 128 = search (rules, ranges) in
    let at : (k : ℕ) → k < length zs → get_or zs k 0 ≡ k * 128 = λ k h. search (rules, ranges) in
    all ∙ crc_from-sampled w xs n zs le lt at
