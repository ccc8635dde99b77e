use Rattle.std.proofs.Common.{◌≡◌, ◌<◌, ◌≤◌, length, set, ap, ◌∙◌, arith, ℕ, List, [], cond}
use Rattle.std.proofs.lemmas.List.{set-get_or}
use Rattle.capi.proofs.Exchanges.{exchanged-more, exchanged-all}
use Rattle.capi.proofs.replay.exchange.Goals.{then-frame, else-frame}
use Rattle.capi.proofs.replay.exchange.Goals as goal

pub loop-place-preserved : goal.loop-place-preserved
loop-place-preserved g c =
    let before = c.loop-place in
    let more : before.place-index < length before.frames = omega arith in
    let is : c.if-frame.frames ≡ cond c.frame.result (set before.frames before.place-index c.frame.new.reply) before.frames =
    elim c.if-frame.branch [
      | then-frame w ↦ rw (w.if-frame.true) w.frames-is
      | else-frame w ↦ rw (w.if-frame.false) (w.frames-is ∙ set-get_or before.frames before.place-index [])
    ] in
    rw (c.frame.ensures.after)
    (exchanged-more (g.D.Device.board before.board) before.frames c.if-frame.frames before.place-index _ c.frame.result more
    c.frame.ensures.answer
    (is ∙ ap (λ (r : List ℕ). cond c.frame.result (set before.frames before.place-index r) before.frames) c.frame.ensures.reply)
    ∙ before.invariant)

pub returns : goal.returns
returns g c =
    let all : length c.loop-place.frames ≤ c.loop-place.place-index = omega arith in
    exchanged-all (g.D.Device.board c.loop-place.board) c.loop-place.frames c.loop-place.place-index all ∙ c.loop-place.invariant
