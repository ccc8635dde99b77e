use Rattle.std.proofs.Common.{arith}
use Rattle.std.proofs.lemmas.List.{length-drop}
use Rattle.loading.proofs.Sending.{six_cut}
use Rattle.loading.proofs.record.download.Goals as goal

pub loop-left-preserved : goal.loop-left-preserved
loop-left-preserved g c = λ r q d h.
    let l = c.loop-left in
    l.invariant r q d (six_cut g.P.Port.exchanged l.port l.connection.counter l.left.now _ c.in_ok-send.field-0 c.send.new.port c.send.new.self.counter r q d
    c.in-len6-up.len_at_least c.in_ok-send.ensures.sent c.in_ok-send.ensures.counter (omega (arith, length-drop 6 l.left.now)) h)
