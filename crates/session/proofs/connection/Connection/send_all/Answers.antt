use Rattle.std.proofs.lemmas.Result.{err_from_is_err_and}
use Rattle.bootloader.specs.declared.command.Command.TheVariants.{Connect}
use Rattle.session.specs.Joining.{delivered_more, stops_next}
use Rattle.session.proofs.connection.Connection.send_all.Goals as goal

pub returns-in_err-send : goal.returns-in_err-send
returns-in_err-send g c =
    let l = c.loop-command in
    let p = err_from_is_err_and c.from_residual.result c.from_residual.ensures.1 in
    rw (p.1, p.2, c.in_err-send.ensures.counter)
    (record {
      sent = stops_next g.P.Port.exchanged c.args.port.now c.args.self.now.counter c.args.commands.now l.command-index Connect l.port l.self.counter
          c.in_err-send.field-0.0 c.send.new.port c.loop-command-test.true l.invariant c.in_err-send.ensures.sent;
    })

pub loop-command-preserved : goal.loop-command-preserved
loop-command-preserved g c =
    let l = c.loop-command in
    rw c.in_ok-send.ensures.counter
    (delivered_more g.P.Port.exchanged c.args.port.now c.args.self.now.counter c.args.commands.now l.command-index Connect l.port l.self.counter
    c.in_ok-send.field-0 c.send.new.port c.loop-command-test.true l.invariant c.in_ok-send.ensures.sent)
