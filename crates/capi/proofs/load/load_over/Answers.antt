use Rattle.capi.proofs.load.load_over.Goals as goal

pub returns : goal.returns
returns g c = record {
  port = c.new-wire.result;
  made = c.new-wire.ensures.board;
  unused = c.new-wire.ensures.exchanges;
  later = c.load-report.new.link;
  loads = c.load-report.ensures.answer;
  left = c.into_device.ensures.board;
  promised = c.load-report.ensures.promised;
}
