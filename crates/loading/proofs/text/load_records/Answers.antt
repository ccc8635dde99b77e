use Rattle.loading.proofs.Hearing.{heard_by}
use Rattle.loading.proofs.Promising.{promises}
use Rattle.loading.proofs.text.load_records.Goals as goal

pub returns-clause-promises : goal.returns-clause-promises
returns-clause-promises g c =
    promises c.board_laws.ensures.law c.bus_law.ensures.law g.L.Port.exchanged g.L.Port.exchanges g.L.Link.board g.L.Link.lossless c.session_laws.ensures.law g.met.L.Link.linked
    c.args.target (g.S.Source.records c.args.source) c.load_through.result c.args.link.now c.load_through.new.port c.load_through.ensures.answer c.load_through.ensures.bounded

pub returns-clause-heard : goal.returns-clause-heard
returns-clause-heard g c =
    heard_by g.L.Port.exchanged g.L.Link.board g.L.Link.lossless g.met.L.Link.linked c.board_laws.ensures.law c.bus_law.ensures.law
    c.args.link.now c.load_through.ensures.bounded.made c.load_through.new.port c.load_through.ensures.bounded.led
