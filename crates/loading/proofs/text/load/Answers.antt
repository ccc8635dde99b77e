use Rattle.loading.proofs.Promising.{promised, heard_text}
use Rattle.loading.proofs.text.load.Goals as goal

pub returns-clause-promised : goal.returns-clause-promised
returns-clause-promised g c =
    promised c.board_laws.ensures.law c.bus_law.ensures.law g.L.Port.exchanged g.L.Port.exchanges g.L.Link.board g.L.Link.lossless c.session_laws.ensures.law g.met.L.Link.linked
    c.args.text.now c.args.target c.args.size c.load_text_through.result c.args.link.now c.load_text_through.new.port c.load_text_through.ensures.law c.load_text_through.ensures.answer c.load_text_through.ensures.bounded

pub returns-clause-heard : goal.returns-clause-heard
returns-clause-heard g c =
    heard_text c.board_laws.ensures.law c.bus_law.ensures.law g.L.Port.exchanged g.L.Port.exchanges g.L.Link.board g.L.Link.lossless c.session_laws.ensures.law g.met.L.Link.linked
    c.args.text.now c.load_text_through.result c.args.link.now c.load_text_through.new.port c.load_text_through.ensures.bounded
