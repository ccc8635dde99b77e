use Rattle.session.proofs.Counts.{asked_most, sent_most, delivered_most, stops_most}
use Rattle.session.proofs.laws.port_laws.Goals as goal

pub returns : goal.returns
returns g c =
    let exchanged = g.P.Port.exchanged in
    let exchanges = g.P.Port.exchanges in
    let counted = g.met.P.Port.counted in
    record {
      law = record {
        asked = asked_most exchanged exchanges counted;
        sent = sent_most exchanged exchanges counted;
        delivered = delivered_most exchanged exchanges counted;
        stops = stops_most exchanged exchanges counted;
      };
    }
