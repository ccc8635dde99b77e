use Rattle.session.proofs.Carrying.{all_carried, inner_state}
use Rattle.session.proofs.Taking.{silent_board, answered_once, delivered_once}
use Rattle.session.proofs.Lossless.{at_once, never_silent, never_fails, delivered_count, sent_well}
use Rattle.session.proofs.laws.session_laws.Goals as goal

pub returns : goal.returns
returns g c =
    let laws = c.board_laws.ensures.law in
    let exchanged = g.L.Port.exchanged in
    let exchanges = g.L.Port.exchanges in
    let board = g.L.Link.board in
    let lossless = g.L.Link.lossless in
    let counted = g.met.L.Port.counted in
    let linked = g.met.L.Link.linked in
    record {
      law = record {
        silent = silent_board laws exchanged board lossless linked;
        answered = answered_once laws exchanged board lossless linked;
        delivered = delivered_once laws exchanged board lossless linked;
        carried = all_carried laws;
        inner = inner_state;
        counted = delivered_count exchanged exchanges board lossless counted linked laws;
        at_once = λ p f reply other q l h. at_once exchanged exchanges board lossless counted linked p f reply l h other q;
        never_silent = λ p f reply n q l h. never_silent exchanged exchanges board lossless counted linked p f reply l h n q;
        never_fails = λ p f reply failure q l h. never_fails exchanged exchanges board lossless counted linked p f reply l h failure q;
        well = sent_well exchanged exchanges board lossless counted linked laws;
      };
    }
