use Rattle.std.proofs.Common.{◌≡◌, Some, rules, sym, refl, ◌∙◌}
use Rattle.bootloader.specs.declared.state.State.TheVariants.{Connected}
use Rattle.bootloader.specs.declared.command.Command.{Command}
use Rattle.bootloader.specs.declared.command.Command.TheVariants.{SetMta, Unlock}
use Rattle.bootloader.proofs.Spaces.{mta_none, unlock_none, only_dialog, commanded}
use Rattle.bootloader.proofs.board.Bootloader.carry_out.Goals as goal

pub returns-in-Connected-SetMta-clause-after : goal.returns-in-Connected-SetMta-clause-after
returns-in-Connected-SetMta-clause-after g c =
    let command : Command = SetMta c.in-Connected-SetMta.number c.in-Connected-SetMta.extension c.in-Connected-SetMta.address in
    let is : c.args.command ≡ Some command = search rules in
    let at : c.args.self.now.session.state ≡ Connected = search rules in
    rw (c.set_mta.ensures.after) (sym (commanded _ c.args.command command is at ∙ only_dialog _ command refl _ (mta_none c.args.self.now.session.dialog c.in-Connected-SetMta.number c.in-Connected-SetMta.extension c.in-Connected-SetMta.address)))

pub returns-in-Connected-Unlock-clause-after : goal.returns-in-Connected-Unlock-clause-after
returns-in-Connected-Unlock-clause-after g c =
    let command : Command = Unlock c.in-Connected-Unlock.size c.in-Connected-Unlock.password in
    let is : c.args.command ≡ Some command = search rules in
    let at : c.args.self.now.session.state ≡ Connected = search rules in
    rw (c.unlock.ensures.after) (sym (commanded _ c.args.command command is at ∙ only_dialog _ command refl _ (unlock_none c.args.self.now.session.dialog c.in-Connected-Unlock.size c.in-Connected-Unlock.password)))
