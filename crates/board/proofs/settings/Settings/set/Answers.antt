use Rattle.std.proofs.Common.{◌≡◌, Err, codes, rules, ap, ◌∙◌}
use Rattle.board.specs.Fault.{read_by}
use Rattle.board.specs.Settings.{once}
use Rattle.board.proofs.Mapping.{stopped}
use Rattle.board.proofs.settings.Settings.set.Goals as goal

pub returns-in_err-base-in-base : goal.returns-in_err-base-in-base
returns-in_err-base-in-base c =
    let handed_on : c.from_residual.result ≡ Err c.in_err-base-in-base.field-0.0 = search rules in
    let told = c.once.ensures ∙ ap (λ v. once c.args.self.base v (codes "base= and at most 32 bits in hex digits") c.args.word.now) c.read_32.ensures in
    rw c.in-base.is (ap read_by handed_on ∙ stopped (λ x. record (c.args.self) { base = x }) _ _ _ c.in_err-base-in-base.was told)

pub returns-in_err-sectors-in-sectors : goal.returns-in_err-sectors-in-sectors
returns-in_err-sectors-in-sectors c =
    let handed_on : c.from_residual-in_err-sectors-in-sectors.result ≡ Err c.in_err-sectors-in-sectors.field-0.0 = search rules in
    let told = c.once-in-sectors.ensures ∙ ap (λ v. once c.args.self.sectors v (codes "sectors= and a number") c.args.word.now) c.read_number.ensures in
    rw c.in-sectors.is (ap read_by handed_on ∙ stopped (λ x. record (c.args.self) { sectors = x }) _ _ _ c.in_err-sectors-in-sectors.was told)

pub returns-in_err-words-in-words : goal.returns-in_err-words-in-words
returns-in_err-words-in-words c =
    let handed_on : c.from_residual-in_err-words-in-words.result ≡ Err c.in_err-words-in-words.field-0.0 = search rules in
    let told = c.once-in-words.ensures ∙ ap (λ v. once c.args.self.words v (codes "words= and a number") c.args.word.now) c.read_number-in-words.ensures in
    rw c.in-words.is (ap read_by handed_on ∙ stopped (λ x. record (c.args.self) { words = x }) _ _ _ c.in_err-words-in-words.was told)

pub returns-in_err-part-in-part : goal.returns-in_err-part-in-part
returns-in_err-part-in-part c =
    let handed_on : c.from_residual-in_err-part-in-part.result ≡ Err c.in_err-part-in-part.field-0.0 = search rules in
    let told = c.once-in-part.ensures ∙ ap (λ v. once c.args.self.part v (codes "part= and at most 16 bits in hex digits") c.args.word.now) c.read_16.ensures in
    rw c.in-part.is (ap read_by handed_on ∙ stopped (λ x. record (c.args.self) { part = x }) _ _ _ c.in_err-part-in-part.was told)

pub returns-in_err-boot-in-boot : goal.returns-in_err-boot-in-boot
returns-in_err-boot-in-boot c =
    let handed_on : c.from_residual-in_err-boot-in-boot.result ≡ Err c.in_err-boot-in-boot.field-0.0 = search rules in
    let told = c.once-in-boot.ensures ∙ ap (λ v. once c.args.self.boot v (codes "boot= and a number of at most 1,048,576") c.args.word.now) c.read_length.ensures in
    rw c.in-boot.is (ap read_by handed_on ∙ stopped (λ x. record (c.args.self) { boot = x }) _ _ _ c.in_err-boot-in-boot.was told)

pub returns-in_err-eeprom-in-data : goal.returns-in_err-eeprom-in-data
returns-in_err-eeprom-in-data c =
    let handed_on : c.from_residual-in_err-eeprom-in-data.result ≡ Err c.in_err-eeprom-in-data.field-0.0 = search rules in
    let told = c.once-in-data.ensures ∙ ap (λ v. once c.args.self.eeprom v (codes "data= and a number of at most 1,048,576") c.args.word.now) c.read_length-in-data.ensures in
    rw c.in-data.is (ap read_by handed_on ∙ stopped (λ x. record (c.args.self) { eeprom = x }) _ _ _ c.in_err-eeprom-in-data.was told)

pub returns-in_err-major-in-major : goal.returns-in_err-major-in-major
returns-in_err-major-in-major c =
    let handed_on : c.from_residual-in_err-major-in-major.result ≡ Err c.in_err-major-in-major.field-0.0 = search rules in
    let told = c.once-in-major.ensures ∙ ap (λ v. once c.args.self.major v (codes "major= and a number of at most 255") c.args.word.now) c.read_byte.ensures in
    rw c.in-major.is (ap read_by handed_on ∙ stopped (λ x. record (c.args.self) { major = x }) _ _ _ c.in_err-major-in-major.was told)

pub returns-in_err-minor-in-minor : goal.returns-in_err-minor-in-minor
returns-in_err-minor-in-minor c =
    let handed_on : c.from_residual-in_err-minor-in-minor.result ≡ Err c.in_err-minor-in-minor.field-0.0 = search rules in
    let told = c.once-in-minor.ensures ∙ ap (λ v. once c.args.self.minor v (codes "minor= and a number of at most 255") c.args.word.now) c.read_byte-in-minor.ensures in
    rw c.in-minor.is (ap read_by handed_on ∙ stopped (λ x. record (c.args.self) { minor = x }) _ _ _ c.in_err-minor-in-minor.was told)

pub returns-in_err-wait-in-wait : goal.returns-in_err-wait-in-wait
returns-in_err-wait-in-wait c =
    let handed_on : c.from_residual-in_err-wait-in-wait.result ≡ Err c.in_err-wait-in-wait.field-0.0 = search rules in
    let told = c.once-in-wait.ensures ∙ ap (λ v. once c.args.self.wait v (codes "wait=2000 or wait=16000") c.args.word.now) c.read_wait.ensures in
    rw c.in-wait.is (ap read_by handed_on ∙ stopped (λ x. record (c.args.self) { wait = x }) _ _ _ c.in_err-wait-in-wait.was told)
