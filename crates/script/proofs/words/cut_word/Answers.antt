use Rattle.std.proofs.Common.{◌≡◌, take, drop, rules, ap, ◌∙◌}
use Rattle.std.proofs.lemmas.Iterator.{YieldsList-from_slice}
use Rattle.std.proofs.lemmas.Iterator.Search.{position_from_yields_List}
use Rattle.std.proofs.lemmas.Str.Ascii.{trim_ascii_start_is}
use Rattle.std.specs.Char.{is_ascii_whitespace}
use Rattle.std.specs.List.{position_or_len}
use borrow.Author.Tests.{tests}
use Rattle.script.specs.Words.{behind_blanks, first_word, behind_word}
use Rattle.script.proofs.Parting.{end_found, next_word}
use Rattle.script.proofs.words.cut_word.Goals as goal
use Rattle.script.proofs.words.cut_word.Goals.{After-split_at}

start : (c : After-split_at) → c.trim_ascii_start-text.result.now ≡ behind_blanks c.args.text.now
start c = trim_ascii_start_is _ _ c.trim_ascii_start-text.ensures.value

end : (c : After-split_at) → c.unwrap_or-end.result ≡ position_or_len is_ascii_whitespace (behind_blanks c.args.text.now)
end c =
    let rest = c.trim_ascii_start-text.result.now in
    let found = position_from_yields_List is_ascii_whitespace _ _ c.position.result c.position.ensures.ran (YieldsList-from_slice rest cc) (λ x b q k. search (rules, tests)) in
    end_found is_ascii_whitespace rest c.position.result c.unwrap_or-end.result found c.unwrap_or-end.ensures ∙ ap (position_or_len is_ascii_whitespace) (start c)

first : (c : After-split_at) → c.split_at.result.0.now ≡ first_word c.args.text.now
first c = c.split_at.ensures.front ∙ ap (λ n. take n c.trim_ascii_start-text.result.now) (end c) ∙ ap (take _) (start c)

others : (c : After-split_at) → c.split_at.result.1.now ≡ behind_word c.args.text.now
others c = c.split_at.ensures.back ∙ ap (λ n. drop n c.trim_ascii_start-text.result.now) (end c) ∙ ap (drop _) (start c)

pub returns-clause-word : goal.returns-clause-word
returns-clause-word c = first c

pub returns-clause-rest : goal.returns-clause-rest
returns-clause-rest c = others c

pub returns-clause-law : goal.returns-clause-law
returns-clause-law c = next_word c.args.text.now _ _ (first c) (others c)
