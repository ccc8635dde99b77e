-- What is printed of a load.
use Rattle.std.specs.Prelude.{ℕ, List, [], ◌∷◌, ◌++◌, Some, None, codes, Option, decimal}
use Rattle.std.specs.List.{flat_map}
use Rattle.script.specs.Hex.{hex_byte}
use Rattle.loading.specs.declared.report.Report.{Report}
use Rattle.loading.specs.Report.{numbers_of}
use Rattle.link.specs.declared.trace.TracedFrame.{TracedFrame}

-- bytes in hex digits
abbrev pub shown : List ℕ → List ℕ
shown bytes = flat_map hex_byte bytes

-- a reply as it is printed, and a dash where there is none
abbrev pub reply_shown : Option (List ℕ) → List ℕ
reply_shown None = codes "-"
reply_shown (Some reply) = shown reply

-- the line of an exchange
abbrev pub exchange_line : TracedFrame → List ℕ
exchange_line x = codes "F\t" ++ (shown x.frame ++ (codes "\t" ++ (reply_shown x.reply ++ codes "\n")))

-- the rest of a line: numbers in decimal, each behind a tab
abbrev pub numbers_shown : List ℕ → List ℕ
numbers_shown [] = codes "\n"
numbers_shown (n ∷ ns) = codes "\t" ++ (decimal n ++ numbers_shown ns)

-- the line of a report
abbrev pub report_line : Report → List ℕ
report_line r = codes "R" ++ numbers_shown (numbers_of r)

-- what is printed of exchanges and the report behind them
abbrev pub output_of : List TracedFrame → Report → List ℕ
output_of xs r = flat_map exchange_line xs ++ report_line r
