-- Entries of what a log keeps, and what is printed of them. Assumes nothing.
use Rattle.std.proofs.Common.{◌≡◌, ℕ, ◌+◌, ◌<◌, ◌≤◌, List, [], ◌∷◌, ◌++◌, length, map, drop, get_or, refl, ap, sym, ◌∙◌, append_assoc, append-nil}
use Rattle.std.specs.Prelude.{Option}
use Rattle.std.proofs.lemmas.List.{at_drop_more, at_drop_all, map-append}
use Rattle.bootloader.specs.declared.bus.Entry.{Entry}
use Rattle.bootloader.specs.Board.{Board}
use Rattle.bootloader.specs.Events.{Event, happened, board_behind, replies_to}
use Rattle.bootloader.specs.BusLog.{event_of, events_of, replies_of}
use Rattle.board.specs.declared.happening.Happening.{Happening}
use Rattle.board.specs.Replay.{event_by, frame_line, frame_lines, rows, ending, report_of}

rows-lines : (b : Board) (es : List Event) → rows es (replies_to b es) ≡ frame_lines b es
unfolding rows replies_to frame_lines
rows-lines b [] = refl
rows-lines b (e ∷ es) = ap (λ xs. frame_line e (happened b e).reply ++ xs) (rows-lines (happened b e).board es)

-- what is printed of a board, by the replies and by what is left of it
pub report_made : (b left : Board) (es fs : List Event) (rs : List (Option (List ℕ))) → fs ≡ es → rs ≡ replies_to b es → left ≡ board_behind b es → rows fs rs ++ ending left ≡ report_of b es
report_made b left es fs rs d e f =
    ap (λ xs. rows xs rs ++ ending left) d
    ∙ ap (λ xs. rows es xs ++ ending left) e
    ∙ ap (λ xs. xs ++ ending left) (rows-lines b es)
    ∙ ap (λ x. frame_lines b es ++ ending x) f

-- the lines for entries
abbrev pub entry_rows : List Entry → List ℕ
entry_rows es = rows (events_of es) (replies_of es)

-- one entry more is printed, of those that are left
pub rows_more : (old new : List ℕ) (i : ℕ) (es : List Entry) (d : Entry) → i < length es
    → new ≡ old ++ frame_line (event_of (get_or es i d).event) (get_or es i d).reply
    → new ++ entry_rows (drop (i + 1) es) ≡ old ++ entry_rows (drop i es)
unfolding rows
rows_more old new i es d h e =
    let x = get_or es i d in
    ap (λ xs. xs ++ entry_rows (drop (i + 1) es)) e
    ∙ append_assoc old (frame_line (event_of x.event) x.reply) (entry_rows (drop (i + 1) es))
    ∙ ap (λ xs. old ++ xs) (sym (at_drop_more entry_rows es i d h))

-- nothing is left to print
pub rows_end : (text : List ℕ) (i : ℕ) (es : List Entry) → length es ≤ i → text ≡ text ++ entry_rows (drop i es)
unfolding rows
rows_end text i es h = sym (ap (λ xs. text ++ xs) (at_drop_all entry_rows es i h) ∙ append-nil text)

-- one entry more is made, of those that a log keeps
pub entries_more : (xs : List Entry) (x : Entry) (i : ℕ) (hs : List Happening) (d : Happening) → i < length hs → event_of x.event ≡ event_by (get_or hs i d)
    → events_of (xs ++ (x ∷ [])) ++ map event_by (drop (i + 1) hs) ≡ events_of xs ++ map event_by (drop i hs)
entries_more xs x i hs d h e =
    let rest = map event_by (drop (i + 1) hs) in
    ap (λ es. es ++ rest) (map-append (λ y. event_of y.event) xs (x ∷ []))
    ∙ append_assoc (events_of xs) (event_of x.event ∷ []) rest
    ∙ ap (λ f. events_of xs ++ (f ∷ rest)) e
    ∙ ap (λ es. events_of xs ++ es) (sym (at_drop_more (map event_by) hs i d h))

-- all entries are made
pub entries_all : (xs : List Entry) (i : ℕ) (hs : List Happening) → length hs ≤ i → events_of xs ≡ events_of xs ++ map event_by (drop i hs)
entries_all xs i hs h = sym (ap (λ es. events_of xs ++ es) (at_drop_all (map event_by) hs i h) ∙ append-nil (events_of xs))
