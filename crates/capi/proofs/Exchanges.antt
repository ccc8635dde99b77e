-- Frames that reach a board one after the other. Assumes nothing.
use Rattle.std.proofs.Common.{◌≡◌, ℕ, ◌+◌, ◌<◌, ◌≤◌, Bool, true, false, cond, List, [], ◌∷◌, ◌++◌, length, take, drop, set, get_or, Some, sym, ap, ◌∙◌, append_assoc, append-nil, arith, rules}
use Rattle.std.specs.Prelude.{Option, None, unwrap_or, is_some}
use Rattle.std.proofs.lemmas.List.{take_more_set, drop-set-lt, at_drop_more, at_drop_all, take_all, set-get_or}
use Rattle.bootloader.specs.Board.{Board, Turn, stepped}
use Rattle.capi.specs.Replay.{exchanged}

-- the frame at i reaches the board
one_more : (b : Board) (fs : List (List ℕ)) (i : ℕ) → i < length fs
    → let f : List ℕ = get_or fs i [] in
    let t : Turn = stepped b 8 0x0B081880 f in
    let after : List (List ℕ) = set fs i (unwrap_or t.reply f) in
    take (i + 1) after ++ exchanged t.board (drop (i + 1) after) ≡ take i fs ++ exchanged b (drop i fs)
unfolding exchanged
one_more b fs i h =
    let f : List ℕ = get_or fs i [] in
    let t : Turn = stepped b 8 0x0B081880 f in
    let less : i < i + 1 = omega arith in
    rw (take_more_set fs i (unwrap_or t.reply f) h, drop-set-lt (i + 1) fs i (unwrap_or t.reply f) less)
    (append_assoc (take i fs) (unwrap_or t.reply f ∷ []) _ ∙ sym (ap (λ rest. take i fs ++ rest) (at_drop_more (exchanged b) fs i [] h)))

-- a frame that is answered has its reply in its place, and another one stays there
in_place : (o : Option (List ℕ)) (fs after : List (List ℕ)) (i : ℕ) (z : List ℕ) (u : Bool) → u ≡ is_some o
    → after ≡ cond u (set fs i (unwrap_or o z)) fs
    → after ≡ set fs i (unwrap_or o (get_or fs i []))
in_place None fs after i z true h e = Prim.search rules
in_place None fs after i z false h e = e ∙ sym (set-get_or fs i [])
in_place (Some r) fs after i z true h e = e
in_place (Some r) fs after i z false h e = Prim.search rules

-- the frames after one that reached the board
pub exchanged-more : (b : Board) (fs after : List (List ℕ)) (i : ℕ) (z : List ℕ) (u : Bool) → i < length fs
    → let t : Turn = stepped b 8 0x0B081880 (get_or fs i []) in
    u ≡ is_some t.reply
    → after ≡ cond u (set fs i (unwrap_or t.reply z)) fs
    → take (i + 1) after ++ exchanged t.board (drop (i + 1) after) ≡ take i fs ++ exchanged b (drop i fs)
exchanged-more b fs after i z u h answered is =
    let t : Turn = stepped b 8 0x0B081880 (get_or fs i []) in
    rw (in_place t.reply fs after i z u answered is) (one_more b fs i h)

-- no frame is left
pub exchanged-all : (b : Board) (fs : List (List ℕ)) (i : ℕ) → length fs ≤ i → fs ≡ take i fs ++ exchanged b (drop i fs)
unfolding exchanged
exchanged-all b fs i h =
    sym (ap (λ rest. take i fs ++ rest) (at_drop_all (exchanged b) fs i h) ∙ append-nil (take i fs) ∙ take_all i fs h)
