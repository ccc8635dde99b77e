-- A log, line by line.
use Rattle.std.specs.Prelude.{ℕ, ◌+◌, ◌-◌, Bool, true, false, cond, List, [], ◌∷◌, ◌++◌, length, map, replicate, Some, None, Ok, Err, Option, Result, is_some, unwrap_or, nat_le, nat_lt}
use Rattle.script.specs.Line.{lines_of}
use Rattle.bootloader.specs.Events.{Event, tick}
use Rattle.board.specs.declared.draft.Draft as code
use Rattle.board.specs.declared.draft.LogError.{LogError}
use Rattle.board.specs.declared.draft.LogError.TheVariants.{Refused, Memory}
use Rattle.board.specs.declared.fault.Refusal.{Refusal}
use Rattle.board.specs.declared.plan.Memory as space
use Rattle.board.specs.declared.plan.Plan.{Plan}
use Rattle.board.specs.Plan.{length_of, bench}
use Rattle.board.specs.Fault.{WrongLine, too_long, late, second_board, told_twice, too_many_ticks, after, wrong_by}
use Rattle.board.specs.Replay.{event_by}
use Rattle.board.specs.Line.{Saying, nothing, board, start, ticks, happens, said_of}
use Rattle.board.specs.Stage.{Told, Meant, is_memory, told_by}

-- a line that is wrong, counted from 1
pub record WrongLog : Type 0 where
  pub number : ℕ
  pub wrong : WrongLine

-- what the lines so far have said: what the board is made of and what its memories show at the start, which is settled once a
-- frame or a tick was read; how many ticks more a log can have; and what reaches the board
pub record Draft : Type 0 where
  pub plan : Option Plan
  pub starts : List Told
  pub begun : Bool
  pub left : ℕ
  pub events : List Event

-- no line was read
abbrev pub blank : Draft
blank = record { plan = None; starts = []; begun = false; left = 1000000; events = [] }

abbrev pub at_line : {A : Type 0} → ℕ → WrongLine → Result A WrongLog
at_line n w = Err (record { number = n; wrong = w })

-- what the board is made of, by the lines so far
abbrev pub plan_so_far : Draft → Plan
plan_so_far d = unwrap_or d.plan bench

-- a memory was told already
unfoldable pub is_told : space.Memory → List Told → Bool
is_told m [] = false
is_told m (t ∷ ts) = cond (is_memory t.memory m) true (is_told m ts)

-- the contents that are told are no longer than their memories, or else the first line with some that are is wrong
unfoldable pub checked : Plan → List Told → Result (Unit {0}) WrongLog
checked p [] = Ok tt
checked p (t ∷ ts) = cond (nat_lt (length_of p t.memory) (length t.bytes)) (at_line t.line (too_long t.memory)) (checked p ts)

-- before the first frame or tick the contents at the start are looked at
abbrev pub begin : Draft → Result Draft WrongLog
begin d = cond d.begun (Ok d) (after (checked (plan_so_far d) d.starts) (λ u. Ok (record d { begun = true })))

-- with what the board is made of, which one line may say
abbrev pub with_plan : ℕ → Draft → Plan → Result Draft WrongLog
with_plan n d p = cond d.begun (at_line n late) (cond (is_some d.plan) (at_line n second_board) (Ok (record d { plan = Some p })))

-- with the contents of a memory, which one line may tell
abbrev pub with_start : ℕ → Draft → space.Memory → List ℕ → Result Draft WrongLog
with_start n d m bytes =
    cond d.begun (at_line n late)
    (cond (is_told m d.starts) (at_line n (told_twice m))
    (Ok (record d { starts = d.starts ++ (record { line = n; memory = m; bytes = bytes } ∷ []) })))

-- with so many ticks, if they are not too many
abbrev pub with_ticks : ℕ → Draft → ℕ → Result Draft WrongLog
with_ticks n d t =
    cond (nat_le t d.left) (Ok (record d { left = d.left - t; events = d.events ++ replicate t tick })) (at_line n too_many_ticks)

-- with what a line says, which has the number n
abbrev pub added : ℕ → Draft → Saying → Result Draft WrongLog
added n d nothing = Ok d
added n d (board p) = with_plan n d p
added n d (start m bytes) = with_start n d m bytes
added n d (ticks t) = after (begin d) (λ e. with_ticks n e t)
added n d (happens h) = after (begin d) (λ e. Ok (record e { events = e.events ++ (h ∷ []) }))

-- what follows a line that is right, or the line and what is wrong with it
abbrev pub goes_on : {A : Type 0} → ℕ → Result Saying WrongLine → (Saying → Result A WrongLog) → Result A WrongLog
goes_on n (Ok s) go = go s
goes_on n (Err e) go = at_line n e

-- at the end of the lines the contents at the start are looked at, where no frame or tick was read
abbrev pub completed : Draft → Result Meant WrongLog
completed d = after (begin d) (λ e. Ok (record { plan = plan_so_far e; starts = e.starts; events = e.events }))

-- lines that follow n others, which have said d
unfoldable pub log_from : ℕ → Draft → List (List ℕ) → Result Meant WrongLog
log_from n d [] = completed d
log_from n d (l ∷ ls) = goes_on (n + 1) (said_of l) (λ s. after (added (n + 1) d s) (λ e. log_from (n + 1) e ls))

-- the log that a text means, or the first line that is wrong
abbrev pub log_of : List ℕ → Result Meant WrongLog
log_of text = log_from 0 blank (lines_of text)

-- a draft that the code has
abbrev pub draft_by : code.Draft → Draft
draft_by d = record { plan = d.plan; starts = map told_by d.starts.items; begun = d.begun; left = d.left; events = map event_by d.happenings.items }

-- a refusal that the code answered
abbrev pub refusal_by : Refusal → WrongLog
refusal_by r = record { number = r.number; wrong = wrong_by r.fault }

-- what the code answered, with the value as it is meant; nothing for want of memory
abbrev pub log_by : {A B : Type 0} → (A → B) → Result A LogError → Option (Result B WrongLog)
log_by f (Ok x) = Some (Ok (f x))
log_by f (Err (Refused r)) = Some (Err (refusal_by r))
log_by f (Err (Memory e)) = None
