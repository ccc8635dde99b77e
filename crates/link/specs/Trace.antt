-- What is kept of the exchanges over a link.
use Rattle.std.specs.Prelude.{◌≡◌, ℕ, true, false, List, [], ◌∷◌, ◌++◌, Option}
use Rattle.link.specs.declared.trace.TracedFrame.{TracedFrame}
use Rattle.link.specs.declared.trace.Trace.{Trace}

-- a frame with its reply
abbrev pub traced_frame : List ℕ → Option (List ℕ) → TracedFrame
traced_frame f r = record { frame = f; reply = r }

-- what a frame with its reply makes of a trace: it comes behind the others, unless memory ran out, then or before
pub record Keeps (t : Trace) (f : List ℕ) (r : Option (List ℕ)) (u : Trace) : Type 0 where
  pub whole : u.is_cut ≡ false → t.is_cut ≡ false
  pub kept : u.is_cut ≡ false → u.frames.items ≡ t.frames.items ++ traced_frame f r ∷ []
  pub same : u.is_cut ≡ true → u.frames.items ≡ t.frames.items
