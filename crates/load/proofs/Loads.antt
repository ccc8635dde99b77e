-- What is said of a text, by what came of its load. Assumes nothing.
use Rattle.std.proofs.Common.{◌≡◌, ◌<◌, ◌≤◌, ℕ, List, [], ◌++◌, length, None, Option, Result, Ok, Err, false, refl, inl, inr, ap, sym, subst, ◌∙◌}
use Rattle.std.specs.Result.{IfOk}
use Rattle.std.specs.declared.alloc.AllocError.{AllocError}
use Rattle.bootloader.specs.Board.{Board}
use Rattle.link.specs.Link.{Arrives}
use Rattle.loader.specs.declared.file.Reason.TheVariants.{TextSize}
use Rattle.loader.specs.declared.file.Refusal.{Refusal}
use Rattle.loader.specs.Verdict.{refusal_at}
use Rattle.loading.specs.declared.report.Report.{Report}
use Rattle.loading.specs.Load.{Exchange, Led, IsBounded}
use Rattle.loading.specs.Texts.{refused_report, LoadsText, IsBoundedText}
use Rattle.load.specs.declared.text.Loaded.{Loaded}
use Rattle.link.specs.declared.trace.Trace.{Trace}
use Rattle.link.specs.declared.trace.TracedFrame.{TracedFrame}
use Rattle.loading.specs.Examples.{bench}
use Rattle.load.specs.Text.{LoadsInto, LoadsBench, Tells, answered, behind, exchanges_of}
use Rattle.link.specs.Trace.{Keeps}
use Rattle.load.proofs.Traces.{Left, frames_left}

-- some exchanges were made, whether the file was refused or not
made_any : {P : Type 0} (exchanged : P → List ℕ → Option (List ℕ) → P → Type 0) (text : List ℕ) (p : P) (told : Report) (q : P)
    → IsBoundedText exchanged text p told q → (es : List Exchange) × Led exchanged p es q
made_any exchanged text p told q (inl h) = ([], h.2)
made_any exchanged text p told q (inr h) = (h.made, h.led)

module _ {P : Type 0} (exchanged : P → List ℕ → Option (List ℕ) → P → Type 0) (exchanges : P → ℕ) (board : P → Board) where
  too_long : (text : List ℕ) (told : Report) (x : Loaded) → 65536 < length text → told ≡ refused_report (refusal_at TextSize None) → Tells [] told x → LoadsInto exchanged exchanges board text x
  unfolding answered
  too_long text told x l e t = record {
    told = told;
    frames = [];
    load = inl (record { long = l; refused = e; none = refl });
    tells = t;
  }

  pub told_too_long : (text : List ℕ) (told : Report) (r : Result Loaded AllocError) → 65536 < length text → told ≡ refused_report (refusal_at TextSize None) → IfOk r (λ x. Tells [] told x) → IfOk r (λ x. LoadsInto exchanged exchanges board text x)
  told_too_long text told (Ok x) l e t = too_long text told x l e t
  told_too_long text told (Err e) l f t = tt

module _ {P : Type 0} (exchanged : P → List ℕ → Option (List ℕ) → P → Type 0) (exchanges : P → ℕ) (board : P → Board) (trace : P → Trace)
    (arrives : (p q : P) (f : List ℕ) (r : Option (List ℕ)) → exchanged p f r q → Arrives (board p) f r (board q))
    (keeps : (p q : P) (f : List ℕ) (r : Option (List ℕ)) → exchanged p f r q → Keeps (trace p) f r (trace q)) where
  loaded : (text : List ℕ) (told : Report) (p q : P) (xs : List TracedFrame) (x : Loaded)
      → length text ≤ 65536 → board p ≡ bench → (trace p).frames.items ≡ [] → (trace q).is_cut ≡ false
      → LoadsText exchanged exchanges text 0 0 p told q → IsBoundedText exchanged text p told q
      → xs ≡ (trace q).frames.items → Tells xs told x → LoadsInto exchanged exchanges board text x
  loaded text told p q xs x short fresh none whole loads bounded shown tells =
      let made = made_any exchanged text p told q bounded in
      let left = frames_left exchanged board trace arrives keeps p made.0 q made.1 whole in
      let fs = left.0 in
      let started : answered (board p) fs ≡ answered bench fs = ap (λ b. answered b fs) fresh in
      let all : xs ≡ answered bench fs = shown ∙ left.1.kept ∙ ap (λ ys. ys ++ answered (board p) fs) none ∙ started in
      record {
        told = told;
        frames = fs;
        load = inr (record {
          short = short;
          before = p;
          after = q;
          fresh = fresh;
          loads = loads;
          led = subst (λ es. Led exchanged p es q) (left.1.made ∙ ap exchanges_of started) made.1;
          left = left.1.board ∙ ap (λ b. behind b fs) fresh;
        });
        tells = subst (λ ys. Tells ys told x) all tells;
      }

  pub told_loaded : (text : List ℕ) (told : Report) (p q : P) (xs : List TracedFrame) (r : Result Loaded AllocError)
      → length text ≤ 65536 → board p ≡ bench → (trace p).frames.items ≡ [] → (trace q).is_cut ≡ false
      → LoadsText exchanged exchanges text 0 0 p told q → IsBoundedText exchanged text p told q
      → xs ≡ (trace q).frames.items → IfOk r (λ x. Tells xs told x) → IfOk r (λ x. LoadsInto exchanged exchanges board text x)
  told_loaded text told p q xs (Ok x) a b c d e f g t = loaded text told p q xs x a b c d e f g t
  told_loaded text told p q xs (Err e) a b c d l f g t = tt
