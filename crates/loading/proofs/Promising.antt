-- What is promised of a load over a link. Assumes nothing.
use Rattle.std.proofs.Common.{◌≡◌, ℕ, ◌⊎◌, List, [], Some, Ok, Err, refl, sym, ap, subst, ◌∙◌, inl, inr, arith}
use Rattle.std.specs.Prelude.{Option, None, Result}
use Rattle.bootloader.specs.Board.{Board}
use Rattle.bootloader.specs.BoardLaws.{BoardLaws}
use Rattle.bootloader.specs.BusLog.{BusLog}
use Rattle.bootloader.specs.Events.{Event}
use Rattle.link.specs.Link.{OneExchange}
use Rattle.srecord.specs.File.{File, HandsFile}
use Rattle.srecord.specs.Reading.{coming_of}
use Rattle.loader.specs.declared.file.Reason.TheVariants as reason
use Rattle.loader.specs.declared.file.Refusal.{Refusal}
use Rattle.loader.specs.declared.target.Target.{Target}
use Rattle.loader.specs.declared.target.Target.TheVariants as target
use Rattle.loader.specs.Law.{Judges, IsTarget}
use Rattle.loader.specs.Target.{target_of, number_of, size_of}
use Rattle.loader.specs.Verdict.{verdict, refusal_at}
use Rattle.session.specs.declared.failure.Failure.TheVariants as why
use Rattle.session.specs.Counting.{told_rise}
use Rattle.session.specs.SessionLaws.{SessionLaws}
use Rattle.loading.specs.declared.planning.Plan.{Plan}
use Rattle.loading.specs.declared.planning.Stop.{Stop}
use Rattle.loading.specs.declared.planning.Stop.TheVariants.{NoRow, Outside, Sending}
use Rattle.loading.specs.declared.report.Outcome.TheVariants as result
use Rattle.loading.specs.declared.report.Report.{Report}
use Rattle.loading.specs.Load.{Runs, Loads, IsBounded}
use Rattle.loading.specs.Loaded.{frames_of}
use Rattle.loading.specs.Plan.{width_at}
use Rattle.loading.specs.Promises.{IsHeard, Promises}
use Rattle.loading.specs.Report.{outcome_by}
use Rattle.loading.specs.Source.{SourceRecord, AreLoadable, records_in}
use Rattle.loading.specs.Texts.{refused_report, LoadsChecked, LoadsFor, LoadsText, IsBoundedText, IsJudged, RefusesFor, WritesSuited, Promised}
use Rattle.loading.proofs.Arriving.{loaded}
use Rattle.loading.proofs.Completing.{completes}
use Rattle.loading.proofs.Hearing.{Before, heard_by, untouched}
use Rattle.loading.proofs.Reporting.{reports}
use Rattle.loading.proofs.Texts.{accepted_loads}

-- only a good end is told as loaded
good_end : (r : Result Plan Stop) → outcome_by r ≡ result.Loaded → (plan : Plan) × (r ≡ Ok plan)
good_end (Ok plan) h = (plan, refl)
good_end (Err NoRow) h = absurd (grind arith)
good_end (Err (Outside line)) h = absurd (grind arith)
good_end (Err (Sending (why.Refused command code))) h = absurd (grind arith)
good_end (Err (Sending (why.Silent command))) h = absurd (grind arith)

-- what is told before the run
before_run : (r : Result Plan Stop) → (outcome_by r ≡ result.Unlisted) ⊎ ((line : ℕ) × (outcome_by r ≡ result.Outside line)) → Before r
before_run (Ok plan) (inl h) = absurd (grind arith)
before_run (Ok plan) (inr (line, h)) = absurd (grind arith)
before_run (Err NoRow) h = tt
before_run (Err (Outside line)) h = tt
before_run (Err (Sending (why.Refused command code))) (inl h) = absurd (grind arith)
before_run (Err (Sending (why.Refused command code))) (inr (line, h)) = absurd (grind arith)
before_run (Err (Sending (why.Silent command))) (inl h) = absurd (grind arith)
before_run (Err (Sending (why.Silent command))) (inr (line, h)) = absurd (grind arith)

-- a load that ran is not told as a file that was refused
not_file : (r : Result Plan Stop) (x : Refusal) → outcome_by r ≡ result.File x → ⊥
not_file (Ok plan) x h = grind arith
not_file (Err NoRow) x h = grind arith
not_file (Err (Outside line)) x h = grind arith
not_file (Err (Sending (why.Refused command code))) x h = grind arith
not_file (Err (Sending (why.Silent command))) x h = grind arith

-- how many bytes an address of a target stands for
width_of : (t : Target) (w : ℕ) → IsTarget (number_of t) (size_of t) w → w ≡ width_at t
width_of target.Flash w (inl h) = h.1
width_of target.Flash w (inr (inl e, low, high, h)) = absurd (omega (arith, e))
width_of target.Flash w (inr (inr e, low, high, h)) = absurd (omega (arith, e))
width_of (target.Boot n) w (inl h) = absurd (omega (arith, h.0))
width_of (target.Boot n) w (inr h) = h.3
width_of (target.Data n) w (inl h) = absurd (omega (arith, h.0))
width_of (target.Data n) w (inr h) = h.3

-- a text of which no file suits the target
abbrev NeverSuited : List ℕ → Option Target → Type 0
NeverSuited text None = Unit {0}
NeverSuited text (Some t) = (f : File) → WritesSuited text t f → ⊥

never_suited : (text : List ℕ) (t : Target) → Judges text (number_of t) (size_of t) (verdict text (number_of t) (size_of t)) → (x : Refusal) → verdict text (number_of t) (size_of t) ≡ Err x → NeverSuited text (Some t)
never_suited text t judges x e f w =
    let ok : verdict text (number_of t) (size_of t) ≡ Ok tt = (judges.accepts w.width f w.target w.short w.writes w.suits).0 in
    let clash : Ok tt ≡ Err x = sym ok ∙ e in
    grind arith

module _ (laws : BoardLaws) (bus : (b : Board) (es : List Event) → BusLog b es)
    {P : Type 0} (exchanged : P → List ℕ → Option (List ℕ) → P → Type 0) (exchanges : P → ℕ) (board : P → Board) (lossless : P → Type 0)
    (session : SessionLaws exchanged exchanges board lossless)
    (linked : (p q : P) (f : List ℕ) (r : Option (List ℕ)) → exchanged p f r q → OneExchange (lossless p) (lossless q) (board p) f r (board q)) where
  pub promises : (t : Target) (rs : List SourceRecord) (told : Report) (p q : P) → Loads exchanged t exchanges p rs told q → IsBounded exchanged p rs told q
      → Promises rs t (lossless p) told (board p) (board q)
  promises t rs told p q h few = record {
    loaded = λ u l s z.
        let end = good_end h.done (sym h.outcome ∙ z) in
        loaded laws exchanged exchanges board lossless session t rs end.0 told.sectors told.acknowledged p q (subst (λ r. Runs exchanged t p rs r told.sectors told.acknowledged q) end.1 h.runs) l (laws.sound (board p) s) u;
    completes = λ l u listed s awake lies seal.
        let k = completes laws exchanged exchanges board lossless session t rs h.done told.sectors told.acknowledged p q l h.runs listed (laws.sound (board p) s) awake u lies seal in
        (h.outcome ∙ ap outcome_by k.done, told_rise (exchanges p) (exchanges q) (frames_of rs) told.frames (omega (arith, few.frames)) k.rise h.frames);
    untouched = λ z. untouched laws exchanged exchanges board lossless session t p rs h.done told.sectors told.acknowledged q (before_run h.done (by z)) h.runs;
    reported = λ s id. reports laws exchanged exchanges board lossless session t p rs told q (laws.sound (board p) s) id h;
  }
    where
      by : (told.outcome ≡ result.Unlisted) ⊎ ((line : ℕ) × (told.outcome ≡ result.Outside line)) → (outcome_by h.done ≡ result.Unlisted) ⊎ ((line : ℕ) × (outcome_by h.done ≡ result.Outside line))
      by (inl e) = inl (sym h.outcome ∙ e)
      by (inr (line, e)) = inr (line, sym h.outcome ∙ e)

  -- a text that was refused
  refused_so : (text : List ℕ) (number size : ℕ) (x : Refusal) (told : Report) (p q : P) → RefusesFor text (target_of number size) x → NeverSuited text (target_of number size)
      → told ≡ refused_report x → q ≡ p → Promised text number size (lossless p) told (board p) (board q)
  refused_so text number size x told p q r never e h =
      let out : told.outcome ≡ result.File x = ap (λ k. k.outcome) e in
      record {
        refused = λ y k.
            let same : result.File x ≡ result.File y = sym out ∙ k in
            let equal : x ≡ y = grind arith in
            (subst (λ (z : Refusal). RefusesFor text (target_of number size) z) equal r, ap board h, ap (λ z. z.frames) e, ap (λ z. z.sectors) e, ap (λ z. z.acknowledged) e);
        accepted = inl (x, out);
        suited = λ t f o w. absurd (subst (λ z. NeverSuited text z) o never f w);
      }

  -- a text that was loaded
  loaded_so : (text : List ℕ) (number size : ℕ) (t : Target) (told : Report) (p q : P) → target_of number size ≡ Some t → verdict text (number_of t) (size_of t) ≡ Ok tt
      → Judges text (number_of t) (size_of t) (verdict text (number_of t) (size_of t)) → Loads exchanged t exchanges p (records_in text) told q → IsBounded exchanged p (records_in text) told q
      → Promised text number size (lossless p) told (board p) (board q)
  loaded_so text number size t told p q o v judges h few =
      let a = accepted_loads text (number_of t) (size_of t) (verdict text (number_of t) (size_of t)) judges v in
      let width : a.0 ≡ width_at t = width_of t a.0 a.1.width in
      let all : Promises (records_in text) t (lossless p) told (board p) (board q) =
      promises t (records_in text) told p q h few in
      record {
        refused = λ x k. absurd (not_file h.done x (sym h.outcome ∙ k));
        accepted = inr (t, a.1.file, o, record { width = a.0; target = a.1.width; short = (judges.accepted v).2; writes = a.1.holds.writes; suits = a.1.holds.suits }, a.1.holds.hands, subst (λ w. AreLoadable w (records_in text)) width a.1.loads, all);
        suited = λ u f k w. ((λ x e. not_file h.done x (sym h.outcome ∙ e)), hands u f k w);
      }
    where
      hands : (u : Target) (f : File) → target_of number size ≡ Some u → WritesSuited text u f → HandsFile (coming_of text).records f
      hands u f k w =
          let same : t ≡ u = let both : Some t ≡ Some u = sym o ∙ k in grind arith in
          let mine : WritesSuited text t f = subst (λ z. WritesSuited text z f) (sym same) w in
          (judges.accepts mine.width f mine.target mine.short mine.writes mine.suits).1

  pub promised : (text : List ℕ) (number size : ℕ) (told : Report) (p q : P) → IsJudged text (target_of number size) → LoadsText exchanged exchanges text number size p told q → IsBoundedText exchanged text p told q
      → Promised text number size (lossless p) told (board p) (board q)
  promised text number size told p q judged h few = by_target (target_of number size) refl judged h
    where
      by_verdict : (t : Target) → target_of number size ≡ Some t → Judges text (number_of t) (size_of t) (verdict text (number_of t) (size_of t))
          → (v : Result (Unit {0}) Refusal) → verdict text (number_of t) (size_of t) ≡ v → LoadsChecked exchanged exchanges text t v p told q → Promised text number size (lossless p) told (board p) (board q)
      by_verdict t o judges (Err x) e k =
          refused_so text number size x told p q (subst (λ z. RefusesFor text z x) (sym o) (judges.refused x e))
          (subst (λ z. NeverSuited text z) (sym o) (never_suited text t judges x e)) k.0 k.1
      by_verdict t o judges (Ok u) e k = loaded_so text number size t told p q o e judges k (bound few)
        where
          bound : IsBoundedText exchanged text p told q → IsBounded exchanged p (records_in text) told q
          bound (inl b) = absurd (not_file k.done b.0 (sym k.outcome ∙ ap (λ r. r.outcome) b.1))
          bound (inr b) = b

      by_target : (o : Option Target) → target_of number size ≡ o → IsJudged text o → LoadsFor exchanged exchanges text o p told q → Promised text number size (lossless p) told (board p) (board q)
      by_target None e j k = refused_so text number size (refusal_at reason.Target None) told p q (subst (λ z. RefusesFor text z (refusal_at reason.Target None)) (sym e) refl) (subst (λ z. NeverSuited text z) (sym e) tt) k.0 k.1
      by_target (Some t) e j k = by_verdict t e j (verdict text (number_of t) (size_of t)) refl k

  -- a load of a text is heard, also one that was refused
  pub heard_text : (text : List ℕ) (told : Report) (p q : P) → IsBoundedText exchanged text p told q → IsHeard exchanged board p q
  heard_text text told p q (inl h) = heard_by exchanged board lossless linked laws bus p [] q h.2
  heard_text text told p q (inr h) = heard_by exchanged board lossless linked laws bus p h.made q h.led
