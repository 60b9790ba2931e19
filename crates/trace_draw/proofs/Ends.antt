-- A trace file that is read, judged and drawn line by line, and how that ends.
use Rattle.std.proofs.Common.{◌≡◌, ℕ, ◌+◌, ◌≤◌, Bool, false, List, [], ◌∷◌, ◌++◌, Option, Some, None, Err, IfSome, IsSome, refl, ap, sym, subst, ◌∙◌}
use Rattle.std.specs.Io.KnownBytes.{IsAtEnd}
use Rattle.files.specs.{Fault, Given, LineState, TakesNext, UnlessMemory, coming, failed_reading}
use Rattle.files.specs.declared.faults.Fault.TheVariants as fault
use Rattle.files.specs.declared.faults.FaultKind.TheVariants.{NotFirst}
use Rattle.draw.specs.{IsWriteFault, LineStops}
use Rattle.trace.specs.{TraceEntry, TraceSetup}
use Rattle.trace_engine.specs.trace_file.TraceFiles.{TraceProgress, line_read, trace_said}
use Rattle.trace_engine.specs.{IsOfTrace, IsTraceFault, Observes, ObservesAt, count_by}
use Rattle.trace_engine.proofs.Ends.{Onwards, onwards_all, onwards_fault, onwards_few, onwards_none, onwards_on, onwards_start}
use Rattle.trace_engine.proofs.Trials.{unless_then}
use Rattle.trace_draw.specs.{DrawnTrace, DrawsAllBands, DrawsLine, EndsSheet, EndsTrace, HasShown, IsDrawFault, IsReported, NothingYet, SoFar, Corresponds, TracePicture, TraceView, count_of, with_output}
use Rattle.trace_draw.proofs.Shown.{shown_count}

-- the picture exists
pub some_shown : (now : Option (List ℕ)) (o : Option TracePicture) → IsSome o → IsSome (with_output now o)
some_shown now None some = some
some_shown now (Some picture) some = refl

pub nothing_more : (o : Option TracePicture) (first now : Option (List ℕ)) → IsSome o → NothingYet o first now
nothing_more None first now some = absurd (cc)
nothing_more (Some picture) first now some = tt

count_with : (now : Option (List ℕ)) (o : Option TracePicture) → count_by (λ (h : SoFar). count_of h.0) (with_output now o) ≡ count_by count_of o
count_with now None = refl
count_with now (Some picture) = refl

-- an option has at most one value
pub same_some : (o : Option TraceProgress) (p q : TraceProgress) → o ≡ Some p → o ≡ Some q → p ≡ q
same_some o p q is other = let both : Some p ≡ Some q = sym is ∙ other in cc

-- the observations that hold for what was read hold for the setup that was read
pub observes_at : (view : TraceView) (first now : Option (List ℕ)) (picture : Option TracePicture) (p : TraceProgress) (s : TraceSetup) (entries : List TraceEntry) (numbers : List ℕ) → p.setup ≡ s →
    ObservesAt (HasShown view first) (with_output now picture) (Some p) entries numbers → Observes (HasShown view first) (with_output now picture) s entries numbers
observes_at view first now None p s entries numbers same observed = observed
observes_at view first now (Some picture) p s entries numbers same observed = subst (λ (s : TraceSetup). HasShown view first (picture, now) s entries numbers) same observed.1

-- the first entry begins the picture
pub begun_with : (view : TraceView) (none : Option TracePicture) (picture : TracePicture) (s : TraceSetup) (e : TraceEntry) (n : ℕ) (old new : Option (List ℕ)) → none ≡ None → HasShown view old (picture, new) s (e ∷ []) (n ∷ []) →
    (first : Option (List ℕ)) (entries : List TraceEntry) (numbers : List ℕ) → NothingYet none first old → Observes (HasShown view first) (with_output old none) s entries numbers → HasShown view first (picture, new) s (entries ++ e ∷ []) (numbers ++ n ∷ [])
begun_with view None picture s e n old new is shown first entries numbers nothing observed =
    subst (λ (l : List TraceEntry). HasShown view first (picture, new) s (l ++ e ∷ []) (numbers ++ n ∷ [])) (sym observed.0)
    (subst (λ (l : List ℕ). HasShown view first (picture, new) s (e ∷ []) (l ++ n ∷ [])) (sym observed.1)
    (subst (λ (f : Option (List ℕ)). HasShown view f (picture, new) s (e ∷ []) (n ∷ [])) nothing shown))
begun_with view (Some other) picture s e n old new is shown first entries numbers nothing observed = absurd (cc)

-- or a picture of no entries is begun
pub begun_first : (view : TraceView) (none : Option TracePicture) (picture : TracePicture) (s : TraceSetup) (old new : Option (List ℕ)) → none ≡ None → HasShown view old (picture, new) s [] [] →
    (first : Option (List ℕ)) (entries : List TraceEntry) (numbers : List ℕ) → NothingYet none first old → Observes (HasShown view first) (with_output old none) s entries numbers → HasShown view first (picture, new) s entries numbers
begun_first view None picture s old new is shown first entries numbers nothing observed =
    subst (λ (l : List TraceEntry). HasShown view first (picture, new) s l numbers) (sym observed.0)
    (subst (λ (l : List ℕ). HasShown view first (picture, new) s [] l) (sym observed.1)
    (subst (λ (f : Option (List ℕ)). HasShown view f (picture, new) s [] []) nothing shown))
begun_first view (Some other) picture s old new is shown first entries numbers nothing observed = absurd (cc)

-- the reader exists
pub read_some : (o : Option TraceProgress) → IsSome o → (p : TraceProgress) × (o ≡ Some p)
read_some None some = absurd (cc)
read_some (Some p) some = (p, refl)

module _ (view : TraceView) where
  -- the entries that were read, judged and drawn so far; reading the rest gives what reading the whole text gives
  pub record DrawnUpTo (to_come rest : Option (List ℕ)) (taken : ℕ) (reader : Option TraceProgress) (picture : Option TracePicture) (first now : Option (List ℕ)) : Type 0 where
    pub onwards : Onwards (HasShown view first) to_come rest taken reader (with_output now picture)
    pub nothing : NothingYet picture first now

  -- so the reader and the picture correspond to what was read
  corresponds_at : (to_come rest : Option (List ℕ)) (taken : ℕ) (reader : Option TraceProgress) (picture : Option TracePicture) (first now : Option (List ℕ)) (u : DrawnUpTo to_come rest taken reader picture first now) → Corresponds view reader picture first now u.onwards.before u.onwards.entries u.onwards.numbers
  corresponds_at to_come rest taken reader picture first now u = record { read_up_to = u.onwards.read_up_to; nothing = u.nothing }

  -- before the first line
  pub drawn_start : (to_come : Option (List ℕ)) (ahead : Given) (taken : ℕ) (reader : Option TraceProgress) (picture : Option TracePicture) (first : Option (List ℕ)) → ahead.bytes ≡ [] → ahead.ended ≡ false → taken ≡ 0 → Corresponds view reader picture first first None [] [] →
      DrawnUpTo to_come (coming ahead to_come) taken reader picture first first
  drawn_start to_come ahead taken reader picture first fresh open_yet none corresponds = record {
    onwards = onwards_start (HasShown view first) to_come ahead taken reader (with_output first picture) fresh open_yet none corresponds.read_up_to;
    nothing = corresponds.nothing;
  }

  -- at most as many entries are drawn as lines were taken
  pub drawn_few : (to_come rest : Option (List ℕ)) (taken : ℕ) (reader : Option TraceProgress) (picture : Option TracePicture) (first now : Option (List ℕ)) → DrawnUpTo to_come rest taken reader picture first now → count_by count_of picture ≤ taken
  drawn_few to_come rest taken reader picture first now u =
      let few = onwards_few (HasShown view first) (λ (h : SoFar). count_of h.0) (shown_count view first) to_come rest taken reader (with_output now picture) u.onwards in
      subst (λ n. n ≤ taken) (count_with now picture) few

  -- one more line
  pub drawn_on : (to_come mid rest : Option (List ℕ)) (l l' : LineState) (n : ℕ) (line : List ℕ) (reader reader' : Option TraceProgress) (picture picture' : Option TracePicture) (first now then : Option (List ℕ)) (u : DrawnUpTo to_come mid l.taken reader picture first now) → TakesNext l l' mid rest →
      n ≡ l'.taken → line ≡ l'.line → DrawsLine view reader picture now reader' picture' then n line → DrawnUpTo to_come rest l'.taken reader' picture' first then
  drawn_on to_come mid rest l l' n line reader reader' picture picture' first now then u takes number is draws =
      let v = u.onwards in
      let on = subst (λ (line : List ℕ). DrawsLine view reader picture now reader' picture' then l'.taken line) is (subst (λ n. DrawsLine view reader picture now reader' picture' then n line) number draws)
      first v.before v.entries v.numbers (corresponds_at to_come mid l.taken reader picture first now u) in
      record {
        onwards = onwards_on (HasShown view first) to_come mid rest l l' reader reader' (with_output now picture) (with_output then picture') v takes on.goes_on;
        nothing = on.nothing;
      }

  -- a line with a fault
  pub drawn_fault : (to_come mid rest : Option (List ℕ)) (l l' : LineState) (n : ℕ) (line : List ℕ) (reader : Option TraceProgress) (picture : Option TracePicture) (first now : Option (List ℕ)) (e : Fault) → DrawnUpTo to_come mid l.taken reader picture first now → TakesNext l l' mid rest → n ≡ l'.taken → line ≡ l'.line →
      LineStops e n (λ kind. (before : Option TraceProgress) → reader ≡ before → line_read line before ≡ Err kind) → IsDrawFault e to_come
  drawn_fault to_come mid rest l l' n line reader picture first now fault.Read u takes number is stops = tt
  drawn_fault to_come mid rest l l' n line reader picture first now fault.Write u takes number is stops = tt
  drawn_fault to_come mid rest l l' n line reader picture first now fault.Memory u takes number is stops = tt
  drawn_fault to_come mid rest l l' n line reader picture first now (fault.Line f) u takes number is stops =
      let v = u.onwards in
      subst (λ (k : ℕ). IfSome to_come (λ text. UnlessMemory f.kind (trace_said text ≡ Err (record { line = k; kind = f.kind })))) (sym (stops.0 ∙ number))
      (onwards_fault (HasShown view first) to_come mid rest l l' reader (with_output now picture) f.kind v takes
      (unless_then f.kind (λ (is_so : (before : Option TraceProgress) → reader ≡ before → line_read line before ≡ Err f.kind). ap (λ (line : List ℕ). line_read line v.before) (sym is) ∙ is_so v.before v.read_up_to.read) stops.1))

  -- all lines were skipped
  pub drawn_none : (to_come mid : Option (List ℕ)) (taken : ℕ) (reader : Option TraceProgress) (picture : Option TracePicture) (first now : Option (List ℕ)) → DrawnUpTo to_come mid taken reader picture first now → reader ≡ None → IsAtEnd mid →
      IfSome to_come (λ text. trace_said text ≡ Err (record { line = taken + 1; kind = NotFirst }))
  drawn_none to_come mid taken reader picture first now u none end =
      onwards_none (HasShown view first) to_come mid taken reader (with_output now picture) u.onwards (sym u.onwards.read_up_to.read ∙ none) end

  -- all lines were read, and all bands drawn
  pub drawn_all : (to_come mid : Option (List ℕ)) (taken : ℕ) (reader : Option TraceProgress) (picture : Option TracePicture) (first now then : Option (List ℕ)) (u : DrawnUpTo to_come mid taken reader picture first now) (p : TraceProgress) (d : DrawnTrace) → reader ≡ Some p →
      EndsSheet view d reader picture now then → IsAtEnd mid → IfSome to_come (DrawsAllBands view d first then)
  drawn_all to_come mid taken reader picture first now then u p d is ends end =
      let v = u.onwards in
      let before : v.before ≡ Some p = sym v.read_up_to.read ∙ is in
      let corresponds = subst (λ (o : Option TraceProgress). Corresponds view reader picture first now o v.entries v.numbers) before (corresponds_at to_come mid taken reader picture first now u) in
      onwards_all (HasShown view first) (IsReported view.judged (λ s shown reported. EndsTrace view.form view.options d s shown reported first then) d.status) to_come mid taken reader (with_output now picture) v p before (ends first p v.entries v.numbers corresponds) end

-- a fault of what the input says is such a fault of the drawing
pub input_fault : (e : Fault) (to_come : Option (List ℕ)) → IsTraceFault e to_come → IsDrawFault e to_come
input_fault (fault.Line f) to_come why = why
input_fault fault.Read to_come why = tt
input_fault fault.Write to_come why = tt
input_fault fault.Memory to_come why = tt

-- The last write.

-- a consequence for a trace that a text says
pub of_trace_then : (P Q : TraceSetup → List TraceEntry → List ℕ → Type 0) (text : List ℕ) → ((s : TraceSetup) (entries : List TraceEntry) (numbers : List ℕ) → P s entries numbers → Q s entries numbers) → IsOfTrace P text → IsOfTrace Q text
of_trace_then P Q text then is = record { said = is.said; says = is.says; holds = then is.said.setup is.said.entries is.said.numbers is.holds }

reported_then : (judged : Bool) (P Q : TraceSetup → List TraceEntry → List ℕ → Type 0) (status : ℕ) → ((s : TraceSetup) (shown : List TraceEntry) (reported : List ℕ) → P s shown reported → Q s shown reported) → (s : TraceSetup) (entries : List TraceEntry) (numbers : List ℕ) →
    IsReported judged P status s entries numbers → IsReported judged Q status s entries numbers
reported_then judged P Q status then s entries numbers is = record { reported = is.reported; reports = is.reports; is = then s _ is.reported is.is }

pub all_reported : (judged : Bool) (P Q : TraceSetup → List TraceEntry → List ℕ → Type 0) (status : ℕ) → ((s : TraceSetup) (shown : List TraceEntry) (reported : List ℕ) → P s shown reported → Q s shown reported) → (o : Option (List ℕ)) →
    IfSome o (IsOfTrace (IsReported judged P status)) → IfSome o (IsOfTrace (IsReported judged Q status))
all_reported judged P Q status then None is = tt
all_reported judged P Q status then (Some text) is = of_trace_then (IsReported judged P status) (IsReported judged Q status) text (reported_then judged P Q status then) is

-- A call that writes fails neither by a fault of the input nor by a read.
pub write_fault : (e : Fault) (to_come : Option (List ℕ)) → IsWriteFault e → IsDrawFault e to_come
write_fault (fault.Line f) to_come why = absurd why
write_fault fault.Read to_come why = tt
write_fault fault.Write to_come why = tt
write_fault fault.Memory to_come why = tt

pub write_read : (e : Fault) → IsWriteFault e → failed_reading {A = Unit {0}} (Err e) ≡ 0
write_read (fault.Line f) why = absurd why
write_read fault.Read why = absurd why
write_read fault.Write why = refl
write_read fault.Memory why = refl
