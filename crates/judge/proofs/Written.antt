-- The lines of reasons, as they are written one after another.
use Rattle.std.proofs.Common.{◌≡◌, ℕ, Bool, true, false, List, ◌++◌, Option, cond, codes, ap, ◌∙◌, append_assoc}
use Rattle.plain_store.specs.{Setup}
use Rattle.model.specs.{Entry, Event, Refusal, Stage, refused}
use Rattle.auditor.specs.world.{stage_in}
use Rattle.auditor.specs.{AuditorState, OfObserved}
use Rattle.judge.specs.Reasons.{Writes, event_or_step, is_crowded, may_lines, reason_lines, refusal_line, refused_line}
use Rattle.judge.specs.ReasonLines.{bad_lines, stage_line, word_line}
use Rattle.judge.proofs.Texts.{three}

-- the mark of its event is not alone
pub writes_crowded : (a : AuditorState) (e : Entry) (p : ℕ) (stage : Option Stage) (old new : List ℕ) → p ≡ e.process → OfObserved a (λ s past. stage ≡ stage_in s past p) → true ≡ is_crowded stage e →
    new ≡ old ++ word_line (codes "refused") (codes "not-alone") → Writes a (λ s past. refused_line s past e) old new
writes_crowded a e p stage old new of at crowded written = λ past observed few.
    let s : Setup = a.core.setup in
    let here : stage ≡ stage_in s past e.process = at past observed ∙ ap (stage_in s past) of in
    written ∙ ap (λ (b : Bool). old ++ cond b (word_line (codes "refused") (codes "not-alone")) (refusal_line (refused s past (event_or_step e)))) (crowded ∙ ap (λ (stage : Option Stage). is_crowded stage e) here)

-- otherwise the refusal is that of its event
pub writes_refusal : (a : AuditorState) (e : Entry) (p : ℕ) (stage : Option Stage) (event : Event) (refusal : Option Refusal) (old new : List ℕ) → p ≡ e.process → OfObserved a (λ s past. stage ≡ stage_in s past p) → false ≡ is_crowded stage e →
    event ≡ event_or_step e → OfObserved a (λ s past. refusal ≡ refused s past event) → new ≡ old ++ refusal_line refusal → Writes a (λ s past. refused_line s past e) old new
writes_refusal a e p stage event refusal old new of at alone reported is written = λ past observed few.
    let s : Setup = a.core.setup in
    let here : stage ≡ stage_in s past e.process = at past observed ∙ ap (stage_in s past) of in
    let why : refusal ≡ refused s past (event_or_step e) = is past observed ∙ ap (refused s past) reported in
    written ∙ ap (λ (r : Option Refusal). old ++ refusal_line r) why
    ∙ ap (λ (b : Bool). old ++ cond b (word_line (codes "refused") (codes "not-alone")) (refusal_line (refused s past (event_or_step e)))) (alone ∙ ap (λ (stage : Option Stage). is_crowded stage e) here)

-- all lines
pub writes_reasons : (a : AuditorState) (n : ℕ) (e : Entry) (p : ℕ) (stage : Option Stage) (old bad may why new : List ℕ) → p ≡ e.process → bad ≡ old ++ bad_lines n e → Writes a (λ s past. may_lines s past p) bad may → Writes a (λ s past. refused_line s past e) may why →
    OfObserved a (λ s past. stage ≡ stage_in s past p) → new ≡ why ++ stage_line stage → Writes a (λ s past. reason_lines s past n e) old new
writes_reasons a n e p stage old bad may why new of is_bad is_may is_why at is_stage = λ past observed few.
    let s : Setup = a.core.setup in
    let mays = may_lines s past e.process in
    let refusal = refused_line s past e in
    let text : may ≡ (old ++ bad_lines n e) ++ mays = is_may past observed few ∙ ap (λ p. bad ++ may_lines s past p) of ∙ ap (λ (t : List ℕ). t ++ mays) is_bad in
    let same_stage : stage ≡ stage_in s past e.process = at past observed ∙ ap (stage_in s past) of in
    is_stage ∙ ap (λ (stage : Option Stage). why ++ stage_line stage) same_stage
    ∙ ap (λ (t : List ℕ). t ++ stage_line (stage_in s past e.process)) (is_why past observed few ∙ ap (λ (t : List ℕ). t ++ refusal) text)
    ∙ three (old ++ bad_lines n e) mays refusal (stage_line (stage_in s past e.process))
    ∙ append_assoc old (bad_lines n e) (mays ++ (refusal ++ stage_line (stage_in s past e.process)))
