-- Each entry of a good trace is sound.
use Rattle.std.proofs.Common.{◌≡◌, ℕ, List, [], ◌∷◌, ◌++◌, Option, None, Some, length, refl, reverse, sym, ap, ◌∙◌}
use Rattle.trace.specs.{TraceEntry, TracePast, TraceSetup}
use Rattle.lock_stages.specs.{IsAloneInside}
use Rattle.lock_stages.proofs.Sound.{AreBelow, alone-on, enters-alone, enters-in-turn, more-below, none-below}
use Rattle.trace_judge.specs.{IsSound, MeansSound, TraceLaw, TraceVerdict, first_broken, lock_part, lock_past, verdict_after, verdict_of, verdict_with}
use Rattle.trace_judge.specs.declared.verdicts.TraceVerdict.TheVariants.{Good, Bad}
use Rattle.trace_judge.proofs.Unbroken.{is_none_of, keeps, process-exists}

-- the newest entry of a good past breaks no law, and those before it have a good verdict
pub record GoodOn (s : TraceSetup) (e : TraceEntry) (past : TracePast) : Type 0 where
  pub before : verdict_after s past ≡ Good
  pub unbroken : first_broken s past e ≡ None

unbroken_with : (k : ℕ) (o : Option TraceLaw) → verdict_with k o ≡ Good → o ≡ None
unbroken_with k None h = refl
unbroken_with k (Some l) h = absurd (let bad : Bad k l ≡ Good = h in cc)

pub good-on : (s : TraceSetup) (e : TraceEntry) (past : TracePast) → verdict_after s (e ∷ past) ≡ Good → GoodOn s e past
good-on s e past h = by (verdict_after s past) refl h
  where
    by : (v : TraceVerdict) → verdict_after s past ≡ v → elim v as (λ _. TraceVerdict) [ Good ↦ verdict_with (length past) (first_broken s past e) | Bad k l ↦ Bad k l ] ≡ Good → GoodOn s e past
    by Good is h = record { before = is; unbroken = unbroken_with (length past) (first_broken s past e) h }
    by (Bad k l) is h = absurd (let bad : Bad k l ≡ Good = h in cc)

-- what holds after a good past
record SoundSoFar (s : TraceSetup) (past : TracePast) : Type 0 where
  pub below : AreBelow s.processes (lock_past past)
  pub alone : IsAloneInside (lock_past past)

sound_so_far-on : (s : TraceSetup) (e : TraceEntry) (past : TracePast) → first_broken s past e ≡ None → SoundSoFar s past → SoundSoFar s (e ∷ past)
sound_so_far-on s e past unbroken at =
    let keep = keeps s past e unbroken in
    record {
      below = more-below s.processes (lock_part e) (lock_past past) (process-exists s past e (is_none_of _ keep.access)) at.below;
      alone = alone-on s.processes (lock_past past) (lock_part e) at.below keep.together at.alone;
    }

sound_so_far : (s : TraceSetup) (past : TracePast) → verdict_after s past ≡ Good → SoundSoFar s past
sound_so_far s [] h = record { below = none-below s.processes; alone = λ p q inside _. absurd (cc) }
sound_so_far s (e ∷ past) h = let good = good-on s e past h in sound_so_far-on s e past good.unbroken (sound_so_far s past good.before)

sound-at : (s : TraceSetup) (e : TraceEntry) (past : TracePast) → verdict_after s (e ∷ past) ≡ Good → IsSound past e
sound-at s e past h =
    let good = good-on s e past h in
    let at = sound_so_far s past good.before in
    let keep = keeps s past e good.unbroken in
    record {
      alone = (sound_so_far s (e ∷ past) h).alone;
      enters_alone = enters-alone s.processes (lock_past past) (lock_part e) at.below keep.together;
      in_turn = enters-in-turn s.processes (lock_past past) (lock_part e) at.below keep.overtaken;
    }

-- a good past ends in good ones
pub good-before : (s : TraceSetup) (later past : TracePast) → verdict_after s (later ++ past) ≡ Good → verdict_after s past ≡ Good
good-before s [] past h = h
good-before s (e ∷ later) past h = good-before s later past (good-on s e (later ++ past) h).before

pub sound-throughout : (s : TraceSetup) (past : TracePast) → verdict_after s past ≡ Good → (later earlier : TracePast) (e : TraceEntry) → past ≡ later ++ e ∷ earlier → IsSound earlier e
sound-throughout s past h later earlier e splits = sound-at s e earlier (good-before s later (e ∷ earlier) (ap (verdict_after s) (sym splits) ∙ h))

-- a verdict on a trace, if it is good
pub means-sound : (s : TraceSetup) (entries : List TraceEntry) (verdict : TraceVerdict) → verdict ≡ verdict_of s entries → MeansSound verdict entries
means-sound s entries verdict is good = sound-throughout s (reverse entries) (sym is ∙ good)
