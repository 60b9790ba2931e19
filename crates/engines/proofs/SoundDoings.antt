-- The replies and answers in the state of a process fit, after any entries.
use Rattle.std.proofs.Common.{◌≡◌, ℕ, ◌≤◌, ◌==◌, Bool, true, false, cond, [], ◌∷◌, Option, Some, None, refl}
use Rattle.scenario_run.specs.model.{Access, Closing, Entry, Mark, Past, Place, Settles, closing_after, is_over, last_call, own, place_after, start_in, value_of, value_written}
use Rattle.plain_store.specs.{Command, Setup}
use Rattle.scenario_run.specs.model.declared.marks.Mark.TheVariants.{Called, Failed, Withdrew}
use Rattle.scenario_run.specs.laws.{Doing, Rests, Runs, Closes, call, closes, does_after, doing, goes_on, runs}
use Rattle.judge.proofs.record_file.SoundParts.{is_sound_closing, is_sound_part, sound_closing_after, sound_failing, sound_place}

abbrev pub is_sound_doing : Doing → Bool
is_sound_doing (Runs command number at) = is_sound_part at.part
is_sound_doing (Closes command number at) = is_sound_closing at
is_sound_doing _ = true

sound_runs : (command : Command) (number : ℕ) (at : Place) → is_sound_part at.part ≡ true → is_sound_doing (runs command number at) ≡ true
sound_runs command number at sound = by (is_over at.part)
  where
    by : (b : Bool) → is_sound_doing (cond b Rests (Runs command number at)) ≡ true
    by true = refl
    by false = sound

sound_closes : (command : Command) (number : ℕ) (at : Closing) → is_sound_closing at ≡ true → is_sound_doing (closes command number at) ≡ true
sound_closes command number (Settles field bit begun taken is t) sound = sound
sound_closes command number at sound = refl

sound_goes_on : (s : Setup) (p : ℕ) (e : Entry) (a : Option Access) (d : Doing) → s.processes ≤ 256 → is_sound_doing d ≡ true → is_sound_doing (goes_on s p e a d) ≡ true
sound_goes_on s p e None d few sound = refl
sound_goes_on s p e (Some a) (Runs command number at) few sound =
    sound_runs command number (place_after (call s p command number) at (value_of a.how)) (sound_place (call s p command number) at (value_of a.how) few sound)
sound_goes_on s p e (Some a) (Closes command number at) few sound =
    sound_closes command number (closing_after (call s p command number) at (value_written e)) (sound_closing_after (call s p command number) at (value_written e) sound)
sound_goes_on s p e (Some a) d few sound = refl

sound_does_after : (s : Setup) (p : ℕ) (mine : Past) (e : Entry) (begins : Option Mark) (d : Doing) → s.processes ≤ 256 → is_sound_doing d ≡ true → is_sound_doing (does_after s p mine e begins d) ≡ true
sound_does_after s p mine e None d few sound = sound_goes_on s p e e.access d few sound
sound_does_after s p mine e (Some (Called command)) d few sound = refl
sound_does_after s p mine e (Some Withdrew) d few sound = refl
sound_does_after s p mine e (Some Failed) d few sound = sound_failing (last_call s p mine) mine
sound_does_after s p mine e (Some m) d few sound = sound_goes_on s p e e.access d few sound

-- the state of a process fits
pub doing_sound : (s : Setup) (p : ℕ) (past : Past) → s.processes ≤ 256 → is_sound_doing (doing s p past) ≡ true
doing_sound s p [] few = refl
doing_sound s p (e ∷ past) few = by (e.process == p) (doing_sound s p past few)
  where
    by : (b : Bool) → is_sound_doing (doing s p past) ≡ true → is_sound_doing (cond b (does_after s p (own p past) e (start_in e.marks) (doing s p past)) (doing s p past)) ≡ true
    by true before = sound_does_after s p (own p past) e (start_in e.marks) (doing s p past) few before
    by false before = before
