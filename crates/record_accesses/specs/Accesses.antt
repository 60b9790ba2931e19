-- What a picture shows of the accesses of a record, good or bad, by look-backs over a past, whose newest entry comes first.
use Rattle.std.specs.Prelude.{ℕ, nat_le, nat_lt, Bool, false, ◌&&◌, List, [], ◌∷◌, cond, length, map, option_map, replicate, Option, None, Some}
use Rattle.std.specs.Option.{option_map_or}
use Rattle.picture_layout.specs.{AccessStep, GivenAccess, GivenChange}
use Rattle.record_file.specs.scenario.{bit_word}
use Rattle.picture_layout.specs.declared.accesses.AccessKind.TheVariants as kind
use Rattle.picture_layout.specs.declared.accesses.AccessStep.TheVariants as step
use Rattle.plain_store.specs.{Setup}
use Rattle.model.specs.safe_bit.{Move, is_write_open, last_written}
use Rattle.model.specs.safe_bit.declared.Move.TheVariants.{BeginWrite, EndWrite, BeginRead, EndRead, Settle}
use Rattle.model.specs.{Access, Entry, Past, moves_of, opening_bit, width}
use Rattle.record_file.specs.{copy_word}
use Rattle.picture_layout.specs.declared.limits.WaveLimit.{WaveLimit}
use Rattle.record_accesses.specs.declared.opened.OpenBitAccess.{OpenBitAccess}
use Rattle.record_accesses.specs.declared.monitored.DroppedRead.{DroppedRead}
use Rattle.record_accesses.specs.declared.monitored.BitChange.{BitChange}
use Rattle.record_accesses.specs.declared.monitored.Monitored.{Monitored}
use Rattle.record_accesses.specs.declared.monitored.Monitored.TheVariants.{Made, Dropped}
use Rattle.record_accesses.specs.declared.monitored.MonitoredBitAccess.{MonitoredBitAccess}
use Rattle.record_accesses.specs.Moves.{kind_of}
use Rattle.record_accesses.specs.Opened.{dropped, drops, opened, writes_bit}
use Rattle.record_accesses.specs.Overlaps.{first_overlaps}
use Rattle.record_accesses.specs.Rows.{row_in, waves_since}
use Rattle.record_accesses.specs.Waves.{change_of}
use Rattle.record_accesses.specs.Words.{words_of}

-- Which accesses are shown.

-- The bit of an access exists.
abbrev pub is_there : Setup → Access → Bool
is_there s a = nat_lt a.owner s.processes && (nat_lt a.reader s.processes && nat_lt a.bit (width s a.field))

-- An access of process p, if the process and the bit exist.
abbrev pub possible_access : Setup → ℕ → Option Access → Option Access
possible_access s p None = None
possible_access s p (Some a) = cond (nat_lt p s.processes && is_there s a) (Some a) None

-- An entry, without its access if that is not possible.
abbrev pub possible : Setup → Entry → Entry
possible s e = record { process = e.process; access = possible_access s e.process e.access; marks = e.marks }

abbrev pub possible_past : Setup → Past → Past
possible_past s past = map (possible s) past

-- What is shown of an access, in numbers. All accesses of the past are possible.

-- The part of its access that a move makes, where its process has this access open. A settling ends the write of its bit if that is
-- still open; otherwise it is a whole write.
abbrev pub step_by : Move → Bool → AccessStep
step_by (BeginWrite v) writes_it = step.Begin
step_by EndWrite writes_it = step.End
step_by BeginRead writes_it = step.Begin
step_by (EndRead v) writes_it = step.End
step_by (Settle v) writes_it = cond writes_it step.End step.Whole

abbrev pub step_of : Option OpenBitAccess → Access → AccessStep
step_of current a = step_by a.how (writes_bit current a)

-- The number of the entry with which an access began that this step makes: that of the access that the process has open if it ends,
-- otherwise that of this entry.
abbrev pub begin_of : AccessStep → Option OpenBitAccess → ℕ → ℕ
begin_of step.End current number = option_map_or (λ o. o.entry) current number
begin_of _ current number = number

-- The change of the wave of the bit of an entry's access.
abbrev pub change_by : Setup → WaveLimit → Past → Entry → Access → Option BitChange
change_by s limit past e a = change_of limit.count (row_in (waves_since limit.from (e ∷ past)) a) a.how
    (last_written (opening_bit s a) (moves_of a past))
    (last_written (opening_bit s a) (moves_of a (e ∷ past)))
    (is_write_open (moves_of a past))
    (is_write_open (moves_of a (e ∷ past)))

-- The access of an entry.
abbrev pub monitored_by : Setup → WaveLimit → Past → Entry → Access → MonitoredBitAccess
monitored_by s limit past e a = record {
  event = length past;
  process = e.process;
  access = a;
  step = step_of (opened e.process past) a;
  begin = begin_of (step_of (opened e.process past) a) (opened e.process past) (length past);
  written = last_written (opening_bit s a) (moves_of a past);
  overlaps = first_overlaps past a 16;
  change = change_by s limit past e a;
}

-- The read that an entry without an access drops.
abbrev pub dropped_as : ℕ → ℕ → OpenBitAccess → Monitored
dropped_as number p o = Dropped (record { event = number; process = p; read = o })

abbrev pub dropped_by : Past → Entry → Option Monitored
dropped_by past e = option_map (dropped_as (length past) e.process) (dropped (drops e.marks) (opened e.process past))

-- What is shown of an entry: its access, or the end of the read that it drops.
abbrev pub monitored_of : Setup → WaveLimit → Past → Entry → Option Access → Option Monitored
monitored_of s limit past e None = dropped_by past e
monitored_of s limit past e (Some a) = Some (Made (monitored_by s limit past e a))

-- The same, of an entry of a process that exists.
abbrev pub monitored : Setup → WaveLimit → Past → Entry → Option Monitored
monitored s limit past e = cond (nat_lt e.process s.processes) (monitored_of s limit past e e.access) None

-- What is shown, in words.

-- The change of the wave of a cell.
abbrev pub shown_change : List ℕ → BitChange → GivenChange
shown_change cell c = record { row = c.row; name = cell; old = bit_word c.old; value = bit_word c.value; was_open = c.was_open; is_open = c.is_open }

-- An access. Its cell is spelled as in a record file.
abbrev pub shown_made : MonitoredBitAccess → GivenAccess
shown_made w = record {
  event = w.event;
  process = w.process;
  kind = kind_of w.access.how;
  step = w.step;
  begin = w.begin;
  words = words_of w.written w.access.how;
  cell = copy_word w.access;
  overlaps = w.overlaps;
  change = option_map (shown_change (copy_word w.access)) w.change;
}

-- The end of a read that was dropped, which has no words.
abbrev pub shown_dropped : DroppedRead → GivenAccess
shown_dropped d = record {
  event = d.event;
  process = d.process;
  kind = kind.Read;
  step = step.End;
  begin = d.read.entry;
  words = [];
  cell = copy_word d.read.access;
  overlaps = replicate 16 false;
  change = None;
}

abbrev pub shown_as : Monitored → GivenAccess
shown_as (Made w) = shown_made w
shown_as (Dropped d) = shown_dropped d

-- An access, with its words and its cell only if a picture shows its entry. The left edge of a picture needs neither.
abbrev pub with_words_if : Bool → GivenAccess → GivenAccess
with_words_if shows access = record access { words = cond shows access.words []; cell = cond shows access.cell [] }

abbrev pub shown_by : Bool → Monitored → GivenAccess
shown_by shows w = with_words_if shows (shown_as w)

-- What a picture shows of the access of an entry, where these entries came before it. An access that is not possible is not shown, and
-- counts for nothing later. A picture shows the entries from that on from which it shows waves.
abbrev pub shown_access : Setup → WaveLimit → Past → Entry → Option GivenAccess
shown_access s limit past e =
    option_map (shown_by (nat_le limit.from (length past))) (monitored s limit (possible_past s past) (possible s e))
