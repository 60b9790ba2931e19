-- The state of the monitor after one more entry.
use Rattle.std.proofs.Common.{◌≡◌, ℕ, ◌<◌, ◌≤◌, Bool, true, false, ◌&&◌, nat_le, nat_lt, cond, List, ◌∷◌, Option, None, Some, length, option_map, Result, Ok, Err, IfOk, OnOk, is_ok, if◌then◌else◌, refl, sym, ap, ◌∙◌, subst, arith}
use Rattle.std.proofs.lemmas.Bool.{and_parts, ltb-true}
use Rattle.std.proofs.lemmas.Bool.Decides.{nat_tests}
use Rattle.laws.specs.{IsThere}
use Rattle.plain_store.specs.{Setup}
use Rattle.model.specs.{Access, Entry, Mark, Past, width}
use Rattle.record_accesses.specs.{HasBits, HasOpened, HasTaken, HasMonitored, IsPossible, MonitorState, Monitored, OpenBitAccess, WaveLimit, drops, entry_with, is_there, opened_taken, possible_access, possible_past, shown_access, shown_by, monitored, monitored_of, waves_after, waves_since}
use Rattle.record_accesses.proofs.OpenFacts.{opened-step, opened-still}
use Rattle.record_accesses.proofs.RowFacts.{bits-still}

-- An access that is possible.

there-parts : (s : Setup) (a : Access) → is_there s a ≡ true → IsThere s a
there-parts s a h =
    let all = and_parts _ _ h in
    let rest = and_parts _ _ all.1 in
    record { owner = ltb-true a.owner s.processes all.0; reader = ltb-true a.reader s.processes rest.0; bit = ltb-true a.bit (width s a.field) rest.1 }

pub possible-parts : (s : Setup) (p : ℕ) (o : Option Access) (a : Access) → possible_access s p o ≡ Some a → IsPossible s p a
possible-parts s p None a h = absurd (cc)
possible-parts s p (Some b) a h = by (nat_lt p s.processes && is_there s b) refl h
  where
    by : (t : Bool) → (nat_lt p s.processes && is_there s b) ≡ t → cond t (Some b) None ≡ Some a → IsPossible s p a
    by true is h =
        let same : b ≡ a = cc in
        let both = and_parts (nat_lt p s.processes) (is_there s b) is in
        record { process = ltb-true p s.processes both.0; bit = subst (λ (x : Access). IsThere s x) same (there-parts s b both.1) }
    by false is h = absurd (cc)

-- a process that does not exist makes no access
pub impossible : (s : Setup) (p : ℕ) (o : Option Access) → nat_lt p s.processes ≡ false → possible_access s p o ≡ None
impossible s p None h = refl
impossible s p (Some a) h = ap (λ t. cond (t && is_there s a) (Some a) None) h

-- Entries of any kind.

-- what is taken with an entry of a process that has a place
pub taken-next : (w new : MonitorState) (p number : ℕ) (o : Option Access) (drops_it : Bool) (marks : List Mark) (past : Past) → HasTaken w past → new.setup ≡ w.setup → new.limit ≡ w.limit → number ≡ length past →
    HasBits w.setup new.bits (entry_with p o marks ∷ past) → new.waves ≡ waves_after w.limit.from number new.bits.names o w.waves → new.opened ≡ opened_taken p number o drops_it w.opened → p < 16 → drops marks ≡ drops_it → HasTaken new (entry_with p o marks ∷ past)
taken-next w new p number o drops_it marks past taken setup limit is bits waves opened below drop = record {
  bits = subst (λ (s : Setup). HasBits s new.bits (entry_with p o marks ∷ past)) (sym setup) bits;
  waves = waves
      ∙ (λ i. waves_after w.limit.from (is i) (bits.names i) o (taken.waves i))
      ∙ ap (λ (l : WaveLimit). waves_since l.from (entry_with p o marks ∷ past)) (sym limit);
  opened = subst (λ (all : List (Option OpenBitAccess)). HasOpened all (entry_with p o marks ∷ past)) (sym opened)
      (opened-step w.opened p number o drops_it marks past below is drop taken.opened);
}

-- what is taken with an entry of a process that has none
pub taken-still : (w : MonitorState) (p : ℕ) (o : Option Access) (marks : List Mark) (past : Past) → o ≡ None → 16 ≤ p → HasTaken w past →
    HasTaken w (entry_with p o marks ∷ past)
taken-still w p o marks past none above taken = record {
  bits = subst (λ (o : Option Access). HasBits w.setup w.bits (entry_with p o marks ∷ past)) (sym none) (bits-still w.setup w.bits past p marks taken.bits);
  waves = subst (λ (o : Option Access). w.waves ≡ waves_since w.limit.from (entry_with p o marks ∷ past)) (sym none) taken.waves;
  opened = opened-still w.opened p o marks past (λ q within same. absurd (omega (arith, above, within, same))) taken.opened;
}

-- of such an entry nothing is shown
pub none-shown : (s : Setup) (limit : WaveLimit) (past : Past) (e : Entry) → nat_lt e.process s.processes ≡ false → monitored s limit past e ≡ None
none-shown s limit past e h = ap (λ t. cond t (monitored_of s limit past e e.access) None) h

-- a process that has no place does not exist
pub out-of-range : (s : Setup) (p : ℕ) → s.processes ≤ 16 → 16 ≤ p → nat_lt p s.processes ≡ false
out-of-range s p few above = grind (arith, nat_tests)

-- a monitor that has taken in one more entry has observed it
pub monitored-on : (w new : MonitorState) (s : Setup) (limit : WaveLimit) (past : Past) (p : ℕ) (access : Option Access) (marks : List Mark) → HasMonitored w s limit past → new.setup ≡ w.setup → new.limit ≡ w.limit →
    HasTaken new (entry_with p (possible_access w.setup p access) marks ∷ possible_past s past) → HasMonitored new s limit (entry_with p access marks ∷ past)
monitored-on w new s limit past p access marks h setup same taken = record {
  setup = setup ∙ h.setup;
  shows = same ∙ h.shows;
  taken = subst (λ (t : Setup). HasTaken new (entry_with p (possible_access t p access) marks ∷ possible_past s past)) h.setup taken;
}

-- what is shown of it
pub shown-on : (w : MonitorState) (from number : ℕ) (s : Setup) (limit : WaveLimit) (past : Past) (p : ℕ) (access : Option Access) (marks : List Mark) (o : Option Monitored) → HasMonitored w s limit past →
    from ≡ w.limit.from → number ≡ length past →
    o ≡ monitored w.setup w.limit (possible_past s past) (entry_with p (possible_access w.setup p access) marks) →
    option_map (shown_by (nat_le from number)) o ≡ shown_access s limit past (entry_with p access marks)
shown-on w from number s limit past p access marks o h begins is_next is =
    (λ i. option_map (shown_by (nat_le (begins i) (is_next i))) (is i))
    ∙ (λ i. option_map (shown_by (nat_le (h.shows i).from (length past))) (monitored (h.setup i) (h.shows i) (possible_past s past) (entry_with p (possible_access (h.setup i) p access) marks)))

-- Lists and results.

pub ok_items : {A E : Type 0} (r : Result A E) (new good old : List ℕ) → new ≡ (if is_ok r then good else old) → OnOk r (new ≡ good)
ok_items (Ok x) new good old h = h
ok_items (Err e) new good old h = tt

pub ok_then : {A E : Type 0} {P Q : A → Type 0} (r : Result A E) → ((x : A) → P x → Q x) → IfOk r P → IfOk r Q
ok_then (Ok x) f h = f x h
ok_then (Err e) f h = tt

pub ok_on : {A E : Type 0} {P Q : Type 0} (r : Result A E) → (P → Q) → OnOk r P → OnOk r Q
ok_on (Ok x) f h = f h
ok_on (Err e) f h = tt

pub ok_always : {A E : Type 0} {P : Type 0} (r : Result A E) → P → OnOk r P
ok_always (Ok x) h = h
ok_always (Err e) h = tt
