-- One history, and the main theorem, put together.
use Rattle.std.proofs.Common.{◌≡◌, List, [], ◌∷◌, ◌++◌, Option, None, Some, Ok, refl, ap, subst}
use Rattle.plain_store.specs.{Setup, checked}
use Rattle.model.specs.{AreGiven, Entry, Event, Past, entry_of, past_of}
use Rattle.model.specs.MainTheorem.{AnsweredCallsTakeNoMore, AnswersAreTaken, AnswersAreInHistory, AsksTheLatestChange, CallsTakeOnce, CallsTakeWhatTheyAnswer, CutCallsAreNotAnswered, MainTheorem, IsAlone, KeepsMainTheorem, KeepsMainTheoremThroughout, KeepsOrder, MutualExclusion, NoOvertaking, OneHistory, PlacesKeepOrder, TakenOnce, ReportsOfCutCalls}
use Rattle.model.proofs.Width.{is_good}
use Rattle.laws.proofs.Always.{inv_of}
use Rattle.laws.proofs.Theorems as lock
use Rattle.laws.proofs.DoorwayEnds.{full_names_the_lowest, waiters_read_none}
use Rattle.history_laws.proofs.Answered.{answered_whole, answers_in_history}
use Rattle.history_laws.proofs.Asked.{ask_answers, ask_reports}
use Rattle.history_laws.proofs.CallSpans.{before}
use Rattle.history_laws.proofs.DataMainTheorem.{full, taken, unoverlapped}
use Rattle.history_laws.proofs.DataMore.{images_of_the_store}
use Rattle.history_laws.proofs.Given.{given_before}
use Rattle.history_laws.proofs.Order as history

pub alone : MutualExclusion
alone s h events i j hi hj = lock.mutual_exclusion s (is_good s h) (inv_of s (is_good s h)) events i j hi hj

pub in_turn : NoOvertaking
in_turn s h events event e is enters j = lock.no_overtaking s (is_good s h) (inv_of s (is_good s h)) events event e is enters j

pub answers_are_taken : AnswersAreTaken
answers_are_taken s h events event e is a answered = history.answers_report s (is_good s h) events event e is a answered

pub answered_take_no_more : AnsweredCallsTakeNoMore
answered_take_no_more s h events later earlier e answering a is called among answered = answered_whole s (is_good s h) later events e answering earlier a is called among answered

pub in_history : AnswersAreInHistory
in_history s h events event e given is r answered = answers_in_history taken s h events event e given is r answered

pub taken_once : TakenOnce
taken_once s h events later earlier e is called = history.once s (is_good s h) later events e earlier is called

pub cut_calls : CutCallsAreNotAnswered
cut_calls s h events event e is a answered = history.cut_is_not_answered s (is_good s h) events event e is a answered

pub keeps_order : KeepsOrder
keeps_order s h events newer between earlier x y is first second ended k m q r takes_x takes_y = history.in_order s (is_good s h) events newer between earlier x y is first ended k m q r takes_x takes_y

pub history_is_one : OneHistory
history_is_one = record {
  taken = taken;
  answers = answers_are_taken;
  whole_calls = answered_take_no_more;
  in_history = in_history;
  once = taken_once;
  cut = cut_calls;
  order = keeps_order;
}

-- A property of the past of one more event is a property of the past with the entry that it adds.
with-entry : (s : Setup) (P : Past → Type 0) (events : List Event) (event : Event) (e : Entry) → entry_of s (past_of s events) event ≡ Some e → P (past_of s (event ∷ events)) → P (e ∷ past_of s events)
with-entry s P events event e is = subst P (ap (λ o. elim o as (λ _. Past) [ None ↦ past_of s events | Some x ↦ x ∷ past_of s events ]) is)

pub the_main_theorem : MainTheorem
the_main_theorem s h events event e given is = record {
  alone = with-entry s IsAlone events event e is (alone s h (event ∷ events));
  overtakes = in_turn s h events event e is;
  place = taken s h events event e given is;
  in_history = in_history s h events event e given is;
  answers = with-entry s CallsTakeWhatTheyAnswer events event e is (answered_take_no_more s h (event ∷ events));
  cut = cut_calls s h events event e is;
  once = with-entry s CallsTakeOnce events event e is (taken_once s h (event ∷ events));
  order = with-entry s PlacesKeepOrder events event e is (keeps_order s h (event ∷ events));
  unoverlapped = unoverlapped s h events event e is;
  images = images_of_the_store s h events event e given is;
  waits = waiters_read_none s (is_good s h) events event e is;
  tickets = full_names_the_lowest s (is_good s h) events event e is;
  stamps = full s h events event e given is;
  asks = with-entry s (AsksTheLatestChange s) events event e is (ask_answers taken s h (event ∷ events) given);
  reports = with-entry s (ReportsOfCutCalls s) events event e is (ask_reports taken s h (event ∷ events) given);
}

-- Each entry of a past keeps the main theorem: it was added by an event, to the past before it.
pub throughout : (s : Setup) → checked s ≡ Ok tt → (events : List Event) → AreGiven s events → KeepsMainTheoremThroughout s (past_of s events)
throughout s h [] given [] earlier e split = cc
throughout s h [] given (x ∷ later) earlier e split = cc
throughout s h (event ∷ events) given later earlier e split =
    go (entry_of s (past_of s events) event) refl (throughout s h events (given_before s event events given)) later split
  where
    Keeps : Type 0
    Keeps = KeepsMainTheorem s earlier e

    go : (o : Option Entry) → entry_of s (past_of s events) event ≡ o → KeepsMainTheoremThroughout s (past_of s events) → (later : Past) →
        elim o as (λ _. Past) [ None ↦ past_of s events | Some f ↦ f ∷ past_of s events ] ≡ later ++ e ∷ earlier → Keeps
    go None is before later split = before later earlier e split
    go (Some f) is before [] split =
        let same : f ≡ e = cc in
        let rest : past_of s events ≡ earlier = cc in
        subst (λ (p : Past). KeepsMainTheorem s p e) rest (subst (KeepsMainTheorem s (past_of s events)) same (the_main_theorem s h events event f given is))
    go (Some f) is before (x ∷ later) split = let rest : past_of s events ≡ later ++ e ∷ earlier = cc in before later earlier e rest
