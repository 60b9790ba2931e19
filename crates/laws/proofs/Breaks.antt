-- An access of a write shows nothing new: it breaks what its field showed, or leaves it.
use Rattle.std.proofs.Common.{◌≡◌, ◌≢◌, ℕ, suc, ◌<◌, Bool, true, false, refl, sym, ap, subst, arith}
use Rattle.model.specs.{Field, Past, field_number, image_field, stamp_field}
use Rattle.model.specs.declared.access.Field.TheVariants.{Choosing, Ticket, Commit, Stamp0, Stamp1, Image0, Image1}
use Rattle.plain_store.specs.{Setup}
use Rattle.laws.proofs.Notes.{Notes}
use Rattle.laws.proofs.Invariant.{Wires, Wire, Touches, Closed, bit, ticket_of, next_time}
use Rattle.laws.proofs.Owner.{ShowsNoMore, owner_shows_no_more}
use Rattle.laws.proofs.Ready.{Ready}
use Rattle.laws.proofs.Writing.{OneField}

-- Fields differ by their numbers.

pub ticket_not_choosing : Ticket ≢ Choosing
ticket_not_choosing h = let e : field_number Ticket ≡ 0 = ap field_number h in omega arith

pub choosing_not_ticket : Choosing ≢ Ticket
choosing_not_ticket h = ticket_not_choosing (sym h)

-- a field of the section: neither choosing nor the ticket
pub record OfSection (f : Field) : Type 0 where
  pub not_choosing : f ≢ Choosing
  pub not_ticket : f ≢ Ticket

above_one : (f : Field) → 1 < field_number f → OfSection f
above_one f above = record {
  not_choosing = λ h. let e : field_number f ≡ 0 = ap field_number h in omega arith;
  not_ticket = λ h. let e : field_number f ≡ 1 = ap field_number h in omega arith;
}

pub commit_of_section : OfSection Commit
commit_of_section = above_one Commit (omega arith)

pub stamp_of_section : (b : Bool) → OfSection (stamp_field b)
stamp_of_section true = above_one Stamp1 (omega arith)
stamp_of_section false = above_one Stamp0 (omega arith)

pub image_of_section : (b : Bool) → OfSection (image_field b)
image_of_section true = above_one Image1 (omega arith)
image_of_section false = above_one Image0 (omega arith)

-- the notes with another state of the announcement and the ticket, and another beginning of the announcement
abbrev pub within : Notes → (announced holds : Bool) (began : ℕ) → Notes
within n announced holds began = record n { announced = announced; holds = holds; began = began }

-- a write of field f leaves the announcement, or the ticket, only if f is another field; a process that is inside then was inside, and still holds its ticket
pub record Breaks (f : Field) (is is' : Bool) (n : Notes) (announced holds : Bool) (began : ℕ) : Type 0 where
  pub announced_was : announced ≡ true → n.announced ≡ true
  pub choosing_apart : announced ≡ true → Choosing ≢ f
  pub holds_was : holds ≡ true → n.holds ≡ true
  pub ticket_apart : holds ≡ true → Ticket ≢ f
  pub began_was : holds ≡ true → began ≡ n.began
  pub inside_was : is' ≡ true → is ≡ true
  pub inside_holds : is' ≡ true → holds ≡ true

-- the notes of p as an owner
shows_no_more : (p r : ℕ) (f : Field) (is is' : Bool) (n : Notes) (announced holds : Bool) (began : ℕ) (m m' : Wires) (t t' : ℕ → ℕ → Touches) → Breaks f is is' n announced holds began → OneField p f m m' t t' →
    ShowsNoMore n (within n announced holds began) (t p r) (t' p r)
shows_no_more p r f is is' n announced holds began m m' t t' b one = record {
  announced = b.announced_was;
  announced_at = refl;
  holds = b.holds_was;
  ticket = refl;
  held_at = refl;
  choosing_marks = λ e k. ap (λ y. y k) (one.touches r Choosing (b.choosing_apart e));
  ticket_marks = λ e k. ap (λ y. y k) (one.touches r Ticket (b.ticket_apart e));
}

-- an access of a write keeps all of the own part except its place
pub ready_breaks : (s : Setup) (past : Past) (p : ℕ) (f : Field) (is is' : Bool) (n : Notes) (announced holds : Bool) (began : ℕ) (m m' : Wires) (t t' : ℕ → ℕ → Touches) →
    Breaks f is is' n announced holds began → OneField p f m m' t t' → began < suc (next_time past) → Ready s past p is n m t → Ready s past p is' (within n announced holds began) m' t'
ready_breaks s past p f is is' n announced holds began m m' t t' b one early r = record {
  times = record {
    announced_at_past = r.times.announced_at_past;
    held_at_past = r.times.held_at_past;
    began_past = early;
    ended_past = r.times.ended_past;
    since_past = r.times.since_past;
    choosing_past = r.times.choosing_past;
    asked_past = r.times.asked_past;
    let_past = r.times.let_past;
  };
  whole = record {
    choosing = λ e c below. subst (λ (y : ℕ → ℕ → Wire). Closed (y 0 c) true) (sym (one.wires Choosing (b.choosing_apart e))) (r.whole.choosing (b.announced_was e) c below);
    ticket_whole = λ e k c low below. subst (λ (y : ℕ → ℕ → Wire). Closed (y k c) (bit (ticket_of s n.ticket) k)) (sym (one.wires Ticket (b.ticket_apart e))) (r.whole.ticket_whole (b.holds_was e) k c low below);
  };
  senior = record {
    fits = λ e. r.senior.fits (b.holds_was e);
    positive = λ e. r.senior.positive (b.holds_was e);
    began_before = λ e. let same = b.began_was e in let was = r.senior.began_before (b.holds_was e) in omega arith;
    from = λ e. r.senior.from (b.holds_was e);
    above = λ e. r.senior.above (b.holds_was e);
    held = b.inside_holds;
    passed = λ e. r.senior.passed (b.inside_was e);
  };
  knows = r.knows;
  owner = λ q below ne. owner_shows_no_more s p _ _ _ _ _ _ (shows_no_more p q f is is' n announced holds began m m' t t' b one) (r.owner q below ne);
}
