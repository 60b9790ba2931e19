-- The newest store of a core in which no process is inside is that after the history.
use Rattle.std.proofs.Common.{◌≡◌, ◌||◌, Bool, true, false, cond, List, [], ◌∷◌, Some, None, map, refl, sym, ap, ◌∙◌}
use Rattle.std.specs.Prelude.{Ok}
use Rattle.std.specs.List.{list_any}
use Rattle.plain_store.specs.declared.Command.TheVariants.{Ask}
use Rattle.plain_store.specs.{Contents, Setup, callers_of, checked}
use Rattle.model.specs.store_image.{image_of, store_in}
use Rattle.model.specs.{AreGiven, Event, Past, history, inside, is_somebody_inside, newest, past_of, processes, store_after}
use Rattle.model.proofs.Width.{is_good}
use Rattle.laws.specs.{call, is_inside}
use Rattle.laws.proofs.FrameInside.{inside-is}
use Rattle.history_laws.proofs.Codec.{bytes_read, store_is_read}
use Rattle.history_laws.proofs.DataAlways.{data_of}
use Rattle.history_laws.proofs.DataMainTheorem as main_theorem
use Rattle.history_laws.proofs.Sound.{IsStoreOf}
use Rattle.process.specs.{newest_store}
use Rattle.process.proofs.NewestWith.{newest-with}
use Rattle.world.specs.{CoreState, InEachCorePast, Seat, seat_of, with_history}
use Rattle.world.specs.Shows.{Shows, WorldState}
use Rattle.world.proofs.WorldOpen.{core-shown}
use Rattle.world.proofs.WorldRegisters.{registers_at}

any-mapped : {A B : Type 0} (f : A → B) (t : B → Bool) (u : A → Bool) (xs : List A) → ((x : A) → t (f x) ≡ u x) → list_any t (map f xs) ≡ list_any u xs
any-mapped f t u [] same = refl
any-mapped f t u (x ∷ xs) same = λ i. same x i || any-mapped f t u xs same i

-- a process is inside, by the seats
inside-seats : (w : WorldState) (events : List Event) → Shows w events → list_any (λ (seat : Seat). is_inside seat.process.doing) w.seats ≡ is_somebody_inside w.setup (past_of w.setup events)
inside-seats w events shows =
    let s : Setup = w.setup in
    let past : Past = past_of s events in
    ap (λ (w : WorldState). list_any (λ (seat : Seat). is_inside seat.process.doing) w.seats) shows.shown
    ∙ any-mapped (seat_of s past) (λ (seat : Seat). is_inside seat.process.doing) (λ p. inside p past) (processes s)
    (λ p. sym (inside-is s (is_good s shows.good) events p))

-- the store that the registers hold
newest-store : (s : Setup) → checked s ≡ Ok tt → (events : List Event) → AreGiven s events → let past : Past = past_of s events in is_somebody_inside s past ≡ false → newest_store s (registers_at s past) ≡ store_after s (history s past)
newest-store s good events given none =
    let past : Past = past_of s events in
    let store : Contents = store_after s (history s past) in
    let sound : IsStoreOf s store = (data_of s good events given).kept.sound in
    newest-with s good past
    ∙ ap (store_in s.slots (callers_of s)) (main_theorem.newest s good events given none ∙ sym (bytes_read s store sound)) ∙ store_is_read (call s 0 Ask 0) store sound

-- there is no newest store while a process is inside
pub newest-none : (c : CoreState) → list_any (λ (seat : Seat). is_inside seat.process.doing) c.seats ≡ true → InEachCorePast c (λ s past. None ≡ newest s past)
newest-none c h taken events shows = ap (λ b. cond b None (Some (image_of (store_after c.setup (history c.setup (past_of c.setup events)))))) (sym (sym (inside-seats (with_history c taken) events shows) ∙ h))

-- it is the store after the history while no process is inside
pub newest-reported : (c : CoreState) (store : Contents) → list_any (λ (seat : Seat). is_inside seat.process.doing) c.seats ≡ false → store ≡ newest_store c.setup c.registers → InEachCorePast c (λ s past. Some (image_of store) ≡ newest s past)
newest-reported c store h is taken events shows =
    let s : Setup = c.setup in
    let outside = sym (inside-seats (with_history c taken) events shows) ∙ h in
    ap (λ store. Some (image_of store)) (is ∙ ap (λ (x : CoreState). newest_store s x.registers) (core-shown c taken events shows) ∙ newest-store s shows.good events shows.given outside)
    ∙ ap (λ b. cond b None (Some (image_of (store_after s (history s (past_of s events)))))) (sym outside)
