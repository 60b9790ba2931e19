use Rattle.std.proofs.Common.{Some, [], ◌∷◌, ◌++◌, ap, option_map, refl, ◌∙◌, sym}
use Rattle.picture_layout.specs.{State, joined, seen, text_of}
use Rattle.picture.specs.{Page, held_back, lines_of, seen_page}
use Rattle.picture.proofs.Framing.{always, if_ok}
use Rattle.picture.proofs.Held.{joins_pending}
use Rattle.picture.proofs.Pagings.{begins_alone, does_not_join, none_to_join}
use Rattle.picture.proofs.Pagings as pagings
use Rattle.picture.proofs.page.Page.take.Goals.{in-Some+else-has_room_for, in_default}
use Rattle.picture.proofs.page.Page.take.Goals as goal

pub returns-clause-page : goal.returns-clause-page
returns-clause-page c =
    if_ok c.begin_column.result (λ full begun. begins_alone c.args.line (seen_page c.args.self.now) (seen_page c.match-self.self) (seen_page c.begin_column.new.self) c.in_ok-frees.frees full refl
    (elim c.match-self.branch [
      | in-Some+else-has_room_for w ↦ does_not_join c.args.line (seen w.in-Some.column) (option_map seen c.args.self.now.pending) (ap (option_map seen) w.in-Some.is) (sym w.has_room_for.ensures ∙ w.if-has_room_for.false)
      | in_default w ↦ none_to_join c.args.line (option_map seen c.args.self.now.pending) (ap (option_map seen) w.in_default.is)
    ])
    (elim c.match-self.branch [
      | in-Some+else-has_room_for w ↦ ap seen_page w.self-is ∙ (λ i. record (seen_page c.args.self.now) { state = c.in_ok-frees.ensures.whole i; pending = option_map seen (sym w.in-Some.is i) })
      | in_default w ↦ ap seen_page w.self-is ∙ ap (λ (s : State). record (seen_page c.args.self.now) { state = s }) c.in_ok-frees.ensures.whole
    ])
    c.in_ok-frees.ensures.frees begun) c.begin_column.ensures.page

pub returns-clause-lines : goal.returns-clause-lines
returns-clause-lines c =
    if_ok c.begin_column.result (λ full is. is ∙ ap (λ l. l ++ text_of c.args.line ∷ [])
    (elim c.match-self.branch [
      | in-Some+else-has_room_for w ↦ ap held_back w.self-is ∙ ap (lines_of c.args.self.now.columns.items) (sym w.in-Some.is)
      | in_default w ↦ ap held_back w.self-is
    ])) c.begin_column.ensures.lines

pub returns-clause-stages : goal.returns-clause-stages
returns-clause-stages c =
    always c.begin_column.result (ap (λ (s : State). s.stages) c.begin_column.ensures.state
    ∙ elim c.match-self.branch [
      | in-Some+else-has_room_for w ↦ ap (λ (p : Page). p.state.stages) w.self-is
      | in_default w ↦ ap (λ (p : Page). p.state.stages) w.self-is
    ]
    ∙ c.in_ok-frees.ensures.stages)

pub returns-clause-processes : goal.returns-clause-processes
returns-clause-processes c =
    ap (λ (s : State). s.processes) c.begin_column.ensures.state
    ∙ elim c.match-self.branch [
      | in-Some+else-has_room_for w ↦ ap (λ (p : Page). p.state.processes) w.self-is
      | in_default w ↦ ap (λ (p : Page). p.state.processes) w.self-is
    ]
    ∙ c.in_ok-frees.ensures.processes

pub returns-then-has_room_for-clause-page : goal.returns-then-has_room_for-clause-page
returns-then-has_room_for-clause-page c =
    pagings.joins_pending c.args.line (seen c.in-Some.column) (seen_page c.args.self.now) _ refl (ap (option_map seen) c.in-Some.is) (sym c.has_room_for.ensures ∙ c.if-has_room_for.true)
    (λ i. record (seen_page c.args.self.now) {
      state = c.in_ok-frees.ensures.whole i;
      pending = Some ((c.in_ok-join.ensures.whole ∙ (λ j. joined (seen c.in-Some.column) c.args.line (c.in_ok-frees.ensures.frees j) (c.in_ok-frees.ensures.whole j))) i);
    })

pub returns-then-has_room_for-clause-lines : goal.returns-then-has_room_for-clause-lines
returns-then-has_room_for-clause-lines c =
    joins_pending c.args.self.now.columns.items c.args.self.now.pending (Some c.join.new.self) c.in-Some.column c.join.new.self (text_of c.args.line) c.in-Some.is refl c.in_ok-join.ensures.reported

pub returns-then-has_room_for-clause-stages : goal.returns-then-has_room_for-clause-stages
returns-then-has_room_for-clause-stages c = c.in_ok-frees.ensures.stages
