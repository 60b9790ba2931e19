-- Headings that appear once each.
use Rattle.std.proofs.Common.{◌≡◌, ℕ, ◌||◌, not, Bool, true, false, if◌then◌else◌, List, [], ◌∷◌, refl, ap, ◌∙◌, arith}
use Rattle.std.proofs.lemmas.Bool.{and_from, and_parts}
use Rattle.std.proofs.lemmas.Bool.Decides.{nat_tests}
use Rattle.std.specs.List.{list_all}
use Rattle.plain_store.specs.{Setup}
use Rattle.scenario.specs.{Given, Heading, and_given, is_given, same_heading, with_heading, with_headings}
use Rattle.scenario.specs.declared.keywords.Heading.TheVariants.{Processes, Tickets, Stamps, Slots}

-- a heading leaves the opening pairs and the version
pub heading_keeps : (h : Heading) (n : ℕ) (s : Setup) → (with_heading h n s).opening ≡ s.opening
heading_keeps Processes n s = refl
heading_keeps Tickets n s = refl
heading_keeps Stamps n s = refl
heading_keeps Slots n s = refl

pub version_keeps : (h : Heading) (n : ℕ) (s : Setup) → (with_heading h n s).version ≡ s.version
version_keeps Processes n s = refl
version_keeps Tickets n s = refl
version_keeps Stamps n s = refl
version_keeps Slots n s = refl

pub headings_keep : (hs : List (Heading × ℕ)) (s : Setup) → (with_headings hs s).version ≡ s.version
headings_keep [] s = refl
headings_keep (h ∷ hs) s = headings_keep hs (with_heading h.0 h.1 s) ∙ version_keeps h.0 h.1 s

pub opening_kept : (hs : List (Heading × ℕ)) (s : Setup) → (with_headings hs s).opening ≡ s.opening
opening_kept [] s = refl
opening_kept (h ∷ hs) s = opening_kept hs (with_heading h.0 h.1 s) ∙ heading_keeps h.0 h.1 s

-- which headings are given, one later
given_more : (h k : Heading) (g : Given) → is_given k (and_given h g) ≡ (same_heading h k || is_given k g)
given_more Processes Processes g = refl
given_more Processes Tickets g = refl
given_more Processes Stamps g = refl
given_more Processes Slots g = refl
given_more Tickets Processes g = refl
given_more Tickets Tickets g = refl
given_more Tickets Stamps g = refl
given_more Tickets Slots g = refl
given_more Stamps Processes g = refl
given_more Stamps Tickets g = refl
given_more Stamps Stamps g = refl
given_more Stamps Slots g = refl
given_more Slots Processes g = refl
given_more Slots Tickets g = refl
given_more Slots Stamps g = refl
given_more Slots Slots g = refl

-- none of these headings was given
abbrev pub are_free : Given → List (Heading × ℕ) → Bool
are_free g = list_all (λ k. not (is_given k.0 g))

-- all these headings differ from this one
abbrev pub are_others : Heading → List (Heading × ℕ) → Bool
are_others h = list_all (λ k. not (same_heading h k.0))

-- other headings that were not given were not given after this one, either
pub free_more : (h : Heading) (g : Given) (hs : List (Heading × ℕ)) → are_others h hs ≡ true → are_free g hs ≡ true → are_free (and_given h g) hs ≡ true
free_more h g [] others free = refl
free_more h g (k ∷ hs) others free =
    let other = and_parts (not (same_heading h k.0)) (are_others h hs) others in
    let now = and_parts (not (is_given k.0 g)) (are_free g hs) free in
    let is = given_more h k.0 g in
    let test : not (is_given k.0 (and_given h g)) ≡ true = grind (arith, nat_tests, is, other, now) in
    and_from _ _ test (free_more h g hs other.1 now.1)

-- the converse of this fact
pub free_less : (h : Heading) (g : Given) (hs : List (Heading × ℕ)) → are_free (and_given h g) hs ≡ true → (are_others h hs ≡ true) × (are_free g hs ≡ true)
free_less h g [] free = (refl, refl)
free_less h g (k ∷ hs) free =
    let now = and_parts (not (is_given k.0 (and_given h g))) (are_free (and_given h g) hs) free in
    let is = given_more h k.0 g in
    let other : not (same_heading h k.0) ≡ true = grind (arith, nat_tests, is, now) in
    let fresh : not (is_given k.0 g) ≡ true = grind (arith, nat_tests, is, now) in
    let more = free_less h g hs now.1 in
    (and_from _ _ other more.0, and_from _ _ fresh more.1)

-- the headings that are given after some headings
abbrev pub all_given : List (Heading × ℕ) → Given → Given
all_given [] g = g
all_given (h ∷ hs) g = all_given hs (and_given h.0 g)

-- the number of a heading
abbrev pub heading_in : Heading → Setup → ℕ
heading_in Processes s = s.processes
heading_in Tickets s = s.ticket_bits
heading_in Stamps s = s.stamp_bits
heading_in Slots s = s.slots

heading_set : (h k : Heading) (n : ℕ) (s : Setup) → heading_in h (with_heading k n s) ≡ (if same_heading h k then n else heading_in h s)
heading_set Processes Processes n s = refl
heading_set Processes Tickets n s = refl
heading_set Processes Stamps n s = refl
heading_set Processes Slots n s = refl
heading_set Tickets Processes n s = refl
heading_set Tickets Tickets n s = refl
heading_set Tickets Stamps n s = refl
heading_set Tickets Slots n s = refl
heading_set Stamps Processes n s = refl
heading_set Stamps Tickets n s = refl
heading_set Stamps Stamps n s = refl
heading_set Stamps Slots n s = refl
heading_set Slots Processes n s = refl
heading_set Slots Tickets n s = refl
heading_set Slots Stamps n s = refl
heading_set Slots Slots n s = refl

-- other headings keep the number of a heading
pub number_kept : (h : Heading) (hs : List (Heading × ℕ)) (s : Setup) → are_others h hs ≡ true → heading_in h (with_headings hs s) ≡ heading_in h s
number_kept h [] s others = refl
number_kept h (k ∷ hs) s others =
    let other = and_parts (not (same_heading h k.0)) (are_others h hs) others in
    let test : not (same_heading h k.0) ≡ true = other.0 in
    let differs : same_heading h k.0 ≡ false = grind (arith, nat_tests) in
    number_kept h hs (with_heading k.0 k.1 s) other.1 ∙ heading_set h k.0 k.1 s ∙ ap (λ t. if t then k.1 else heading_in h s) differs

-- the number that a heading sets
pub number_set : (h : Heading) (n : ℕ) (s : Setup) → heading_in h (with_heading h n s) ≡ n
number_set Processes n s = refl
number_set Tickets n s = refl
number_set Stamps n s = refl
number_set Slots n s = refl
