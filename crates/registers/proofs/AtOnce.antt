-- The effect of whole words, as that of single accesses.
use Rattle.std.proofs.Common.{◌≡◌, ℕ, ◌+◌, ◌-◌, ◌*◌, ◌/◌, ◌%◌, ◌<◌, ◌≤◌, Bool, false, List, set, get_or, length, refl, subst, sym, ◌∙◌, arith, ap}
use Rattle.safe_bit.specs.Cell.{Cell}
use Rattle.reader_copies.specs.{after_read, after_write, cell_in, flag_in, over}
use Rattle.registers.specs.{AreAhead, CursorState, Fits, HasLanes, IsAtCopy, LeadsTo, RegisterAccessKind, cell_at, first_lane, lane_number, lane_of, more_bits}
use Rattle.registers.specs.declared.cursor.RegisterAccessKind.TheVariants.{Reads, Writes}
use Rattle.reader_copies.proofs.Over.{over-same}
use Rattle.registers.proofs.Iterates.{leads-same}
use Rattle.registers.proofs.Over.{lanes-same, more-same, over_lanes}
use Rattle.registers.proofs.Quiet.{here, reading_at, reads-quiet}
use Rattle.registers.proofs.Writes.{of_value, writes-whole, writing_at}

pub read-at_once : (n lane bit word : ℕ) (c new : CursorState) (memory : List (List Cell)) (copies done : List Cell) → c.run ≡ Reads → AreAhead c n → Fits memory c → lane ≡ first_lane c → bit ≡ c.bit → copies ≡ lane_of memory (first_lane c) →
    ((j : ℕ) → j < n → (cell_in copies (bit + j)).writing ≡ false) →
    ((j : ℕ) → j < n → flag_in word ((bit + j) % 64) ≡ (cell_in copies (bit + j)).value) →
    done ≡ over n (λ i x. after_read x) bit copies →
    new ≡ record c { bit = c.bit + n; bits = more_bits n (λ j. flag_in word ((c.bit + j) % 64)) c.bits } →
    LeadsTo (2 * n) c memory new (set memory lane done)
read-at_once n lane bit word c new memory copies done reads ahead fits first bit_is copies_is quiet word_is done_is new_is =
    let lane_is : lane ≡ here c = omega (arith, first, ahead.copy) in
    let copies_here : copies ≡ lane_of memory (here c) = copies_is ∙ ap (lane_of memory) (sym first ∙ lane_is) in
    let cell_is : (j : ℕ) → cell_in copies (bit + j) ≡ cell_at memory (here c) (c.bit + j) = λ j. (λ i. cell_in (copies_here i) (bit_is i + j)) in
    let wide : c.width ≤ length (lane_of memory (here c)) = fits.lanes.wide (here c) (omega arith) (omega (arith, fits.copy)) in
    let bits_are : more_bits n (λ j. flag_in word ((c.bit + j) % 64)) c.bits ≡ more_bits n (λ j. (cell_at memory (here c) (c.bit + j)).value) c.bits =
    more-same n (λ j. flag_in word ((c.bit + j) % 64)) (λ j. (cell_at memory (here c) (c.bit + j)).value) c.bits
    (λ j h. ap (λ b. flag_in word ((b + j) % 64)) (sym bit_is) ∙ word_is j h ∙ ap (λ (x : Cell). x.value) (cell_is j)) in
    let by = λ (run : RegisterAccessKind) (bit : ℕ) (begun : Bool) (bits : List Bool). let r : CursorState = record c { run = run; bit = bit; begun = begun; bits = bits } in r in
    leads-same (2 * n) (2 * n) (reading_at c c.bit c.bits) c _ new memory memory _ _ refl
    (λ i. by (sym reads i) c.bit (sym ahead.begun i) c.bits)
    refl
    (sym (new_is ∙ (λ i. by (reads i) (c.bit + n) (ahead.begun i) (bits_are i))))
    (sym (ap (set memory lane) done_is ∙ (λ i. set memory (lane_is i) (over n (λ i x. after_read x) (bit_is i) (copies_here i)))))
    (reads-quiet n c c.bit c.bits memory (omega (arith, fits.lanes.lanes, fits.copy)) (omega (arith, wide, ahead.inside))
    (λ j h. ap (λ (x : Cell). x.writing) (sym (cell_is j)) ∙ quiet j h))

-- a write has all copies, reader 0's first
pub lanes-written : (c : CursorState) (memory : List (List Cell)) → c.run ≡ Writes → Fits memory c → HasLanes memory (first_lane c) c.copies c.width
lanes-written c memory writes fits =
    let P : RegisterAccessKind → Type 0 = λ r. IsAtCopy r c.reader c.copy in
    let first : c.reader ≡ 0 = subst P writes fits.at in
    subst (λ reader. HasLanes memory (lane_number c.copies c.register reader) c.copies c.width) (sym first) fits.lanes

pub write-at_once : (n lane bit copies word : ℕ) (c new : CursorState) (memory now : List (List Cell)) → c.run ≡ Writes → AreAhead c n → Fits memory c → lane ≡ first_lane c → bit ≡ c.bit → copies ≡ c.copies →
    ((i : ℕ) → i / 64 ≡ c.bit / 64 → i < c.width → flag_in word (i % 64) ≡ get_or c.bits i false) →
    now ≡ over_lanes copies (over n (λ i x. after_write (flag_in word (i % 64)) x) bit) lane memory →
    new ≡ record c { bit = c.bit + n } →
    LeadsTo (2 * (copies * n)) c memory new now
write-at_once n lane bit copies word c new memory now writes ahead fits lane_is bit_is copies_is word_is now_is new_is =
    let f : ℕ → Cell → Cell = λ i x. after_write (flag_in word (i % 64)) x in
    let by = λ (run : RegisterAccessKind) (bit copy : ℕ) (begun : Bool). let w : CursorState = record c { run = run; bit = bit; copy = copy; begun = begun } in w in
    let written : now ≡ over_lanes c.copies (over n (of_value c.bits) c.bit) (first_lane c) memory =
    now_is ∙ (λ i. over_lanes (copies_is i) (over n f (bit_is i)) (lane_is i) memory)
    ∙ lanes-same c.copies (over n f c.bit) (over n (of_value c.bits) c.bit) (first_lane c) memory
    (λ x. over-same n f (of_value c.bits) c.bit x (λ j y h. ap (λ v. after_write v y) (word_is (c.bit + j) (omega (arith, ahead.word)) (omega (arith, ahead.inside))))) in
    leads-same (2 * (c.copies * n)) _ (writing_at c c.bit 0) c _ new memory memory _ now
    (ap (λ k. 2 * (k * n)) (sym copies_is))
    (λ i. by (sym writes i) c.bit (sym ahead.copy i) (sym ahead.begun i))
    refl
    (sym (new_is ∙ (λ i. by (writes i) (c.bit + n) (ahead.copy i) (ahead.begun i))))
    (sym written)
    (writes-whole n (c.copies - 1) c c.bit memory (omega (arith, fits.copy)) ahead.inside (lanes-written c memory writes fits))
