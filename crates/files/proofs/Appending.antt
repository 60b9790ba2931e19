-- Bytes that are written or read in pieces.
use Rattle.std.proofs.Common.{◌≡◌, ℕ, ◌+◌, ◌≤◌, ◌<◌, false, if◌then◌else◌, List, [], ◌∷◌, ◌++◌, arith, Option, Some, None, Result, Ok, Err, length, take, drop, slice_set, refl, ap, sym, ◌∙◌, append_assoc, take-add}
use Rattle.std.proofs.lemmas.List.{take_all, length-append}
use Rattle.std.specs.Io.{ReadsAtMost}
use Rattle.std.specs.Io.KnownBytes.{Appends, Consumes, Keeps}
use Rattle.std.specs.Result.{is_err, is_ok}
use Rattle.files.specs.{Failed, ReadsFront, WritesFront, input_limit}

-- one piece and then the next
pub appends_more : (a b c : Option (List ℕ)) (bytes : List ℕ) (at n : ℕ) → Appends a b (take at bytes) → Appends b c (take n (drop at bytes)) → Appends a c (take (at + n) bytes)
appends_more None b c bytes at n first next = tt
appends_more (Some xs) (Some ys) (Some zs) bytes at n first next = next ∙ ap (λ front. front ++ take n (drop at bytes)) first ∙ append_assoc xs (take at bytes) (take n (drop at bytes)) ∙ ap (λ front. xs ++ front) (sym (take-add at n bytes))
appends_more (Some xs) (Some ys) None bytes at n first next = next
appends_more (Some xs) None c bytes at n first next = elim first [ ]

-- the bytes that were taken are a prefix of the bytes
pub front_of : (a b : Option (List ℕ)) (bytes : List ℕ) (at : ℕ) → Appends a b (take at bytes) → WritesFront a b bytes
front_of a b bytes at taken = record { count = at; front = taken }

-- they are still a prefix after a call that took none
pub front_kept : (a b c : Option (List ℕ)) (bytes : List ℕ) (at : ℕ) → Appends a b (take at bytes) → Keeps b c → WritesFront a c bytes
front_kept None b c bytes at taken kept = record { count = at; front = tt }
front_kept (Some xs) (Some ys) (Some zs) bytes at taken kept = record { count = at; front = kept ∙ taken }
front_kept (Some xs) (Some ys) None bytes at taken kept = elim kept [ ]
front_kept (Some xs) None c bytes at taken kept = elim taken [ ]

-- all bytes were taken, at the end
pub whole_of : (a b : Option (List ℕ)) (bytes : List ℕ) (at : ℕ) → length bytes ≤ at → Appends a b (take at bytes) → Appends a b bytes
whole_of a b bytes at done taken = rw (take_all at bytes done) at taken

-- the bytes so far, and one more
pub front_more : (a b c : Option (List ℕ)) (bytes : List ℕ) (byte : ℕ) → Consumes a b bytes → Consumes b c (byte ∷ []) → Consumes a c (bytes ++ byte ∷ [])
front_more None b c bytes byte so_far next = tt
front_more (Some xs) (Some ys) (Some zs) bytes byte so_far next = so_far ∙ ap (λ rest. bytes ++ rest) next ∙ sym (append_assoc bytes (byte ∷ []) zs)
front_more (Some xs) (Some ys) None bytes byte so_far next = next
front_more (Some xs) None c bytes byte so_far next = elim so_far [ ]

pub front_read : (a b c : Option (List ℕ)) (bytes : List ℕ) (byte : ℕ) → length bytes < input_limit → Consumes a b bytes → Consumes b c (byte ∷ []) → ReadsFront a c
front_read a b c bytes byte early so_far next = record { bytes = bytes ++ byte ∷ []; front = front_more a b c bytes byte so_far next; within = let more = length-append bytes (byte ∷ []) in omega (arith, more, early) }

-- the bytes so far, and no more
pub front_still : (a b c : Option (List ℕ)) (bytes : List ℕ) → Consumes a b bytes → Consumes b c [] → Consumes a c bytes
front_still None b c bytes so_far none = tt
front_still (Some xs) (Some ys) (Some zs) bytes so_far none = so_far ∙ ap (λ rest. bytes ++ rest) none
front_still (Some xs) (Some ys) None bytes so_far none = none
front_still (Some xs) None c bytes so_far none = elim so_far [ ]

pub front_held : (a b c : Option (List ℕ)) (bytes : List ℕ) → Consumes a b bytes → Keeps b c → Consumes a c bytes
front_held None b c bytes so_far kept = tt
front_held (Some xs) (Some ys) (Some zs) bytes so_far kept = so_far ∙ ap (λ rest. bytes ++ rest) (sym kept)
front_held (Some xs) (Some ys) None bytes so_far kept = kept
front_held (Some xs) None c bytes so_far kept = elim so_far [ ]

-- a byte that was pushed
pub pushed : {X E : Type 0} (r : Result X E) (items longer : List ℕ) (byte : ℕ) → is_err r ≡ false → longer ≡ (if is_ok r then items ++ byte ∷ [] else items) → longer ≡ items ++ byte ∷ []
pushed (Ok x) items longer byte done is = is
pushed (Err e) items longer byte done is = absurd (cc)

-- One byte that came, at the start of a buffer.
pub byte_set : (a c : Option (List ℕ)) (buffer : List ℕ) (byte : ℕ) → 0 < length buffer → Consumes a c (byte ∷ []) → Consumes a c (take 1 (slice_set buffer 0 byte))
byte_set a c [] byte some came = absurd (omega (arith, some))
byte_set a c (b ∷ bs) byte some came = came

pub prefix_set : (buffer : List ℕ) (byte : ℕ) → 0 < length buffer → ReadsAtMost {E = Failed} (Ok 1) (slice_set buffer 0 byte)
prefix_set [] byte some = absurd (omega (arith, some))
prefix_set (b ∷ bs) byte some = (omega arith, refl)
