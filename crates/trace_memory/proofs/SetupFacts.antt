-- What a setup in range gives.
use Rattle.std.proofs.Common.{◌≡◌, ℕ, suc, zero, ◌^◌, ◌<◌, ◌≤◌, Bool, true, false, List, [], ◌∷◌, Option, None, Some, length, slice_get, get_or, refl, sym, ap, ◌∙◌, subst, arith, true≢false}
use Rattle.std.specs.List.{list_all}
use Rattle.std.proofs.Math.Pow.{pow_mono}
use Rattle.std.proofs.lemmas.Bool.{and_parts, leb-true, ltb-true}
use Rattle.std.proofs.lemmas.Option.{get_or_from_slice_get, slice_get_within, unwrap_or-slice_get}
use Rattle.std.specs.Option.{unwrap_or}
use Rattle.trace.specs.{Cell, TraceMemory, TraceRegister, TraceSetup, is_register, is_trace_setup, most_bits}
use Rattle.trace.specs.declared.setups.TraceMemory.TheVariants.{Safe, Regular, Atomic}
use Rattle.trace_memory.specs.{has_cell, names_cell, register_of}

-- the parts of the test of a setup
record Parts (s : TraceSetup) : Type 0 where
  pub few : s.processes ≤ 16
  pub registers : list_all (is_register s.memory) s.registers ≡ true

parts : (s : TraceSetup) → is_trace_setup s ≡ true → Parts s
parts s good =
    let all = and_parts _ _ good in
    let some = and_parts _ _ all.0 in
    let most = and_parts _ _ some.0 in
    record { few = leb-true s.processes 16 most.1; registers = all.1 }

pub few_processes : (s : TraceSetup) → is_trace_setup s ≡ true → s.processes ≤ 16
few_processes s good = (parts s good).few

-- an element passes the test that all pass
all_at : {A : Type 0} (test : A → Bool) (xs : List A) (i : ℕ) (x : A) → list_all test xs ≡ true → slice_get xs i ≡ Some x → test x ≡ true
all_at test [] i x all h = absurd (cc)
all_at test (y ∷ xs) zero x all h = let same : y ≡ x = cc in ap test (sym same) ∙ (and_parts (test y) (list_all test xs) all).0
all_at test (y ∷ xs) (suc i) x all h = all_at test xs i x (and_parts (test y) (list_all test xs) all).1 h

-- a cell that exists has a register, which is in range, and its index names a cell of that
pub record HasRegister (s : TraceSetup) (c : Cell) : Type 0 where
  pub register : TraceRegister
  pub is : slice_get s.registers c.register ≡ Some register
  pub within : c.register < length s.registers
  pub names : names_cell s register c.index ≡ true
  pub of : register_of s c ≡ register

pub has_register : (s : TraceSetup) (c : Cell) → has_cell s c ≡ true → HasRegister s c
has_register s c h = by (slice_get s.registers c.register) refl h
  where
    by : (o : Option TraceRegister) → slice_get s.registers c.register ≡ o → elim o as (λ _. Bool) [ None ↦ false | Some r ↦ names_cell s r c.index ] ≡ true → HasRegister s c
    by None is h = absurd (true≢false (sym h))
    by (Some r) is h = record {
      register = r;
      is = is;
      within = slice_get_within s.registers c.register r is;
      names = h;
      of = get_or_from_slice_get s.registers c.register r (record { name = []; width = 0; opens = 0; is_shared = false }) is;
    }

-- its width
pub few_bits : (s : TraceSetup) (c : Cell) → is_trace_setup s ≡ true → has_cell s c ≡ true → (register_of s c).width ≤ most_bits s.memory
few_bits s c good h =
    let there = has_register s c h in
    let r : TraceRegister = there.register in
    let is = all_at (is_register s.memory) s.registers c.register r (parts s good).registers there.is in
    let some = and_parts _ _ (and_parts _ _ is).0 in
    let width = leb-true r.width (most_bits s.memory) (and_parts _ _ some.0).1 in
    subst (λ (x : TraceRegister). x.width ≤ most_bits s.memory) (sym there.of) width

pub most_any : (m : TraceMemory) → most_bits m ≤ 32
most_any Safe = omega arith
most_any Regular = omega arith
most_any Atomic = omega arith

pub few_bits_any : (s : TraceSetup) (c : Cell) → is_trace_setup s ≡ true → has_cell s c ≡ true → (register_of s c).width ≤ 32
few_bits_any s c good h =
    let few = few_bits s c good h in
    let most = most_any s.memory in
    omega arith

-- a value that fits a register of regular memory is below 256
pub few_values : (s : TraceSetup) (c : Cell) (v : ℕ) → is_trace_setup s ≡ true → has_cell s c ≡ true → v < 2 ^ (register_of s c).width → s.memory ≡ Regular → v < 256
few_values s c v good h fits regular =
    let few : (register_of s c).width ≤ 8 = subst (λ m. (register_of s c).width ≤ most_bits m) regular (few_bits s c good h) in
    let most : 2 ^ (register_of s c).width ≤ 2 ^ 8 = pow_mono few in
    omega (arith, fits, most)

-- past a list there is the default
get_or_none : {A : Type 0} (xs : List A) (i : ℕ) (d : A) → slice_get xs i ≡ None → get_or xs i d ≡ d
get_or_none xs i d none = sym (unwrap_or-slice_get xs i d) ∙ ap (λ o. unwrap_or o d) none

-- the opening value of a cell fits its register
pub opens_fit : (s : TraceSetup) (c : Cell) → is_trace_setup s ≡ true → (register_of s c).opens < 2 ^ (register_of s c).width
opens_fit s c good = by (slice_get s.registers c.register) refl
  where
    by : (o : Option TraceRegister) → slice_get s.registers c.register ≡ o → (register_of s c).opens < 2 ^ (register_of s c).width
    by None is =
        let past = get_or_none s.registers c.register (record { name = []; width = 0; opens = 0; is_shared = false }) is in
        subst (λ (r : TraceRegister). r.opens < 2 ^ r.width) (sym past) (omega arith)
    by (Some r) is =
        let same = get_or_from_slice_get s.registers c.register r (record { name = []; width = 0; opens = 0; is_shared = false }) is in
        let all = all_at (is_register s.memory) s.registers c.register r (parts s good).registers is in
        let fits : r.opens < 2 ^ r.width = ltb-true r.opens (2 ^ r.width) (and_parts _ _ (and_parts _ _ all).0).1 in
        subst (λ (r : TraceRegister). r.opens < 2 ^ r.width) (sym same) fits

-- the values of a register of regular memory are at most 256
pub few_numbers : (s : TraceSetup) (c : Cell) → is_trace_setup s ≡ true → has_cell s c ≡ true → s.memory ≡ Regular → 2 ^ (register_of s c).width ≤ 256
few_numbers s c good h regular =
    let few : (register_of s c).width ≤ 8 = subst (λ m. (register_of s c).width ≤ most_bits m) regular (few_bits s c good h) in
    let most : 2 ^ (register_of s c).width ≤ 2 ^ 8 = pow_mono few in
    omega (arith, most)
