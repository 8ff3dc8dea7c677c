-- SPDX-License-Identifier: BSD-2-Clause OR GPL-2.0-or-later
-- The keys: their numbers, and the number of the key that a name is. Assumes nothing.
use mathlib.Core.Path.{◌≡◌, refl, sym, ◌∙◌}
use mathlib.Core.Bool.{Bool, true, false, cond}
use mathlib.Core.List.{List}
use Prim.Native.Nat.{ℕ, ◌<◌}
use native.Mathlib.Omega.{arith}
use lib.Dec.{eqb}
use Rattle.laws.specs.answers.Same.{same_list}
use Rattle.laws.proofs.SameLaws.{same_refl}
use Rattle.laws.proofs.SearchLaws.{true_false}
use Rattle.laws.proofs.TestLaws.{false_unless}
use Rattle.tables.specs.answers.Range.{range_is}
use Rattle.tables.proofs.LookupLaws.{range_is_true}
use Rattle.property_index.specs.declared.Key.{Key}
use Rattle.property_index.specs.declared.Key.TheVariants.{Reg, Cpu, Phandle, DeviceType}
use Rattle.tables.specs.facts.Binding.{reg_key, cpu_key, phandle_key, device_type_key}
use Rattle.property_index.specs.facts.Key.{key_name, key_number}
use Rattle.property_index.specs.answers.Index.{key_of}

pub number_lt : (key : Key) → key_number key < 4
number_lt Reg = omega arith
number_lt Cpu = omega arith
number_lt Phandle = omega arith
number_lt DeviceType = omega arith

-- the number of the first of four tests that is true: each of them, where those before it exclude it
abbrev first_of : Bool → Bool → Bool → Bool → ℕ
first_of r c p d = cond r 0 (cond c 1 (cond p 2 (cond d 3 4)))

is_reg : (r c p d : Bool) → eqb (first_of r c p d) 0 ≡ r
is_reg true c p d = refl
is_reg false true p d = refl
is_reg false false true d = refl
is_reg false false false true = refl
is_reg false false false false = refl

is_cpu : (r c p d : Bool) → (r ≡ true → c ≡ false) → eqb (first_of r c p d) 1 ≡ c
is_cpu true c p d h = sym (h refl)
is_cpu false true p d h = refl
is_cpu false false true d h = refl
is_cpu false false false true h = refl
is_cpu false false false false h = refl

is_phandle : (r c p d : Bool) → (r ≡ true → p ≡ false) → (c ≡ true → p ≡ false) → eqb (first_of r c p d) 2 ≡ p
is_phandle true c p d h g = sym (h refl)
is_phandle false true p d h g = sym (g refl)
is_phandle false false true d h g = refl
is_phandle false false false true h g = refl
is_phandle false false false false h g = refl

is_device_type : (r c p d : Bool) → (r ≡ true → d ≡ false) → (c ≡ true → d ≡ false) → (p ≡ true → d ≡ false) → eqb (first_of r c p d) 3 ≡ d
is_device_type true c p d h g f = sym (h refl)
is_device_type false true p d h g f = sym (g refl)
is_device_type false false true d h g f = sym (f refl)
is_device_type false false false true h g f = refl
is_device_type false false false false h g f = refl

module _ (pool : List ℕ) (offset len : ℕ) where
  abbrev is : List ℕ → Bool
  is = range_is pool offset len

  -- a range does not hold two names
  apart : (a b : List ℕ) → same_list a b ≡ false → is a ≡ true → is b ≡ false
  apart a b differ h =
      false_unless _ (λ g.
      let e : a ≡ b = sym (range_is_true pool offset len a h).1 ∙ (range_is_true pool offset len b g).1 in
      true_false (rw e (same_refl b)) differ)

  -- a name's number is a key's where it is that key's name
  pub key_is : (key : Key) → eqb (key_of pool offset len) (key_number key) ≡ is (key_name key)
  unfolding key_of same_list
  key_is Reg = is_reg (is reg_key) (is cpu_key) (is phandle_key) (is device_type_key)
  key_is Cpu = is_cpu (is reg_key) (is cpu_key) (is phandle_key) (is device_type_key) (apart reg_key cpu_key refl)
  key_is Phandle = is_phandle (is reg_key) (is cpu_key) (is phandle_key) (is device_type_key) (apart reg_key phandle_key refl) (apart cpu_key phandle_key refl)
  key_is DeviceType =
      is_device_type (is reg_key) (is cpu_key) (is phandle_key) (is device_type_key) (apart reg_key device_type_key refl) (apart cpu_key device_type_key refl)
      (apart phandle_key device_type_key refl)
