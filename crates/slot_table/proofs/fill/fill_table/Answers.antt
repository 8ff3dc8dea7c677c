-- SPDX-License-Identifier: BSD-2-Clause OR GPL-2.0-or-later
-- `fill_table` fills the table of the rows where neither rule is broken. Assumes nothing.
use mathlib.Core.Path.{◌≡◌, refl, sym, ◌∙◌}
use mathlib.Core.Bool.{true, false}
use Prim.Native.Nat.{◌*◌, ◌%◌, ◌^◌, ◌≤◌}
use native.Mathlib.Omega.{arith}
use lib.ListN.{length}
use lib.Seq.{length-take-le}
use borrow.Author.Tests.{eq-eqb, ne_eqb}
use Rattle.std.specs.Prelude.{Result, Ok, Err, is_err}
use Rattle.laws.specs.declared.rules.Rule.{Rule}
use Rattle.laws.specs.facts.Limits.{max_table_bits}
use Rattle.laws.specs.answers.Told.{number_in}
use Rattle.laws.proofs.SearchLaws.{true_false}
use Rattle.laws.proofs.ToldLaws.{rule_counts}
use Rattle.layout.specs.facts.Row.{slot_at}
use Rattle.slot_table.specs.answers.Table.{entries_fault, filled}
use Rattle.slot_table.proofs.FaultLaws.{size_exact, entries_clear, entries_sound}
use Rattle.slot_table.proofs.TableLaws.{slot_table_lem, table_found}
use Rattle.slot_table.proofs.fill.fill_table.Goals as goal

-- a refusal has a number, and an answer has none
refused : (r : Result (Unit {0}) Rule) → is_err r ≡ true → number_in r ≡ 0 → ⊥
refused (Ok _) e z = true_false e refl
refused (Err rule) e z = rule_counts rule z

allowed : (r : Result (Unit {0}) Rule) → is_err r ≡ false → number_in r ≡ 0
allowed (Ok _) e = refl
allowed (Err rule) e = true_false refl e

pub returns-then-is_err : goal.returns-then-is_err
unfolding filled
returns-then-is_err c =
    let told : entries_fault c.args.bits (length c.args.table.now) ≡ 0 → ⊥ =
    λ z. refused c.entries_fault.result (sym c.if-is_err.ensures.value) (c.entries_fault.ensures ∙ z) in
    record { table = rw (ne_eqb _ 0 told); tabled = λ none _. absurd (told (entries_sound _ _ none)) }

pub returns : goal.returns
unfolding filled
returns c =
    let a = c.args in
    let clear : entries_fault a.bits (length a.table.now) ≡ 0 =
    sym c.entries_fault.ensures ∙ allowed c.entries_fault.result (sym c.if-is_err.ensures.value) in
    let fits : (a.bits ≤ max_table_bits) × (2 ^ a.bits ≤ length a.table.now) = entries_clear _ _ clear in
    let size : (1 * 2 ^ a.bits) % 2 ^ 64 ≡ 2 ^ a.bits = size_exact a.bits fits.0 ∙ omega arith in
    let gaps = rw (size, length-take-le (2 ^ a.bits) a.table.now fits.1) at (c.fill.ensures.after (λ y h. h)) in
    let is = rw (size, gaps) at c.enter_rows.ensures in
    let table = slot_table_lem (slot_at a.rows.now) _ _ a.table.now fits.1 in
    record { table = rw (eq-eqb _ 0 clear) is; tabled = λ _ few. rw is (table few, table_found (table few)) }
