-- SPDX-License-Identifier: BSD-2-Clause OR GPL-2.0-or-later
-- `first_property_fault` tells the lowest property that breaks 7 or 8: none below k does, each is noted for its node, and none below
-- j repeats property k. Assumes nothing.
use mathlib.Core.Path.{◌≡◌, refl, sym, ◌∙◌}
use mathlib.Core.Bool.{true}
use Prim.Native.Nat.{◌+◌, ◌≤◌}
use native.Mathlib.Omega.{arith}
use lib.ListN.{length}
use Rattle.laws.specs.answers.Fault.{first_fault}
use Rattle.laws.proofs.FaultLaws.{clear_more, at_fault, at_end}
use Rattle.laws.proofs.SearchLaws.{none_more}
use Rattle.records.specs.answers.Check.{sound_property}
use Rattle.records.proofs.CodeRepeat.{sound_inside, words_sound, fault_seven, fault_eight, fault_none, same_name}
use Rattle.records.proofs.CodeStarts.{Noted, noted_more, none_before}
use Rattle.records.proofs.properties.first_property_fault.Goals as goal
use Rattle.records.proofs.properties.first_property_fault.Goals.{Else-not-sound_property}

pub loop-k-init : goal.loop-k-init
unfolding first_fault Noted
loop-k-init c = (refl, refl, λ j lt. absurd (omega arith))

pub returns-then-not-sound_property : goal.returns-then-not-sound_property
returns-then-not-sound_property c =
    let a = c.args in
    let told =
    words_sound a.count a.props.now a.pool.now c.loop-k.k c.sound_property.ensures
    c.wide-node.ensures c.wide-start.ensures c.wide-len.ensures c.wide-value.ensures c.wide-size.ensures in
    rw c.broken_at.ensures
    (at_fault _ _ _ c.loop-k-test.true c.loop-k.invariant.0 (fault_seven _ _ _ _ (sym told ∙ c.if-not-sound_property.true)) (λ z. omega arith))

-- property k keeps rule 7
sound-is :
    (c : Else-not-sound_property) →
    let a = c.args in
    sound_property a.count a.props.now (length a.pool.now) c.loop-k.k ≡ true
sound-is c =
    let a = c.args in
    let told =
    words_sound a.count a.props.now a.pool.now c.loop-k.k c.sound_property.ensures
    c.wide-node.ensures c.wide-start.ensures c.wide-len.ensures c.wide-value.ensures c.wide-size.ensures in
    sym told ∙ c.if-not-sound_property.false

-- its name lies inside the pool
inside :
    (c : Else-not-sound_property) →
    c.wide-start.result + c.wide-len.result ≤ length c.args.pool.now
inside c =
    let a = c.args in
    let key = sound_inside a.count a.props.now a.pool.now c.loop-k.k (sound-is c) in
    omega (arith, key, c.wide-start.ensures, c.wide-len.ensures)

pub overflow_add-name : goal.overflow_add-name
overflow_add-name c = omega (arith, inside (goal.at.overflow_add-name c).Else-not-sound_property)

pub slice_bounds-name-end : goal.slice_bounds-name-end
slice_bounds-name-end c = omega (arith, inside (goal.at.slice_bounds-name-end c).Else-not-sound_property)

pub loop-j-init : goal.loop-j-init
loop-j-init c = none_before _ _ _ c.loop-k.invariant.2 c.wide-node.ensures c.start_of-j.ensures.value _

pub returns-then-is_property : goal.returns-then-is_property
returns-then-is_property c =
    let sound = sound-is (goal.at.returns-then-is_property c).Else-not-sound_property in
    let same =
    same_name _ _ _ _ _ c.loop-k.invariant.0 c.loop-j-test.true c.wide-node.ensures c.wide-start.ensures c.wide-len.ensures
    (sym c.is_property.ensures ∙ c.if-is_property.true) in
    rw c.broken_at-then-is_property.ensures
    (at_fault _ _ _ c.loop-k-test.true c.loop-k.invariant.0 (fault_eight _ _ _ _ _ sound c.loop-j-test.true same) (λ z. omega arith))

pub loop-j-preserved : goal.loop-j-preserved
loop-j-preserved c =
    let other =
    same_name _ _ _ _ _ c.loop-k.invariant.0 c.loop-j-test.true c.wide-node.ensures c.wide-start.ensures c.wide-len.ensures
    (sym c.is_property.ensures ∙ c.if-is_property.false) in
    none_more _ _ c.loop-j.invariant other

pub loop-k-preserved : goal.loop-k-preserved
loop-k-preserved c =
    let sound = sound-is (goal.at.loop-k-preserved c).Else-not-sound_property in
    let all : c.loop-j.j ≡ c.loop-k.k = omega arith in (
      clear_more _ _ c.loop-k.invariant.0 (fault_none _ _ _ _ sound (rw all at c.loop-j.invariant)) refl,
      c.start_of-j.auto.starts ∙ c.loop-k.invariant.1,
      rw c.start_of-j.ensures.starts_after
          (noted_more _ _ _ c.loop-k.invariant.2 c.wide-node.ensures c.start_of-j.ensures.value c.loop-k.invariant.1),
    )

pub returns : goal.returns
returns c = at_end _ _ _ (omega arith) c.loop-k.invariant.0
