-- SPDX-License-Identifier: BSD-2-Clause OR GPL-2.0-or-later
-- `is_among` meets its contract: a number stands in a list where it has a place. Assumes nothing.
use mathlib.Core.Path.{◌≡◌, ap, sym, ◌∙◌}
use mathlib.Core.List.{List}
use Prim.Native.Nat.{ℕ, ◌<◌}
use native.Mathlib.Omega.{arith}
use lib.Dec.{ltb}
use lib.ListN.{length}
use borrow.Author.Tests.{lt-ltb, le-ltb}
use Rattle.std.specs.Prelude.{Option, Some, None, IfSome}
use Rattle.std.specs.Option.{is_some}
use Rattle.laws.specs.answers.Search.{or_length, place_in}
use Rattle.laws.proofs.SearchLaws.{lowest_any}
use Rattle.laws.proofs.search.is_among.Goals as goal

-- a number has a place where its place is below the length
placed :
    (list : List ℕ) (x : ℕ) (r : Option ℕ) →
    or_length list r ≡ place_in list x →
    IfSome r (λ place. place < length list) →
    is_some r ≡ ltb (place_in list x) (length list)
placed list x (Some k) e within = sym (ap (λ (p : ℕ). ltb p (length list)) (sym e) ∙ lt-ltb k (length list) within)
placed list x None e within = sym (ap (λ (p : ℕ). ltb p (length list)) (sym e) ∙ le-ltb (length list) (length list) (omega arith))

pub returns : goal.returns
returns c =
    let a = c.args in
    c.is_some.ensures ∙ placed a.list.now a.number c.place_in.result c.place_in.ensures.place c.place_in.ensures.within ∙ lowest_any _ _
