-- SPDX-License-Identifier: BSD-2-Clause OR GPL-2.0-or-later
-- The stages in order tell the first broken rule of all, or that none is broken. Assumes nothing.
use mathlib.Core.Path.{◌≡◌, refl, sym, ap, ◌∙◌}
use mathlib.Core.Bool.{Bool, true, false, cond}
use mathlib.Core.List.{List}
use Prim.Native.Nat.{ℕ, ◌*◌, ◌≤◌}
use native.Mathlib.Omega.{arith}
use lib.Dec.{ltb}
use lib.ListN.{length}
use borrow.Author.Tests.{ltb-true, ltb-false}
use Rattle.laws.specs.answers.Fault.{told}
use Rattle.laws.specs.facts.Listing.{Listing}
use Rattle.laws.proofs.ListingLaws.{listing_unique}
use Rattle.laws.proofs.FirstLaws.{Tells}
use Rattle.laws.proofs.RuleStageLaws.{tells_as, split_tells}
use Rattle.laws.proofs.VerdictLaws.{Verdict, once_tells}
use Rattle.layout.specs.facts.Row.{row_size}
use Rattle.tables.specs.facts.Board.{Board, WordSized}
use Rattle.wellformed.specs.facts.Order.{stage}
use Rattle.wellformed.specs.facts.Rules.{WellFormed}
use Rattle.wellformed.proofs.RuleLaws.{table_tells, tables_kept}
use Rattle.cpus.specs.facts.Node.{Cpu}
use Rattle.cpus.specs.answers.Check.{cpu_count, cpu_list}
use Rattle.cpus.proofs.CpuMeans.{cpu_listing, cpu_count_lem}
use Rattle.cpus.proofs.CpuTells.{cpus_tells, cpus_kept, phandles_tells, phandles_kept}
use Rattle.cpumap.proofs.MapTells.{map_tells, map_there}
use Rattle.leaves.proofs.TreeTells.{tree_tells}
use Rattle.demands.specs.facts.Rules.{Breaks}
use Rattle.demands.specs.answers.Answer.{board_fault, room_fault}
use Rattle.demands.proofs.LayerLaws.{board_stages}
use Rattle.demands.proofs.StageLaws.{RoomRule, from_layers, to_layers}

module _ {b : Board} (sized : WordSized b) (room : ℕ) where
  -- rule 27
  module _ (well : WellFormed b) where
    size : (cpus : List ℕ) → Listing (Cpu b) cpus → length cpus ≡ cpu_count b
    size cpus l = ap length (listing_unique cpus (cpu_list b) l (cpu_listing well)) ∙ sym (cpu_count_lem b)

    room_told : Verdict (RoomRule b room) 27 0 (row_size * cpu_count b ≤ room) (room_fault room (cpu_count b))
    room_told = go (ltb room (row_size * cpu_count b)) refl
      where
        go : (t : Bool) → ltb room (row_size * cpu_count b) ≡ t → Verdict (RoomRule b room) 27 0 (row_size * cpu_count b ≤ room) (cond t 27 0)
        go true e = Verdict.broken (RoomRule.no_room (cpu_list b) (cpu_listing well) (rw (cpu_count_lem b) at (ltb-true room (row_size * cpu_count b) e)))
        go false e = Verdict.sound (ltb-false room (row_size * cpu_count b) e)

    room_broken : {m q : ℕ} → RoomRule b room m q → (m ≡ 27) × (q ≡ 0) × (row_size * cpu_count b ≤ room → ⊥)
    room_broken (RoomRule.no_room cpus l lt) = (refl, refl, λ le. omega (arith, size cpus l))

    room_tells : Tells stage (RoomRule b room) (stage 27) (stage 38) (told (room_fault room (cpu_count b)) 0)
    room_tells = once_tells stage (RoomRule b room) 27 (omega arith) (λ m q r _. room_broken r) room_told

  pub board_tells : Tells stage (Breaks b room) 0 (stage 38) (board_fault b room)
  board_tells =
      rw (board_stages b room)
      (tells_as (λ n p. from_layers) (λ n p. to_layers)
      (split_tells stage (stage 9) (omega arith) (omega arith) (table_tells b) λ tables.
      let well = tables_kept b tables in
      split_tells stage (stage 15) (omega arith) (omega arith) (cpus_tells sized well) λ cpus.
      split_tells stage (stage 17) (omega arith) (omega arith) (map_tells b well) λ map.
      split_tells stage (stage 18) (omega arith) (omega arith) (phandles_tells sized well) λ phandles.
      split_tells stage (stage 27) (omega arith) (omega arith)
      (tree_tells sized well (cpus_kept cpus) (phandles_kept phandles) (map_there b well (omega arith) map)) λ _.
      room_tells well))
