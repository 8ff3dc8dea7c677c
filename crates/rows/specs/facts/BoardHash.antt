-- SPDX-License-Identifier: BSD-2-Clause OR GPL-2.0-or-later
-- The hash of a board (01, "The slot"): that of the MPIDRs of all its cpu records. A RISC-V board has none (02, W7).
use Rattle.std.specs.Prelude.{◌≡◌, List, [], ◌∷◌, ℕ, ◌<◌, length, get_or}
use Rattle.laws.specs.facts.Listing.{Listing}
use Rattle.affinity.specs.declared.Hash.{Hash}
use Rattle.affinity.specs.facts.Hash.{IsHash}
use Rattle.tables.specs.facts.Board.{Board, riscv, HasMpidrs}
use Rattle.cpus.specs.facts.Node.{Cpu, Reg, reg_number}

-- the MPIDRs of all cpu records, in record order
pub record Mpidrs (b : Board) (list : List ℕ) : Type 0 where
  pub cpus : List ℕ
  pub listing : Listing (Cpu b) cpus
  pub size : length list ≡ length cpus
  pub each : (k : ℕ) → k < length cpus → (upper : ℕ) × (lower : ℕ) × Reg b (get_or cpus k 0) upper lower × (get_or list k 0 ≡ reg_number upper lower)

-- without MPIDRs the mask is empty, and each level's shift is its beginning
abbrev pub no_mpidrs : Hash
no_mpidrs = record { mask = 0; shifts = 0 ∷ 8 ∷ 16 ∷ 32 ∷ []; bits = 0 }

pub data BoardHash (b : Board) : Hash → Type 0 where
  of_mpidrs : {h : Hash} → HasMpidrs b → (list : List ℕ) → Mpidrs b list → IsHash list h → BoardHash b h
  of_harts : b.width ≡ riscv → BoardHash b no_mpidrs
