-- Blocks of pixels: which of them are known to be painted.
use Rattle.std.proofs.Common.{◌≡◌, ℕ, ◌+◌, ◌-◌, ◌*◌, ◌/◌, ◌^◌, ◌<◌, ◌≤◌, inl, inr, false, List, slice_index, set, bit_and, w64, sym, ap, ◌∙◌, arith}
use Rattle.std.specs.Int.{bit_at, bit_not}
use Rattle.std.proofs.lemmas.Bool.{cases_eq, cases_lt}
use Rattle.std.proofs.lemmas.List.{get_or-set_same, get_or-set_other, length-set}
use Rattle.std.proofs.lemmas.Nat.Bits.{bit_at-zero}
use Rattle.wf_paint.specs.Cells.{AreBlocks, is_free}
use Rattle.wf_paint.proofs.CellsLemmas.{masked_in, cleared_out}

-- the bit of a painted block may be cleared
pub block_cleared : (width height : ℕ) (free blocks : List ℕ) (index block mask : ℕ) → index < 64 → block < 64 → width ≤ 1_024 → mask < 2 ^ 64 →
    ((k : ℕ) → k < block → bit_at mask k ≡ 0) → ((k : ℕ) → block + 1 ≤ k → bit_at mask k ≡ 0) →
    ((column row : ℕ) → row < height → column < width → row / 16 ≡ index → column / 16 ≡ block → is_free free ((height - 1 - row) * width + column) ≡ false) →
    AreBlocks width height free blocks → AreBlocks width height free (set blocks index (bit_and (slice_index blocks index) (bit_not w64 mask)))
block_cleared width height free blocks index block mask here there wide_most fits below above painted before =
    let word : ℕ = bit_and (slice_index blocks index) (bit_not w64 mask) in
    record {
      size = length-set blocks index word ∙ before.size;
      painted = λ column row high wide clear. elim (cases_eq (row / 16) index) [
        | inl same ↦ elim (cases_eq (column / 16) block) [
          | inl this ↦ painted column row high wide same this
          | inr other ↦
              let now : slice_index (set blocks index word) (row / 16) ≡ word = rw same (get_or-set_same blocks index word 0 (omega (arith, before.size))) in
              let out : bit_at mask (column / 16) ≡ 0 = elim (cases_lt (column / 16) block) [
                | inl left ↦ below (column / 16) left
                | inr from ↦ above (column / 16) (omega arith)
              ] in
              let kept : bit_at word (column / 16) ≡ bit_at (slice_index blocks index) (column / 16) = cleared_out (slice_index blocks index) mask (column / 16) fits (omega arith) out in
              before.painted column row high wide (rw same (sym kept ∙ rw now at clear))
        ]
        | inr apart ↦
            let now : slice_index (set blocks index word) (row / 16) ≡ slice_index blocks (row / 16) = get_or-set_other blocks index (row / 16) word 0 apart in
            before.painted column row high wide (rw now at clear)
      ];
    }

-- the columns of which a mask has the blocks
pub columns_clear : (word mask from to : ℕ) → ((k : ℕ) → from / 16 ≤ k → k < (to - 1) / 16 + 1 → bit_at mask k ≡ 1) → bit_and word mask ≡ 0 →
    (column : ℕ) → from ≤ column → column < to → bit_at word (column / 16) ≡ 0
columns_clear word mask from to within none column later earlier =
    sym (masked_in word mask (column / 16) (within (column / 16) (omega arith) (omega arith)))
    ∙ ap (λ (n : ℕ). bit_at n (column / 16)) none ∙ bit_at-zero (column / 16)

-- rows of a block, from the first on
pub block_row : (width height index block row : ℕ) (free : List ℕ) →
    ((column r : ℕ) → r < row → r < height → column < width → r / 16 ≡ index → column / 16 ≡ block → is_free free ((height - 1 - r) * width + column) ≡ false) →
    ((i : ℕ) → (height - 1 - row) * width + 16 * block ≤ i → i < (height - 1 - row) * width + (16 * block + 16) → i < (height - 1 - row) * width + width → is_free free i ≡ false) →
    (column r : ℕ) → r < row + 1 → r < height → column < width → r / 16 ≡ index → column / 16 ≡ block → is_free free ((height - 1 - r) * width + column) ≡ false
block_row width height index block row free before here column r passed high wide at this = elim (cases_eq r row) [
  | inl same ↦ rw same (here ((height - 1 - row) * width + column) (omega arith) (omega arith) (omega arith))
  | inr apart ↦ before column r (omega arith) high wide at this
]
